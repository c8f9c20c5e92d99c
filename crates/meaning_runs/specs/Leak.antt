-- Document 01, "Due time", exactly and from the calls and answers alone: "for one opening, in parts of 1/L slot, the
-- first accepted cell is due at its arrival slot × L. Each later one is due at the larger of its arrival slot × L and
-- the previous accepted cell's due time plus F. Its slot is the due time divided by L, rounded down."
--
-- Document 02 (iv) has the same rule a second time, with the second bucket's m, F and C, over the CLP 0 cells that were
-- accepted untagged.
--
--   Opening          == the m, F and C that a connection was opened with, and its last accepted cell's due time, if it has one; the
--                       second bucket that it was opened with, and by its rule the due time of the last cell that filled it
--   due_time o t      == the due time of a cell that arrives in slot t
--   due_slot o t      == its due slot
--   leak_accepts o t  == the leak rule's verdict on a cell that arrives in slot t
--   sustains o t     == the second bucket's
--   verdict_by o clp t  == both together: accepted, excess or tagged
--   opening_of c h    == the opening of the connection c after the events h, if it is open
use Rattle.std.specs.Prelude.{ℕ, ◌+◌, ◌-◌, ◌*◌, ◌/◌, ◌^◌, max, Bool, true, not, ◌&&◌, List, [], ◌∷◌}
use Rattle.std.proofs.Math.Option.{Option, none, some}
use Rattle.meaning.specs.declared.Answer.{Answer}
use Rattle.meaning.specs.Plain.{when◌then◌else◌, ◌≤?◌, ◌=?◌}
use Rattle.meaning.specs.Numbers.{accepted, excess, tagged, lets_in}
use Rattle.meaning.specs.Header.{clp_in}
use Rattle.meaning.specs.Words.{Second}
use Rattle.meaning_runs.specs.Run.{Event, opened, closed, ran, served}

pub record Opening : Type 0 where
  pub m : ℕ
  pub F : ℕ
  pub C : ℕ
  pub previous : Option ℕ
  pub second : Second
  pub sustained : Option ℕ

abbrev pub opening_with : ℕ → ℕ → ℕ → Option ℕ → Second → Option ℕ → Opening
opening_with m F C previous x sustained =
    record { m = m; F = F; C = C; previous = previous; second = x; sustained = sustained }

-- no cell accepted yet
abbrev pub new_opening : ℕ → ℕ → ℕ → Second → Opening
new_opening m F C x = opening_with m F C none x none

-- "L = 2^m"
abbrev pub parts : Opening → ℕ
parts o = 2 ^ o.m

abbrev pub due_after : ℕ → ℕ → ℕ → Option ℕ → ℕ
due_after L F t none = t * L
due_after L F t (some p) = max (t * L) (p + F)

unfoldable pub due_time : Opening → ℕ → ℕ
due_time o t = due_after (parts o) o.F t o.previous

unfoldable pub due_slot : Opening → ℕ → ℕ
due_slot o t = due_time o t / parts o

-- The previous due time plus F, less arrival slot × L, not below 0, is at most C-F; the first cell of an opening always.
abbrev pub leak_after : ℕ → ℕ → ℕ → ℕ → Option ℕ → Bool
leak_after L F C t none = true
leak_after L F C t (some p) = p + F - t * L ≤? C - F

unfoldable pub leak_accepts : Opening → ℕ → Bool
leak_accepts o t = leak_after (parts o) o.F o.C t o.previous

-- the second bucket's rule, of a CLP 0 cell. Without a second bucket all its numbers are 0, and no cell is above it
unfoldable pub sustains : Opening → ℕ → Bool
sustains o t = let x = o.second in leak_after (2 ^ x.m) x.F x.C t o.sustained

-- "A cell above the peak is excess. A CLP 0 cell within the peak but above the sustainable rate is tagged if the flag is set
-- .. and otherwise excess."
unfoldable pub verdict_by : Opening → ℕ → ℕ → ℕ
verdict_by o clp t =
    when not (leak_accepts o t) then excess
    else when clp =? 0 && not (sustains o t) then (when o.second.tag =? 0 then excess else tagged)
    else accepted

-- did this answer let in a cell of the connection c: accepted, or tagged
unfoldable pub accepts : ℕ → Answer → Bool
accepts c a = lets_in a.verdict && a.vci =? c

-- the second bucket's due time of the last cell that filled it, once a cell with this CLP got this verdict in slot t: "a tagged
-- one [fills] only the peak bucket"
abbrev pub sustained_after : ℕ → ℕ → ℕ → Opening → Option ℕ
sustained_after t clp verdict o =
    let x = o.second in
    when clp =? 0 && verdict =? accepted then some (due_after (2 ^ x.m) x.F t o.sustained) else o.sustained

-- the opening once a cell is let in, in slot t: later ones are reckoned from its due time
abbrev pub after_cell : ℕ → ℕ → ℕ → Option Opening → Option Opening
after_cell t clp verdict none = none
after_cell t clp verdict (some o) =
    some (opening_with o.m o.F o.C (some (due_time o t)) o.second (sustained_after t clp verdict o))

-- an open or close that answered 0 begins and ends it; a cell that is let in moves it on, any other cell does not
unfoldable pub opening_of : ℕ → List Event → Option Opening
opening_of c [] = none
opening_of c (opened who k m F C x number ∷ h) = when number =? 0 && k =? c then some (new_opening m F C x) else opening_of c h
opening_of c (closed who k number ∷ h) = when number =? 0 && k =? c then none else opening_of c h
opening_of c (ran cell a out ∷ h) =
    when accepts c a then after_cell (served h) (clp_in cell) a.verdict (opening_of c h) else opening_of c h
