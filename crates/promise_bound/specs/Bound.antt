-- REQUEST (xiii) of document 02: a number for the downstream buffer. A setup of a policer with N spaces has answered 0,
-- whatever the memory held before, then any calls followed, refused ones among them; h is what was called and said, the
-- newest first. Slots don't wrap. For one opening of a connection, a VC or a path, with L = 2^m:
--
--   due-apart   the due slots of any two of its accepted cells, n accepted cells apart, differ by at least n × F / L
--   window      in any w consecutive slots, w at least 1, at most 1 + ((w + N - 1) × L - 1) / F of its cells leave
--   never-more  and never more than w
--   whole-line  of all connections together never more than w, so of several openings the sum of their bursts or w, if that is less
--   every-cell  each accepted cell of a connection is one of such an opening, the present one or one long closed
-- Each / is rounded down.
--
--   OneOpening v m F C h  == an opening of the connection v in h: the open that answered 0, with a second bucket or none, all that
--                            came before it, what came while it lasted, or any first part of that, and all that came later
--   first o, past o       == its accepted cells are those of the connection from the number `first` on, below `past`
--   gone o                == their departures, as far as they have left by the end of h
--   leaving x w ds        == how many of the departures ds are in the slots x to x + w - 1
-- By demand 3 the k-th departure of a connection is its k-th accepted cell. `later` is part of h: a window that reaches beyond the
-- close, or into a later opening, still has all cells of this opening. Which cells are accepted, when they are due and what
-- leaves is `meaning_runs/Seen`'s to say: a kind of cell or of connection that it counts, such as a tagged cell, is counted here.
use Rattle.std.specs.Prelude.{ℕ, ◌+◌, ◌-◌, ◌*◌, ◌/◌, ◌^◌, ◌≤◌, ◌<◌, ◌≡◌, Bool, ◌&&◌, List, [], ◌∷◌, ◌++◌, ◌≢◌, length, take, drop}
use Rattle.meaning.specs.Plain.{when◌then◌else◌, ◌<?◌, ◌≤?◌}
use Rattle.meaning.specs.Words.{Second}
use Rattle.meaning.specs.State.{State}
use Rattle.meaning.specs.Calls.{Asked, setup}
use Rattle.meaning_runs.specs.Run.{Call, Event, opened, closed, ran, run_of, calls}
use Rattle.meaning_runs.specs.Seen.{Departure, departures_in, cells_of, departures_of, cell_at}

-- no open and no close of the connection v answered 0
abbrev pub Stays : ℕ → ℕ → ℕ → Type 0
Stays v vci number = vci ≡ v → number ≢ 0

abbrev pub Lasts : ℕ → List Event → Type 0
Lasts v [] = Unit {0}
Lasts v (opened who vci m F C x number ∷ h) = Stays v vci number × Lasts v h
Lasts v (closed who vci number ∷ h) = Stays v vci number × Lasts v h
Lasts v (ran cell a out ∷ h) = Lasts v h

pub record OneOpening (v m F C : ℕ) (h : List Event) : Type 0 where
  pub operator : ℕ
  pub second : Second
  pub before : List Event
  pub during : List Event
  pub later : List Event
  pub is : h ≡ later ++ (during ++ (opened operator v m F C second 0 ∷ before))
  pub lasts : Lasts v during

abbrev pub first : {v m F C : ℕ} {h : List Event} → OneOpening v m F C h → ℕ
first {v} o = length (cells_of v o.before)

abbrev pub past : {v m F C : ℕ} {h : List Event} → OneOpening v m F C h → ℕ
past {v} {m} {F} {C} o = length (cells_of v (o.during ++ (opened o.operator v m F C o.second 0 ∷ o.before)))

abbrev pub gone : {v m F C : ℕ} {h : List Event} → OneOpening v m F C h → List Departure
gone {v} {h = h} o = drop (first o) (take (past o) (departures_of v h))

abbrev pub is_in_window : ℕ → ℕ → Departure → Bool
is_in_window x w d = x ≤? d.slot && d.slot <? x + w

abbrev pub leaving : ℕ → ℕ → List Departure → ℕ
leaving x w [] = 0
leaving x w (d ∷ ds) = (when is_in_window x w d then 1 else 0) + leaving x w ds

-- "1 + floor(((w + N - 1) × L - 1) / F)": due times of two cells that leave in w slots are at most `spread` apart, since one
-- leaves in its due slot at the earliest and the other N-1 slots after it at the latest
abbrev pub spread : ℕ → ℕ → ℕ → ℕ
spread N m w = (w + N - 1) * 2 ^ m - 1

abbrev pub burst : ℕ → ℕ → ℕ → ℕ → ℕ
burst N m F w = 1 + spread N m w / F

-- the k-th accepted cell of the connection v is of this opening
pub record OfOpening (v k : ℕ) (h : List Event) : Type 0 where
  pub m : ℕ
  pub F : ℕ
  pub C : ℕ
  pub opening : OneOpening v m F C h
  pub from : first opening ≤ k
  pub below : k < past opening

pub record Bound (N : ℕ) (h : List Event) : Type 0 where
  pub due_apart : (v m F C : ℕ) (o : OneOpening v m F C h) (k n : ℕ) → first o ≤ k → k + n < past o
      → (cell_at v k h).due + n * F / 2 ^ m ≤ (cell_at v (k + n) h).due
  pub window : (v m F C : ℕ) (o : OneOpening v m F C h) (x w : ℕ) → 1 ≤ w
      → leaving x w (gone o) ≤ burst N m F w
  pub never_more : (v m F C : ℕ) (o : OneOpening v m F C h) (x w : ℕ)
      → leaving x w (gone o) ≤ w
  pub whole_line : (x w : ℕ)
      → leaving x w (departures_in h) ≤ w
  pub every_cell : (v k : ℕ) → k < length (cells_of v h) → OfOpening v k h

-- of every run from a fresh state
abbrev pub BoundHolds : Type 0
BoundHolds = (N z : ℕ) (a : Asked) (lent : State)
    → (setup N z a lent).number ≡ 0
    → (cs : List Call) → Bound N (calls (run_of (setup N z a lent).state []) cs).events
