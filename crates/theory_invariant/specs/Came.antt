-- What step 3 leaves, whatever arrived: the answer's verdict is the leak rules', the calendar has the cell that was let in, if
-- there is one, behind all cells of its connection. A proof device.
use Rattle.std.specs.Prelude.{ℕ, suc, ◌-◌, ◌≡◌, ◌&&◌, List, [], ◌∷◌, ◌++◌, map}
use Rattle.std.proofs.Math.Option.{Option}
use Rattle.meaning.specs.declared.Answer.{Answer}
use Rattle.meaning.specs.Plain.{when◌then◌else◌, ◌=?◌}
use Rattle.meaning.specs.Numbers.{empty, lets_in}
use Rattle.meaning.specs.Header.{clp_in}
use Rattle.meaning.specs.Arrival.{sent_as}
use Rattle.meaning.specs.Work.{Work, answer_of}
use Rattle.meaning_runs.specs.Leak.{Opening, after_cell}
use Rattle.meaning_runs.specs.Seen.{Cell, cell_under, of_connection}
use Rattle.meaning_runs.specs.Judged.{judged_of, judged_by}
use Rattle.theory_queues.specs.Queue.{All, Alls, flat, turn, put, Rising, Arrived}
use Rattle.theory_memory.specs.Held.{Queued, due_of, vci_of}
use Rattle.theory_invariant.specs.Invariant.{cell_in, Sits, Stage, Delayed, Named}

-- the openings after a slot with this verdict on a cell of this connection, with this CLP
abbrev pub after : ℕ → ℕ → ℕ → ℕ → (ℕ → Option Opening) → ℕ → Option Opening
after now clp verdict vci openings v =
    when lets_in verdict && vci =? v then after_cell now clp verdict (openings v) else openings v

-- the answer as step 3 leaves it
abbrev pub half : ℕ → ℕ → ℕ → Answer
half verdict vci D = answer_of 0 verdict vci D empty 0

-- the accepted or tagged cell, if there is one, with the octets that are stored
abbrev pub noted : ℕ → Answer → List ℕ → (ℕ → Option Opening) → List Cell
noted now a octets openings =
    when lets_in a.verdict then cell_under now a (sent_as a.verdict octets) (openings a.vci) ∷ [] else []

-- the openings after a slot in which this cell came
abbrev pub onward : ℕ → List ℕ → ℕ → ℕ → (ℕ → Option Opening) → ℕ → Option Opening
onward now cell verdict vci openings v = after now (clp_in cell) verdict vci openings v

-- the calendar, without spaces, once the cell that is let in, if there is one, has joined the queue of its D
abbrev pub entered : List Cell → List (List Cell) → List (List Cell)
entered [] r = r
entered (c ∷ new) r = put c.D c r

pub record Came (N z kind now : ℕ) (cell : List ℕ) (openings : ℕ → Option Opening) (out : List Queued) (cal : List (List Queued))
    (w : Work) : Type 0 where
  pub verdict : ℕ
  pub vci : ℕ
  pub D : ℕ
  pub says : w.answer ≡ half verdict vci D
  pub judges : judged_by kind z now openings cell ≡ judged_of verdict vci D
  pub new : List Queued
  pub r : List (List Queued)
  pub stage : Stage N z kind (suc now) (suc now) w.state.ctl.turn w.state (λ v. onward now cell verdict vci openings v)
      out r
  pub arrived : Arrived due_of (N - 1) now r out
  pub sits_out : All (Sits kind z (λ v. onward now cell verdict vci openings v)) out
  pub sits_cal : Alls (Sits kind z (λ v. onward now cell verdict vci openings v)) r
  pub order : (v : ℕ) → of_connection vci_of v (flat r) ≡ of_connection vci_of v (flat cal) ++ of_connection vci_of v new
  pub lies : map (map cell_in) r ≡ entered (map cell_in new) (turn (map (map cell_in) cal))
  pub notes : noted now (half verdict vci D) cell openings ≡ map cell_in new
  pub delays : All (Delayed N) (map cell_in new)
  pub named : All (Named kind z) (map cell_in new)
  pub rises : (l : List Cell) → Rising (λ c. c.arrival) 0 now l
      → Rising (λ c. c.arrival) 0 (suc now) (l ++ map cell_in new)
