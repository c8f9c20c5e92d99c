-- What step 5 leaves: the head of the Output List, if there is one, has departed, and is what answer and line cell say. And a
-- whole slot without spaces: what waits afterwards, and what left, by what waited and the cell that was let in. A proof device.
use Rattle.std.specs.Prelude.{ℕ, suc, ◌+◌, ◌%◌, ◌<◌, ◌≡◌, ◌≢◌, length, get_or}
use mathlib.Core.List.{List, [], ◌∷◌, ◌++◌, tail}
use Rattle.std.proofs.Math.Option.{Option}
use Rattle.meaning.specs.declared.Answer.{Answer}
use Rattle.meaning.specs.Numbers.{empty, slot_numbers}
use Rattle.meaning.specs.Work.{Work, answer_of}
use Rattle.meaning.specs.Line.{line_cell}
use Rattle.meaning_runs.specs.Run.{Event, shown, served, idle}
use Rattle.meaning_runs.specs.Leak.{Opening, opening_of}
use Rattle.meaning_runs.specs.Seen.{Cell}
use Rattle.theory_queues.specs.Queue.{first, turn}
use Rattle.theory_memory.specs.Held.{Queued, vci_of}
use Rattle.theory_invariant.specs.Invariant.{Stage, Waiting}
use Rattle.theory_invariant.specs.Came.{half, noted, entered}

-- what the answer a, the cells and the arrival slots of w' say of the departure of o's head
abbrev pub Departs : ℕ → List Queued → Answer → Work → Type 0
Departs N [] a w' = w'.answer ≡ a
Departs N (c ∷ o) a w' =
    (x : ℕ)
    × (w'.answer ≡ answer_of a.number a.verdict a.vci a.d x (vci_of c))
    × (x < N)
    × (line_cell w'.state.cells idle x ≡ c.cell.octets)
    × (x < length w'.state.arrived)
    × (get_or w'.state.arrived x 0 ≡ c.cell.arrival % slot_numbers)

pub record Gone (N z kind now : ℕ) (openings : ℕ → Option Opening) (o : List Queued) (r : List (List Queued))
    (w w' : Work) : Type 0 where
  pub stage : Stage N z kind (suc now) (suc now) (w'.state.ctl.turn + 1) w'.state openings (tail o) r
  pub departs : Departs N o w.answer w'

-- the cell that the answer a lets in, if there is one, h being what was called and said before
abbrev pub new_in : List Event → List ℕ → Answer → List Cell
new_in h cell a = noted (served h) (half a.verdict a.vci a.d) cell (λ v. opening_of v h)

-- the Output List once entry T has joined it
abbrev pub ready : List Cell → Waiting → List Cell
ready new b = b.out ++ first (entered new (turn b.cal))

abbrev pub onwards : List Cell → Waiting → Waiting
onwards new b = record { out = tail (ready new b); cal = tail (entered new (turn b.cal)) }

-- what answer, line cell and arrival slots say of the departure of the head of these cells
abbrev pub LeftAs : List Cell → Work → Type 0
LeftAs [] w = (w.answer.space ≡ empty) × (w.answer.departing ≡ 0)
LeftAs (c ∷ o) w =
    (w.answer.space ≢ empty)
    × (w.answer.departing ≡ c.vci)
    × (shown w ≡ c.octets)
    × (w.answer.space < length w.state.arrived)
    × (get_or w.state.arrived w.answer.space 0 ≡ c.arrival % slot_numbers)
