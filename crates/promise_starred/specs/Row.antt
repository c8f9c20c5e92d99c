-- A row of the table of starred cases: what is called, and what each call must say. `says` computes it by the definitions
-- of setup, open, close and slot; `expects` is what document 01 gives.
use Rattle.std.specs.Prelude.{ℕ, zero, suc, ◌*◌, ◌/◌, ◌%◌, false, List, [], ◌∷◌, ◌++◌, replicate}
use Rattle.std.proofs.Math.Option.{Option, some}
use Rattle.meaning.specs.declared.Answer.{Answer}
use Rattle.meaning.specs.Plain.{when◌then◌else◌}
use Rattle.meaning.specs.Numbers.{octets, per_entry, words_in, bit_words, uni, lets_in}
use Rattle.meaning.specs.State.{State, with_words, state_of}
use Rattle.meaning.specs.Header.{by_vci}
use Rattle.meaning.specs.Words.{without_second}
use Rattle.meaning.specs.Operators.{second_operator}
use Rattle.meaning.specs.Calls.{SetUp, zeros, asked_of, setup, open_call, close_call}
use Rattle.meaning.specs.Work.{bare_answer}
use Rattle.meaning.specs.Slot.{slot}
use Rattle.meaning_runs.specs.Leak.{Opening, new_opening, after_cell}
use Rattle.meaning_runs.specs.Judged.{judged_under}

-- what a call says: the number of a setup, open or close, or all six numbers of an answer
pub data Said : Type 0 where
  number : ℕ → Said
  answer : Answer → Said
  -- of the exact leak rule: verdict and D
  judged : ℕ → ℕ → Said

-- one call, and what it must say
pub data Step : Type 0 where
  -- VCI, m, F, C: the number
  opens : ℕ → ℕ → ℕ → ℕ → ℕ → Step
  -- VCI: the number
  closes : ℕ → ℕ → Step
  -- a slot with a cell of the VCI: number, verdict, VCI, D, departing space, departing VCI
  cell : ℕ → Answer → Step
  -- a slot with no cell: the same
  absent_cell : Answer → Step
  -- so many slots with no cell, in which nothing leaves
  pause : ℕ → Step

-- a cell of a VCI, all other octets 0
abbrev pub cell_of : ℕ → List ℕ
cell_of vci = 0 ∷ vci / 4096 ∷ vci / 16 % 256 ∷ vci % 16 * 16 ∷ replicate 49 0

-- k slots with no cell, then the rest
abbrev pub waited : ℕ → State → (State → List Said) → List Said
waited zero s rest = rest s
waited (suc k) s rest =
    let w = slot s [] in
    answer w.answer ∷ waited k w.state rest

abbrev pub says_from : State → List Step → List Said
says_from s [] = []
says_from s (opens vci m F C k ∷ steps) =
    let c = open_call s.ctl s.words second_operator (by_vci vci) m F C without_second in
    number c.number ∷ says_from (with_words s c.words) steps
says_from s (closes vci k ∷ steps) =
    let c = close_call s.ctl s.words second_operator (by_vci vci) in
    number c.number ∷ says_from (with_words s c.words) steps
says_from s (cell vci a ∷ steps) =
    let w = slot s (cell_of vci) in
    answer w.answer ∷ says_from w.state steps
says_from s (absent_cell a ∷ steps) =
    let w = slot s [] in
    answer w.answer ∷ says_from w.state steps
says_from s (pause k ∷ steps) = waited k s (λ s'. says_from s' steps)

abbrev pub expects_of : List Step → List Said
expects_of [] = []
expects_of (opens vci m F C k ∷ steps) = number k ∷ expects_of steps
expects_of (closes vci k ∷ steps) = number k ∷ expects_of steps
expects_of (cell vci a ∷ steps) = answer a ∷ expects_of steps
expects_of (absent_cell a ∷ steps) = answer a ∷ expects_of steps
expects_of (pause k ∷ steps) = replicate k (answer (bare_answer 0)) ++ expects_of steps

-- a cell that arrives in the slot: the verdict and the D that the leak rule must give it
pub data Arrival : Type 0 where
  arrives : ℕ → ℕ → ℕ → Arrival

-- what the leak rule says of cells of VC 1, with CLP 0; each accepted one moves the rule on
abbrev pub leak_says : Option Opening → List Arrival → List Said
leak_says o [] = []
leak_says o (arrives t verdict D ∷ more) =
    let j = judged_under t 1 1 0 o in
    judged j.verdict j.D ∷ leak_says (when lets_in j.verdict then after_cell t 0 j.verdict o else o) more

abbrev pub leak_expects : List Arrival → List Said
leak_expects [] = []
leak_expects (arrives t verdict D ∷ more) = judged verdict D ∷ leak_expects more

pub data Row : Type 0 where
  -- N, V: a run from setup on
  run : ℕ → ℕ → List Step → Row
  -- N; m, F, C of VC 1: its opening must answer 0, and the cells are judged by the leak rule alone, however far apart
  leak : ℕ → ℕ → ℕ → ℕ → List Arrival → Row

-- setup of a policer that is not raw, at the UNI, with the second operator alone on it, over memories that held other numbers
abbrev pub ready : ℕ → ℕ → SetUp
ready N z =
    setup N z (asked_of false uni 1 1) (state_of zeros (replicate (octets * N) 7) (replicate N 7) (replicate (per_entry * N) 7) (replicate (words_in z) 7) (replicate bit_words 7) (replicate N 7))

abbrev pub says : Row → List Said
says (run N z steps) = number (ready N z).number ∷ says_from (ready N z).state steps
says (leak N m F C cells) =
    let s = (ready N 2).state in
    number (open_call s.ctl s.words second_operator (by_vci 1) m F C without_second).number ∷ leak_says (some (new_opening m F C without_second)) cells

abbrev pub expects : Row → List Said
expects (run N z steps) = number 0 ∷ expects_of steps
expects (leak N m F C cells) = number 0 ∷ leak_expects cells
