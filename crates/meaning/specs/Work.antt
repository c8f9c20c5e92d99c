-- What one step of a slot hands to the next: the state as it stands, and the answer as far as it is known.
use Rattle.std.specs.Prelude.{ℕ}
use Rattle.meaning.specs.declared.Answer.{Answer}
use Rattle.meaning.specs.Numbers.{empty, nothing}
use Rattle.meaning.specs.State.{State, with_words}
use Rattle.meaning.specs.Words.{Connection, write_connection}

-- "An answer holds: number, verdict, VCI (as read, 0 for nothing), D (0 unless accepted), departing space (65,535 for
-- none), departing VCI (0 for none)."; document 02 (vi): "A cell of an open path has V + VPI for
-- its VCI in answers"
abbrev pub answer_of : ℕ → ℕ → ℕ → ℕ → ℕ → ℕ → Answer
answer_of number verdict vci D space departing =
    record { number = number; verdict = verdict; vci = vci; d = D; space = space; departing = departing }

-- "In a refusal all but the number are 0, and the space is 65,535." With number 0 this is the answer to a slot in
-- which nothing arrives and nothing departs.
abbrev pub bare_answer : ℕ → Answer
bare_answer number = answer_of number nothing 0 0 empty 0

pub record Work : Type 0 where
  pub state : State
  pub answer : Answer

abbrev pub work_of : State → Answer → Work
work_of s a = record { state = s; answer = a }

abbrev pub with_state : Work → State → Work
with_state w s = work_of s w.answer

-- the words of one connection changed
abbrev pub with_connection : Work → ℕ → Connection → Work
with_connection w c conn = with_state w (with_words w.state (write_connection w.state.words c conn))

-- what step 3 says in the answer: verdict, VCI and D
abbrev pub with_arrival : Work → ℕ → ℕ → ℕ → Work
with_arrival w verdict vci D =
    let a = w.answer in
    work_of w.state (answer_of a.number verdict vci D a.space a.departing)

-- what step 5 says in the answer: departing space and departing VCI
abbrev pub with_departure : Work → ℕ → ℕ → Work
with_departure w space vci =
    let a = w.answer in
    work_of w.state (answer_of a.number a.verdict a.vci a.d space vci)
