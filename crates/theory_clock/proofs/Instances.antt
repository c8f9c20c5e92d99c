-- Document 01's close and slot are those over any clock, at the clock that counts modulo 2^32: each step is, as it stands.
use Prim.Native.Nat.{ℕ, ◌+◌, ◌%◌}
use mathlib.Core.Path.{◌≡◌, refl}
use mathlib.Core.List.{List}
use Rattle.meaning.specs.declared.Record.{Record}
use Rattle.meaning.specs.Numbers.{slot_numbers}
use Rattle.meaning.specs.State.{State}
use Rattle.meaning.specs.Bits.{lowest_free}
use Rattle.meaning.specs.Bucket.{elapsed}
use Rattle.meaning.specs.Header.{Name}
use Rattle.meaning.specs.Words.{Connection, up_to_date, debt}
use Rattle.meaning.specs.Calls.{close_call}
use Rattle.meaning.specs.Work.{Work}
use Rattle.meaning.specs.Slot.{step1, step2, step3, five_steps, slot_at, slot}
use Rattle.theory_clock.specs.Clocked.{up_to_date_by, step1_by, step2_by, step3_by, five_steps_by, slot_by, debt_by, close_by}

pub up_to_date_is : (N t : ℕ) (vc : Connection) → up_to_date_by elapsed N t vc ≡ up_to_date N t vc
unfolding up_to_date
up_to_date_is N t vc = refl

pub step1_is : (w : Work) → step1_by (λ t. (t + 1) % slot_numbers) w ≡ step1 w
unfolding step1
step1_is w = refl

pub step2_is : (w : Work) → step2_by up_to_date w ≡ step2 w
unfolding step2
step2_is w = refl

pub step3_is : (x : ℕ) (cell : List ℕ) (w : Work) → step3_by up_to_date x cell w ≡ step3 x cell w
unfolding step3
step3_is x cell w = refl

pub steps_are : (x : ℕ) (cell : List ℕ) (w : Work) → five_steps_by step1 step2 (step3 x) cell w ≡ five_steps x cell w
unfolding five_steps
steps_are x cell w = refl

pub slot_is : (s : State) (cell : List ℕ) → slot_by (five_steps (lowest_free s.bits)) s cell ≡ slot s cell
unfolding slot slot_at
slot_is s cell = refl

pub debt_is : (t : ℕ) (vc : Connection) → debt_by elapsed t vc ≡ debt t vc
unfolding debt
debt_is t vc = refl

pub close_is : (r : Record) (words : List ℕ) (who : ℕ) (name : Name) → close_by debt r words who name ≡ close_call r words who name
unfolding close_call
close_is r words who name = refl
