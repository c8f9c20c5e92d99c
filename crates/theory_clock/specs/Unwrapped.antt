-- Open, close and slot with a clock that never wraps: an instance of those over any clock (specs/Clocked.antt).
--
-- The clock is the number k of slots served since setup, and stands where the record holds t. The word `last` of an open
-- connection holds the number of slots that had been served when it was opened or last brought up to date, and the arrival slot of a
-- stored cell the number that had been served when it came, its own slot among them. All grow without bound: there is no modulus of t,
-- `last`, arrival slot or elapsed here. All that touches none of them is shared.
use Rattle.std.specs.Prelude.{ℕ, ◌+◌, ◌-◌, List}
use Rattle.meaning.specs.declared.Record.{Record}
use Rattle.meaning.specs.Plain.{Out}
use Rattle.meaning.specs.State.{State, with_clock}
use Rattle.meaning.specs.Bits.{lowest_free}
use Rattle.meaning.specs.Header.{Name}
use Rattle.meaning.specs.Words.{Connection, Second}
use Rattle.meaning.specs.Calls.{Options, Called, open_call, fresh_state}
use Rattle.meaning.specs.Work.{Work}
use Rattle.theory_clock.specs.Clocked.{up_to_date_by, step1_by, step2_by, step3_by, five_steps_by, slot_by, debt_by, close_by}

-- k slots have been served, so k - last have elapsed
unfoldable pub caught_up : ℕ → ℕ → Connection → Out Connection
caught_up N k vc = up_to_date_by (λ t last. t - last) N k vc

-- 1: one slot more is served
unfoldable pub tick : Work → Out Work
tick w = step1_by (λ k. k + 1) w

unfoldable pub rotate : Work → Out Work
rotate w = step2_by caught_up w

unfoldable pub arrive : ℕ → List ℕ → Work → Out Work
arrive x cell w = step3_by caught_up x cell w

unfoldable pub unwrapped_steps : ℕ → List ℕ → Work → Out Work
unwrapped_steps x cell w = five_steps_by tick rotate (arrive x) cell w

-- document 02 (vii): "take the lowest free space"
unfoldable pub unwrapped_slot : State → List ℕ → Work
unwrapped_slot s cell = slot_by (unwrapped_steps (lowest_free s.bits)) s cell

-- "Opening sets .. last t": here the number of slots served
unfoldable pub unwrapped_open : Record → List ℕ → ℕ → Name → ℕ → ℕ → ℕ → Second → Called
unwrapped_open r words who name m F C x = open_call r words who name m F C x

unfoldable pub unwrapped_debt : ℕ → Connection → ℕ
unwrapped_debt k vc = debt_by (λ t last. t - last) k vc

unfoldable pub unwrapped_close : Record → List ℕ → ℕ → Name → Called
unwrapped_close r words who name = close_by unwrapped_debt r words who name

-- after setup no slot has been served; all else as setup leaves it
unfoldable pub unwrapped_fresh : ℕ → ℕ → Options → State
unwrapped_fresh N z o =
    let s = fresh_state N z o in
    with_clock s 0 s.ctl.turn s.ctl.rotation
