-- What becomes of the slot that served what the header check let through: refused, the record is as it came, its mode too;
-- served, a dropped cell is told.
--
--   is_checked raw octets  == the header check comes in front
--   mode_after c, is_dropped c == the mode that the check's answer c leads to, and whether it drops the cell
--   back_served r drop s   == of record and answer
--   back s drop w         == of the whole work, w being the slot without the check
--   back_from s mode ..    == the same, s having been served in this mode with this cell
--   unfit_of r ..          == what is given where raw or mode is neither 0 nor 1; unfit_in s the same of a state
use Rattle.std.specs.Prelude.{ℕ, Bool, not, ◌&&◌, List, []}
use Rattle.base_hec.specs.declared.Checked.{Checked}
use Rattle.base_hec.specs.Word.{arriving_of}
use Rattle.meaning.specs.declared.Record.{Record}
use Rattle.meaning.specs.declared.Answer.{Answer}
use Rattle.meaning.specs.declared.Served.{Served}
use Rattle.meaning.specs.Plain.{when◌then◌else◌, ◌=?◌}
use Rattle.meaning.specs.Numbers.{ranges_hold, octets, dropped}
use Rattle.meaning.specs.State.{State, state_of, lengths_hold, with_record, record_in_mode}
use Rattle.meaning.specs.Work.{Work, work_of, answer_of, bare_answer}
use Rattle.meaning.specs.Slot.{told, unchecked_slot}

-- the policer is raw, and a cell arrived; a raw that is neither 0 nor 1 is refused there
unfoldable pub is_checked : ℕ → ℕ → Bool
is_checked raw long = (long =? octets) && not (raw =? 0)

-- neither depends on the cell
abbrev pub mode_after : Checked → ℕ
mode_after c = (arriving_of c []).mode

abbrev pub is_dropped : Checked → Bool
is_dropped c = (arriving_of c []).dropped

abbrev pub served_of : Record → Answer → Served
served_of r a = record { ctl = r; answer = a }

abbrev pub told_served : Bool → Served → Served
told_served drop s =
    let a = s.answer in
    when drop then served_of s.ctl (answer_of a.number dropped 0 0 a.space a.departing) else s

unfoldable pub back_served : Record → Bool → Served → Served
back_served r drop s = when s.answer.number =? 0 then told_served drop s else served_of r s.answer

unfoldable pub back : State → Bool → Work → Work
back s drop w =
    when w.answer.number =? 0 then told drop w else work_of (with_record w.state s.ctl) w.answer

abbrev pub back_from : State → ℕ → Bool → List ℕ → Work
back_from s mode drop cell =
    back s drop
    (unchecked_slot (state_of (record_in_mode s.ctl mode) s.cells s.links s.calendar s.words s.bits s.arrived) cell)

-- a raw or a mode out of its range: 1 and 2 come before 3
unfoldable pub unfit_of : Record → List ℕ → List ℕ → List ℕ → List ℕ → List ℕ → List ℕ → Served
unfit_of r cells links calendar words bits arrived =
    served_of r
    (bare_answer
    (when not (ranges_hold r.n r.v) then 1
    else when not (lengths_hold r.n r.v cells links calendar words bits arrived) then 2
    else 3))

abbrev pub unfit_in : State → Served
unfit_in s = unfit_of s.ctl s.cells s.links s.calendar s.words s.bits s.arrived
