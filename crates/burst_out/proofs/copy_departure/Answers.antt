-- `burst_out::copy_departure` meets its contract: the part lent on has 53 octets, and what lies before and after it stays.
use Rattle.meaning.specs.State.{write_cell}
use lib.Seq.{drop-drop}
use native.Mathlib.Nat.{add-sub_cancel_left}
use Rattle.burst_out.proofs.copy_departure.Goals as goal

pub returns : goal.returns
unfolding write_cell
returns c = simp (add-sub_cancel_left, drop-drop, c.copy_cell.ensures)
