-- `text_write::less`: once over, always over; else what is left, or over.
use Rattle.std.proofs.Common.{ℕ, Option, sym, ap, ◌∙◌}
use Rattle.text_write.specs.Room.{less_of}
use Rattle.text_write.proofs.RoomLaws.{less_over, less_some}
use Rattle.text_write.proofs.less.Goals as goal

pub returns-in_err-room : goal.returns-in_err-room
returns-in_err-room c = c.from_residual.ensures ∙ sym (less_over c.args.n c.args.room c.in_err-room.was)

pub returns : goal.returns
returns c = less_some c.args.n c.in_ok-room.field-0 c.checked_sub.result c.checked_sub.ensures ∙ ap (λ (r : Option ℕ). less_of r c.args.n) (sym c.in_ok-room.was)
