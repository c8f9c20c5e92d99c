-- `mem_lists::seat_for` meets its contract: one comparison gives the entry, and seat_at the seat.
use Rattle.mem_lists.proofs.SeatLaws.{entry_near, entry_far}
use Rattle.mem_lists.specs.Spaces.{seat_at, seat_of}
use mathlib.Core.Path.{◌∙◌, ap}
use Prim.Native.Nat.{ℕ}
use borrow.Author.Rules.{rules}
use Rattle.mem_lists.proofs.seat_for.Goals as goal
use Rattle.mem_lists.proofs.seat_for.Goals.{then-far-n, else-far-n}

pub seat_at-requires : goal.seat_at-requires
seat_at-requires c = elim c.if-far-n.branch [ then-far-n w ↦ search rules | else-far-n w ↦ search rules ]

pub returns : goal.returns
unfolding seat_of
returns c =
    let a = c.args in
    c.seat_at.ensures
    ∙ ap (λ (e : ℕ). seat_at a.n a.calendar.now e a.x)
    (elim c.if-far-n.branch [
      | then-far-n w ↦ w.e-is ∙ entry_near a.n a.turn a.d w.if-far-n.true
      | else-far-n w ↦ w.e-is ∙ entry_far a.n a.turn a.d w.if-far-n.false
    ])
