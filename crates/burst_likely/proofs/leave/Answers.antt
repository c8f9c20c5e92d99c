-- `burst_likely::leave` meets its contract: the writes of a departure, a slice at a time.
use mathlib.Core.Path.{◌∙◌}
use Rattle.burst_likely.proofs.EitherLaws.{followed_some, followed_left}
use Rattle.burst_likely.proofs.leave.Goals as goal
use Rattle.burst_likely.proofs.leave.Goals.{in-Some, in_default}

pub returns-clause-links : goal.returns-clause-links
returns-clause-links c =
    let a = c.args in
    elim c.match-o.branch [
      | in-Some w ↦ w.links-is ∙ w.put_link.ensures ∙ followed_some a.o.follows w.in-Some.head a.w.outtail a.links.now w.in-Some.is
      | in_default w ↦ w.links-is ∙ followed_left a.o.follows a.w.outtail a.links.now w.in_default.is
    ]
