-- `slot_accept::departure::off_stored` meets its contract: it hands on what departs, the head of the joined list being worked out first.
use Rattle.mem_lists.specs.Spaces.{ends_of}
use Rattle.slot_plan.specs.Plan.{joined_head}
use Rattle.slot_plan.proofs.AcceptCases.{off_first}
use Rattle.slot_accept.proofs.departure.off_stored.Goals as goal

pub off_after-requires : goal.off_after-requires
unfolding joined_head
off_after-requires c =
    let pre = c.requires in
    let p = pre.n_le_most_n in
    (p.0, p.1, rw c.first_of-x.ensures pre.tail_bound, p.2, p.3, p.4)

pub returns : goal.returns
unfolding joined_head
returns c =
    let a = c.args in
    off_first a.k a.j a.a a.cells.now a.links.now a.words.now a.joins (ends_of a.head a.tail)
    c.first_of-x.result c.off_after.result c.first_of-x.ensures
    c.off_after.ensures
