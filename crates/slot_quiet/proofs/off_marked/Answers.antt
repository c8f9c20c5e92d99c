-- `slot_quiet::off_marked` meets its contract: the Output List was empty, or entry T joins it at its end.
use borrow.Author.Tests.{eq-eqb, ne_eqb}
use Rattle.slot_plan.specs.Plan.{joined_links, joined_head}
use Rattle.mem_lists.specs.Spaces.{linked}
use Rattle.meaning.proofs.ListsLaws.{fit_head}
use Rattle.slot_quiet.proofs.off_marked.Goals as goal

pub returns-then-k-eq65535 : goal.returns-then-k-eq65535
unfolding joined_links joined_head linked
returns-then-k-eq65535 c =
    rw (eq-eqb c.args.k.outhead 65535 c.if-k-eq65535.true) c.off_head.ensures

pub off_joined-requires : goal.off_joined-requires
off_joined-requires c =
    let pre = c.requires in (pre.n_le_most_n.0, pre.n_le_most_n.1, fit_head _ _ pre.outtail_value c.if-k-eq65535.false, pre.n_le_most_n.3, pre.n_le_most_n.4, pre.n_le_most_n.5)

pub returns : goal.returns
unfolding joined_links joined_head linked
returns c =
    rw (ne_eqb c.args.k.outhead 65535 c.if-k-eq65535.false) c.off_joined.ensures
