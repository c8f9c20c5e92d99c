-- `call_tally::refusal_of` meets its contract: V is in its range once refusal 1 is passed.
use Rattle.std.proofs.Common.{sym, ◌∙◌}
use Rattle.leaf_refusal.proofs.Numbers.{held}
use Rattle.leaf_refusal.proofs.Ranges.{ranges_facts}
use Rattle.call_tally.proofs.refusal_of.Goals as goal

pub is_connection-requires : goal.is_connection-requires
is_connection-requires c = (ranges_facts _ _ (sym c.ranges_hold.ensures ∙ held _ _ c.in_ok-refuse_unless.ensures)).V_most
