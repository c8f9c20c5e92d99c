-- `slot_depart::clear_entry` meets its contract: one entry is written, where on.
use Rattle.slot_depart.proofs.clear_entry.Goals as goal

pub returns-then-on : goal.returns-then-on
returns-then-on c =
    rw c.if-on.true c.put_entry.ensures
