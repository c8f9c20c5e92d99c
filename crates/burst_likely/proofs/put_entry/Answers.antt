-- `burst_likely::put_entry` meets its contract: two stores, the second where the entry was empty; else its tail stays.
use Rattle.burst_likely.proofs.WriteLaws.{entry_empty, entry_marked}
use Rattle.burst_likely.proofs.put_entry.Goals as goal

pub returns-then-head-eq65535 : goal.returns-then-head-eq65535
returns-then-head-eq65535 c = entry_empty _ _ _ _ c.if-head-eq65535.true

pub returns-else-head-eq65535 : goal.returns-else-head-eq65535
returns-else-head-eq65535 c = entry_marked _ _ _ _ c.if-head-eq65535.false
