-- `call_audit::waits_of` reads the cells that may wait at a connection: its waiting where it is open.
use Rattle.call_audit.proofs.WaitsLaws.{waits_read, waits_read_shut}
use Rattle.call_audit.proofs.waits_of.Goals as goal

pub returns-then-words-base-eq1 : goal.returns-then-words-base-eq1
returns-then-words-base-eq1 c =
    let a = c.args in
    rw c.from-base.ensures (waits_read a.words.now a.conn (rw c.from-base.ensures at c.if-words-base-eq1.true))

pub returns-else-words-base-eq1 : goal.returns-else-words-base-eq1
returns-else-words-base-eq1 c = let a = c.args in waits_read_shut a.words.now a.conn (rw c.from-base.ensures at c.if-words-base-eq1.false)
