-- `mem_lists::may_go` meets its contract: the tests are those of the definition, of the open word and of waiting.
use Rattle.mem_lists.proofs.LeaverLaws.{go_counts, go_none, go_closed}
use Rattle.mem_lists.proofs.may_go.Goals as goal

pub returns-then-waiting-ne0 : goal.returns-then-waiting-ne0
returns-then-waiting-ne0 c =
    let a = c.args in
    go_counts a.n a.words.now a.u c.if-words-b-eq1.true c.if-waiting-ne0.true

pub returns-else-waiting-ne0 : goal.returns-else-waiting-ne0
returns-else-waiting-ne0 c =
    let a = c.args in
    go_none a.n a.words.now a.u c.if-words-b-eq1.true c.if-waiting-ne0.false

pub returns-else-words-b-eq1 : goal.returns-else-words-b-eq1
returns-else-words-b-eq1 c =
    let a = c.args in
    go_closed a.n a.words.now a.u c.if-words-b-eq1.false
