-- `burst_out::put_answer` meets its contract: the six stores are the six of the definition, each within the slot's own numbers.
use Rattle.burst_out.specs.Handout.{write_answer}
use borrow.Author.Rules.{rules}
use Rattle.burst_out.proofs.put_answer.Goals as goal

pub returns : goal.returns
unfolding write_answer
returns c = search rules
