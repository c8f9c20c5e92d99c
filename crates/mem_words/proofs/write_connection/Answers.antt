-- `mem_words::write_connection` meets its contract: the twelve words are stored in their order.
use native.Mathlib.Nat.{add-zero}
use Rattle.meaning.specs.Words.{write_connection}
use Rattle.mem_words.proofs.write_connection.Goals as goal

pub returns : goal.returns
unfolding write_connection
returns c = simp (c.from-base.ensures, add-zero)
