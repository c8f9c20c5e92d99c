-- `list_lines::close_line` puts the line of a closing, by `connection_line`.
use borrow.Author.Rules.{rules}
use Rattle.list_lines.proofs.Words.{close_words}
use Rattle.list_lines.proofs.Puts.{put_is}
use Rattle.list_lines.proofs.close_line.Goals as goal

pub returns : goal.returns
returns c =
    record { put = put_is (close_words _ _) c.connection_line.ensures.put; upper_bound = search rules }
