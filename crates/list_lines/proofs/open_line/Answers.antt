-- `list_lines::open_line` puts the line of an opening, by `connection_line`.
use borrow.Author.Rules.{rules}
use Rattle.list_lines.proofs.Words.{open_words}
use Rattle.list_lines.proofs.Puts.{put_is}
use Rattle.list_lines.proofs.open_line.Goals as goal

pub returns : goal.returns
returns c =
    record { put = put_is (open_words _ _) c.connection_line.ensures.put; upper_bound = search rules }
