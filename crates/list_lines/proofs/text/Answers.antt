-- `list_lines::text` puts a text: the part of the buffer that it fills is written over.
use mathlib.Core.Path.{refl}
use Rattle.list_lines.proofs.Puts.{put_part}
use Rattle.list_lines.proofs.text.Goals as goal

pub returns : goal.returns
returns c = put_part _ _ _ refl c.requires c.copy_from_slice.ensures.after
