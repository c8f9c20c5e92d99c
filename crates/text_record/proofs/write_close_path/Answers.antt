-- `text_record::write_close_path` is a closing with the mark PX.
use Rattle.text_record.proofs.Cases.{as_put, path_close_later}
use Rattle.text_record.proofs.write_close_path.Goals as goal

pub returns : goal.returns
returns c = c.put_later.ensures _ (as_put c.numbered.ensures (path_close_later _))
