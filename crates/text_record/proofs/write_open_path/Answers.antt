-- `text_record::write_open_path` is an opening with the mark PO.
use Rattle.text_record.proofs.Cases.{as_put, path_later}
use Rattle.text_record.proofs.write_open_path.Goals as goal

pub returns : goal.returns
returns c = c.put_later.ensures _ (as_put c.opening.ensures (path_later _ _ _ _))
