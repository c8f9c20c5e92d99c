-- `text_record::write_open` is an opening with the mark VO.
use Rattle.text_record.proofs.Cases.{as_put, open_later}
use Rattle.text_record.proofs.write_open.Goals as goal

pub returns : goal.returns
returns c = c.put_later.ensures _ (as_put c.opening.ensures (open_later _ _ _ _))
