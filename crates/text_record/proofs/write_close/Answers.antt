-- `text_record::write_close` is a closing with the mark VX.
use Rattle.text_record.proofs.Cases.{as_put, close_later}
use Rattle.text_record.proofs.write_close.Goals as goal

pub returns : goal.returns
returns c = c.put_later.ensures _ (as_put c.numbered.ensures (close_later _))
