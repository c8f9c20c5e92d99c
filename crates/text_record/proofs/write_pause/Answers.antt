-- `text_record::write_pause`: an SL of at least one slot.
use Rattle.text_record.proofs.Cases.{as_put, pause_none, pause_later, refused}
use Rattle.text_record.proofs.write_pause.Goals as goal

pub returns-then-slots-eq0 : goal.returns-then-slots-eq0
returns-then-slots-eq0 c = refused _ _ _ (pause_none _ _ c.if-slots-eq0.true)

pub returns : goal.returns
returns c = c.put_later.ensures _ (as_put c.numbered.ensures (pause_later _ c.if-slots-eq0.false))
