-- `text_record::write_setup`: a GM, GR or GN is written at place 0 alone.
use Rattle.std.proofs.Common.{sym, ◌∙◌}
use Rattle.text_record.proofs.Cases.{setup_first, setup_later, setup_octets, refused}
use Rattle.text_record.proofs.write_setup.Goals as goal

pub returns-then-at-ne0 : goal.returns-then-at-ne0
returns-then-at-ne0 c = refused _ _ _ (setup_later _ _ _ _ c.if-at-ne0.true)

pub returns : goal.returns
returns c = c.put.ensures _ (setup_octets _ _ _ ∙ sym c.setup.ensures) (setup_first _ _ _ _ c.if-at-ne0.false)
