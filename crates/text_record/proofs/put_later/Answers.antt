-- `text_record::put_later`: not at place 0.
use Rattle.text_record.proofs.Cases.{not_first, but_first, refused}
use Rattle.text_record.proofs.put_later.Goals as goal

pub returns-then-at-eq0 : goal.returns-then-at-eq0
returns-then-at-eq0 c = let a = c.args in λ g l. refused a.out.now a.at g (not_first l a.at c.if-at-eq0.true)

pub returns : goal.returns
returns c = λ g l. c.put.ensures g l.octets_are (but_first l c.args.at c.if-at-eq0.false)
