-- `call_slot::back_to` meets its contract: refused, served with a dropped cell, served.
use borrow.Author.Tests.{eq-eqb, ne_eqb}
use Rattle.call_slot.specs.Back.{back_served}
use Rattle.call_slot.proofs.Front.{kept_is}
use Rattle.call_slot.proofs.back_to.Goals as goal

pub returns-then-s-ne0 : goal.returns-then-s-ne0
unfolding back_served
returns-then-s-ne0 c = let a = c.args in rw (ne_eqb a.s.answer.number 0 c.if-s-ne0.true)

pub returns-in-Dropped : goal.returns-in-Dropped
unfolding back_served
returns-in-Dropped c = let a = c.args in rw (eq-eqb a.s.answer.number 0 c.if-s-ne0.false, c.in-Dropped.is)

pub returns-in_default : goal.returns-in_default
unfolding back_served
returns-in_default c = let a = c.args in rw (eq-eqb a.s.answer.number 0 c.if-s-ne0.false, kept_is a.c c.in_default.not-Dropped)
