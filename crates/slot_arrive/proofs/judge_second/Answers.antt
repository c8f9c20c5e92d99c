-- `slot_arrive::judge_second` meets its contract: the tests of the second bucket and the flag, one after the other.
use Rattle.meaning.specs.Words.{connection_at}
use mathlib.Core.Path.{◌∙◌, ap}
use Rattle.std.specs.Prelude.{Some}
use native.Mathlib.Omega.{arith}
use borrow.Author.Tests.{lt-ltb, le-ltb, eq-eqb, ne_eqb}
use Rattle.meaning.specs.Bucket.{is_excess, fill}
use Rattle.mem_words.proofs.Fits.{second_facts}
use Rattle.slot_arrive.specs.Both.{judged_second}
use Rattle.slot_arrive.proofs.judge_second.Goals as goal

pub overflow_sub-words : goal.overflow_sub-words
unfolding connection_at
overflow_sub-words c = omega (arith, (second_facts _ _ c.requires.second_in).C_least)

pub returns-then-words-b-eq0 : goal.returns-then-words-b-eq0
unfolding connection_at judged_second is_excess
returns-then-words-b-eq0 c = ap Some c.above.ensures ∙ simp (lt-ltb _ _ c.if-words-b.true, eq-eqb _ _ c.if-words-b-eq0.true)

pub returns-then-words-b : goal.returns-then-words-b
unfolding connection_at judged_second is_excess
returns-then-words-b c = c.let_in.ensures ∙ simp (lt-ltb _ _ c.if-words-b.true, ne_eqb _ _ c.if-words-b-eq0.false)

pub overflow_add-filled : goal.overflow_add-filled
unfolding connection_at
overflow_add-filled c = let f = second_facts _ _ c.requires.second_in in omega (arith, f.C_least, f.C_most, c.if-words-b.false)

pub returns : goal.returns
unfolding connection_at judged_second is_excess fill
returns c = c.let_in-2.ensures ∙ simp (le-ltb _ _ c.if-words-b.false)
