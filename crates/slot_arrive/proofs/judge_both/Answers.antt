-- `slot_arrive::judge_both` meets its contract: case by case, in the order of its tests.
use Rattle.meaning.specs.Words.{connection_at}
use mathlib.Core.Path.{sym, ◌∙◌, ap}
use Rattle.std.specs.Prelude.{Some}
use native.Mathlib.Omega.{arith}
use Rattle.mem_words.proofs.Fits.{bucket_facts}
use borrow.Author.Tests.{lt-ltb, le-ltb, eq-eqb, ne_eqb}
use Rattle.meaning.specs.Bucket.{is_excess}
use Rattle.mem_words.proofs.Fits.{second_facts}
use Rattle.slot_arrive.specs.Both.{judged_both}
use Rattle.slot_arrive.proofs.judge_both.Goals as goal

pub returns-then-not-second_fits : goal.returns-then-not-second_fits
unfolding judged_both
returns-then-not-second_fits c = simp (sym c.second_fits.ensures ∙ c.if-not-second_fits.true)

pub second_now-second-requires : goal.second_now-second-requires
second_now-second-requires c = (c.requires.0, (second_facts _ _ (sym c.second_fits.ensures ∙ c.if-not-second_fits.false)).m_low)

pub overflow_sub-words : goal.overflow_sub-words
unfolding connection_at
overflow_sub-words c = omega (arith, (bucket_facts _ _ c.requires.1).rules.C_least)

pub returns-then-words-b : goal.returns-then-words-b
unfolding connection_at judged_both is_excess
returns-then-words-b c = ap Some c.above.ensures ∙ simp ((sym c.second_fits.ensures ∙ c.if-not-second_fits.false), lt-ltb _ _ c.if-words-b.true, sym c.second_now-second.ensures)

pub judge_second-requires : goal.judge_second-requires
unfolding connection_at
judge_second-requires c =
    let from = c.requires in
    let first = c.before in
    record { within = (from.0, from.1, c.if-words-b.false); second_in = sym first.second_fits.ensures ∙ first.if-not-second_fits.false }

pub returns-then-clp-eq0 : goal.returns-then-clp-eq0
unfolding connection_at judged_both is_excess
returns-then-clp-eq0 c =
    c.judge_second.ensures
    ∙ simp ((sym c.second_fits.ensures ∙ c.if-not-second_fits.false), le-ltb _ _ c.if-words-b.false, eq-eqb _ _ c.if-clp-eq0.true, sym c.second_now-second.ensures)

pub let_in-requires : goal.let_in-requires
unfolding connection_at
let_in-requires c =
    let from = c.requires in
    (from.0, from.1, c.if-words-b.false)

pub returns : goal.returns
unfolding connection_at judged_both is_excess
returns c =
    c.let_in.ensures
    ∙ simp ((sym c.second_fits.ensures ∙ c.if-not-second_fits.false), le-ltb _ _ c.if-words-b.false, ne_eqb _ _ c.if-clp-eq0.false, sym c.second_now-second.ensures)
