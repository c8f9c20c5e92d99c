-- `slot_arrive::judge_peak` meets its contract: the test of the peak bucket, then the cell is let in.
use Rattle.meaning.specs.Words.{connection_at}
use mathlib.Core.Path.{◌∙◌, ap}
use Rattle.std.specs.Prelude.{Some}
use native.Mathlib.Omega.{arith}
use Rattle.mem_words.proofs.Fits.{bucket_facts}
use borrow.Author.Tests.{lt-ltb, le-ltb}
use Rattle.meaning.specs.Bucket.{is_excess}
use Rattle.slot_arrive.specs.Both.{judged_peak}
use Rattle.slot_arrive.proofs.judge_peak.Goals as goal

pub overflow_sub-words : goal.overflow_sub-words
unfolding connection_at
overflow_sub-words c = omega (arith, (bucket_facts _ _ c.requires.1).rules.C_least)

pub returns-then-words-b : goal.returns-then-words-b
unfolding connection_at judged_peak is_excess
returns-then-words-b c = ap Some c.above.ensures ∙ simp (lt-ltb _ _ c.if-words-b.true)

pub let_in-requires : goal.let_in-requires
unfolding connection_at
let_in-requires c =
    let from = c.requires in
    (from.0, from.1, c.if-words-b.false)

pub returns : goal.returns
unfolding connection_at judged_peak is_excess
returns c = c.let_in.ensures ∙ simp (le-ltb _ _ c.if-words-b.false)
