-- `mem_bits::lowest` meets its contract: at each turn the words before i are 0, so that the lowest free space is that of the words from i on.
use mathlib.Core.Path.{refl, sym, ◌∙◌}
use Rattle.meaning.specs.Bits.{lowest_free}
use Rattle.mem_bits.proofs.LowestLaws.{from_here_lem, from_next, from_none}
use Rattle.mem_bits.proofs.lowest.Goals as goal

pub loop-i-init : goal.loop-i-init
unfolding lowest_free
loop-i-init c = refl

pub returns-then-word-ne0 : goal.returns-then-word-ne0
returns-then-word-ne0 c =
    let i = c.loop-i.i in
    rw c.from.ensures (sym (from_here_lem c.args.bits.now i c.loop-i-test.true (rw c.from.ensures at c.if-word-ne0.true)) ∙ c.loop-i.invariant)

pub loop-i-preserved : goal.loop-i-preserved
loop-i-preserved c = sym (from_next c.args.bits.now c.loop-i.i c.loop-i-test.true (rw c.from.ensures at c.if-word-ne0.false)) ∙ c.loop-i.invariant

pub returns : goal.returns
returns c = sym (from_none c.args.bits.now c.loop-i.i c.loop-i.auto.i-end c.loop-i-test.false) ∙ c.loop-i.invariant
