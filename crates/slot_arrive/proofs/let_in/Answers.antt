-- `slot_arrive::let_in` meets its contract: waiting is judged, D is below N.
use Rattle.meaning.specs.Words.{connection_at}
use mathlib.Core.Path.{sym}
use native.Mathlib.Omega.{arith}
use Rattle.mem_words.proofs.Fits.{bucket_facts}
use borrow.Author.Tests.{lt-ltb, le-ltb}
use Rattle.meaning.specs.Bucket.{delay, fill}
use Rattle.slot_arrive.specs.Both.{let_in_as}
use Rattle.slot_arrive.proofs.JudgedLaws.{delay_below, room_low}
use Rattle.slot_arrive.proofs.let_in.Goals as goal

pub overflow_add-full-then-waiting-n : goal.overflow_add-full-then-waiting-n
unfolding connection_at
overflow_add-full-then-waiting-n c =
    let from = c.before in
    let rules = (bucket_facts _ _ from.requires.1).rules in
    omega (arith, from.requires.2, rules.F_most, room_low from.args.n _ _ rules.m_low (omega arith) rules.delay_low)

pub delay_of-d-requires : goal.delay_of-d-requires
unfolding connection_at
delay_of-d-requires c = (bucket_facts _ _ c.requires.1).rules.m_low

pub overflow_cast-d : goal.overflow_cast-d
unfolding connection_at
overflow_cast-d c =
    let from = c.requires in
    omega (arith, delay_below _ _ _ _ from.2 (bucket_facts _ _ from.1).rules.delay_low, c.delay_of-d.ensures)

pub returns-then-waiting-n : goal.returns-then-waiting-n
unfolding connection_at let_in_as delay fill
returns-then-waiting-n c = simp (lt-ltb _ _ c.if-waiting-n.true, sym c.delay_of-d.ensures)

pub returns : goal.returns
unfolding connection_at let_in_as
returns c = simp (le-ltb _ _ c.if-waiting-n.false)
