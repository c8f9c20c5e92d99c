-- `call_time::time` meets its contract: a refusal leaves all as it came, and otherwise a cell is judged by when it is expected.
use Rattle.std.proofs.Common.{arith, ◌<◌, sym, ap, ◌∙◌}
use Rattle.meaning.specs.Numbers.{slot_numbers}
use Rattle.meaning.specs.Bucket.{bucket_of}
use Rattle.leaf_bucket.proofs.Rules.{rules_facts}
use Rattle.leaf_refusal.proofs.Numbers.{never_0}
use Rattle.call_time.specs.Schedule.{scheduled, expected_at}
use Rattle.call_time.proofs.Cases.{good_is, timed_refused, timed_is, now_low, expected_low}
use Rattle.call_time.proofs.time.Goals as goal

pub returns-in-Err : goal.returns-in-Err
returns-in-Err c =
    let a = c.args in
    let e = c.from.ensures ∙ c.in-Err.ensures in
    timed_refused a.tat a.n a.m a.f a.c a.arrival c.from.result e (λ z. never_0 c.in-Err.why (sym c.from.ensures ∙ z))

pub parts_of-now-requires : goal.parts_of-now-requires
unfolding slot_numbers
parts_of-now-requires c =
    let a = c.args in
    let good = good_is a.tat a.n a.m a.f a.c a.arrival (sym c.in_default.ensures) in
    (good.run, (rules_facts a.n (bucket_of a.m a.f a.c 0) good.rules).m_low)

pub judge-requires : goal.judge-requires
judge-requires c =
    let a = c.args in
    let good = good_is a.tat a.n a.m a.f a.c a.arrival (sym c.in_default.ensures) in
    let r = rules_facts a.n (bucket_of a.m a.f a.c 0) good.rules in
    let low = now_low a.arrival a.m good.run r.m_low in
    let now = c.parts_of-now.ensures in
    let now_fits : c.parts_of-now.result < 281474976710656 = omega (arith, low, now) in
    (r.C_least, now_fits, expected_low a.tat a.n a.m a.f a.c a.arrival c.parts_of-now.result good now_fits c.expected.result.tat c.expected.ensures)

pub returns : goal.returns
returns c =
    let a = c.args in
    c.judge.ensures
    ∙ ap (scheduled a.f a.c a.arrival c.parts_of-now.result) c.expected.ensures
    ∙ ap (λ now. scheduled a.f a.c a.arrival now (expected_at a.tat now)) c.parts_of-now.ensures
    ∙ sym (timed_is a.tat a.n a.m a.f a.c a.arrival (sym c.in_default.ensures))
