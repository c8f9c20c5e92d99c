-- `leaf_bucket::obeys_second` meets its contract: with F 0 there is none or it is against the limits; else each has its own limit.
use Rattle.std.proofs.Common.{arith, rules}
use Rattle.leaf_bucket.proofs.SecondRules.{none_last, none_stop, some_last, some_stop, too_many}
use Rattle.leaf_bucket.proofs.obeys_second.Goals as goal

pub returns-then-c-eq0 : goal.returns-then-c-eq0
returns-then-c-eq0 c =
    let a = c.args in
    none_last a.m a.f a.c a.tag c.in-0.is c.if-c-eq0.true.0 c.if-c-eq0.true.1

pub returns-else-c-eq0 : goal.returns-else-c-eq0
returns-else-c-eq0 c =
    let a = c.args in
    none_stop a.m a.f a.c a.tag _ c.in-0.is (search rules) c.if-c-eq0.either

pub returns-then-c-le1073741824 : goal.returns-then-c-le1073741824
returns-then-c-le1073741824 c =
    let a = c.args in
    let t = c.if-c-le1073741824.true in
    some_last a.m a.f a.c a.tag (omega arith) (omega arith) t.0 t.1 t.2

pub returns-else-c-le1073741824 : goal.returns-else-c-le1073741824
returns-else-c-le1073741824 c =
    let a = c.args in
    some_stop a.m a.f a.c a.tag _ (omega arith) (omega arith) (search rules) c.if-c-le1073741824.either

pub returns-in_default : goal.returns-in_default
returns-in_default c =
    let a = c.args in
    too_many a.m a.f a.c a.tag (omega arith)
