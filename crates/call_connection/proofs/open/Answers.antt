-- `call_connection::open` meets its contract: the refusals in their order, and where none is given the words of an opened connection.
use Rattle.std.proofs.Common.{arith, sym, ◌∙◌, ap, ℕ, List}
use Rattle.meaning.specs.Words.{opened_connection}
use Rattle.meaning.specs.Calls.{called_of}
use Rattle.leaf_refusal.proofs.Numbers.{never_0, passed_on}
use Rattle.call_connection.specs.Names.{name_of}
use Rattle.call_connection.specs.Rates.{second_in}
use Rattle.call_connection.proofs.Order.{shared_lent}
use Rattle.call_connection.proofs.Later.{own_at, open_shared, open_refused, open_done}
use Rattle.call_connection.proofs.open.Goals as goal

pub returns-in_err-opening : goal.returns-in_err-opening
returns-in_err-opening c =
    let a = c.args in
    let e = passed_on _ _ c.from_residual.ensures.1 ∙ c.in_err-opening.ensures.refused in
    ap (λ (k : ℕ). called_of k a.words.now) e
    ∙ open_shared a.ctl a.words.now a.owner (name_of a.name) (λ z. never_0 _ (c.in_err-opening.ensures.refused ∙ z)) a.peak.m a.peak.f a.peak.c (second_in a.second)

pub bounds-words-from : goal.bounds-words-from
bounds-words-from c =
    let a = c.args in
    let f = c.in_ok-opening.ensures.found in
    omega (arith, f.0, c.from.ensures, shared_lent a.ctl a.words.now a.owner (name_of a.name) f.1)

pub returns-in_err-own_refusal : goal.returns-in_err-own_refusal
returns-in_err-own_refusal c =
    let a = c.args in
    let f = c.in_ok-opening.ensures.found in
    let e = c.in_err-own_refusal.ensures
    ∙ own_at a.ctl.n a.words.now c.from.result c.in_ok-opening.opening a.peak.m a.peak.f a.peak.c (second_in a.second) c.from.ensures in
    ap (λ (k : ℕ). called_of k a.words.now) (passed_on _ _ c.from_residual-in_err-own_refusal.ensures.1 ∙ e)
    ∙ open_refused a.ctl a.words.now a.owner (name_of a.name) c.in_ok-opening.opening f.0 a.peak.m a.peak.f a.peak.c (second_in a.second)
    f.1 (λ z. never_0 _ (e ∙ z))

pub write_connection-requires : goal.write_connection-requires
write_connection-requires c =
    let a = c.args in
    let f = c.in_ok-opening.ensures.found in
    omega (arith, f.0, shared_lent a.ctl a.words.now a.owner (name_of a.name) f.1)

pub returns : goal.returns
unfolding opened_connection
returns c =
    let a = c.args in
    let f = c.in_ok-opening.ensures.found in
    let e = c.in_ok-own_refusal.ensures
    ∙ own_at a.ctl.n a.words.now c.from.result c.in_ok-opening.opening a.peak.m a.peak.f a.peak.c (second_in a.second) c.from.ensures in
    ap (λ (w : List ℕ). called_of 0 w) (rw (c.from-m.ensures, c.from-m2.ensures, c.from-tag.ensures) at c.write_connection.ensures)
    ∙ open_done a.ctl a.words.now a.owner (name_of a.name) c.in_ok-opening.opening f.0 a.peak.m a.peak.f a.peak.c (second_in a.second)
    f.1 (sym e)
