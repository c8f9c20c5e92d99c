-- `call_connection::close` meets its contract: the refusals in their order, and where none is given words of 0.
use Rattle.std.proofs.Common.{arith, sym, ◌∙◌, ap, ℕ, List}
use Rattle.meaning.specs.Words.{closed_connection}
use Rattle.meaning.specs.Calls.{called_of}
use Rattle.leaf_refusal.proofs.Numbers.{never_0, held, not_held, passed_on}
use Rattle.call_connection.specs.Names.{name_of}
use Rattle.call_connection.proofs.Order.{shared_lent, shared_m}
use Rattle.call_connection.proofs.Later.{open_at, closed_at, close_shared, close_closed, close_not_yet, close_done}
use Rattle.call_connection.proofs.close.Goals as goal

pub returns-in_err-closing : goal.returns-in_err-closing
returns-in_err-closing c =
    let a = c.args in
    let e = c.in_err-closing.ensures.refused in
    ap (λ (k : ℕ). called_of k a.words.now) (passed_on _ _ c.from_residual.ensures.1 ∙ e)
    ∙ close_shared a.ctl a.words.now a.owner (name_of a.name) (λ z. never_0 _ (e ∙ z))

pub bounds-words-from : goal.bounds-words-from
bounds-words-from c =
    let a = c.args in
    let f = c.in_ok-closing.ensures.found in
    omega (arith, f.0, c.from.ensures, shared_lent a.ctl a.words.now a.owner (name_of a.name) f.1)

pub returns-in_err-refuse_unless : goal.returns-in_err-refuse_unless
returns-in_err-refuse_unless c =
    let a = c.args in
    let f = c.in_ok-closing.ensures.found in
    let n = not_held _ _ _ c.in_err-refuse_unless.ensures in
    ap (λ (k : ℕ). called_of k a.words.now) (passed_on _ _ c.from_residual-in_err-refuse_unless.ensures.1 ∙ n.1)
    ∙ close_closed a.ctl a.words.now a.owner (name_of a.name) c.in_ok-closing.closing f.0 f.1
    (closed_at a.words.now c.from.result c.in_ok-closing.closing c.from.ensures n.0)

pub not_yet-requires : goal.not_yet-requires
not_yet-requires c =
    let a = c.args in
    let f = c.in_ok-closing.ensures.found in
    let o = open_at a.words.now c.from.result c.in_ok-closing.closing c.from.ensures (held _ _ c.in_ok-refuse_unless.ensures) in (
      omega (arith, f.0, shared_lent a.ctl a.words.now a.owner (name_of a.name) f.1),
      shared_m a.ctl a.words.now a.owner (name_of a.name) c.in_ok-closing.closing f.0 f.1 o,
    )

pub returns-in_err-not_yet : goal.returns-in_err-not_yet
returns-in_err-not_yet c =
    let a = c.args in
    let f = c.in_ok-closing.ensures.found in
    let o = open_at a.words.now c.from.result c.in_ok-closing.closing c.from.ensures (held _ _ c.in_ok-refuse_unless.ensures) in
    let e = c.in_err-not_yet.ensures in
    ap (λ (k : ℕ). called_of k a.words.now) (passed_on _ _ c.from_residual-in_err-not_yet.ensures.1 ∙ e)
    ∙ close_not_yet a.ctl a.words.now a.owner (name_of a.name) c.in_ok-closing.closing f.0 f.1 o (λ z. never_0 _ (e ∙ z))

pub write_connection-requires : goal.write_connection-requires
write_connection-requires c =
    let a = c.args in
    let f = c.in_ok-closing.ensures.found in
    omega (arith, f.0, shared_lent a.ctl a.words.now a.owner (name_of a.name) f.1)

pub returns : goal.returns
unfolding closed_connection
returns c =
    let a = c.args in
    let f = c.in_ok-closing.ensures.found in
    let o = open_at a.words.now c.from.result c.in_ok-closing.closing c.from.ensures (held _ _ c.in_ok-refuse_unless.ensures) in
    ap (λ (w : List ℕ). called_of 0 w) c.write_connection.ensures
    ∙ close_done a.ctl a.words.now a.owner (name_of a.name) c.in_ok-closing.closing f.0 f.1 o (sym c.in_ok-not_yet.ensures)
