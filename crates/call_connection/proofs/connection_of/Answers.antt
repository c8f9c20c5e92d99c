-- `call_connection::connection_of` meets its contract: behind the lines that it has passed the connection's words are lent.
use Rattle.std.proofs.Common.{arith, ◌≡◌, sym, ◌∙◌, length}
use Rattle.leaf_refusal.proofs.Numbers.{held}
use Rattle.leaf_refusal.proofs.Ranges.{ranges_facts}
use borrow.Author.Tests.{eqb-true}
use Rattle.meaning.specs.Numbers.{words_in}
use Rattle.call_connection.specs.Names.{name_of}
use Rattle.call_connection.proofs.Order.{lent}
use Rattle.call_connection.proofs.connection_of.Goals as goal

pub number_of-conn-requires : goal.number_of-conn-requires
number_of-conn-requires c =
    let ranges = sym c.ranges_hold.ensures ∙ held _ _ c.in_ok-refuse_unless.ensures in
    let named = sym c.is_named.ensures ∙ held _ _ c.in_ok-refuse_unless-4.ensures in
    ((ranges_facts _ _ ranges).V_most, named)

pub connection_fits-requires : goal.connection_fits-requires
connection_fits-requires c =
    let a = c.args in
    let long : length a.words.now ≡ words_in a.ctl.v = eqb-true _ _ (held _ _ c.in_ok-refuse_unless-3.ensures) ∙ c.words_in.ensures in
    let named = sym c.is_named.ensures ∙ held _ _ c.in_ok-refuse_unless-4.ensures in
    omega (arith, c.number_of-conn.ensures, lent a.ctl a.words.now a.owner (name_of a.name) long named)
