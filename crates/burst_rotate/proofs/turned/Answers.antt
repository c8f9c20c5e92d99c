-- `burst_rotate::turned` meets its contract: case by case, in the order of its tests.
use mathlib.Core.Path.{refl, sym, ◌∙◌, ap}
use Rattle.std.specs.Prelude.{Some}
use Rattle.std.specs.Option.{option_map}
use Rattle.meaning.specs.Words.{connection_at}
use Rattle.mem_words.proofs.Fits.{bucket_facts}
use Rattle.slot_arrive.proofs.BroughtLaws.{brought_both_lem, brought_other}
use Rattle.burst_rotate.proofs.TurnLaws.{turned_closed, used, turned_bare, turned_fits, turned_broken, turned_above}
use borrow.Author.Rules.{rules}
use Rattle.burst_rotate.proofs.turned.Goals as goal

pub returns-then-o-eq0 : goal.returns-then-o-eq0
returns-then-o-eq0 c =
    let a = c.args in
    turned_closed a.w.n a.w.v a.w.t a.words.now a.w.rotation c.if-o-eq0.true

pub returns-then-words-b-eq0-2 : goal.returns-then-words-b-eq0-2
unfolding connection_at
returns-then-words-b-eq0-2 c =
    let a = c.args in
    turned_bare a.w.n a.w.v a.w.t a.words.now a.w.rotation (used _ _ a.words.now c.requires.n_le_most_n.2 c.if-o-eq0.false)
    c.if-o-eq1.true (sym c.obeys_rules.ensures ∙ c.if-obeys_rules.true) c.if-words-b-eq0.true c.if-words-b-eq0-2.true

pub bring_at-requires : goal.bring_at-requires
unfolding connection_at
bring_at-requires c =
    let a = c.args in
    let fits = turned_fits a.w.n a.w.v a.w.t a.words.now a.w.rotation (sym c.obeys_rules.ensures ∙ c.if-obeys_rules.true) c.if-words-b.true in
    record { b_value = (refl, c.requires.n_le_most_n.1, search rules); rotation_bound = (bucket_facts _ _ fits).rules.m_low }

pub returns-in_err-fall : goal.returns-in_err-fall
unfolding connection_at
returns-in_err-fall c =
    let a = c.args in
    let fits = turned_fits a.w.n a.w.v a.w.t a.words.now a.w.rotation (sym c.obeys_rules.ensures ∙ c.if-obeys_rules.true) c.if-words-b.true in
    c.from_residual.ensures
    ∙ ap (option_map Some) (sym c.in_err-fall.was ∙ c.bring_at.ensures)
    ∙ brought_both_lem a.w.n a.w.v a.w.t a.words.now a.w.rotation _ (used _ _ a.words.now c.requires.n_le_most_n.2 c.if-o-eq0.false)
    c.if-o-eq1.true fits refl

pub returns-then-words-b : goal.returns-then-words-b
unfolding connection_at
returns-then-words-b c =
    let a = c.args in
    let fits = turned_fits a.w.n a.w.v a.w.t a.words.now a.w.rotation (sym c.obeys_rules.ensures ∙ c.if-obeys_rules.true) c.if-words-b.true in
    ap (option_map Some) c.in_ok-fall.ensures
    ∙ brought_both_lem a.w.n a.w.v a.w.t a.words.now a.w.rotation _ (used _ _ a.words.now c.requires.n_le_most_n.2 c.if-o-eq0.false)
    c.if-o-eq1.true fits refl

pub returns-else-words-b : goal.returns-else-words-b
unfolding connection_at
returns-else-words-b c =
    let a = c.args in
    turned_above a.w.n a.w.v a.w.t a.words.now a.w.rotation (used _ _ a.words.now c.requires.n_le_most_n.2 c.if-o-eq0.false)
    c.if-o-eq1.true (sym c.obeys_rules.ensures ∙ c.if-obeys_rules.true) c.if-words-b.false

pub returns-else-obeys_rules : goal.returns-else-obeys_rules
unfolding connection_at
returns-else-obeys_rules c =
    let a = c.args in
    turned_broken a.w.n a.w.v a.w.t a.words.now a.w.rotation (used _ _ a.words.now c.requires.n_le_most_n.2 c.if-o-eq0.false)
    c.if-o-eq1.true (sym c.obeys_rules.ensures ∙ c.if-obeys_rules.false)

pub returns-else-o-eq1 : goal.returns-else-o-eq1
returns-else-o-eq1 c =
    let a = c.args in
    brought_other a.w.n a.w.v a.w.t a.words.now a.w.rotation (used _ _ a.words.now c.requires.n_le_most_n.2 c.if-o-eq0.false) c.if-o-eq0.false c.if-o-eq1.false
