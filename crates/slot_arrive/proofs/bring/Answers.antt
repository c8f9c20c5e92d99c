-- `slot_arrive::bring` meets its contract: case by case, in the order of its tests.
use mathlib.Core.Path.{sym, ◌∙◌, ap}
use Rattle.std.specs.Prelude.{Some}
use Rattle.std.specs.Option.{option_map}
use Rattle.meaning.proofs.NamesLaws.{used_is, unused_0, unused_z}
use Rattle.mem_words.proofs.Fits.{bucket_facts}
use Rattle.slot_arrive.proofs.BroughtLaws.{brought_unused, brought_closed, brought_both_lem, brought_none, brought_unfit, brought_other}
use Rattle.slot_arrive.proofs.bring.Goals as goal

pub returns-then-vci-eq0 : goal.returns-then-vci-eq0
returns-then-vci-eq0 c =
    let a = c.args in
    brought_unused a.n a.v a.t a.words.now a.vci (unused_0 a.v a.vci c.if-vci-eq0.true)

pub returns-then-vci-v : goal.returns-then-vci-v
returns-then-vci-v c =
    let a = c.args in
    brought_unused a.n a.v a.t a.words.now a.vci (unused_z a.v a.vci c.if-vci-v.true)

pub returns-then-o-eq0 : goal.returns-then-o-eq0
returns-then-o-eq0 c =
    let used = c.before in
    let a = used.args in
    brought_closed a.n a.v a.t a.words.now a.vci (used_is a.v a.vci used.if-vci-eq0.false used.if-vci-v.false)
    c.if-o-eq0.true

pub peak_now-s-requires : goal.peak_now-s-requires
peak_now-s-requires c =
    (c.requires, (bucket_facts _ _ (sym c.bucket_fits.ensures ∙ c.if-bucket_fits.true)).rules.m_low)

pub returns-then-none_second : goal.returns-then-none_second
returns-then-none_second c =
    let fits = c.before in
    let used = fits.before in
    let a = used.args in
    ap (option_map Some) (brought_none a.n a.v a.t a.words.now a.vci _ (sym c.none_second.ensures ∙ c.if-none_second.true))
    ∙ brought_both_lem a.n a.v a.t a.words.now a.vci _ (used_is a.v a.vci used.if-vci-eq0.false used.if-vci-v.false)
    fits.if-o-eq1.true (sym fits.bucket_fits.ensures ∙ fits.if-bucket_fits.true) c.peak_now-s.ensures

-- what `bring_both` found, of a connection whose peak bucket is in range
pub returns-in_err-both : goal.returns-in_err-both
returns-in_err-both c =
    let fits = c.before in
    let used = fits.before in
    let a = used.args in
    c.from_residual.ensures
    ∙ ap (option_map Some) (sym c.in_err-both.was ∙ c.bring_both.ensures)
    ∙ brought_both_lem a.n a.v a.t a.words.now a.vci _ (used_is a.v a.vci used.if-vci-eq0.false used.if-vci-v.false)
    fits.if-o-eq1.true (sym fits.bucket_fits.ensures ∙ fits.if-bucket_fits.true) c.peak_now-s.ensures

pub returns-then-bucket_fits : goal.returns-then-bucket_fits
returns-then-bucket_fits c =
    let fits = c.before in
    let used = fits.before in
    let a = used.args in
    ap (option_map Some) c.in_ok-both.ensures
    ∙ brought_both_lem a.n a.v a.t a.words.now a.vci _ (used_is a.v a.vci used.if-vci-eq0.false used.if-vci-v.false)
    fits.if-o-eq1.true (sym fits.bucket_fits.ensures ∙ fits.if-bucket_fits.true) c.peak_now-s.ensures

pub returns-else-bucket_fits : goal.returns-else-bucket_fits
returns-else-bucket_fits c =
    let a = c.args in
    brought_unfit a.n a.v a.t a.words.now a.vci (used_is a.v a.vci c.if-vci-eq0.false c.if-vci-v.false) c.if-o-eq1.true (sym c.bucket_fits.ensures ∙ c.if-bucket_fits.false)

pub returns-else-o-eq1 : goal.returns-else-o-eq1
returns-else-o-eq1 c =
    let a = c.args in
    brought_other a.n a.v a.t a.words.now a.vci (used_is a.v a.vci c.if-vci-eq0.false c.if-vci-v.false) c.if-o-eq0.false c.if-o-eq1.false
