-- `slot_arrive::judge_connection` meets its contract: case by case, in the order of its tests.
use Rattle.meaning.specs.Words.{connection_at}
use Rattle.mem_words.proofs.Fits.{bucket_facts}
use Prim.Native.Nat.{ℕ}
use mathlib.Core.Path.{sym, ◌∙◌, ap}
use Rattle.std.specs.Prelude.{Some}
use Rattle.slot_arrive.specs.Both.{judged_both}
use Rattle.slot_arrive.proofs.BothLaws.{none_is}
use Rattle.slot_arrive.proofs.JudgedLaws.{judged_closed, judged_both_lem, judged_unfit, judged_other}
use Rattle.slot_arrive.proofs.judge_connection.Goals as goal

pub returns-then-o-eq0 : goal.returns-then-o-eq0
returns-then-o-eq0 c = let a = c.args in ap Some c.no_connection.ensures ∙ judged_closed a.n a.t a.words.now _ a.vci _ c.if-o-eq0.true

pub peak_now-s-requires : goal.peak_now-s-requires
peak_now-s-requires c = (c.requires.0, (bucket_facts _ _ (sym c.bucket_fits.ensures ∙ c.if-bucket_fits.true)).rules.m_low)

pub judge_peak-requires : goal.judge_peak-requires
judge_peak-requires c = let fits = c.before in (fits.requires.0, sym fits.bucket_fits.ensures ∙ fits.if-bucket_fits.true)

pub returns-then-none_second : goal.returns-then-none_second
returns-then-none_second c =
    let fits = c.before in
    let a = fits.args in
    c.judge_peak.ensures
    ∙ none_is a.n a.t a.vci _ _ (connection_at a.words.now a.vci) (sym c.none_second.ensures ∙ c.if-none_second.true)
    ∙ judged_both_lem a.n a.t a.words.now _ a.vci _ _ fits.if-o-eq1.true (sym fits.bucket_fits.ensures ∙ fits.if-bucket_fits.true)
    c.peak_now-s.ensures

pub judge_both-requires : goal.judge_both-requires
judge_both-requires c = let fits = c.before in (fits.requires.0, sym fits.bucket_fits.ensures ∙ fits.if-bucket_fits.true)

pub returns-then-bucket_fits : goal.returns-then-bucket_fits
returns-then-bucket_fits c =
    let fits = c.before in
    let a = fits.args in
    c.judge_both.ensures
    ∙ ap (λ (k : ℕ). judged_both a.n a.t a.vci k c.peak_now-s.result (connection_at a.words.now a.vci)) c.clp_of-clp.ensures
    ∙ judged_both_lem a.n a.t a.words.now _ a.vci _ _ fits.if-o-eq1.true (sym fits.bucket_fits.ensures ∙ fits.if-bucket_fits.true)
    c.peak_now-s.ensures

pub returns-else-bucket_fits : goal.returns-else-bucket_fits
returns-else-bucket_fits c =
    let a = c.args in
    judged_unfit a.n a.t a.words.now _ a.vci _ c.if-o-eq1.true (sym c.bucket_fits.ensures ∙ c.if-bucket_fits.false)

pub returns-else-o-eq1 : goal.returns-else-o-eq1
returns-else-o-eq1 c =
    let a = c.args in
    judged_other a.n a.t a.words.now _ a.vci _ c.if-o-eq0.false c.if-o-eq1.false
