-- `call_burst::may_try` meets its contract: each fact is one of the tests, which all passed, and raw and mode are what the way to
-- the others says of them.
use mathlib.Core.Path.{◌≡◌, sym, ◌∙◌}
use mathlib.Core.Logic.{inl, inr}
use mathlib.Core.Bool.{true}
use Prim.Native.Nat.{◌+◌, ◌<◌}
use borrow.Author.Tests.{eqb-true, ltb-true}
use Rattle.meaning.specs.Numbers.{kind_in_range}
use Rattle.meaning.specs.Lists.{ends_fit}
use Rattle.slot_plan.specs.Plan.{output_ends}
use Rattle.slot_plan.proofs.Found.{no}
use Rattle.call_burst.specs.Way.{RawFits}
use Rattle.call_burst.proofs.may_try.Goals as goal
use Rattle.call_burst.proofs.may_try.Goals.{in-0, in-1, in_default, then-raw_fits, else-raw_fits, then-r-le1, else-r-le1, then-r, else-r, then-r-2, else-r-2}

pub returns-then-pair : goal.returns-then-pair
unfolding kind_in_range
returns-then-pair c =
    let r = c.args.r in
    let last = c.if-pair.true in
    let output : (c.if-r.value ≡ true) × (ends_fit r.n (output_ends r) ≡ true) =
    elim c.if-r-2.branch [
      | then-r-2 w ↦ (w.if-r-2.true, sym w.pair.ensures ∙ sym w.value-is ∙ last)
      | else-r-2 w ↦ no (sym w.if-r-2.false ∙ sym w.value-is ∙ last)
    ] in
    let rotation : (c.if-r-le1.value ≡ true) × (r.rotation < r.v + 256) =
    elim c.if-r.branch [
      | then-r w ↦ (w.if-r.true, ltb-true _ _ (sym w.value-is ∙ output.0))
      | else-r w ↦ no (sym w.if-r.false ∙ sym w.value-is ∙ output.0)
    ] in
    let turn : (c.if-raw_fits.value ≡ true) × (r.turn < r.n) =
    elim c.if-r-le1.branch [
      | then-r-le1 w ↦ (w.if-r-le1.true, ltb-true _ _ (sym w.value-is ∙ rotation.0))
      | else-r-le1 w ↦ no (sym w.if-r-le1.false ∙ sym w.value-is ∙ rotation.0)
    ] in
    let kind : (c.match-r.raw_fits ≡ true) × (kind_in_range r.kind ≡ true) =
    elim c.if-raw_fits.branch [
      | then-raw_fits w ↦ (w.if-raw_fits.true, sym w.value-is ∙ turn.0)
      | else-raw_fits w ↦ no (sym w.if-raw_fits.false ∙ sym w.value-is ∙ turn.0)
    ] in
    let raw : RawFits r.raw r.mode =
    elim c.match-r.branch [
      | in-0 w ↦ inl w.in-0.is
      | in-1 w ↦ inr (w.in-1.is, eqb-true _ _ (sym w.raw_fits-is ∙ kind.0))
      | in_default w ↦ no (sym w.raw_fits-is ∙ kind.0)
    ] in
    λ e. record {
      raw_fits = raw;
      kind_fits = kind.1;
      turn_low = turn.1;
      rotation_low = rotation.1;
      spaces_fit_lem = sym c.fits.ensures ∙ e;
      output_fits = output.1;
    }
