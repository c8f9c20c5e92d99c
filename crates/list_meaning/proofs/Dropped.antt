-- "no end count includes it": an answer that tells of a dropped cell adds to none of accepted, excess and unknown.
use Prim.Native.Nat.{ℕ, ◌+◌}
use mathlib.Core.Path.{◌≡◌, refl, ap, ◌∙◌}
use mathlib.Core.Bool.{Bool, false}
use mathlib.Core.List.{List, ◌∷◌}
use native.Mathlib.Omega.{arith}
use Rattle.meaning.specs.declared.Answer.{Answer}
use Rattle.meaning.specs.Plain.{when◌then◌else◌}
use Rattle.meaning.specs.Numbers.{dropped, lets_in}
use Rattle.meaning.specs.Work.{answer_of}
use Rattle.list_meaning.specs.Listing.{many_of, is_accepted, is_excess, is_unknown}

module _ (a : Answer) (h : List Answer) where
  uncounted : (test : Answer → Bool) → test a ≡ false → many_of test (a ∷ h) ≡ many_of test h
  unfolding many_of
  uncounted test e = ap (λ (b : Bool). many_of test h + (when b then 1 else 0)) e ∙ nothing_more
    where
      nothing_more : many_of test h + 0 ≡ many_of test h
      nothing_more = omega arith

  -- a test of an answer with that verdict, which is computed
  untold : (test : Answer → Bool) → a.verdict ≡ dropped
      → test (answer_of a.number dropped a.vci a.d a.space a.departing) ≡ false
      → many_of test (a ∷ h) ≡ many_of test h
  untold test e f =
      uncounted test (ap (λ (v : ℕ). test (answer_of a.number v a.vci a.d a.space a.departing)) e ∙ f)

  pub dropped_uncounted : a.verdict ≡ dropped
      → (many_of is_accepted (a ∷ h) ≡ many_of is_accepted h)
      × (many_of is_excess (a ∷ h) ≡ many_of is_excess h)
      × (many_of is_unknown (a ∷ h) ≡ many_of is_unknown h)
  unfolding lets_in
  dropped_uncounted e = (untold is_accepted e refl, untold is_excess e refl, untold is_unknown e refl)
