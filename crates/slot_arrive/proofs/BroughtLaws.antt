-- Step 2 by cases, as its tests come one after the other; and the buckets of an open connection at this slot, from its words.
use Prim.Native.Nat.{ℕ, ◌*◌}
use mathlib.Core.Path.{◌≡◌, refl, sym, ◌∙◌}
use mathlib.Core.Logic.{◌≢◌}
use mathlib.Core.Bool.{Bool, true, false}
use mathlib.Core.List.{List}
use Rattle.std.specs.Prelude.{Some, None}
use Rattle.std.specs.Option.{option_map}
use native.Mathlib.Omega.{arith}
use borrow.Author.Tests.{eq-eqb, ne_eqb}
use lib.ListN.{get_or}
use Rattle.meaning.specs.Plain.{when◌then◌else◌}
use Rattle.meaning.specs.Numbers.{unused, words_per_connection}
use Rattle.meaning.specs.Bucket.{with_s, fall}
use Rattle.meaning.specs.Words.{Connection, connection_at, bucket_fits, second_in_range, buckets_fit, fallen_to}
use Rattle.mem_words.specs.Connections.{has_none}
use Rattle.mem_words.proofs.Fits.{opened_at}
use Rattle.mem_words.proofs.NoneLaws.{none_facts, none_fits}
use Rattle.slot_arrive.specs.declared.Fall.{Fall}
use Rattle.slot_arrive.specs.Arrival.{fall_of, connection_now, brought_of}
use Rattle.slot_arrive.specs.Both.{brought_both}

-- of a bucket only S falls
pub now_peak : (t : ℕ) (vc : Connection) → (connection_now t vc).bucket ≡ with_s vc.bucket (connection_now t vc).bucket.S
unfolding connection_now fallen_to fall
now_peak t vc = refl

pub now_second : (t : ℕ) (vc : Connection) → (connection_now t vc).second ≡ with_s vc.second (connection_now t vc).second.S
unfolding connection_now fallen_to fall
now_second t vc = refl

pub now_waiting : (t : ℕ) (vc : Connection) → (connection_now t vc).waiting ≡ vc.waiting
unfolding connection_now fallen_to
now_waiting t vc = refl

pub now_tag : (t : ℕ) (vc : Connection) → (connection_now t vc).tag ≡ vc.tag
unfolding connection_now fallen_to
now_tag t vc = refl

-- nothing falls out of a second bucket that is none
pub now_none : (t : ℕ) (vc : Connection) → has_none vc ≡ true → (connection_now t vc).second.S ≡ 0
unfolding connection_now fallen_to fall
now_none t vc e = omega (arith, (none_facts vc e).S_is)

-- what may be found, found within a yes
within_yes : (b : Bool) (x : Fall) → option_map Some (when b then Some x else None) ≡ (when b then Some (Some x) else None)
within_yes true x = refl
within_yes false x = refl

module _ (N z t : ℕ) (words : List ℕ) (vci : ℕ) where
  abbrev vc : Connection
  vc = connection_at words vci

  pub brought_unused : unused z vci ≡ true → Some None ≡ brought_of N z t words vci
  unfolding brought_of
  brought_unused e = rw e

  pub brought_closed : unused z vci ≡ false → get_or words (words_per_connection * vci) 0 ≡ 0 → Some None ≡ brought_of N z t words vci
  unfolding brought_of
  brought_closed ne o = simp (ne, eq-eqb _ _ (opened_at words vci ∙ o))

  -- with the peak bucket in range, the second one decides
  pub brought_both_lem : (s : ℕ) → unused z vci ≡ false → get_or words (words_per_connection * vci) 0 ≡ 1 → bucket_fits N vc.bucket ≡ true
      → s ≡ (connection_now t vc).bucket.S
      → option_map Some (brought_both t vc s) ≡ brought_of N z t words vci
  unfolding brought_of brought_both buckets_fit
  brought_both_lem s ne o fits e = simp (ne, opened_at words vci ∙ o, fits) (rw e (within_yes (second_in_range vc.second vc.tag) _))

  pub brought_none : (s : ℕ) → has_none vc ≡ true → Some (fall_of s 0) ≡ brought_both t vc s
  unfolding brought_both
  brought_none s e = rw (none_fits vc (none_facts vc e), now_none t vc e)

  pub brought_unfit : unused z vci ≡ false → get_or words (words_per_connection * vci) 0 ≡ 1 → bucket_fits N vc.bucket ≡ false
      → None ≡ brought_of N z t words vci
  unfolding brought_of buckets_fit
  brought_unfit ne o fits = simp (ne, opened_at words vci ∙ o, fits)

  pub brought_other : unused z vci ≡ false → get_or words (words_per_connection * vci) 0 ≢ 0 → get_or words (words_per_connection * vci) 0 ≢ 1
      → None ≡ brought_of N z t words vci
  unfolding brought_of
  brought_other ne o₀ o₁ =
      simp (
        ne,
        ne_eqb (connection_at words vci).opened 0 (λ e. o₀ (sym (opened_at words vci) ∙ e)),
        ne_eqb (connection_at words vci).opened 1 (λ e. o₁ (sym (opened_at words vci) ∙ e)),
      )
