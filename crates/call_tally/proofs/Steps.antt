-- The step of a call: its bin is one of the 64; it adds a cell only to a tally that fits and isn't full; and adding what it says to
-- its bin and to the number is the call's own definition.
use Rattle.std.proofs.Common.{◌≡◌, ℕ, zero, suc, ◌+◌, ◌^◌, ◌<◌, Bool, true, false, not, List, length, get_or, set, refl, ap, ◌∙◌, ap₂, add-zero, arith, ne_eqb}
use lib.Seq.{set-get_or}
use borrow.Author.Tests.{eqb-false}
use Rattle.meaning.specs.Plain.{when◌then◌else◌, ◌=?◌}
use Rattle.meaning.specs.Bucket.{elapsed}
use Rattle.meaning.specs.declared.Record.{Record}
use Rattle.call_tally.specs.declared.Tally.{Tally}
use Rattle.call_tally.specs.declared.Tallied.{Tallied}
use Rattle.call_tally.specs.Tally.{tally_of, tallied_of, bins_in, bin_of, most_cells, tally_fits, tally_refusal, tally_one, tally_slot}
use Rattle.call_tally.specs.Step.{Step, step_to, step_of}
use Rattle.call_tally.proofs.Sums.{at_most_sum}
use Rattle.call_tally.proofs.Cases.{fits_facts, not_refused}

-- no cell more, or one where the tally fits and isn't full
pub data More (bins : List ℕ) (cells : ℕ) : ℕ → Type 0 where
  none : More bins cells 0
  one : tally_fits bins cells ≡ true → (cells ≡ most_cells → ⊥) → More bins cells 1

pub record Stepped (bins : List ℕ) (cells : ℕ) (s : Step) : Type 0 where
  pub in_bins : s.bin < bins_in
  pub adds : More bins cells s.more

abbrev pub moved : Tally → Step → Tallied
moved t s = tallied_of s.number (tally_of (set t.bins s.bin (get_or t.bins s.bin 0 + s.more)) (t.cells + s.more))

-- none more leaves a tally as it is
pub stays_so : (t : Tally) (number : ℕ) → moved t (step_to number 0 0) ≡ tallied_of number t
stays_so t number =
    ap₂ (λ (bins : List ℕ) (cells : ℕ). tallied_of number (tally_of bins cells))
    (ap (λ (v : ℕ). set t.bins 0 v) (add-zero (get_or t.bins 0 0)) ∙ set-get_or t.bins 0 0) (add-zero t.cells)

module _ (t : Tally) (r : Record) (arrived : List ℕ) (c x o : ℕ) where
  pub stepped : Stepped t.bins t.cells (step_of t.bins t.cells r arrived c x o)
  unfolding step_of
  stepped = go (tally_refusal t.bins t.cells r (length arrived) c x o) refl (o =? c) (t.cells =? most_cells) refl
    where
      at : ℕ → Bool → Bool → Step
      at k b full =
          when not (k =? 0) then step_to k 0 0
          else when not b then step_to 0 0 0
          else when full then step_to 0 0 0
          else step_to 0 (bin_of (elapsed r.t (get_or arrived x 0))) 1

      go : (k : ℕ) → tally_refusal t.bins t.cells r (length arrived) c x o ≡ k
          → (b full : Bool) → (t.cells =? most_cells) ≡ full → Stepped t.bins t.cells (at k b full)
      go (suc k) e b full f =
          rw (ne_eqb (suc k) 0 (λ z. omega (arith, z))) (record { in_bins = omega arith; adds = none })
      go zero e false full f = record { in_bins = omega arith; adds = none }
      go zero e true true f = record { in_bins = omega arith; adds = none }
      go zero e true false f =
          record {
            in_bins = omega arith;
            adds = one (not_refused t.bins t.cells r (length arrived) c x o e).fits (eqb-false t.cells most_cells f);
          }

  pub moved_is : moved t (step_of t.bins t.cells r arrived c x o) ≡ tally_slot t r arrived c x o
  unfolding step_of tally_slot tally_one
  moved_is = go (tally_refusal t.bins t.cells r (length arrived) c x o =? 0) (o =? c) (t.cells =? most_cells)
    where
      number : ℕ
      number = tally_refusal t.bins t.cells r (length arrived) c x o

      d : ℕ
      d = elapsed r.t (get_or arrived x 0)

      go : (z b full : Bool)
          → moved t (when not z then step_to number 0 0 else when not b then step_to 0 0 0 else when full then step_to 0 0 0 else step_to 0 (bin_of d) 1)
          ≡ (when not z then tallied_of number t else when not b then tallied_of 0 t
          else tallied_of 0 (when full then t else tally_of (set t.bins (bin_of d) (get_or t.bins (bin_of d) 0 + 1)) (t.cells + 1)))
      go false b full = stays_so t number
      go true false full = stays_so t 0
      go true true true = stays_so t 0
      go true true false = refl

-- neither the bin nor the number wraps
module _ (bins : List ℕ) (cells : ℕ) where
  low : most_cells ≡ 2 ^ 32
  unfolding most_cells
  low = refl

  pub bin_fits : {m : ℕ} (k : ℕ) → More bins cells m → get_or bins k 0 < 2 ^ 64 → get_or bins k 0 + m < 2 ^ 64
  bin_fits k none h = omega (arith, h)
  bin_fits k (one f n) h =
      let t = fits_facts bins cells f in omega (arith, low, t.0, t.1, at_most_sum bins k)

  pub cells_fit : {m : ℕ} → More bins cells m → cells < 2 ^ 64 → cells + m < 2 ^ 64
  cells_fit none h = omega (arith, h)
  cells_fit (one f n) h = omega (arith, low, (fits_facts bins cells f).0)
