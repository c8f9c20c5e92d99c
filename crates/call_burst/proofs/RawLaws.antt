-- Where the header check changes nothing: of a policer that is not raw, and of one that is raw in correction where no cell is lent
-- or its header is clean. The slot is then document 01's.
use Prim.Native.Nat.{ℕ}
use mathlib.Core.Path.{◌≡◌, refl, sym, ◌∙◌}
use mathlib.Core.Logic.{◌⊎◌, inl, inr}
use mathlib.Core.List.{List}
use native.Mathlib.Omega.{arith}
use lib.ListN.{length}
use Rattle.base_hec.specs.Check.{hec_of}
use Rattle.base_hec.specs.WrongBit.{wrong_bit}
use Rattle.base_hec.specs.Modes.{passes, checked, arriving}
use Rattle.base_hec.proofs.Syndrome.{clean_zero}
use Rattle.meaning.specs.Plain.{Out, refused, next, ◌and_then◌}
use Rattle.meaning.specs.Bits.{lowest_free}
use Rattle.meaning.specs.State.{State, with_record, record_in_mode, with_mode}
use Rattle.meaning.specs.Work.{work_of, bare_answer}
use Rattle.meaning.specs.Slot.{five_steps, unchecked_slot_at, unchecked_slot, slot_at, slot}
use Rattle.meaning.proofs.CheckedLaws.{not_raw, none_lent}
use Rattle.burst_likely.specs.Served.{Clean}
use Rattle.call_slot.proofs.Front.{arriving_raw, fits_raw}
use Rattle.call_burst.specs.Way.{RawFits}

-- what a likely way knows of what it was lent, of this size
abbrev pub Passed : ℕ → ℕ → List ℕ → Type 0
Passed raw size cell = (raw ≡ 0) ⊎ ((size ≡ 0) ⊎ Clean cell)

-- a clean header is let through as it came
checked_clean : (mode : ℕ) (cell : List ℕ) → mode ≡ 0 → Clean cell → checked mode cell ≡ passes cell mode
unfolding checked wrong_bit hec_of
checked_clean mode cell m c = rw (clean_zero cell (sym c), m)

arriving_clean : (raw mode : ℕ) (cell : List ℕ) → raw ≡ 1 → mode ≡ 0 → length cell ≡ 53 → Clean cell → arriving raw mode cell ≡ passes cell mode
arriving_clean raw mode cell e m l c = arriving_raw raw mode cell e l ∙ checked_clean mode cell m c

-- the mode stays, and nothing is dropped: what follows the five steps is nothing
then_next : {A : Type 0} (x : Out A) → (x and_then λ a. next a) ≡ x
then_next refused = refl
then_next (next a) = refl

clean_lent : (x : ℕ) (s : State) (cell : List ℕ) → s.ctl.raw ≡ 1 → s.ctl.mode ≡ 0 → length cell ≡ 53 → Clean cell
    → slot_at x s cell ≡ unchecked_slot_at x s cell
unfolding slot_at unchecked_slot_at with_mode with_record record_in_mode
clean_lent x s cell e m l c =
    rw (
      arriving_clean s.ctl.raw s.ctl.mode cell e m l c,
      fits_raw s.ctl.raw s.ctl.mode cell e (omega (arith, m)) l,
      then_next (five_steps x cell (work_of s (bare_answer 0))),
    )

-- so what is known of a slot that a likely way served is enough
pub check_passes : (s : State) (cell : List ℕ) (size : ℕ) → RawFits s.ctl.raw s.ctl.mode → Passed s.ctl.raw size cell
    → (size ≡ 0) ⊎ (size ≡ 53) → length cell ≡ size → slot s cell ≡ unchecked_slot s cell
unfolding slot unchecked_slot
check_passes s cell size (inl e) c f l = not_raw (lowest_free s.bits) s cell e
check_passes s cell size (inr r) (inl e) f l = not_raw (lowest_free s.bits) s cell e
check_passes s cell size (inr r) (inr (inl z)) f l = none_lent (lowest_free s.bits) s cell (l ∙ z)
check_passes s cell size (inr r) (inr (inr c)) (inl z) l = none_lent (lowest_free s.bits) s cell (l ∙ z)
check_passes s cell size (inr r) (inr (inr c)) (inr z) l = clean_lent (lowest_free s.bits) s cell r.0 r.1 (l ∙ z) c
