-- The header check in front of a slot, whatever space x a cell takes: what it lets through is nothing or a cell, so the slot is document 01's over that,
-- with the mode moved and the verdict told. A policer that is not raw serves as before.
use Prim.Native.Nat.{ℕ, ◌-◌, ◌/◌, ◌%◌, ◌^◌, ◌≤◌}
use mathlib.Core.Path.{◌≡◌, refl}
use mathlib.Core.Logic.{◌≢◌}
use mathlib.Core.Bool.{Bool, true, false, cond, ◌&&◌, ◌||◌}
use mathlib.Core.List.{List, []}
use native.Mathlib.Omega.{arith}
use borrow.Author.Tests.{eq-eqb, eqb-false, le-leb}
use lib.Dec.{eqb, ltb, leb}
use lib.Bits.{bit_xor}
use lib.ListN.{length, get_or, length-set}
use Rattle.base_hec.specs.Check.{syndrome_of}
use Rattle.base_hec.specs.WrongBit.{no_error, wrong_bit, flipped}
use Rattle.base_hec.specs.Modes.{correction, detection, Arriving, passes, drops, checked, arriving, arriving_fits}
use Rattle.meaning.specs.Plain.{◌=?◌, Out, refused, next, ◌and_then◌}
use Rattle.meaning.specs.Numbers.{ranges_hold, octets}
use Rattle.meaning.specs.State.{State, sizes_hold, with_record, record_in_mode, with_mode}
use Rattle.meaning.specs.Work.{Work, work_of, bare_answer}
use Rattle.meaning.specs.Slot.{five_steps, finish, unchecked_slot_at, told, slot_at}

-- no cell, or one of 53 octets
abbrev pub is_lent : List ℕ → Bool
is_lent cell = length cell =? 0 || length cell =? octets

or_true : (b : Bool) → b || true ≡ true
or_true true = refl
or_true false = refl

-- ── a policer that is not raw, and a slot that is lent no cell ──
pub arriving_plain : (raw mode : ℕ) (cell : List ℕ) → raw ≡ 0 → arriving raw mode cell ≡ passes cell mode
unfolding arriving
arriving_plain raw mode cell e = rw (eq-eqb raw 0 e, or_true (eqb (length cell) 0))

pub fits_plain : (raw mode : ℕ) (cell : List ℕ) → raw ≡ 0 → arriving_fits raw mode cell ≡ true
unfolding arriving_fits
fits_plain raw mode cell e = rw (eq-eqb raw 0 e, or_true (eqb (length cell) 0))

pub arriving_none : (raw mode : ℕ) (cell : List ℕ) → length cell ≡ 0 → arriving raw mode cell ≡ passes cell mode
unfolding arriving
arriving_none raw mode cell e = rw (eq-eqb (length cell) 0 e)

pub fits_none : (raw mode : ℕ) (cell : List ℕ) → length cell ≡ 0 → arriving_fits raw mode cell ≡ true
unfolding arriving_fits
fits_none raw mode cell e = rw (eq-eqb (length cell) 0 e)

then_next : {A : Type 0} (x : Out A) → (x and_then λ a. next a) ≡ x
then_next refused = refl
then_next (next a) = refl

-- "A policer that is not raw behaves octet for octet as before"
pub not_raw : (x : ℕ) (s : State) (cell : List ℕ) → s.ctl.raw ≡ 0 → slot_at x s cell ≡ unchecked_slot_at x s cell
unfolding slot_at unchecked_slot_at with_mode with_record record_in_mode
not_raw x s cell e =
    rw (
      arriving_plain s.ctl.raw s.ctl.mode cell e,
      fits_plain s.ctl.raw s.ctl.mode cell e,
      then_next (five_steps x cell (work_of s (bare_answer 0))),
    )

-- nor does a slot that is lent no cell look at a header
pub none_lent : (x : ℕ) (s : State) (cell : List ℕ) → length cell ≡ 0 → slot_at x s cell ≡ unchecked_slot_at x s cell
unfolding slot_at unchecked_slot_at with_mode with_record record_in_mode
none_lent x s cell e =
    rw (
      arriving_none s.ctl.raw s.ctl.mode cell e,
      fits_none s.ctl.raw s.ctl.mode cell e,
      then_next (five_steps x cell (work_of s (bare_answer 0))),
    )

-- ── what the check lets through ──
-- an answer of the check: as it was lent or mended, or dropped
pub data Through (cell : List ℕ) : Arriving → Type 0 where
  kept : (mode : ℕ) → Through cell (passes cell mode)
  mended : (bit : ℕ) → Through cell (passes (flipped bit cell) detection)
  gone : Through cell (drops detection)

through_by : (a b c : Bool) (mode bit : ℕ) (cell : List ℕ)
    → Through cell (cond a (passes cell mode) (cond b (passes cell correction) (cond c (passes (flipped bit cell) detection) (drops detection))))
through_by true b c mode bit cell = kept mode
through_by false true c mode bit cell = kept correction
through_by false false true mode bit cell = mended bit
through_by false false false mode bit cell = gone

pub through : (raw mode : ℕ) (cell : List ℕ) → Through cell (arriving raw mode cell)
unfolding arriving checked
through raw mode cell =
    let bit = wrong_bit (syndrome_of cell) in
    through_by (eqb (length cell) 0 || eqb raw 0) (eqb bit no_error) (eqb mode correction && ltb bit no_error) mode bit cell

flipped_length : (bit : ℕ) (cell : List ℕ) → length (flipped bit cell) ≡ length cell
unfolding flipped
flipped_length bit cell = length-set cell (bit / 8) (bit_xor (get_or cell (bit / 8) 0) (2 ^ (7 - bit % 8)))

-- nothing, or 53 octets
lent_by : (cell : List ℕ) (a : Arriving) → Through cell a → is_lent cell ≡ true → is_lent a.cell ≡ true
lent_by cell _ (kept mode) e = e
lent_by cell _ (mended bit) e = rw (flipped_length bit cell) e
lent_by cell _ gone e = refl

pub through_lent : (raw mode : ℕ) (cell : List ℕ) → is_lent cell ≡ true → is_lent (arriving raw mode cell).cell ≡ true
through_lent raw mode cell e = lent_by cell (arriving raw mode cell) (through raw mode cell) e

-- the mode stays 0 or 1
mode_by : (a b c : Bool) (mode bit : ℕ) (cell : List ℕ) → mode ≤ 1
    → (cond a (passes cell mode) (cond b (passes cell correction) (cond c (passes (flipped bit cell) detection) (drops detection)))).mode ≤ 1
mode_by true b c mode bit cell h = h
mode_by false true c mode bit cell h = omega arith
mode_by false false true mode bit cell h = omega arith
mode_by false false false mode bit cell h = omega arith

pub mode_low : (raw mode : ℕ) (cell : List ℕ) → mode ≤ 1 → (arriving raw mode cell).mode ≤ 1
unfolding arriving checked
mode_low raw mode cell h =
    let bit = wrong_bit (syndrome_of cell) in
    mode_by (eqb (length cell) 0 || eqb raw 0) (eqb bit no_error) (eqb mode correction && ltb bit no_error) mode bit cell h

-- a dropped cell leaves nothing
dropped_by : (cell : List ℕ) (a : Arriving) → Through cell a → a.dropped ≡ true → a.cell ≡ []
dropped_by cell _ (kept mode) e = absurd (let z : ◌≡◌ {A = ℕ} 0 1 = cc in omega arith)
dropped_by cell _ (mended bit) e = absurd (let z : ◌≡◌ {A = ℕ} 0 1 = cc in omega arith)
dropped_by cell _ gone e = refl

pub dropped_none : (raw mode : ℕ) (cell : List ℕ) → (arriving raw mode cell).dropped ≡ true → (arriving raw mode cell).cell ≡ []
dropped_none raw mode cell e = dropped_by cell (arriving raw mode cell) (through raw mode cell) e

-- what is read is in its range where raw and mode are
fits_by : (a : Bool) (raw mode : ℕ) → raw ≤ 1 → mode ≤ 1 → a || eqb raw 0 || (eqb raw 1 && leb mode detection) ≡ true
fits_by true raw mode r m = refl
fits_by false raw mode r m = go (eqb raw 0) (eqb raw 1) refl refl
  where
    go : (x y : Bool) → eqb raw 0 ≡ x → eqb raw 1 ≡ y → eqb raw 0 || (eqb raw 1 && leb mode detection) ≡ true
    go true y e f = rw e
    go false true e f = rw (e, f, le-leb mode detection m)
    go false false e f =
        let p : raw ≢ 0 = eqb-false raw 0 e in
        let q : raw ≢ 1 = eqb-false raw 1 f in
        absurd (omega (arith, p, q, r))

pub fits_low : (raw mode : ℕ) (cell : List ℕ) → raw ≤ 1 → mode ≤ 1 → arriving_fits raw mode cell ≡ true
unfolding arriving_fits
fits_low raw mode cell r m = fits_by (eqb (length cell) 0) raw mode r m

-- ── the slot by document 01's ──
-- nine, one or two: as document 01 has it
pub unlent : (x : ℕ) (s : State) (cell : List ℕ) → is_lent cell ≡ false → slot_at x s cell ≡ unchecked_slot_at x s cell
unfolding slot_at unchecked_slot_at
unlent x s cell e = rw e

finished : (s s' : State) (x : Out Work) (f : Work → Work) → (finish s' x).answer.number ≡ 0
    → finish s (x and_then λ v. next (f v)) ≡ f (finish s' x)
unfolding finish
finished s s' refused f e = absurd (omega arith)
finished s s' (next w) f e = refl

-- a slot that is served: document 01's slot over what the check lets through, in the mode that it leads to
module _ (x : ℕ) (s : State) (cell : List ℕ) where
  abbrev N : ℕ
  N = s.ctl.n

  abbrev z : ℕ
  z = s.ctl.v

  abbrev a : Arriving
  a = arriving s.ctl.raw s.ctl.mode cell

  abbrev pub after : Work
  after = unchecked_slot_at x (with_mode s a.mode) a.cell

  served_by : (p q : Bool) → ranges_hold N z ≡ p → sizes_hold s ≡ q
      → is_lent cell ≡ true → arriving_fits s.ctl.raw s.ctl.mode cell ≡ true
      → after.answer.number ≡ 0 → slot_at x s cell ≡ told a.dropped after
  unfolding slot_at unchecked_slot_at with_mode with_record record_in_mode
  served_by false q e f lent fits n = absurd (omega (arith, (rw e at n)))
  served_by true false e f lent fits n = absurd (omega (arith, (rw (e, f) at n)))
  served_by true true e f lent fits n =
      let l = through_lent s.ctl.raw s.ctl.mode cell lent in
      rw (e, f, lent, fits, l)
      (finished s (with_mode s a.mode) (five_steps x a.cell (work_of (with_mode s a.mode) (bare_answer 0)))
      (told a.dropped) (rw (e, f, l) at n))

  pub served_is : is_lent cell ≡ true → arriving_fits s.ctl.raw s.ctl.mode cell ≡ true → after.answer.number ≡ 0
      → slot_at x s cell ≡ told a.dropped after
  served_is =
      served_by (ranges_hold N z) (sizes_hold s) refl refl
