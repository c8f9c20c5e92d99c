-- The slot with the header check in front, by the slot without it: over what the check lets through, in the mode that it
-- leads to, and back. Where raw or mode is unfit: 1, 2 or 3.
use Prim.Native.Nat.{ℕ, ◌≤◌, ◌<◌}
use mathlib.Core.Path.{◌≡◌, refl, sym, ap, ◌∙◌}
use mathlib.Core.Logic.{◌≢◌}
use mathlib.Core.Bool.{Bool, true, false, not, cond, ◌&&◌}
use mathlib.Core.List.{List, []}
use native.Mathlib.Decide.{ℕ_discrete}
use native.Mathlib.Omega.{arith}
use borrow.Author.Tests.{eqb-true, eqb-false, not-true, not-false, ne_eqb, le-leb, lt-leb}
use lib.Dec.{eqb, ltb}
use lib.ListN.{length}
use Rattle.base_hec.specs.Check.{syndrome_of}
use Rattle.base_hec.specs.WrongBit.{no_error, wrong_bit, flipped}
use Rattle.base_hec.specs.declared.Checked.{Checked}
use Rattle.base_hec.specs.declared.Checked.TheVariants.{Clean, Mended, Dropped}
use Rattle.base_hec.specs.Word.{arriving_of}
use Rattle.base_hec.specs.Modes.{correction, detection, Arriving, passes, drops, checked, arriving, arriving_fits}
use Rattle.meaning.specs.declared.Record.{Record}
use Rattle.meaning.specs.declared.Served.{Served}
use Rattle.meaning.specs.Plain.{when◌then◌else◌, ◌=?◌, Out, refused, next, ◌and_then◌}
use Rattle.meaning.specs.Numbers.{ranges_hold, octets}
use Rattle.meaning.specs.Bits.{lowest_free}
use Rattle.meaning.specs.State.{State, state_of, sizes_hold, with_record, record_in_mode, with_mode}
use Rattle.meaning.specs.Work.{Work, work_of, bare_answer}
use Rattle.meaning.specs.Slot.{five_steps, finish, unchecked_slot_at, unchecked_slot, told, slot_at, slot}
use Rattle.meaning.proofs.CheckedLaws.{is_lent, through_lent, unlent, not_raw, none_lent}
use Rattle.slot_steps.proofs.EndLaws.{AllOut, both_true, Ended, begun, five_ended}
use Rattle.call_slot.specs.Back.{is_checked, mode_after, is_dropped, served_of, told_served, back_served, back, unfit_of}

-- record and answer, and the whole work
back_work : (a b : Bool) (r : Record) (s : Served) (cells links calendar words bits arrived : List ℕ)
    → (s.answer.number =? 0) ≡ a
    → let t = when a then told_served b s else served_of r s.answer in
    work_of (state_of t.ctl cells links calendar words bits arrived) t.answer
    ≡ (when a then told b (work_of (state_of s.ctl cells links calendar words bits arrived) s.answer)
    else work_of (state_of r cells links calendar words bits arrived) s.answer)
back_work true true r s cells links calendar words bits arrived e = refl
back_work true false r s cells links calendar words bits arrived e = refl
back_work false b r s cells links calendar words bits arrived e = refl

pub back_is : (r : Record) (b : Bool) (s : Served) (S : State) (cells links calendar words bits arrived : List ℕ) → S.ctl ≡ r
    → work_of (state_of (back_served r b s).ctl cells links calendar words bits arrived) (back_served r b s).answer
    ≡ back S b (work_of (state_of s.ctl cells links calendar words bits arrived) s.answer)
unfolding back_served back with_record
back_is r b s S cells links calendar words bits arrived e = rw e (back_work (s.answer.number =? 0) b r s cells links calendar words bits arrived refl)

-- the slot without the check, in another mode, and back
pub backed : (r k : Record) (mode : ℕ) (b : Bool) (x s : Served) (cells links calendar words bits arrived cell C L K W B A : List ℕ)
    → k ≡ record_in_mode r mode → x ≡ back_served r b s
    → work_of (state_of s.ctl C L K W B A) s.answer ≡ unchecked_slot (state_of k cells links calendar words bits arrived) cell
    → work_of (state_of x.ctl C L K W B A) x.answer
    ≡ back (state_of r cells links calendar words bits arrived) b
    (unchecked_slot (state_of (record_in_mode r mode) cells links calendar words bits arrived) cell)
backed r k mode b x s cells links calendar words bits arrived cell C L K W B A e f g =
    ap (λ (y : Served). work_of (state_of y.ctl C L K W B A) y.answer) f
    ∙ back_is r b s (state_of r cells links calendar words bits arrived) C L K W B A refl
    ∙ ap (back (state_of r cells links calendar words bits arrived) b)
    (g ∙ ap (λ (q : Record). unchecked_slot (state_of q cells links calendar words bits arrived) cell) e)

-- ── by the slot without the check ──
module _ (s : State) (cell : List ℕ) where
  abbrev a : Arriving
  a = arriving s.ctl.raw s.ctl.mode cell

  abbrev s' : State
  s' = with_mode s a.mode

  ended : (x : Out Work) → AllOut (Ended s'.ctl) x
      → finish s (x and_then λ w. next (told a.dropped w)) ≡ back s a.dropped (finish s' x)
  unfolding finish back with_mode with_record record_in_mode
  ended refused h = refl
  ended (next w) h = rw h.number

  by_cases : (p q : Bool) → ranges_hold s.ctl.n s.ctl.v ≡ p
      → sizes_hold s ≡ q
      → is_lent cell ≡ true → arriving_fits s.ctl.raw s.ctl.mode cell ≡ true
      → slot s cell ≡ back s a.dropped (unchecked_slot s' a.cell)
  unfolding slot slot_at unchecked_slot unchecked_slot_at back with_mode with_record record_in_mode
  by_cases false q e f lent fits = rw e
  by_cases true false e f lent fits = rw (e, f)
  by_cases true true e f lent fits =
      rw (e, f, lent, fits, through_lent s.ctl.raw s.ctl.mode cell lent)
      (ended (five_steps (lowest_free s.bits) a.cell (work_of s' (bare_answer 0)))
      (five_ended s'.ctl (lowest_free s.bits) a.cell (work_of s' (bare_answer 0)) (begun s'.ctl s' refl)))

  pub by_unchecked : is_lent cell ≡ true → arriving_fits s.ctl.raw s.ctl.mode cell ≡ true
      → slot s cell ≡ back s a.dropped (unchecked_slot s' a.cell)
  by_unchecked =
      by_cases (ranges_hold s.ctl.n s.ctl.v)
      (sizes_hold s) refl refl

-- ── raw and mode out of range ──
pub unfit_is : (s : State) (cell : List ℕ) (x : Served) → is_lent cell ≡ true
    → arriving_fits s.ctl.raw s.ctl.mode cell ≡ false
    → x ≡ unfit_of s.ctl s.cells s.links s.calendar s.words s.bits s.arrived
    → work_of (state_of x.ctl s.cells s.links s.calendar s.words s.bits s.arrived) x.answer ≡ slot s cell
unfolding slot slot_at unfit_of finish
unfit_is s cell x lent fits e =
    rw (e, lent, fits)
    (go (ranges_hold s.ctl.n s.ctl.v)
    (sizes_hold s))
  where
    go : (p q : Bool)
        → work_of s (bare_answer (when not p then 1 else when not q then 2 else 3))
        ≡ (when not p then work_of s (bare_answer 1) else when not q then work_of s (bare_answer 2) else work_of s (bare_answer 3))
    go false q = refl
    go true false = refl
    go true true = refl

-- of a cell of 53 octets
pub lent_53 : (cell : List ℕ) → length cell ≡ 53 → is_lent cell ≡ true
lent_53 cell e = rw e

-- ── what the check of a raw policer answers ──
pub arriving_raw : (raw mode : ℕ) (cell : List ℕ) → raw ≡ 1 → length cell ≡ 53 → arriving raw mode cell ≡ checked mode cell
unfolding arriving
arriving_raw raw mode cell e l = rw (e, l)

pub fits_raw : (raw mode : ℕ) (cell : List ℕ) → raw ≡ 1 → mode ≤ 1 → length cell ≡ 53 → arriving_fits raw mode cell ≡ true
unfolding arriving_fits
fits_raw raw mode cell e m l = rw (e, l, le-leb mode 1 m)

clean_by : (a b : Bool) (bit : ℕ) (cell : List ℕ)
    → (cond a (passes cell correction) (cond b (passes (flipped bit cell) detection) (drops detection))).mode ≡ 0
    → cond a (passes cell correction) (cond b (passes (flipped bit cell) detection) (drops detection)) ≡ passes cell 0
clean_by true b bit cell e = refl
clean_by false true bit cell e = absurd (omega (arith, e))
clean_by false false bit cell e = absurd (omega (arith, e))

-- only a clean header leads to correction
pub clean_leads_back : (mode : ℕ) (cell : List ℕ) → (checked mode cell).mode ≡ 0 → checked mode cell ≡ passes cell 0
unfolding checked
clean_leads_back mode cell =
    let bit = wrong_bit (syndrome_of cell) in
    clean_by (eqb bit no_error) (eqb mode correction && ltb bit no_error) bit cell

-- what the check answers says what is let through
pub clean_is : (c : Checked) (cell : List ℕ) → c ≡ Clean
    → arriving_of c cell ≡ record { cell = cell; dropped = is_dropped c; mode = mode_after c }
clean_is c cell e = rw e refl

pub dropped_is : (c : Checked) (cell : List ℕ) → c ≡ Dropped
    → arriving_of c cell ≡ record { cell = []; dropped = is_dropped c; mode = mode_after c }
dropped_is c cell e = rw e refl

pub kept_is : (c : Checked) → (c ≡ Dropped → ⊥) → is_dropped c ≡ false
kept_is Clean n = refl
kept_is (Mended head fifth) n = refl
kept_is Dropped n = absurd (n refl)

-- a raw policer's slot, by what the check answers
pub raw_is : (r : Record) (cells links calendar words bits arrived cell : List ℕ) (w : Work) (a : Arriving) → r.raw ≡ 1 → r.mode ≤ 1
    → length cell ≡ 53 → checked r.mode cell ≡ a
    → w ≡ back (state_of r cells links calendar words bits arrived) a.dropped
    (unchecked_slot (state_of (record_in_mode r a.mode) cells links calendar words bits arrived) a.cell)
    → w ≡ slot (state_of r cells links calendar words bits arrived) cell
unfolding with_mode with_record
raw_is r cells links calendar words bits arrived cell w a e m l f g =
    let s = state_of r cells links calendar words bits arrived in
    g
    ∙ ap (λ (x : Arriving). back s x.dropped (unchecked_slot (with_mode s x.mode) x.cell))
    (sym (arriving_raw r.raw r.mode cell e l ∙ f))
    ∙ sym (by_unchecked s cell (lent_53 cell l) (fits_raw r.raw r.mode cell e m l))

pub unfit_raw : (raw mode : ℕ) (cell : List ℕ) → 1 < raw → length cell ≡ 53 → arriving_fits raw mode cell ≡ false
unfolding arriving_fits
unfit_raw raw mode cell h l =
    rw (l, ne_eqb raw 0 (λ e. omega (arith, e, h)), ne_eqb raw 1 (λ e. omega (arith, e, h)))

pub unfit_mode : (raw mode : ℕ) (cell : List ℕ) → (raw ≡ 0 → ⊥) → 1 < mode → length cell ≡ 53 → arriving_fits raw mode cell ≡ false
unfolding arriving_fits
unfit_mode raw mode cell ne h l = rw (l, ne_eqb raw 0 ne, lt-leb mode 1 h) (go (eqb raw 1))
  where
    go : (b : Bool) → b && false ≡ false
    go true = refl
    go false = refl

-- lent no cell, or another length: as document 01 has it
pub not_lent : (s : State) (cell : List ℕ) → (length cell ≡ 53 → ⊥) → slot s cell ≡ unchecked_slot s cell
unfolding slot unchecked_slot
not_lent s cell ne = go (ℕ_discrete (length cell) 0)
  where
    go : Dec (length cell ≡ 0) → slot s cell ≡ unchecked_slot s cell
    go (yes e) = none_lent (lowest_free s.bits) s cell e
    go (no f) = unlent (lowest_free s.bits) s cell (rw (ne_eqb (length cell) 0 f, ne_eqb (length cell) 53 ne))

-- ── whether the check comes in front ──
pub no_cell : (raw long : ℕ) → (long ≡ 53 → ⊥) → false ≡ is_checked raw long
unfolding is_checked
no_cell raw long ne = rw (ne_eqb long 53 ne)

pub of_cell : (raw long : ℕ) → long ≡ 53 → not (raw =? 0) ≡ is_checked raw long
unfolding is_checked
of_cell raw long e = rw e

pub checked_lent : (raw long : ℕ) → is_checked raw long ≡ true → (long ≡ 53) × (raw ≢ 0)
unfolding is_checked
checked_lent raw long h =
    let b = both_true (long =? octets) (not (raw =? 0)) h in
    (eqb-true long 53 b.0, eqb-false raw 0 (not-true (raw =? 0) b.1))

pub raw_one : (raw : ℕ) → raw ≤ 1 → (raw ≡ 0 → ⊥) → raw ≡ 1
raw_one raw h ne = omega (arith, h, ne)

pub unchecked_is : (s : State) (cell : List ℕ) → is_checked s.ctl.raw (length cell) ≡ false → slot s cell ≡ unchecked_slot s cell
unfolding is_checked slot unchecked_slot
unchecked_is s cell h = go (ℕ_discrete (length cell) 53)
  where
    go : Dec (length cell ≡ 53) → slot s cell ≡ unchecked_slot s cell
    go (no f) = not_lent s cell f
    go (yes e) =
        not_raw (lowest_free s.bits) s cell
        (eqb-true s.ctl.raw 0 (not-false (s.ctl.raw =? 0) (rw e at h)))
