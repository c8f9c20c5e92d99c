-- "the only later stops with a number are 9 (a size neither 0 nor 53) and 3": once the ranges and lengths hold, each slot
-- of a burst is served, or stops it with one of these.
use Prim.Native.Nat.{ℕ, ◌+◌, ◌*◌, ◌≤◌}
use mathlib.Core.Path.{◌≡◌, refl, sym, ◌∙◌, subst}
use mathlib.Core.Logic.{◌⊎◌, inl, inr, ⊎_elim}
use mathlib.Core.Bool.{Bool, true, false, not, ◌&&◌, ◌||◌}
use mathlib.Core.List.{List, [], ◌∷◌}
use native.Mathlib.Omega.{arith}
use borrow.Author.Tests.{eq-eqb, ne_eqb, eqb-true}
use lib.ListN.{length, length-take, length-drop}
use Rattle.meaning.specs.Plain.{when◌then◌else◌, ◌=?◌, Out, refused, next}
use Rattle.meaning.specs.Numbers.{ranges_hold, octets, words_in, bit_words}
use Rattle.meaning.specs.Bits.{lowest_free}
use Rattle.meaning.specs.State.{State, words_length, lengths_hold, with_record, record_in_mode, with_mode}
use Rattle.meaning.specs.Work.{Work, work_of, bare_answer}
use Rattle.meaning.specs.Slot.{finish, unchecked_slot_at, unchecked_slot, slot_at, slot}
use Rattle.meaning.proofs.CheckedLaws.{is_lent, through_lent}
use Rattle.base_hec.specs.Modes.{Arriving, arriving, arriving_fits}
use Rattle.slot_steps.proofs.EndLaws.{AllOut, both_true, Ended, begun, five_ended}
use Rattle.call_slot.specs.Back.{back}
use Rattle.call_slot.proofs.Front.{by_unchecked}
use Rattle.call_burst.specs.Burst.{Stretch, stretch_of, size_fits, cell_lent, served, stopped, slot_done, one_slot, slots, lengths_fit, burst}
use Rattle.call_burst.proofs.LengthLaws.{Long, five_long}

-- a policer of which refusals 1 and 2 are not given
pub record Fit (s : State) : Type 0 where
  pub ranges : ranges_hold s.ctl.n s.ctl.v ≡ true
  pub lengths : lengths_hold s.ctl.n s.ctl.v s.cells s.links s.calendar s.words s.bits s.arrived ≡ true

-- served, and fit again; or refused with 3
abbrev pub ServedOr3 : Work → Type 0
ServedOr3 w = ((w.answer.number ≡ 0) × Fit w.state) ⊎ (w.answer.number ≡ 3)

pub lengths_plain : (s : State) → lengths_hold s.ctl.n s.ctl.v s.cells s.links s.calendar s.words s.bits s.arrived ≡ true
    → Long s.ctl.n s.ctl.v (work_of s (bare_answer 0))
unfolding lengths_hold words_length
lengths_plain s e =
    let N = s.ctl.n in
    let a = both_true (length s.cells =? 53 * N && length s.links =? N && length s.calendar =? 2 * N && length s.words =? words_in s.ctl.v && length s.bits =? bit_words) (length s.arrived =? N) e in
    let b = both_true (length s.cells =? 53 * N && length s.links =? N && length s.calendar =? 2 * N && length s.words =? words_in s.ctl.v) (length s.bits =? bit_words) a.0 in
    let w = both_true (length s.cells =? 53 * N && length s.links =? N && length s.calendar =? 2 * N) (length s.words =? words_in s.ctl.v) b.0 in
    let c = both_true (length s.cells =? 53 * N && length s.links =? N) (length s.calendar =? 2 * N) w.0 in
    let l = both_true (length s.cells =? 53 * N) (length s.links =? N) c.0 in
    record {
      n_is = refl;
      v_is = refl;
      cells_long_lem = eqb-true _ _ l.0;
      links_long = eqb-true _ _ l.1;
      calendar_long = eqb-true _ _ c.1;
      words_long = eqb-true _ _ w.1;
      bits_long = eqb-true _ _ b.1;
      arrived_long = eqb-true _ _ a.1;
    }

lengths_again : (N z : ℕ) (w : Work) → Long N z w
    → lengths_hold w.state.ctl.n w.state.ctl.v w.state.cells w.state.links w.state.calendar w.state.words w.state.bits w.state.arrived ≡ true
unfolding lengths_hold words_length
lengths_again N z w h =
    rw (
      h.n_is,
      h.v_is,
      eq-eqb _ _ h.cells_long_lem,
      eq-eqb _ _ h.links_long,
      eq-eqb _ _ h.calendar_long,
      eq-eqb _ _ h.words_long,
      eq-eqb _ _ h.bits_long,
      eq-eqb _ _ h.arrived_long,
    )

either : (a b : Bool) → a || b ≡ true → (a ≡ true) ⊎ (b ≡ true)
either true b e = inl refl
either false b e = inr e

long_of : (cell : List ℕ) → length cell =? 0 || length cell =? octets ≡ true → (length cell ≡ 0 → ⊥) → length cell ≡ 53
long_of cell e ne =
    ⊎_elim (λ z. absurd (ne (eqb-true (length cell) 0 z))) (λ f. eqb-true (length cell) 53 f)
    (either (length cell =? 0) (length cell =? octets) e)

fit_in_mode : (s : State) (mode : ℕ) → Fit s → Fit (with_mode s mode)
unfolding with_mode with_record record_in_mode
fit_in_mode s mode f = record { ranges = f.ranges; lengths = f.lengths }

unfit_three : (s : State) (cell : List ℕ) → Fit s → is_lent cell ≡ true → arriving_fits s.ctl.raw s.ctl.mode cell ≡ false
    → (slot s cell).answer.number ≡ 3
unfolding slot slot_at finish
unfit_three s cell f c e = rw (f.ranges, f.lengths, c, e)

ended : (s : State) → Fit s → (x : Out Work) → AllOut (Ended s.ctl) x → AllOut (Long s.ctl.n s.ctl.v) x → ServedOr3 (finish s x)
unfolding finish
ended s f refused a l = inr refl
ended s f (next w) a l =
    inl (a.number, record { ranges = rw (l.n_is, l.v_is) f.ranges; lengths = lengths_again s.ctl.n s.ctl.v w l })

unchecked_or_3 : (s : State) (cell : List ℕ) → Fit s → is_lent cell ≡ true → ServedOr3 (unchecked_slot s cell)
unfolding unchecked_slot unchecked_slot_at
unchecked_or_3 s cell f c =
    rw (f.ranges, f.lengths, c)
    (ended s f _
    (five_ended s.ctl (lowest_free s.bits) cell (work_of s (bare_answer 0)) (begun s.ctl s refl))
    (five_long s.ctl.n s.ctl.v (lowest_free s.bits) cell (long_of cell c) (work_of s (bare_answer 0)) (lengths_plain s f.lengths)))

-- with the header check in front: told, or as it came
back_or_3 : (s : State) (b : Bool) (w : Work) → ServedOr3 w → ServedOr3 (back s b w)
unfolding back
back_or_3 s true w (inl p) = rw (eq-eqb w.answer.number 0 p.0) (inl p)
back_or_3 s false w (inl p) = rw (eq-eqb w.answer.number 0 p.0) (inl p)
back_or_3 s b w (inr e) = rw (ne_eqb w.answer.number 0 (λ z. omega (arith, e, z))) (inr e)

pub slot_or_3 : (s : State) (cell : List ℕ) → Fit s → length cell =? 0 || length cell =? octets ≡ true → ServedOr3 (slot s cell)
slot_or_3 s cell f c = go (arriving_fits s.ctl.raw s.ctl.mode cell) refl
  where
    a : Arriving
    a = arriving s.ctl.raw s.ctl.mode cell

    go : (p : Bool) → arriving_fits s.ctl.raw s.ctl.mode cell ≡ p → ServedOr3 (slot s cell)
    go true e =
        subst ServedOr3 (sym (by_unchecked s cell c e))
        (back_or_3 s a.dropped (unchecked_slot (with_mode s a.mode) a.cell)
        (unchecked_or_3 (with_mode s a.mode) a.cell (fit_in_mode s a.mode f)
        (through_lent s.ctl.raw s.ctl.mode cell c)))
    go false e = inr (unfit_three s cell f c e)

-- ---- the cell lent to a slot of a burst has its size
fits_either : (size : ℕ) → size_fits size ≡ true → (size ≡ 0) ⊎ (size ≡ 53)
unfolding size_fits
fits_either size e =
    ⊎_elim (λ z. inl (eqb-true size 0 z)) (λ f. inr (eqb-true size 53 f)) (either (size =? 0) (size =? octets) e)

pub lent_long : (arrivals : List ℕ) (i size : ℕ) → 53 * i + 53 ≤ length arrivals → size ≤ 53 → length (cell_lent arrivals i size) ≡ size
unfolding cell_lent
lent_long arrivals i size room most = simp (length-take, length-drop) (omega arith)

pub second : (a b : Bool) → b ≡ true → a || b ≡ true
second true b e = refl
second false b e = e

lent_fits : (arrivals : List ℕ) (i size : ℕ) → 53 * i + 53 ≤ length arrivals → size_fits size ≡ true
    → length (cell_lent arrivals i size) =? 0 || length (cell_lent arrivals i size) =? octets ≡ true
lent_fits arrivals i size room e =
    ⊎_elim
    (λ z. rw (eq-eqb (length (cell_lent arrivals i size)) 0 (lent_long arrivals i size room (omega arith) ∙ z)))
    (λ f. second (length (cell_lent arrivals i size) =? 0) (length (cell_lent arrivals i size) =? octets)
    (eq-eqb (length (cell_lent arrivals i size)) 53 (lent_long arrivals i size room (omega arith) ∙ f)))
    (fits_either size e)

-- ---- a slot of a burst
abbrev pub Stops : ℕ → Type 0
Stops number = (number ≡ 9) ⊎ (number ≡ 3)

pub record Serves (b r : Stretch) : Type 0 where
  pub number : r.number ≡ 0
  pub fit : Fit r.state
  pub done : r.done ≡ b.done + 1

slot_done_lem : (b : Stretch) (w : Work) → ServedOr3 w → Serves b (slot_done b w) ⊎ Stops (slot_done b w).number
unfolding slot_done served stopped
slot_done_lem b w (inl p) = rw (eq-eqb w.answer.number 0 p.0) (inl (record { number = refl; fit = p.1; done = refl }))
slot_done_lem b w (inr e) = rw e (inr (inr refl))

pub one_slot_lem : (arrivals : List ℕ) (size : ℕ) (b : Stretch) → Fit b.state → 53 * b.done + 53 ≤ length arrivals
    → Serves b (one_slot arrivals size b) ⊎ Stops (one_slot arrivals size b).number
unfolding one_slot stopped
one_slot_lem arrivals size b f room = go (size_fits size) refl
  where
    go : (x : Bool) → size_fits size ≡ x
        → (let r = when not x then stopped b 9 else slot_done b (slot b.state (cell_lent arrivals b.done size)) in Serves b r ⊎ Stops r.number)
    go true e = slot_done_lem b _ (slot_or_3 b.state (cell_lent arrivals b.done size) f (lent_fits arrivals b.done size room e))
    go false e = inr (inl refl)

-- ---- slot after slot: as many sizes are left as cells of arrivals
slots_stop : (arrivals sizes : List ℕ) (b : Stretch) → b.number ≡ 0 → Fit b.state → 53 * (b.done + length sizes) ≡ length arrivals
    → ((slots arrivals sizes b).number ≡ 0) ⊎ Stops (slots arrivals sizes b).number
unfolding slots
slots_stop arrivals [] b z f e = inl z
slots_stop arrivals (size ∷ sizes) b z f e =
    go (one_slot_lem arrivals size b f (omega arith)) (λ n h d. slots_stop arrivals sizes (one_slot arrivals size b) n h d)
  where
    after : Stretch
    after = one_slot arrivals size b

    go : Serves b after ⊎ Stops after.number
        → (after.number ≡ 0 → Fit after.state → 53 * (after.done + length sizes) ≡ length arrivals → ((slots arrivals sizes after).number ≡ 0) ⊎ Stops (slots arrivals sizes after).number)
        → ((when after.number =? 0 then slots arrivals sizes after else after).number ≡ 0) ⊎ Stops (when after.number =? 0 then slots arrivals sizes after else after).number
    go (inl s) rest = rw (eq-eqb after.number 0 s.number) (rest s.number s.fit (omega (arith, s.done)))
    go (inr (inl e9)) rest = rw (ne_eqb after.number 0 (λ q. omega (arith, e9))) (inr (inl e9))
    go (inr (inr e3)) rest = rw (ne_eqb after.number 0 (λ q. omega (arith, e3))) (inr (inr e3))

-- what the lengths of a burst's buffers say of a policer and of arrivals
pub fit_burst : (s : State) (a d n : ℕ) (sizes : ℕ) → ranges_hold s.ctl.n s.ctl.v ≡ true
    → lengths_fit s.ctl.n s.ctl.v (length s.cells) (length s.links) (length s.calendar) (length s.words) (length s.bits) (length s.arrived) a sizes d n ≡ true
    → Fit s × (a ≡ 53 * sizes)
unfolding lengths_fit lengths_hold words_length
fit_burst s a d n sizes r e =
    let N = s.ctl.n in
    let six = length s.cells =? 53 * N && length s.links =? N && length s.calendar =? 2 * N && length s.words =? words_in s.ctl.v && length s.bits =? bit_words && length s.arrived =? N in
    let x = both_true (six && a =? 53 * sizes && d =? 53 * sizes) (n =? 6 * sizes) e in
    let y = both_true (six && a =? 53 * sizes) (d =? 53 * sizes) x.0 in
    let m = both_true six (a =? 53 * sizes) y.0 in
    (record { ranges = r; lengths = m.0 }, eqb-true a (53 * sizes) m.1)

-- A burst that is not refused with 1 or 2 ends with 0, 9 or 3.
pub later_stops : (s : State) (arrivals sizes departures answers : List ℕ)
    → (let r = burst s arrivals sizes departures answers in ((r.number ≡ 1) ⊎ (r.number ≡ 2)) ⊎ ((r.number ≡ 0) ⊎ Stops r.number))
unfolding burst stopped
later_stops s arrivals sizes departures answers = go (ranges_hold s.ctl.n s.ctl.v) (lengths_fit s.ctl.n s.ctl.v (length s.cells) (length s.links) (length s.calendar) (length s.words) (length s.bits) (length s.arrived) (length arrivals) (length sizes) (length departures) (length answers)) refl refl
  where
    begun : Stretch
    begun = stretch_of s departures answers 0 0

    ends : Bool → Bool → Stretch
    ends a b = when not a then stopped begun 1 else when not b then stopped begun 2 else slots arrivals sizes begun

    go : (a b : Bool) → ranges_hold s.ctl.n s.ctl.v ≡ a
        → lengths_fit s.ctl.n s.ctl.v (length s.cells) (length s.links) (length s.calendar) (length s.words) (length s.bits) (length s.arrived) (length arrivals) (length sizes) (length departures) (length answers) ≡ b
        → (((ends a b).number ≡ 1) ⊎ ((ends a b).number ≡ 2)) ⊎ (((ends a b).number ≡ 0) ⊎ Stops (ends a b).number)
    go false b ea eb = inl (inl refl)
    go true false ea eb = inl (inr refl)
    go true true ea eb =
        let f = fit_burst s (length arrivals) (length departures) (length answers) (length sizes) ea eb in
        inr (slots_stop arrivals sizes begun refl f.0 (omega (arith, f.1)))
