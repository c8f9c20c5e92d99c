-- A slot put together: its refusals 1, 2 and 9, what they leave known, and the clock, up to steps 2 to 5.
use Rattle.std.proofs.Common.{◌≡◌, ℕ, ◌+◌, ◌*◌, ◌<◌, ◌≤◌, Bool, true, false, ◌&&◌, ◌||◌, ◌≢◌, List, length, sym, refl, ◌∙◌, subst, mod-lt, arith, le-ltb, lt-ltb, ne_eqb, eqb-true, leb-true}
use Rattle.meaning.specs.declared.Record.{Record}
use Rattle.meaning.specs.declared.Served.{Served}
use Rattle.meaning.specs.Plain.{when◌then◌else◌, ◌≤?◌, ◌=?◌, Out, refused, ◌and_then◌}
use Rattle.meaning.specs.Numbers.{ranges_hold, connections_in, words_in, bit_words}
use Rattle.meaning.specs.Bits.{lowest_free}
use Rattle.meaning.specs.State.{State, state_of, record_with, with_record, with_clock, words_length, lengths_hold}
use Rattle.meaning.specs.Work.{Work, work_of, bare_answer}
use Rattle.meaning.specs.Slot.{step1, step2, step3, step4, step5, five_steps, finish, unchecked_slot_at, unchecked_slot}
use Rattle.slot_plan.specs.Plan.{clocked}
use Rattle.slot_plan.specs.Facts.{Sized}
use Rattle.slot_plan.proofs.Found.{no, and}
use Rattle.slot_steps.specs.Slot.{shape_of}

-- ---- the refusals 1, 2 and 9, and the clock
module _ (r : Record) (cell cells links calendar words bits arrived : List ℕ) where
  abbrev s : State
  s = state_of r cells links calendar words bits arrived

  abbrev shape : ℕ
  shape = shape_of r cells links calendar words bits arrived cell

  by_shape : (a b d : Bool) → ranges_hold r.n r.v ≡ a → lengths_hold r.n r.v cells links calendar words bits arrived ≡ b → length cell =? 0 || length cell =? 53 ≡ d
      → unchecked_slot s cell ≡ (when shape =? 0 then finish s (five_steps (lowest_free bits) cell (work_of s (bare_answer 0))) else work_of s (bare_answer shape))
  unfolding unchecked_slot unchecked_slot_at shape_of
  by_shape false b d ea eb ed = rw ea
  by_shape true false d ea eb ed = rw (ea, eb)
  by_shape true true false ea eb ed = rw (ea, eb, ed)
  by_shape true true true ea eb ed = rw (ea, eb, ed)

  slot_is : unchecked_slot s cell ≡ (when shape =? 0 then finish s (five_steps (lowest_free bits) cell (work_of s (bare_answer 0))) else work_of s (bare_answer shape))
  slot_is = by_shape (ranges_hold r.n r.v) (lengths_hold r.n r.v cells links calendar words bits arrived) (length cell =? 0 || length cell =? 53) refl refl refl

  pub slot_refused : (number : ℕ) (x : Served) → number ≡ shape → number ≢ 0 → (x.ctl ≡ r) × (x.answer ≡ bare_answer number)
      → work_of (state_of x.ctl cells links calendar words bits arrived) x.answer ≡ unchecked_slot s cell
  slot_refused number x e ne p = rw (p.0, p.1) (sym (slot_is ∙ rw (← e, ne_eqb number 0 ne)))

  -- the five steps, once the clock has moved
  abbrev five : Out Work
  five = five_steps (lowest_free bits) cell (work_of s (bare_answer 0))

  pub slot_goes : (number : ℕ) → number ≡ shape → number ≡ 0 → unchecked_slot s cell ≡ finish s five
  slot_goes number e z = slot_is ∙ rw (sym e ∙ z)

  pub clock_turn : r.n ≤ r.turn → five ≡ refused
  unfolding five_steps step1
  clock_turn h = rw (le-ltb r.turn r.n h)

  pub clock_rotation : r.turn < r.n → connections_in r.v ≤ r.rotation → five ≡ refused
  unfolding five_steps step1
  clock_rotation h g = rw (lt-ltb r.turn r.n h, le-ltb r.rotation (connections_in r.v) g)

  pub clock_goes : (k : Record) → k ≡ clocked r → r.turn < r.n → r.rotation < connections_in r.v
      → five ≡ (step2 (work_of (state_of k cells links calendar words bits arrived) (bare_answer 0)) and_then step3 (lowest_free bits) cell and_then step4 and_then step5)
  unfolding five_steps step1 clocked with_clock with_record
  clock_goes k e h g = rw (lt-ltb r.turn r.n h, lt-ltb r.rotation (connections_in r.v) g, e)

  -- what no refusal of 1, 2 or 9 leaves
  pub record Shaped : Type 0 where
    pub n_low : 1 ≤ r.n
    pub n_high : r.n ≤ 1024
    pub v_low : 2 ≤ r.v
    pub v_high : r.v ≤ 1024
    pub cells_long_lem : length cells ≡ 53 * r.n
    pub links_long : length links ≡ r.n
    pub calendar_long : length calendar ≡ 2 * r.n
    pub words_long : length words ≡ words_in r.v
    pub bits_long : length bits ≡ bit_words
    pub arrived_long : length arrived ≡ r.n
    pub cell_long : (length cell ≡ 0 → ⊥) → length cell ≡ 53

  either : (a b : Bool) → a || b ≡ true → a ≡ false → b ≡ true
  either true b e f = no (sym f ∙ e)
  either false b e f = e

  shaped_by : ranges_hold r.n r.v ≡ true → lengths_hold r.n r.v cells links calendar words bits arrived ≡ true → length cell =? 0 || length cell =? 53 ≡ true → Shaped
  unfolding ranges_hold lengths_hold words_length
  shaped_by a b d =
      let v2 = and (1 ≤? r.n && r.n ≤? 1024 && 2 ≤? r.v) (r.v ≤? 1024) a in
      let v1 = and (1 ≤? r.n && r.n ≤? 1024) (2 ≤? r.v) v2.0 in
      let n2 = and (1 ≤? r.n) (r.n ≤? 1024) v1.0 in
      let g = and (length cells =? 53 * r.n && length links =? r.n && length calendar =? 2 * r.n && length words =? words_in r.v && length bits =? bit_words) (length arrived =? r.n) b in
      let f = and (length cells =? 53 * r.n && length links =? r.n && length calendar =? 2 * r.n && length words =? words_in r.v) (length bits =? bit_words) g.0 in
      let w = and (length cells =? 53 * r.n && length links =? r.n && length calendar =? 2 * r.n) (length words =? words_in r.v) f.0 in
      let c = and (length cells =? 53 * r.n && length links =? r.n) (length calendar =? 2 * r.n) w.0 in
      let l = and (length cells =? 53 * r.n) (length links =? r.n) c.0 in
      record {
        n_low = leb-true _ _ n2.0;
        n_high = leb-true _ _ n2.1;
        v_low = leb-true _ _ v1.1;
        v_high = leb-true _ _ v2.1;
        cells_long_lem = eqb-true _ _ l.0;
        links_long = eqb-true _ _ l.1;
        calendar_long = eqb-true _ _ c.1;
        words_long = eqb-true _ _ w.1;
        bits_long = eqb-true _ _ f.1;
        arrived_long = eqb-true _ _ g.1;
        cell_long = λ ne. eqb-true _ _ (either (length cell =? 0) (length cell =? 53) d (ne_eqb (length cell) 0 ne));
      }

  shape_shows : (a b d : Bool) → ranges_hold r.n r.v ≡ a → lengths_hold r.n r.v cells links calendar words bits arrived ≡ b → length cell =? 0 || length cell =? 53 ≡ d
      → shape ≡ 0 → Shaped
  unfolding shape_of
  shape_shows false b d ea eb ed = rw ea (λ h. absurd (omega arith))
  shape_shows true false d ea eb ed = rw (ea, eb) (λ h. absurd (omega arith))
  shape_shows true true false ea eb ed = rw (ea, eb, ed) (λ h. absurd (omega arith))
  shape_shows true true true ea eb ed = λ h. shaped_by ea eb ed

  pub shaped : (number : ℕ) → number ≡ shape → number ≡ 0 → Shaped
  shaped number e z =
      shape_shows (ranges_hold r.n r.v) (lengths_hold r.n r.v cells links calendar words bits arrived) (length cell =? 0 || length cell =? 53) refl refl refl (sym e ∙ z)

  pub sized : (k : Record) → k ≡ clocked r → Shaped → Sized (state_of k cells links calendar words bits arrived)
  unfolding clocked record_with
  sized k e h = subst (λ (x : Record). Sized (state_of x cells links calendar words bits arrived)) (sym e) at
    where
      at : Sized (state_of (clocked r) cells links calendar words bits arrived)
      at =
          record {
            n_low = h.n_low;
            n_high = h.n_high;
            v_low = h.v_low;
            v_high = h.v_high;
            cells_long_lem = h.cells_long_lem;
            links_long = h.links_long;
            calendar_long = h.calendar_long;
            words_long = h.words_long;
            bits_long = h.bits_long;
            arrived_long = h.arrived_long;
            turn_low = mod-lt (r.turn + 1) (omega (arith, h.n_low));
            rotation_low = mod-lt (r.rotation + 1) (omega (arith, h.v_low));
          }
