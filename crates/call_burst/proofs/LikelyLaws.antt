-- A slot that a likely way served is a slot of the burst: the five steps from the record before it, of a policer that is not raw,
-- or is raw in correction and is lent no cell or one whose header is clean.
use Prim.Native.Nat.{ℕ, ◌+◌, ◌-◌, ◌*◌, ◌%◌, ◌≤◌, ◌<◌}
use mathlib.Core.Path.{◌≡◌, refl, sym, ◌∙◌, ap}
use mathlib.Core.Logic.{◌⊎◌, inl, inr}
use mathlib.Core.Bool.{Bool, true, false, ◌&&◌, ◌||◌}
use mathlib.Core.List.{List}
use native.Mathlib.Omega.{arith}
use borrow.Author.Tests.{eq-eqb, eqb-true, eqb-false, le-leb, leb-true, ltb-true}
use native.Mathlib.Nat.{mod-lt}
use lib.ListN.{length, get_or, drop}
use Rattle.meaning.specs.declared.Record.{Record}
use Rattle.meaning.specs.Plain.{when◌then◌else◌, ◌<?◌, ◌≤?◌, ◌=?◌, next}
use Rattle.meaning.specs.Numbers.{ranges_hold, connections_in, unused, kind_in_range, slot_numbers, words_in, bit_words}
use Rattle.meaning.specs.Bits.{spaces_fit}
use Rattle.meaning.specs.State.{State, Ends, state_of, record_with, lengths_hold, words_length}
use Rattle.meaning.specs.Work.{Work}
use Rattle.meaning.specs.Slot.{unchecked_slot, slot, finish}
use Rattle.meaning.proofs.BitsLaws.{free_most}
use Rattle.meaning.proofs.NamesLaws.{used_is}
use Rattle.meaning.specs.Lists.{ends_fit}
use Rattle.slot_plan.proofs.Found.{no}
use Rattle.slot_plan.specs.Plan.{clocked, with_ends, output_ends}
use Rattle.slot_steps.specs.Slot.{shape_of}
use Rattle.slot_steps.proofs.EndLaws.{both_true}
use Rattle.slot_steps.proofs.Whole.{slot_goes, clock_goes}
use Rattle.leaf_header.specs.Name.{mask_for}
use Rattle.burst_way.specs.declared.Way.{Way}
use Rattle.burst_way.specs.Way.{way_with, slot_record, last_record, stepped_way, rounded_way, Fits}
use Rattle.burst_way.proofs.WayLaws.{last_clocked, stepped_last, rounded_last}
use Rattle.burst_likely.specs.Served.{from2, Done}
use Rattle.call_burst.specs.Burst.{stretch_of, size_fits, cell_lent, one_slot, slots}
use Rattle.call_burst.specs.declared.Far.{Far}
use Rattle.call_burst.specs.Way.{Shaped, RawFits, Tries, Held, Room, way_stretch}
use Rattle.call_burst.proofs.TurnLaws.{turn_serves}
use Rattle.call_burst.proofs.Loop.{turn_on, still_shaped}
use Rattle.call_burst.proofs.StopLaws.{Fit, lengths_plain, lent_long, second}
use Rattle.call_burst.proofs.RawLaws.{Passed, check_passes}

-- a size of 0 or 53 fits
pub size_is : (size : ℕ) → (size ≡ 0) ⊎ (size ≡ 53) → size_fits size ≡ true
unfolding size_fits
size_is size (inl e) = rw e
size_is size (inr e) = rw e

-- refusals 1, 2 and 9 are not given
shape_none : (r : Record) (cells links calendar words bits arrived cell : List ℕ) → Shaped r cells links calendar words bits arrived → (length cell ≡ 0) ⊎ (length cell ≡ 53)
    → 0 ≡ shape_of r cells links calendar words bits arrived cell
unfolding shape_of ranges_hold lengths_hold words_length
shape_none r cells links calendar words bits arrived cell z long =
    simp (
      le-leb 1 r.n z.n_low,
      le-leb r.n 1024 z.n_high,
      le-leb 2 r.v z.v_low,
      le-leb r.v 1024 z.v_high,
      eq-eqb (length cells) (53 * r.n) z.cells_long_lem,
      eq-eqb (length links) r.n z.links_long,
      eq-eqb (length calendar) (2 * r.n) z.calendar_long,
      eq-eqb (length words) (words_in r.v) z.words_long,
      eq-eqb (length bits) bit_words z.bits_long,
      eq-eqb (length arrived) r.n z.arrived_long,
      lengths long,
    )
  where
    lengths : (length cell ≡ 0) ⊎ (length cell ≡ 53) → length cell =? 0 || length cell =? 53 ≡ true
    lengths (inl e) = rw (eq-eqb (length cell) 0 e)
    lengths (inr e) = second (length cell =? 0) (length cell =? 53) (eq-eqb (length cell) 53 e)

module _ (arrivals : List ℕ) (size : ℕ) (w : Way) (cells links calendar words bits arrived : List ℕ) (departures answers : List ℕ) (i : ℕ) where
  abbrev r : Record
  r = last_record w

  abbrev s : State
  s = state_of r cells links calendar words bits arrived

  abbrev cell : List ℕ
  cell = cell_lent arrivals i size

  module _ (z : Shaped (slot_record w) cells links calendar words bits arrived) (t_low : w.t < 4294967296) (turn : w.turn < w.n) (rotation : w.rotation < connections_in w.v) (raw : RawFits w.raw w.mode) (clean : Passed w.raw size cell) (room : 53 * i + 53 ≤ length arrivals) (fits : (size ≡ 0) ⊎ (size ≡ 53)) where
    shaped : Shaped r cells links calendar words bits arrived
    unfolding last_record
    shaped = still_shaped _ _ _ _ _ _ _ _ _ _ _ _ _ _ z (refl, refl) refl refl refl refl refl refl

    sized : (size ≡ 0) ⊎ (size ≡ 53) → length cell ≡ size
    sized (inl e) = lent_long arrivals i size room (omega (arith, e))
    sized (inr e) = lent_long arrivals i size room (omega (arith, e))

    long : (size ≡ 0) ⊎ (size ≡ 53) → (length cell ≡ 0) ⊎ (length cell ≡ 53)
    long (inl e) = inl (sized (inl e) ∙ e)
    long (inr e) = inr (sized (inr e) ∙ e)

    before_turn : r.turn < r.n
    unfolding last_record
    before_turn = go (w.turn =? 0) refl
      where
        go : (b : Bool) → (w.turn =? 0) ≡ b → (when b then w.n - 1 else w.turn - 1) < w.n
        go true e = omega arith
        go false e = omega arith

    before_rotation : r.rotation < connections_in r.v
    unfolding last_record
    before_rotation = go (w.rotation =? 0) refl
      where
        go : (b : Bool) → (w.rotation =? 0) ≡ b → (when b then connections_in w.v - 1 else w.rotation - 1) < connections_in w.v
        go true e = omega arith
        go false e = omega arith

    slot_is : (x : Work) → from2 (slot_record w) cell cells links calendar words bits arrived ≡ next x → x ≡ slot s cell
    unfolding last_record finish
    slot_is x e =
        let five = clock_goes r cell cells links calendar words bits arrived (slot_record w) (sym (last_clocked w t_low turn rotation)) before_turn before_rotation in
        let u : unchecked_slot s cell ≡ x = slot_goes r cell cells links calendar words bits arrived 0 (shape_none r cells links calendar words bits arrived cell shaped (long fits)) refl ∙ ap (finish s) (five ∙ e) in
        sym (check_passes s cell size raw clean fits (sized fits) ∙ u)

    pub likely_slot : (w' : Way) (cells' links' calendar' words' bits' arrived' departures' answers' : List ℕ)
        → Done (slot_record w) (from2 (slot_record w) cell cells links calendar words bits arrived) w' cells' links' calendar' words' bits' arrived' departures departures' answers answers' i
        → stretch_of (state_of (slot_record w') cells' links' calendar' words' bits' arrived') departures' answers' 0 (i + 1)
        ≡ one_slot arrivals size (way_stretch w cells links calendar words bits arrived departures answers i)
    likely_slot w' cells' links' calendar' words' bits' arrived' departures' answers' d =
        turn_serves arrivals size s departures answers i (size_is size fits) _ (slot_is _ d.is) d.number departures' answers' d.shown d.told

-- ---- the next slot of a run
module _ (arrivals sizes : List ℕ) (stop i : ℕ) (w : Way) (cells links calendar words bits arrived departures answers : List ℕ) (free outhead outtail : ℕ) (cells' links' calendar' words' bits' arrived' departures' answers' : List ℕ)
    (held : Held w cells links calendar words bits arrived) (room : Room w words (stop - i)) (low : i < stop) (most : stop ≤ length sizes) (long : length arrivals ≡ 53 * length sizes)
    (fits : (get_or sizes i 0 ≡ 0) ⊎ (get_or sizes i 0 ≡ 53)) (clean : Passed w.raw (get_or sizes i 0) (cell_lent arrivals i (get_or sizes i 0)))
    (d : Done (slot_record w) (from2 (slot_record w) (cell_lent arrivals i (get_or sizes i 0)) cells links calendar words bits arrived) (way_with w w.t w.turn w.rotation free outhead outtail) cells' links' calendar' words' bits' arrived' departures departures' answers answers' i) where
  -- the way that the slot leaves
  abbrev w' : Way
  w' = way_with w w.t w.turn w.rotation free outhead outtail

  free_same : free ≡ d.free
  unfolding with_ends record_with
  free_same = ap (λ (r : Record). r.free) d.ends

  output_same : output_ends (slot_record w') ≡ d.output
  unfolding with_ends record_with
  output_same = ap output_ends d.ends

  pub before_step : (w.turn < w.n) × (w.rotation < connections_in w.v) × (w.n ≤ 1024) × (w.v ≤ 1024)
  before_step = (omega (arith, room.turn_room), omega (arith, room.rotation_room), held.shaped.n_high, held.shaped.v_high)

  pub next_held : length cells' ≡ length cells → length links' ≡ length links → length calendar' ≡ length calendar → length words' ≡ length words → length bits' ≡ length bits → length arrived' ≡ length arrived
      → Held (stepped_way w') cells' links' calendar' words' bits' arrived'
  unfolding slot_numbers
  next_held a b e f g h =
      let z = held.shaped in
      record {
        shaped = still_shaped _ _ _ _ _ _ _ _ _ _ _ _ _ _ z (refl, refl) a b e f g h;
        t_low = mod-lt (w.t + 1) (omega arith);
        turn_most = omega (arith, room.turn_room);
        rotation_most = omega (arith, room.rotation_room);
        spaces_fit_lem = rw free_same d.spaces_fit_lem;
        output_fits = rw output_same d.output_fits;
        raw_fits = held.raw_fits;
        names = held.names;
      }

  -- record V is the first of its run, as record 0 is
  used_next : 0 < stop - (i + 1) → unused w.v (w.rotation + 1) ≡ false
  used_next k =
      used_is w.v (w.rotation + 1) (λ e. omega (arith, e))
      (λ e. let part = room.part_room (omega (arith, e)) in omega (arith, e, part, k))

  pub next_room : Room (stepped_way w') words' (stop - (i + 1))
  next_room =
      record {
        turn_room = omega (arith, room.turn_room);
        rotation_room = omega (arith, room.rotation_room);
        part_room = λ low'. let part = room.part_room (omega (arith, low')) in omega (arith, part);
        unused_closed = λ k e. no (sym (used_next k) ∙ e);
      }

  pub next_rest : slots arrivals (drop (i + 1) sizes) (way_stretch (stepped_way w') cells' links' calendar' words' bits' arrived' departures' answers' (i + 1))
      ≡ slots arrivals (drop i sizes) (way_stretch w cells links calendar words bits arrived departures answers i)
  unfolding slot_numbers
  next_rest =
      ap (λ (r : Record). slots arrivals (drop (i + 1) sizes) (stretch_of (state_of r cells' links' calendar' words' bits' arrived') departures' answers' 0 (i + 1))) (stepped_last w' held.t_low)
      ∙ turn_on arrivals sizes (way_stretch w cells links calendar words bits arrived departures answers i) (omega arith) (state_of (slot_record w') cells' links' calendar' words' bits' arrived') departures' answers' 0 (i + 1)
      (likely_slot arrivals (get_or sizes i 0) w cells links calendar words bits arrived departures answers i held.shaped held.t_low (omega (arith, room.turn_room)) (omega (arith, room.rotation_room)) held.raw_fits clean (omega (arith, long)) fits w' cells' links' calendar' words' bits' arrived' departures' answers' d)
      refl

-- ---- a slot that left the likely ways, with everything as it came
module _ (arrivals sizes : List ℕ) (i : ℕ) (w : Way) (cells links calendar words bits arrived departures answers cells' links' calendar' words' bits' arrived' departures' answers' : List ℕ)
    (stay : (cells' ≡ cells) × (links' ≡ links) × (calendar' ≡ calendar) × (words' ≡ words) × (bits' ≡ bits) × (arrived' ≡ arrived) × (departures' ≡ departures) × (answers' ≡ answers)) where
  pub odd_held : Held w cells links calendar words bits arrived → Held w cells' links' calendar' words' bits' arrived'
  odd_held h = rw (stay.0, stay.1, stay.2, stay.3, stay.4, stay.5) h

  pub odd_rest : slots arrivals (drop i sizes) (way_stretch w cells' links' calendar' words' bits' arrived' departures' answers' i)
      ≡ slots arrivals (drop i sizes) (way_stretch w cells links calendar words bits arrived departures answers i)
  odd_rest = rw (stay.0, stay.1, stay.2, stay.3, stay.4, stay.5, stay.6, stay.7)

-- ---- how far a run has come: where it began (₀), and where it is
pub record Running (arrivals sizes : List ℕ) (begin stop : ℕ) (cells₀ links₀ calendar₀ words₀ bits₀ arrived₀ departures₀ answers₀ : List ℕ) (w₀ : Way) (cells links calendar words bits arrived departures answers : List ℕ) (w : Way) (i : ℕ) : Type 0 where
  pub held : Held w cells links calendar words bits arrived
  pub room : Room w words (stop - i)
  pub rest : slots arrivals (drop i sizes) (way_stretch w cells links calendar words bits arrived departures answers i)
      ≡ slots arrivals (drop begin sizes) (way_stretch w₀ cells₀ links₀ calendar₀ words₀ bits₀ arrived₀ departures₀ answers₀ begin)

-- ---- from one run to the next
round_low : (x n : ℕ) → x ≤ n → 1 ≤ n → (when x =? n then 0 else x) < n
round_low x n most low = go (x =? n) refl
  where
    go : (b : Bool) → (x =? n) ≡ b → (when b then 0 else x) < n
    go true e = omega arith
    go false e = let ne = eqb-false x n e in omega (arith, ne)

module _ (w : Way) (cells links calendar words bits arrived : List ℕ) (h : Held w cells links calendar words bits arrived) where
  pub rounded_low : ((rounded_way w).turn < w.n) × ((rounded_way w).rotation < connections_in w.v)
  rounded_low =
      (round_low w.turn w.n h.turn_most h.shaped.n_low, round_low w.rotation (connections_in w.v) h.rotation_most (omega arith))

  pub rounded_held : Held (rounded_way w) cells links calendar words bits arrived
  rounded_held =
      let z = h.shaped in
      record {
        shaped = still_shaped _ _ _ _ _ _ _ _ _ _ _ _ _ _ z (refl, refl) refl refl refl refl refl refl;
        t_low = h.t_low;
        turn_most = let l = rounded_low.0 in omega (arith, l);
        rotation_most = let l = rounded_low.1 in omega (arith, l);
        spaces_fit_lem = h.spaces_fit_lem;
        output_fits = h.output_fits;
        raw_fits = h.raw_fits;
        names = h.names;
      }

  pub rounded_rest : (arrivals sizes departures answers : List ℕ) (i : ℕ)
      → slots arrivals (drop i sizes) (way_stretch (rounded_way w) cells links calendar words bits arrived departures answers i)
      ≡ slots arrivals (drop i sizes) (way_stretch w cells links calendar words bits arrived departures answers i)
  rounded_rest arrivals sizes departures answers i =
      ap (λ (r : Record). slots arrivals (drop i sizes) (stretch_of (state_of r cells links calendar words bits arrived) departures answers 0 i))
      (rounded_last w h.shaped.n_low)

-- how far the runs have come: where they began (₀), and where they are
pub record Going (arrivals sizes : List ℕ) (begin : ℕ) (cells₀ links₀ calendar₀ words₀ bits₀ arrived₀ departures₀ answers₀ : List ℕ) (far₀ : Far) (cells links calendar words bits arrived departures answers : List ℕ) (far : Far) : Type 0 where
  pub low : begin ≤ far.i
  pub most : far.i ≤ length sizes
  pub held : Held far.way cells links calendar words bits arrived
  pub rest : slots arrivals (drop far.i sizes) (way_stretch far.way cells links calendar words bits arrived departures answers far.i)
      ≡ slots arrivals (drop far₀.i sizes) (way_stretch far₀.way cells₀ links₀ calendar₀ words₀ bits₀ arrived₀ departures₀ answers₀ far₀.i)

-- ---- from a record to its way and back
module _ (r : Record) (cells links calendar words bits arrived : List ℕ) (z : Shaped r cells links calendar words bits arrived) (t : Tries r bits) (w : Way) (e : slot_record w ≡ clocked r) (m : w.mask ≡ mask_for w.kind) where
  of : (A : Type 0) (f : Record → A) → f (slot_record w) ≡ f (clocked r)
  of A f = ap f e

  pub way_low : (w.turn < w.n) × (w.rotation < connections_in w.v)
  unfolding clocked record_with
  way_low =
      let n = of ℕ (λ x. x.n) in
      let v = of ℕ (λ x. x.v) in
      let turn = of ℕ (λ x. x.turn) in
      let rotation = of ℕ (λ x. x.rotation) in
      let a : (r.turn + 1) % r.n < r.n = mod-lt (r.turn + 1) (omega (arith, z.n_low)) in
      let b : (r.rotation + 1) % connections_in r.v < connections_in r.v = mod-lt (r.rotation + 1) (omega arith) in
      (omega (arith, n, turn, a), omega (arith, v, rotation, b))

  pub way_held : Held w cells links calendar words bits arrived
  unfolding clocked record_with slot_numbers
  way_held =
      let n = of ℕ (λ x. x.n) in
      let v = of ℕ (λ x. x.v) in
      let now = of ℕ (λ x. x.t) in
      let later : (r.t + 1) % 4294967296 < 4294967296 = mod-lt (r.t + 1) (omega arith) in
      record {
        shaped = record {
          n_low = omega (arith, n, z.n_low);
          n_high = omega (arith, n, z.n_high);
          v_low = omega (arith, v, z.v_low);
          v_high = omega (arith, v, z.v_high);
          cells_long_lem = omega (arith, n, z.cells_long_lem);
          links_long = omega (arith, n, z.links_long);
          calendar_long = omega (arith, n, z.calendar_long);
          words_long = omega (arith, v, z.words_long);
          bits_long = z.bits_long;
          arrived_long = omega (arith, n, z.arrived_long);
        };
        t_low = omega (arith, now, later);
        turn_most = let l = way_low.0 in omega (arith, l);
        rotation_most = let l = way_low.1 in omega (arith, l);
        spaces_fit_lem = of Bool (λ x. spaces_fit x.n x.free bits) ∙ t.spaces_fit_lem;
        output_fits = of Bool (λ x. ends_fit x.n (output_ends x)) ∙ t.output_fits;
        raw_fits = rw (of ℕ (λ x. x.raw), of ℕ (λ x. x.mode)) t.raw_fits;
        names = (of Bool (λ x. kind_in_range x.kind) ∙ t.kind_fits, m);
      }

-- an end that fits is at most 65,535
fit_most : (N : ℕ) (e : Ends) → N ≤ 1024 → ends_fit N e ≡ true → (e.head ≤ 65535) × (e.tail ≤ 65535)
unfolding ends_fit
fit_most N e small = go (e.head <? N) (e.tail <? N) (e.head =? 65535) (e.tail =? 65535) refl refl refl refl
  where
    go : (a b c d : Bool) → (e.head <? N) ≡ a → (e.tail <? N) ≡ b → (e.head =? 65535) ≡ c → (e.tail =? 65535) ≡ d
        → (a && b) || (c && d) ≡ true → (e.head ≤ 65535) × (e.tail ≤ 65535)
    go true true c d p q r s h = let x = ltb-true e.head N p in let y = ltb-true e.tail N q in (omega (arith, x), omega (arith, y))
    go true false true true p q r s h = let x = eqb-true e.head 65535 r in let y = eqb-true e.tail 65535 s in (omega (arith, x), omega (arith, y))
    go true false true false p q r s h = no h
    go true false false d p q r s h = no h
    go false b true true p q r s h = let x = eqb-true e.head 65535 r in let y = eqb-true e.tail 65535 s in (omega (arith, x), omega (arith, y))
    go false b true false p q r s h = no h
    go false b false d p q r s h = no h

module _ (w : Way) (cells links calendar words bits arrived : List ℕ) (h : Held w cells links calendar words bits arrived) where
  pub held_fits : Fits w
  held_fits =
      let z = h.shaped in
      let f = free_most w.n w.free bits h.spaces_fit_lem in
      let o = fit_most w.n (output_ends (slot_record w)) z.n_high h.output_fits in
      record {
        n_low = z.n_low;
        n_high = z.n_high;
        v_high = z.v_high;
        turn_low = h.turn_most;
        rotation_low = h.rotation_most;
        free_low = omega (arith, f, z.n_high);
        outhead_low = o.0;
        outtail_low = o.1;
      }

  pub last_shaped : Shaped (last_record w) cells links calendar words bits arrived
  unfolding last_record
  last_shaped =
      let z = h.shaped in
      still_shaped _ _ _ _ _ _ _ _ _ _ _ _ _ _ z (refl, refl) refl refl refl refl refl refl

-- ---- a policer of which refusals 1 and 2 are not given
pub fit_shaped : (s : State) → Fit s → Shaped s.ctl s.cells s.links s.calendar s.words s.bits s.arrived
unfolding ranges_hold
fit_shaped s f =
    let N = s.ctl.n in
    let z = s.ctl.v in
    let v2 = both_true (1 ≤? N && N ≤? 1024 && 2 ≤? z) (z ≤? 1024) f.ranges in
    let v1 = both_true (1 ≤? N && N ≤? 1024) (2 ≤? z) v2.0 in
    let n2 = both_true (1 ≤? N) (N ≤? 1024) v1.0 in
    let l = lengths_plain s f.lengths in
    record {
      n_low = leb-true _ _ n2.0;
      n_high = leb-true _ _ n2.1;
      v_low = leb-true _ _ v1.1;
      v_high = leb-true _ _ v2.1;
      cells_long_lem = l.cells_long_lem;
      links_long = l.links_long;
      calendar_long = l.calendar_long;
      words_long = l.words_long;
      bits_long = l.bits_long;
      arrived_long = l.arrived_long;
    }
