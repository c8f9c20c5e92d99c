-- A card that keeps a summary through any calls: each call of the tally answers 0, and the tally is that of the delays that the listing
-- counts more.
use Prim.Native.Nat.{ℕ, suc, ◌+◌, ◌-◌, ◌%◌, ◌≤◌, ◌<◌}
use mathlib.Core.Path.{◌≡◌, refl, sym, ap, ◌∙◌, subst}
use mathlib.Core.Logic.{◌≢◌}
use mathlib.Core.Bool.{Bool, true, false, ◌||◌}
use mathlib.Core.List.{List, [], ◌∷◌, ◌++◌, append_assoc, append-nil}
use native.Mathlib.Decide.{ℕ_discrete}
use native.Mathlib.Omega.{arith}
use lib.ListN.{length, get_or, length-append}
use lib.Seq.{get_or-append_seam}
use Rattle.meaning.specs.Plain.{◌=?◌}
use Rattle.meaning.specs.Numbers.{slot_numbers}
use Rattle.meaning.specs.State.{State}
use Rattle.meaning.specs.Header.{Name}
use Rattle.meaning.specs.Bucket.{elapsed}
use Rattle.meaning.specs.Words.{Second}
use Rattle.meaning.specs.Work.{Work}
use Rattle.meaning.specs.Slot.{slot}
use Rattle.meaning_runs.specs.Run.{Call, on_open_with, on_close, on_slot, Event, Run, shown, let_in, call_at, call, calls, served}
use Rattle.meaning_runs.specs.Seen.{Cell, Departure, cells_in, departures_in, cells_of, departures_of, no_departure, cell_at, departure_at}
use Rattle.theory_table.specs.Stored.{clock}
use Rattle.theory_table.proofs.ClockLaws.{clock_next}
use Rattle.theory_invariant.specs.Invariant.{Inv, waiting}
use Rattle.theory_invariant.specs.Gone.{new_in, ready, LeftAs}
use Rattle.theory_invariant.proofs.EndLaws.{event_of}
use Rattle.theory_invariant.proofs.CheckLaws.{Checked, slot_served, slot_refused}
use Rattle.theory_invariant.proofs.RunLaws.{Kept, call_kept}
use Rattle.promises.specs.Demand3.{Demand3}
use Rattle.promises.proofs.Demand3Laws.{demanded, many_left, many_cells}
use Rattle.call_tally.specs.declared.Tallied.{Tallied}
use Rattle.call_tally.specs.Tally.{tallied_of, is_connection, tally_one, tally_slot}
use Rattle.call_tally.specs.Delays.{tally_all}
use Rattle.call_tally.specs.Laws.{AddsUp}
use Rattle.call_tally.proofs.TallyLaws.{stays_fit}
use Rattle.promise_tally.specs.Summary.{delays_of, delays_in, Summary, tallied, tallying, AllZero}
use Rattle.promise_tally.proofs.EventLaws.{departures_other, departures_own, served_one, served_more, cells_more}
use Rattle.promise_tally.proofs.DelayLaws.{delays_more, delays_add}
use Rattle.promise_tally.proofs.PairLaws.{oldest_leaves, one_waits}
use Rattle.promise_tally.proofs.CallLaws.{elapsed_true, connection_not_0, tally_other, tally_own, tally_answers, space_other, space_own, tally_append}

-- ── a stretch of calls, by the whole run's listing before and after, and by the summary before and after ──
module _ (v : ℕ) where
  pub record Went (h : List Event) (k : Summary) (h' : List Event) (k' : Summary) : Type 0 where
    pub new : List ℕ
    pub delays_are : delays_in v h' ≡ delays_in v h ++ new
    pub tally_is : k'.tally ≡ tally_all k.tally new
    pub adds_up : AddsUp k'.tally
    pub zeros : AllZero k'.numbers
    -- at most one for each slot served
    pub few : length new + served h ≤ served h'

  went_on : (h h' h'' : List Event) (k k' k'' : Summary) → Went h k h' k' → Went h' k' h'' k'' → Went h k h'' k''
  went_on h h' h'' k k' k'' a b =
      record {
        new = a.new ++ b.new;
        delays_are = b.delays_are ∙ ap (λ l. l ++ b.new) a.delays_are ∙ append_assoc (delays_in v h) a.new b.new;
        tally_is = b.tally_is ∙ ap (λ t. tally_all t b.new) a.tally_is ∙ sym (tally_append k.tally a.new b.new);
        adds_up = b.adds_up;
        zeros = b.zeros;
        few = omega (arith, a.few, b.few, length-append a.new b.new);
      }

  -- nothing counted
  stayed : (h h' : List Event) (k : Summary) → delays_in v h' ≡ delays_in v h → served h' ≡ served h → AddsUp k.tally → AllZero k.numbers → Went h k h' k
  unfolding tally_all
  stayed h h' k e n adds zeros =
      record {
        new = [];
        delays_are = e ∙ sym (append-nil (delays_in v h));
        tally_is = refl;
        adds_up = adds;
        zeros = zeros;
        few = omega (arith, n);
      }

  module _ (N z kind : ℕ) (is : is_connection z v ≡ true) where
    module _ (h : List Event) (s : State) (i : Inv N z kind h s) (cell : List ℕ) (k : Summary) (adds : AddsUp k.tally)
        (zeros : AllZero k.numbers) where
      abbrev w : Work
      w = slot s cell

      abbrev h' : List Event
      h' = event_of (let_in s cell).cell w ∷ h

      few : length (departures_of v h) ≤ length (cells_of v h)
      few = omega (arith, many_left N z kind h s i v, many_cells N z kind h s i v)

      -- the delays counted before
      old_delays : delays_of (cells_of v h') (departures_of v h) ≡ delays_in v h
      old_delays =
          let m = cells_more v h (let_in s cell).cell w.answer (shown w) in
          ap (λ (cs : List Cell). delays_of cs (departures_of v h)) m.is ∙ delays_more (cells_of v h) m.rest (departures_of v h) few

      module _ (i' : Inv N z kind h' w.state) where
        abbrev said : Tallied
        said = tally_slot k.tally w.state.ctl w.state.arrived v w.answer.space w.answer.departing

        -- another connection's cell left, or none
        other : w.answer.departing ≢ v → Went h k h' (tallied v w k)
        unfolding tallied tally_all
        other n =
            record {
              new = [];
              delays_are = ap (delays_of (cells_of v h')) (departures_other v h (let_in s cell).cell w.answer (shown w) n)
                  ∙ old_delays
                  ∙ sym (append-nil (delays_in v h));
              tally_is = ap (λ (a : Tallied). a.tally) answer;
              adds_up = subst AddsUp (sym (ap (λ (a : Tallied). a.tally) answer)) adds;
              zeros = (ap (λ (a : Tallied). a.number) answer, zeros);
              few = served_more h (let_in s cell).cell w.answer (shown w);
            }
          where
            answer : said ≡ tallied_of 0 k.tally
            answer =
                tally_other k.tally w.state.ctl w.state.arrived v w.answer.space w.answer.departing
                (tally_answers N z kind h' w.state i' k.tally v w.answer.space w.answer.departing is adds
                (space_other N v w.answer.space w.answer.departing n))
                n

      -- a cell of v left
      module _ (g : Checked N z kind h (waiting i) (let_in s cell) (slot s cell)) (e : (slot s cell).answer.departing ≡ v) where
        own : (l : List Cell) → ready (new_in h (let_in s cell).cell w.answer) (waiting i) ≡ l → LeftAs l w → Went h k h' (tallied v w k)
        unfolding tallied tally_all
        own [] ready_is left = absurd (connection_not_0 z v is (sym e ∙ left.1))
        own (c ∷ o) ready_is left =
            record {
              new = (served h - c.arrival) ∷ [];
              delays_are = ap (delays_of (cells_of v h')) departures_are
                  ∙ delays_add (cells_of v h') (departures_of v h) (record { slot = served h; vci = w.answer.departing; octets = shown w }) waits
                  ∙ ap (λ l. l ++ ((served h - (cell_at v m h').arrival) ∷ [])) old_delays
                  ∙ ap (λ (n : ℕ). delays_in v h ++ ((served h - n) ∷ [])) arrival_is;
              tally_is = ap (λ (a : Tallied). a.tally) answer ∙ ap (tally_one k.tally) elapsed_is;
              adds_up = stays_fit k.tally w.state.ctl w.state.arrived v w.answer.space w.answer.departing adds.2
                  (ap (λ (a : Tallied). a.number) answer);
              zeros = (ap (λ (a : Tallied). a.number) answer, zeros);
              few = omega (arith, served_one h (let_in s cell).cell w.answer (shown w) g.number);
            }
          where
            m : ℕ
            m = length (departures_of v h)

            departures_are : departures_of v h' ≡ departures_of v h ++ (record { slot = served h; vci = w.answer.departing; octets = shown w } ∷ [])
            departures_are = departures_own v h (let_in s cell).cell w.answer (shown w) e left.0

            one_more : length (departures_of v h') ≡ suc m
            one_more = ap length departures_are ∙ length-append (departures_of v h) _ ∙ omega arith

            waits : m < length (cells_of v h')
            waits = one_waits v N z kind h s i (let_in s cell) w g c o ready_is (sym left.1 ∙ e) one_more

            arrival_is : (cell_at v m h').arrival ≡ c.arrival
            arrival_is = oldest_leaves v N z kind h s i (let_in s cell) w g c o ready_is (sym left.1 ∙ e) one_more

            -- demand 3 of the slot that has just been served
            d : Demand3 N z kind h' w.state
            d = demanded N z kind h' w.state g.inv

            slot_is : (departure_at v m h').slot ≡ served h
            slot_is =
                ap (λ (l : List Departure). (get_or l m no_departure).slot) departures_are
                ∙ ap (λ (x : Departure). x.slot) (get_or-append_seam (departures_of v h) _ [] no_departure)

            low : m < length (departures_of v h')
            low = omega (arith, one_more)

            near : (c.arrival ≤ served h) × (served h - c.arrival < 4_096)
            near =
                let a = d.delay v m waits in
                let early = d.not_early v m low in
                let late = d.not_late v m low in (
                  omega (arith, a.0, early, slot_is, arrival_is),
                  omega (arith, a.0, a.1, late, slot_is, arrival_is, i.stage.ranges.N_high),
                )

            t_is : w.state.ctl.t ≡ served h % slot_numbers
            t_is =
                g.inv.stage.t_is
                ∙ ap clock (served_one h (let_in s cell).cell w.answer (shown w) g.number)
                ∙ clock_next (served h)

            elapsed_is : elapsed w.state.ctl.t (get_or w.state.arrived w.answer.space 0) ≡ served h - c.arrival
            elapsed_is =
                ap (λ (n : ℕ). elapsed n (get_or w.state.arrived w.answer.space 0)) t_is
                ∙ ap (elapsed (served h % slot_numbers)) left.4
                ∙ elapsed_true (served h) c.arrival near.0 near.1

            answer : tally_slot k.tally w.state.ctl w.state.arrived v w.answer.space w.answer.departing
                ≡ tallied_of 0 (tally_one k.tally (elapsed w.state.ctl.t (get_or w.state.arrived w.answer.space 0)))
            answer =
                tally_own k.tally w.state.ctl w.state.arrived v w.answer.space w.answer.departing
                (tally_answers N z kind h' w.state g.inv k.tally v w.answer.space w.answer.departing is adds
                (space_own N v w.answer.space w.answer.departing e (omega (arith, left.3, g.inv.stage.dates.long))))
                e

      slot_went : Inv N z kind h' w.state → Went h k h' (tallied v w k)
      slot_went i' = go (ℕ_discrete w.answer.departing v) (length cell =? 0 || length cell =? 53) refl
        where
          go : Dec (w.answer.departing ≡ v) → (b : Bool) → length cell =? 0 || length cell =? 53 ≡ b → Went h k h' (tallied v w k)
          go (no n) b lent = other i' n
          go (yes e) true lent =
              let g = slot_served N z kind h s i cell lent in
              own g e (ready (new_in h (let_in s cell).cell w.answer) (waiting i)) refl g.left
          go (yes e) false lent =
              absurd (connection_not_0 z v is
              (sym e ∙ ap (λ (x : Work). x.answer.departing) (slot_refused N z kind h s i cell lent)))

    -- opens and closes
    same_open : (r : Run) (who : ℕ) (name : Name) (m F C : ℕ) (x : Second)
        → delays_in v (call r (on_open_with who name m F C x)).events ≡ delays_in v r.events
    unfolding call call_at cells_of cells_in departures_of departures_in
    same_open r who name m F C x = refl

    same_close : (r : Run) (who : ℕ) (name : Name) → delays_in v (call r (on_close who name)).events ≡ delays_in v r.events
    unfolding call call_at cells_of cells_in departures_of departures_in
    same_close r who name = refl

    still_open : (r : Run) (who : ℕ) (name : Name) (m F C : ℕ) (x : Second)
        → served (call r (on_open_with who name m F C x)).events ≡ served r.events
    unfolding call call_at served
    still_open r who name m F C x = refl

    still_close : (r : Run) (who : ℕ) (name : Name) → served (call r (on_close who name)).events ≡ served r.events
    unfolding call call_at served
    still_close r who name = refl

    -- any calls
    pub calls_went : (r : Run) (q : Kept N z kind r) (cs : List Call) (k : Summary) → AddsUp k.tally → AllZero k.numbers
        → Went r.events k (calls r cs).events (tallying v k r.state cs)
    unfolding calls tallying call call_at slot
    calls_went r q [] k adds zeros = stayed r.events r.events k refl refl adds zeros
    calls_went r q (on_open_with who name m F C x ∷ cs) k adds zeros =
        let c = on_open_with who name m F C x in
        went_on r.events (call r c).events (calls (call r c) cs).events k k (tallying v k (call r c).state cs)
        (stayed r.events (call r c).events k (same_open r who name m F C x) (still_open r who name m F C x) adds zeros)
        (calls_went (call r c) (call_kept N z kind r c q) cs k adds zeros)
    calls_went r q (on_close who name ∷ cs) k adds zeros =
        let c = on_close who name in
        went_on r.events (call r c).events (calls (call r c) cs).events k k (tallying v k (call r c).state cs)
        (stayed r.events (call r c).events k (same_close r who name) (still_close r who name) adds zeros)
        (calls_went (call r c) (call_kept N z kind r c q) cs k adds zeros)
    calls_went r q (on_slot cell ∷ cs) k adds zeros =
        let c = on_slot cell in
        let first = slot_went r.events r.state q.inv cell k adds zeros (call_kept N z kind r c q).inv in
        went_on r.events (call r c).events (calls (call r c) cs).events k (tallied v (slot r.state cell) k)
        (tallying v (tallied v (slot r.state cell) k) (call r c).state cs) first
        (calls_went (call r c) (call_kept N z kind r c q) cs (tallied v (slot r.state cell) k) first.adds_up first.zeros)
