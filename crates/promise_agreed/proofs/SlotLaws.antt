-- One slot: what the policer answers of a cell of the connection is what the engine does, and the engine's TAT stays tied to the last
-- due time; any other slot moves neither.
use Prim.Native.Nat.{ℕ, suc, ◌-◌, ◌/◌, ◌^◌, ◌≤◌, ◌<◌}
use mathlib.Core.Path.{◌≡◌, refl, sym, ap, ◌∙◌, subst}
use mathlib.Core.Logic.{◌≢◌}
use mathlib.Core.Bool.{Bool, true, false, ◌&&◌, ◌||◌}
use mathlib.Core.List.{List, ◌∷◌}
use mathlib.Core.Option.{Option, none, some}
use native.Mathlib.Nat.{div-le_self}
use native.Mathlib.Omega.{arith}
use borrow.Author.Tests.{eqb-true}
use lib.ListN.{length}
use Rattle.meaning.specs.declared.Answer.{Answer}
use Rattle.meaning.specs.Plain.{when◌then◌else◌, ◌=?◌}
use Rattle.meaning.specs.Numbers.{connections_in, unused, slot_numbers, accepted, excess, lets_in}
use Rattle.meaning.specs.Bucket.{bucket_of, obeys_rules}
use Rattle.meaning.specs.State.{State}
use Rattle.meaning.specs.Header.{header_at, clp_in, connection, names_connection}
use Rattle.meaning.specs.Words.{without_second, connection_at}
use Rattle.meaning.specs.Work.{Work}
use Rattle.meaning.specs.Slot.{slot}
use Rattle.meaning.proofs.NamesLaws.{names_low, names_used}
use Rattle.meaning_runs.specs.Run.{Event, ran, let_in, shown, served}
use Rattle.meaning_runs.specs.Leak.{Opening, opening_with, due_time, due_slot, leak_accepts, accepts, sustained_after, opening_of}
use Rattle.meaning_runs.specs.Judged.{Judged, judged_of, judged_under, judged, judged_as}
use Rattle.theory_queues.specs.Queue.{turn}
use Rattle.theory_table.specs.Stored.{ConnectionIs}
use Rattle.theory_table.proofs.LeakLaws.{and_left, and_right}
use Rattle.theory_invariant.specs.Invariant.{Inv, waits}
use Rattle.theory_invariant.proofs.CheckLaws.{slot_served, slot_refused}
use Rattle.promises.proofs.VerdictLaws.{user, let_in_lem}
use Rattle.promises.proofs.Demand3Laws.{demanded}
use Rattle.promises.proofs.SustainedLaws.{peak_alone, none_above}
use Rattle.promise_agreed.specs.DueTimes.{peak_only}
use Rattle.promise_agreed.specs.Agreed.{Watched, is_for, ask, engine_after, Same}
use Rattle.promise_agreed.proofs.StepLaws.{Stepped, steps}
use Rattle.promise_agreed.proofs.HeaderLaws.{named, others}
use Rattle.promise_agreed.proofs.EventLaws.{Tied, tied_of, served_one, engine_asked, opening_moved, opening_still, for_it, not_for_it, not_served, accepts_is, accepts_not, quiet}

-- an opening is one
the_one : (o p : Opening) → some o ≡ some p → o ≡ p
the_one o p e = ap in_it e
  where
    in_it : Option Opening → Opening
    in_it none = o
    in_it (some x) = x

-- verdict, VCI and D, as the leak rule has them
abbrev leak_says : ℕ → ℕ → Opening → Bool → Judged
leak_says t v o b = when b then judged_of accepted v (due_slot o t - t) else judged_of excess v 0

module _ (w : Watched) (h : List Event) (cell : List ℕ) (a : Answer) (out : List ℕ) (k : Tied w h) where
  abbrev o : Opening
  o = opening_with w.m w.F w.C k.previous without_second k.sustained

  abbrev peak : Opening
  peak = peak_only w.m w.F w.C k.previous

  -- a cell of the connection: the engine's answer is the slot's
  same : (b : Bool) → Stepped w.m w.F w.C (served h) k.previous b (ask w (engine_after w h) (served h))
      → judged_of a.verdict a.vci a.d ≡ leak_says (served h) w.conn peak b
      → Same w h a (ask w (engine_after w h) (served h))
  unfolding due_slot due_time
  same true st j =
      let d = ap (λ (x : Judged). x.D) j in
      record {
        answered = st.number;
        vci = ap (λ (x : Judged). x.vci) j;
        verdict = ap (λ (x : Judged). x.verdict) j ∙ sym st.verdict;
        delay = d ∙ ap (λ (x : ℕ). x / 2 ^ w.m - served h) (sym st.due);
        early = λ on. d ∙ sym (st.early refl);
        due = λ on p q. st.due ∙ ap (λ (x : Opening). due_time x (served h)) (the_one o p (sym k.is ∙ q));
      }
  same false st j =
      let d = ap (λ (x : Judged). x.D) j in
      record {
        answered = st.number;
        vci = ap (λ (x : Judged). x.vci) j;
        verdict = ap (λ (x : Judged). x.verdict) j ∙ sym st.verdict;
        delay = d ∙ zero_slot ∙ ap (λ (x : ℕ). x / 2 ^ w.m - served h) (sym st.due);
        early = λ on. absurd (omega (arith, on, ap (λ (x : Judged). x.verdict) j));
        due = λ on p q. absurd (omega (arith, on, ap (λ (x : Judged). x.verdict) j));
      }
    where
      zero_slot : 0 ≡ 0 / 2 ^ w.m - served h
      zero_slot = omega (arith, div-le_self 0 (2 ^ w.m))

  -- and both move on alike
  moved : (b : Bool) → a.number ≡ 0 → is_for w cell a ≡ true
      → Stepped w.m w.F w.C (served h) k.previous b (ask w (engine_after w h) (served h))
      → judged_of a.verdict a.vci a.d ≡ leak_says (served h) w.conn peak b
      → Tied w (ran cell a out ∷ h)
  unfolding due_time lets_in
  moved true n e st j =
      tied_of w h (ran cell a out ∷ h) (some (due_time o (served h))) (sustained_after (served h) (clp_in cell) a.verdict o)
      (suc (served h)) (ask w (engine_after w h) (served h)).tat
      (opening_moved w h cell a out o k.is
      (accepts_is w h cell a out (ap (λ (x : Judged). x.verdict) j) (ap (λ (x : Judged). x.vci) j)))
      (served_one w h cell a out n) (engine_asked w h cell a out e) st.tied
  moved false n e st j =
      tied_of w h (ran cell a out ∷ h) k.previous k.sustained (suc (served h)) (ask w (engine_after w h) (served h)).tat
      (opening_still w h cell a out
      (accepts_not w h cell a out (ap (λ (y : Judged). lets_in y.verdict) j)) ∙ k.is)
      (served_one w h cell a out n) (engine_asked w h cell a out e) st.tied

-- what one slot leaves: the tie, and the engine's answer where the cell is for the connection
pub record Went (w : Watched) (h : List Event) (cell : List ℕ) (a : Answer) (out : List ℕ) : Type 0 where
  pub tied : Tied w (ran cell a out ∷ h)
  pub says : is_for w cell a ≡ true → Same w h a (ask w (engine_after w h) (served h))

module _ (w : Watched) (h : List Event) (s : State) (i : Inv w.N w.z w.kind h s) (k : Tied w h) where
  -- the rules that the connection was opened under
  rules : unused w.z w.conn ≡ false → w.conn < connections_in w.z → obeys_rules w.N (bucket_of w.m w.F w.C 0) ≡ true
  rules used low =
      (subst (λ (x : Option Opening). ConnectionIs w.N (connections_in w.z) (served h) w.conn (connection_at s.words w.conn)
      (waits w.conn i.out (turn i.cal)) x)
      k.is (i.stage.table w.conn used low)).rules

  module _ (cell : List ℕ) where
    -- the connection's number is one that is used
    mine_used : names_connection w.z (header_at w.kind (let_in s cell).cell 0) ≡ true
        → connection w.z (header_at w.kind (let_in s cell).cell 0) ≡ w.conn → unused w.z w.conn ≡ false
    mine_used n e = ap (unused w.z) (sym e) ∙ names_used w.z (header_at w.kind (let_in s cell).cell 0) n

    mine_low : names_connection w.z (header_at w.kind (let_in s cell).cell 0) ≡ true
        → connection w.z (header_at w.kind (let_in s cell).cell 0) ≡ w.conn → w.conn < connections_in w.z
    mine_low n e = omega (arith, e, names_low w.z (header_at w.kind (let_in s cell).cell 0) n)

    module _ (lent : length cell =? 0 || length cell =? 53 ≡ true) where
      -- demand 3's clause
      judges : judged_of (slot s cell).answer.verdict (slot s cell).answer.vci (slot s cell).answer.d
          ≡ judged_as w.kind w.z h (let_in s cell)
      judges = (demanded w.N w.z w.kind h s i).judges cell lent

      mine : served h < slot_numbers → names_connection w.z (header_at w.kind (let_in s cell).cell 0) ≡ true
          → connection w.z (header_at w.kind (let_in s cell).cell 0) ≡ w.conn
          → judged_of (slot s cell).answer.verdict (slot s cell).answer.vci (slot s cell).answer.d
          ≡ leak_says (served h) w.conn (peak_only w.m w.F w.C k.previous)
          (leak_accepts (peak_only w.m w.F w.C k.previous) (served h))
      unfolding leak_accepts due_slot due_time
      mine low n e =
          judges
          ∙ ap (λ (b : Bool). when b then judged_of 4 0 0 else judged w.kind w.z h (let_in s cell).cell)
          (let_in_lem w.N w.z w.kind h s i cell n)
          ∙ named w.kind w.z (served h) (λ v. opening_of v h) (let_in s cell).cell o
          (user w.N w.z w.kind h s i (let_in s cell).cell n) n (ap (λ (v : ℕ). opening_of v h) e ∙ k.is)
          ∙ ap (λ (v : ℕ). judged_under (served h) vci v clp (some o)) e
          ∙ peak_alone (served h) vci w.conn clp o
          (none_above w.N w.z w.kind h s i w.conn o (mine_used n e) (mine_low n e) k.is refl)
        where
          o : Opening
          o = opening_with w.m w.F w.C k.previous without_second k.sustained

          clp : ℕ
          clp = clp_in (let_in s cell).cell

          vci : ℕ
          vci = (header_at w.kind (let_in s cell).cell 0).vci

      theirs : (names_connection w.z (header_at w.kind (let_in s cell).cell 0) && connection w.z (header_at w.kind (let_in s cell).cell 0) =? w.conn) ≡ false
          → accepts w.conn (slot s cell).answer ≡ false
      unfolding accepts lets_in
      theirs e =
          ap (λ (j : Judged). lets_in j.verdict && j.vci =? w.conn) judges ∙ go (let_in s cell).dropped
        where
          go : (b : Bool)
              → let j = (when b then judged_of 4 0 0 else judged w.kind w.z h (let_in s cell).cell) in
              (lets_in j.verdict && j.vci =? w.conn) ≡ false
          go true = refl
          go false = others w.kind w.z (served h) w.conn (λ v. opening_of v h) (let_in s cell).cell e

      went_served : served h < slot_numbers → Went w h (let_in s cell).cell (slot s cell).answer (shown (slot s cell))
      went_served low =
          go (names_connection w.z (header_at w.kind (let_in s cell).cell 0) && connection w.z (header_at w.kind (let_in s cell).cell 0) =? w.conn) refl
        where
          c : List ℕ
          c = (let_in s cell).cell

          number : (slot s cell).answer.number ≡ 0
          number = (slot_served w.N w.z w.kind h s i cell lent).number

          go : (b : Bool)
              → (names_connection w.z (header_at w.kind (let_in s cell).cell 0) && connection w.z (header_at w.kind (let_in s cell).cell 0) =? w.conn) ≡ b
              → Went w h (let_in s cell).cell (slot s cell).answer (shown (slot s cell))
          go true e =
              let n = and_left (names_connection w.z (header_at w.kind c 0)) (connection w.z (header_at w.kind c 0) =? w.conn) e in
              let v = eqb-true (connection w.z (header_at w.kind c 0)) w.conn (and_right (names_connection w.z (header_at w.kind c 0)) (connection w.z (header_at w.kind c 0) =? w.conn) e) in
              let st = steps w.N w.m w.F w.C (served h) i.stage.ranges.N_low i.stage.ranges.N_high
              (rules (mine_used n v) (mine_low n v)) low k.previous (engine_after w h) k.state in
              let j = mine low n v in
              let b = leak_accepts (peak_only w.m w.F w.C k.previous) (served h) in
              let it = for_it w h (let_in s cell).cell (slot s cell).answer (shown (slot s cell)) number e in
              record {
                tied = moved w h (let_in s cell).cell (slot s cell).answer (shown (slot s cell)) k b number it st j;
                says = λ on. same w h (let_in s cell).cell (slot s cell).answer (shown (slot s cell)) k b st j;
              }
          go false e =
              let x = not_for_it w h (let_in s cell).cell (slot s cell).answer (shown (slot s cell)) e in
              record {
                tied = quiet w h (let_in s cell).cell (slot s cell).answer (shown (slot s cell)) k x (theirs e);
                says = λ on. absurd (let y : ◌≡◌ {A = Bool} true false = sym on ∙ x in let z : ◌≡◌ {A = ℕ} 0 1 = cc in omega arith);
              }

    -- refused with 9: nothing is said of a cell
    went_refused : length cell =? 0 || length cell =? 53 ≡ false
        → Went w h (let_in s cell).cell (slot s cell).answer (shown (slot s cell))
    unfolding lets_in
    went_refused lent =
        let is = slot_refused w.N w.z w.kind h s i cell lent in
        let n : (slot s cell).answer.number ≢ 0 = λ e. omega (arith, e, ap (λ (x : Work). x.answer.number) is) in
        let x = not_served w h (let_in s cell).cell (slot s cell).answer (shown (slot s cell)) n in
        let y : lets_in (slot s cell).answer.verdict ≡ false = ap (λ (x : Work). lets_in x.answer.verdict) is in
        record {
          tied = quiet w h (let_in s cell).cell (slot s cell).answer (shown (slot s cell)) k x
              (accepts_not w h (let_in s cell).cell (slot s cell).answer (shown (slot s cell)) y);
          says = λ on. absurd (let y : ◌≡◌ {A = Bool} true false = sym on ∙ x in let z : ◌≡◌ {A = ℕ} 0 1 = cc in omega arith);
        }

    pub went : served (ran (let_in s cell).cell (slot s cell).answer (shown (slot s cell)) ∷ h) ≤ slot_numbers
        → Went w h (let_in s cell).cell (slot s cell).answer (shown (slot s cell))
    went low = go (length cell =? 0 || length cell =? 53) refl
      where
        go : (b : Bool) → length cell =? 0 || length cell =? 53 ≡ b
            → Went w h (let_in s cell).cell (slot s cell).answer (shown (slot s cell))
        go true e =
            went_served e (omega (
              arith,
              low,
              served_one w h (let_in s cell).cell (slot s cell).answer (shown (slot s cell))
                  (slot_served w.N w.z w.kind h s i cell e).number,
            ))
        go false e = went_refused e
