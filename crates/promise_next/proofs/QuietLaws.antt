-- Calls that let no cell in, over the line without its memory: each slot moves on by one queue, opens and closes move nothing. So up to
-- the slot in which the first cell of what waits leaves, nothing leaves.
use Prim.Native.Nat.{ℕ, suc, ◌+◌, ◌≤◌, ◌<◌}
use mathlib.Core.Path.{◌≡◌, refl, sym, ap, ap₂, ◌∙◌, subst}
use mathlib.Core.Logic.{◌≢◌}
use mathlib.Core.Bool.{Bool, true, false, ◌||◌}
use mathlib.Core.List.{List, [], ◌∷◌, ◌++◌, map, tail}
use mathlib.Core.Option.{Option}
use native.Mathlib.Nat.{add-zero}
use native.Mathlib.Omega.{arith}
use borrow.Author.Tests.{eq-eqb}
use lib.ListN.{length, get_or}
use Rattle.meaning.specs.declared.Answer.{Answer}
use Rattle.meaning.specs.Plain.{◌=?◌}
use Rattle.meaning.specs.Numbers.{lets_in}
use Rattle.meaning.specs.Header.{Name, header_at}
use Rattle.meaning.specs.Words.{Second}
use Rattle.meaning.specs.Work.{Work, work_of, bare_answer}
use Rattle.meaning.specs.Slot.{slot}
use Rattle.meaning.proofs.NamesLaws.{names_not_0}
use Rattle.meaning_runs.specs.Run.{Call, on_open_with, on_close, on_slot, Event, ran, Run, run_of, let_in, shown, call_at, call, calls, served}
use Rattle.meaning_runs.specs.Leak.{Opening, opening_of}
use Rattle.meaning_runs.specs.Seen.{Cell}
use Rattle.theory_queues.specs.Queue.{All, Alls, first, turn}
use Rattle.theory_queues.proofs.QueueLaws.{turn_at, all_append, alls_first, alls_turn}
use Rattle.theory_memory.specs.Held.{Queued}
use Rattle.theory_invariant.specs.Invariant.{cell_in, Sits, Inv, Waiting, waiting}
use Rattle.theory_invariant.specs.Gone.{new_in, ready, onwards, LeftAs}
use Rattle.theory_invariant.proofs.CallLaws.{unchanged}
use Rattle.theory_invariant.proofs.OpenLaws.{open_kept, close_kept}
use Rattle.theory_invariant.proofs.CheckLaws.{Checked, slot_served, slot_refused}
use Rattle.theory_invariant.proofs.RunLaws.{nine}
use Rattle.promises.specs.Checked.{Lent}
use Rattle.promise_next.specs.Next.{LetsNone, NoneIn, SendsNothing, Sends}
use Rattle.promise_next.proofs.LineLaws.{is_some}

-- ── lists ──
none_is : {A : Type 0} (l : List A) → is_some l ≡ false → l ≡ []
none_is [] e = refl
none_is (x ∷ l) e = absurd (let z : ◌≡◌ {A = ℕ} 0 1 = cc in omega arith)

some_append : {A : Type 0} (a b : List A) → is_some a || is_some b ≡ true → is_some (a ++ b) ≡ true
some_append [] b e = e
some_append (x ∷ a) b e = refl

first_turn : {A : Type 0} (r : List (List A)) → first (turn r) ≡ get_or r 0 []
first_turn [] = refl
first_turn (q ∷ r) = refl

tail_turn : {A : Type 0} (r : List (List A)) (j : ℕ) → get_or (tail (turn r)) j [] ≡ get_or r (suc j) []
tail_turn [] j = refl
tail_turn (q ∷ r) j = turn_at r j

-- ── a queued cell's connection is not 0 ──
abbrev Known : Cell → Type 0
Known c = c.vci ≢ 0

module _ (kind z : ℕ) (op : ℕ → Option Opening) where
  sits_known : (q : List Queued) → All (Sits kind z op) q → All Known (map cell_in q)
  sits_known [] a = tt
  sits_known (c ∷ q) a =
      (λ e. names_not_0 z (header_at kind c.cell.octets 0) a.0.0 (a.0.1 ∙ e), sits_known q a.1)

  sit_known : (r : List (List Queued)) → Alls (Sits kind z op) r → Alls Known (map (map cell_in) r)
  sit_known [] a = tt
  sit_known (q ∷ r) a = (sits_known q a.0, sit_known r a.1)

-- what the answer says of a departure
left_some : (l : List Cell) (w : Work) → is_some l ≡ true → All Known l → LeftAs l w → Sends w.answer
left_some [] w e k f = absurd (let z : ◌≡◌ {A = ℕ} 0 1 = cc in omega arith)
left_some (c ∷ l) w e k f = (f.0, λ y. k.0 (sym f.1 ∙ y))

-- no cell is new where none is let in
none_new : (h : List Event) (cell : List ℕ) (a : Answer) → lets_in a.verdict ≡ false → new_in h cell a ≡ []
none_new h cell a e = rw e refl

served_one : (h : List Event) (cell : List ℕ) (a : Answer) (out : List ℕ) → a.number ≡ 0 → served (ran cell a out ∷ h) ≡ suc (served h)
unfolding served
served_one h cell a out e = rw (eq-eqb a.number 0 e) (omega arith)

-- start slots had been served when b waited; the next m slots send nothing
module _ (N z kind start m : ℕ) (b : Waiting)
    (rests : (j : ℕ) → j < m → (is_some b.out ≡ false) × (is_some (get_or b.cal j []) ≡ false)) where
  -- n slots later
  pub record At (q : Run) : Type 0 where
    pub inv : Inv N z kind q.events q.state
    pub n : ℕ
    pub slots : served q.events ≡ start + n
    pub out_is : n ≤ m → (waiting inv).out ≡ b.out
    pub cal_is : n ≤ m → (j : ℕ) → get_or (waiting inv).cal j [] ≡ get_or b.cal (n + j) []

  module _ (q : Run) (t : At q) where
    -- what is ready in the next slot, if none arrives
    ready_is : t.n ≤ m → ready [] (waiting t.inv) ≡ b.out ++ get_or b.cal t.n []
    ready_is l =
        ap₂ (λ (x y : List Cell). x ++ y) (t.out_is l)
        (first_turn (waiting t.inv).cal ∙ t.cal_is l 0 ∙ ap (λ (j : ℕ). get_or b.cal j []) (add-zero t.n))

    nothing_ready : t.n < m → ready [] (waiting t.inv) ≡ []
    nothing_ready l =
        ready_is (omega arith)
        ∙ ap₂ (λ (x y : List Cell). x ++ y) (none_is b.out (rests t.n l).0) (none_is (get_or b.cal t.n []) (rests t.n l).1)

    all_known : All Known (ready [] (waiting t.inv))
    all_known =
        all_append Known (waiting t.inv).out (first (turn (waiting t.inv).cal))
        (sits_known kind z (λ v. opening_of v q.events) t.inv.out t.inv.sits_out)
        (alls_first Known (turn (waiting t.inv).cal)
        (alls_turn Known (waiting t.inv).cal (sit_known kind z (λ v. opening_of v q.events) t.inv.cal t.inv.sits_cal)))

    module _ (cell : List ℕ) (none : LetsNone q (on_slot cell)) where
      abbrev w : Work
      w = slot q.state cell

      no_new : new_in q.events (let_in q.state cell).cell w.answer ≡ []
      no_new = none_new q.events (let_in q.state cell).cell w.answer none

      module _ (lent : Lent cell) where
        g : Checked N z kind q.events (waiting t.inv) (let_in q.state cell) (slot q.state cell)
        g = slot_served N z kind q.events q.state t.inv cell lent

        left : LeftAs (ready [] (waiting t.inv)) w
        left = subst (λ (new : List Cell). LeftAs (ready new (waiting t.inv)) w) no_new g.left

        pub sends_nothing : t.n < m → SendsNothing (slot q.state cell).answer
        sends_nothing l = subst (λ (o : List Cell). LeftAs o w) (nothing_ready l) left

        pub sends : t.n ≡ m → is_some b.out || is_some (get_or b.cal m []) ≡ true → Sends (slot q.state cell).answer
        sends e some =
            left_some (ready [] (waiting t.inv)) w
            (ap is_some (ready_is (omega arith) ∙ ap (λ (j : ℕ). b.out ++ get_or b.cal j []) e)
            ∙ some_append b.out (get_or b.cal m []) some) all_known left

        waits_on_lem : waiting g.inv ≡ onwards [] (waiting t.inv)
        waits_on_lem = g.waits_on_lem ∙ ap (λ (new : List Cell). onwards new (waiting t.inv)) no_new

        slot_on : At (run_of w.state (ran (let_in q.state cell).cell w.answer (shown w) ∷ q.events))
        slot_on =
            record {
              inv = g.inv;
              n = suc t.n;
              slots = served_one q.events (let_in q.state cell).cell w.answer (shown w) g.number ∙ omega (arith, t.slots);
              out_is = λ l. ap (λ (a : Waiting). a.out) waits_on_lem ∙ ap tail (nothing_ready l) ∙ sym (none_is b.out (rests t.n l).0);
              cal_is = λ l j. ap (λ (a : Waiting). get_or a.cal j []) waits_on_lem
                  ∙ tail_turn (waiting t.inv).cal j
                  ∙ t.cal_is (omega arith) (suc j)
                  ∙ ap (λ (k : ℕ). get_or b.cal k []) (omega arith);
            }

      -- refused with 9: no slot is served, and all stays
      nine_on : At (run_of q.state (ran (let_in q.state cell).cell (bare_answer 9) (shown (work_of q.state (bare_answer 9))) ∷ q.events))
      unfolding nine unchanged served
      nine_on =
          record {
            inv = nine N z kind q.events q.state (let_in q.state cell).cell t.inv;
            n = t.n;
            slots = omega (arith, t.slots);
            out_is = t.out_is;
            cal_is = t.cal_is;
          }

      slot_at : At (call q (on_slot cell))
      unfolding call call_at slot
      slot_at = go (length cell =? 0 || length cell =? 53) refl
        where
          go : (c : Bool) → length cell =? 0 || length cell =? 53 ≡ c
              → At (run_of (slot q.state cell).state (ran (let_in q.state cell).cell (slot q.state cell).answer (shown (slot q.state cell)) ∷ q.events))
          go true e = slot_on e
          go false e =
              subst (λ (v : Work). At (run_of v.state (ran (let_in q.state cell).cell v.answer (shown v) ∷ q.events)))
              (sym (slot_refused N z kind q.events q.state t.inv cell e)) nine_on

    open_at : (who : ℕ) (name : Name) (k F C : ℕ) (second : Second) → At (call q (on_open_with who name k F C second))
    unfolding call call_at served
    open_at who name k F C second =
        let g = open_kept N z kind q.events q.state t.inv who name k F C second in
        record {
          inv = g.inv;
          n = t.n;
          slots = t.slots;
          out_is = λ l. ap (λ (a : Waiting). a.out) g.waits_on_lem ∙ t.out_is l;
          cal_is = λ l j. ap (λ (a : Waiting). get_or a.cal j []) g.waits_on_lem ∙ t.cal_is l j;
        }

    close_at : (who : ℕ) (name : Name) → At (call q (on_close who name))
    unfolding call call_at served
    close_at who name =
        let g = close_kept N z kind q.events q.state t.inv who name in
        record {
          inv = g.inv;
          n = t.n;
          slots = t.slots;
          out_is = λ l. ap (λ (a : Waiting). a.out) g.waits_on_lem ∙ t.out_is l;
          cal_is = λ l j. ap (λ (a : Waiting). get_or a.cal j []) g.waits_on_lem ∙ t.cal_is l j;
        }

  call_at_lem : (q : Run) → At q → (c : Call) → LetsNone q c → At (call q c)
  call_at_lem q t (on_open_with who name k F C second) none = open_at q t who name k F C second
  call_at_lem q t (on_close who name) none = close_at q t who name
  call_at_lem q t (on_slot cell) none = slot_at q t cell none

  pub calls_at : (q : Run) → At q → (cs : List Call) → NoneIn q cs → At (calls q cs)
  unfolding calls
  calls_at q t [] none = t
  calls_at q t (c ∷ cs) none = calls_at (call q c) (call_at_lem q t c none.0) cs none.1
