-- What each slot of a run says of a connection: of a cell of it, the leak rules' verdict under its opening; and of no other cell verdict 1,
-- 2 or 5 with its number. From the clause of demand 3 on whatever arrives.
use Prim.Native.Nat.{ℕ}
use mathlib.Core.Path.{◌≡◌, refl, sym, ap, ◌∙◌, subst}
use mathlib.Core.Logic.{◌≢◌}
use mathlib.Core.Bool.{Bool, true, false, not, ◌&&◌, ◌||◌}
use mathlib.Core.List.{List, [], ◌∷◌, ◌++◌}
use mathlib.Core.Option.{Option, none, some}
use native.Mathlib.Omega.{arith}
use borrow.Author.Tests.{eqb-true, eqb-false}
use lib.ListN.{length}
use Rattle.meaning.specs.declared.Answer.{Answer}
use Rattle.meaning.specs.Plain.{when◌then◌else◌, ◌=?◌}
use Rattle.meaning.specs.Numbers.{nothing, excess, unknown, dropped, lets_in}
use Rattle.meaning.specs.Header.{Header, header_at, clp_in, no_user_cell, connection, names_connection}
use Rattle.meaning.specs.Work.{Work}
use Rattle.meaning.specs.Slot.{slot}
use Rattle.meaning_runs.specs.Run.{Call, on_open_with, on_close, on_slot, Event, opened, closed, ran, Run, let_in, call_at, call, calls, served}
use Rattle.meaning_runs.specs.Leak.{Opening, verdict_by, opening_of}
use Rattle.meaning_runs.specs.Judged.{Judged, judged_of, judged_under, judged_by, judged, judged_as}
use Rattle.theory_table.proofs.LeakLaws.{and_left, and_right}
use Rattle.theory_invariant.proofs.CheckLaws.{slot_served, slot_refused}
use Rattle.theory_invariant.proofs.RunLaws.{Kept, call_kept}
use Rattle.promises.proofs.VerdictLaws.{says, let_in_lem, judged_is}
use Rattle.promise_sustained.specs.Sustained.{comes}

pub not_so : {A : Type 0} → true ≡ false → A
not_so e = absurd (let z : ◌≡◌ {A = ℕ} 0 1 = cc in omega arith)

-- verdict and VCI of the answer to a cell after the events h
pub record Said (kind z : ℕ) (h : List Event) (cell : List ℕ) (a : Answer) : Type 0 where
  pub own : (v : ℕ) (o : Opening) → comes kind z v cell a ≡ true → opening_of v h ≡ some o
      → (a.vci ≡ v) × (a.verdict ≡ verdict_by o (clp_in cell) (served h))
  pub other : (v : ℕ) → comes kind z v cell a ≡ false → a.vci ≡ v → (lets_in a.verdict ≡ false) × (a.verdict ≢ excess)

abbrev Quiet : ℕ → Judged → Type 0
Quiet v j = j.vci ≡ v → (lets_in j.verdict ≡ false) × (j.verdict ≢ excess)

-- a cell that does not name the connection
quiet_by : (kind z t v : ℕ) (op : ℕ → Option Opening) (cell : List ℕ)
    → names_connection z (header_at kind cell 0) && connection z (header_at kind cell 0) =? v ≡ false
    → Quiet v (judged_by kind z t op cell)
unfolding judged_by lets_in
quiet_by kind z t v op cell = go (length cell =? 0 || no_user_cell hd) (names_connection z hd) (op u)
  where
    hd : Header
    hd = header_at kind cell 0

    u : ℕ
    u = connection z hd

    go : (x y : Bool) (o : Option Opening) → y && u =? v ≡ false
        → Quiet v (when x then judged_of nothing 0 0 else when not y then judged_of unknown hd.vci 0
        else judged_under t hd.vci u (clp_in cell) o)
    go true y o e q = (refl, λ f. omega (arith, f))
    go false false o e q = (refl, λ f. omega (arith, f))
    go false true none e q = (refl, λ f. omega (arith, f))
    go false true (some o) e q = absurd (eqb-false u v e q)

module _ (N z kind : ℕ) (r : Run) (k : Kept N z kind r) (cell : List ℕ) where
  abbrev h : List Event
  h = r.events

  abbrev a : Answer
  a = (slot r.state cell).answer

  abbrev through : List ℕ
  through = (let_in r.state cell).cell

  abbrev told : Judged
  told = judged_of a.verdict a.vci a.d

  abbrev named : ℕ → Bool
  named v = names_connection z (header_at kind through 0) && connection z (header_at kind through 0) =? v

  -- a cell of it, in a slot that was served
  module _ (lent : length cell =? 0 || length cell =? 53 ≡ true) where
    judged_as_lem : told ≡ judged_as kind z h (let_in r.state cell)
    judged_as_lem = says N z kind h r.state k.inv cell lent

    own_says : (v : ℕ) (o : Opening) → named v ≡ true → opening_of v h ≡ some o
        → (a.vci ≡ v) × (a.verdict ≡ verdict_by o (clp_in through) (served h))
    own_says v o e q = (ap (λ (j : Judged). j.vci) is ∙ mine, ap (λ (j : Judged). j.verdict) is)
      where
        names : names_connection z (header_at kind through 0) ≡ true
        names = and_left (names_connection z (header_at kind through 0)) (connection z (header_at kind through 0) =? v) e

        mine : connection z (header_at kind through 0) ≡ v
        mine = eqb-true (connection z (header_at kind through 0)) v (and_right (names_connection z (header_at kind through 0)) (connection z (header_at kind through 0) =? v) e)

        is : told ≡ judged_under (served h) (header_at kind through 0).vci (connection z (header_at kind through 0)) (clp_in through) (some o)
        is =
            judged_as_lem
            ∙ rw (let_in_lem N z kind h r.state k.inv cell names)
            (judged_is N z kind h r.state k.inv through o names (ap (λ (u : ℕ). opening_of u h) mine ∙ q))

    other_says : (v : ℕ) → named v ≡ false → Quiet v told
    unfolding lets_in
    other_says v e = subst (Quiet v) (sym judged_as_lem) (go (let_in r.state cell).dropped)
      where
        go : (b : Bool) → Quiet v (when b then judged_of dropped 0 0 else judged kind z h through)
        go true q = (refl, λ f. omega (arith, f))
        go false q = quiet_by kind z (served h) v (λ u. opening_of u h) through e q

  -- a slot that was refused says nothing
  refused_says : length cell =? 0 || length cell =? 53 ≡ false
      → (a.number ≢ 0) × (lets_in a.verdict ≡ false) × (a.verdict ≢ excess)
  unfolding lets_in
  refused_says lent =
      let is = slot_refused N z kind h r.state k.inv cell lent in (
        λ e. omega (arith, e, ap (λ (w : Work). w.answer.number) is),
        ap (λ (w : Work). lets_in w.answer.verdict) is,
        λ e. omega (arith, e, ap (λ (w : Work). w.answer.verdict) is),
      )

  pub said : Said kind z r.events (let_in r.state cell).cell (slot r.state cell).answer
  unfolding comes
  said = go (length cell =? 0 || length cell =? 53) refl
    where
      go : (b : Bool) → length cell =? 0 || length cell =? 53 ≡ b → Said kind z h through a
      go true e =
          record {
            own = λ v o c q. own_says e v o (and_right (a.number =? 0) (named v) c) q;
            other = λ v c q. other_says e v (after_true (a.number =? 0) (named v) (served_zero e) c) q;
          }
        where
          served_zero : length cell =? 0 || length cell =? 53 ≡ true → a.number =? 0 ≡ true
          served_zero e = rw (slot_served N z kind h r.state k.inv cell e).number

          after_true : (x y : Bool) → x ≡ true → x && y ≡ false → y ≡ false
          after_true true y p q = q
          after_true false y p q = not_so (sym p)
      go false e =
          let q = refused_says e in
          record {
            own = λ v o c f. absurd (q.0 (eqb-true a.number 0 (and_left (a.number =? 0) (named v) c)));
            other = λ v c f. (q.1, q.2);
          }

-- ── of a run ──
abbrev pub SaidAll : ℕ → ℕ → List Event → Type 0
SaidAll kind z [] = Unit {0}
SaidAll kind z (opened who vci m F C x number ∷ h) = SaidAll kind z h
SaidAll kind z (closed who vci number ∷ h) = SaidAll kind z h
SaidAll kind z (ran cell a out ∷ h) = Said kind z h cell a × SaidAll kind z h

pub said_before : (kind z : ℕ) (later h : List Event) → SaidAll kind z (later ++ h) → SaidAll kind z h
said_before kind z [] h s = s
said_before kind z (opened who vci m F C x number ∷ later) h s = said_before kind z later h s
said_before kind z (closed who vci number ∷ later) h s = said_before kind z later h s
said_before kind z (ran cell a out ∷ later) h s = said_before kind z later h s.1

module _ (N z kind : ℕ) where
  call_said : (r : Run) (c : Call) → Kept N z kind r → SaidAll kind z r.events → SaidAll kind z (call r c).events
  unfolding call call_at slot
  call_said r (on_open_with who v m F C x) k s = s
  call_said r (on_close who v) k s = s
  call_said r (on_slot cell) k s = (said N z kind r k cell, s)

  pub calls_said : (r : Run) (cs : List Call) → Kept N z kind r → SaidAll kind z r.events → SaidAll kind z (calls r cs).events
  unfolding calls
  calls_said r [] k s = s
  calls_said r (c ∷ cs) k s = calls_said (call r c) cs (call_kept N z kind r c k) (call_said r c k s)
