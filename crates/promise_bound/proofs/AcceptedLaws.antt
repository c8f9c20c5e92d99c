-- A cell is accepted or tagged only where its connection is open, of every run: the verdict is the leak rules' over openings, and a slot
-- that is refused accepts none.
use Prim.Native.Nat.{ℕ}
use mathlib.Core.Path.{◌≡◌, refl, sym, ap, ◌∙◌, subst}
use mathlib.Core.Bool.{Bool, true, false, not, ◌||◌}
use mathlib.Core.List.{List, [], ◌∷◌}
use mathlib.Core.Option.{Option, none, some}
use native.Mathlib.Omega.{arith}
use lib.ListN.{length}
use Rattle.base_hec.specs.Modes.{Arriving}
use Rattle.meaning.specs.declared.Answer.{Answer}
use Rattle.meaning.specs.Plain.{when◌then◌else◌, ◌=?◌}
use Rattle.meaning.specs.Numbers.{nothing, unknown, dropped, lets_in}
use Rattle.meaning.specs.Header.{Header, header_at, clp_in, no_user_cell, connection, names_connection}
use Rattle.meaning.specs.Work.{Work}
use Rattle.meaning.specs.Slot.{slot}
use Rattle.meaning_runs.specs.Run.{Call, on_open_with, on_close, on_slot, Event, opened, closed, ran, Run, let_in, call_at, call, calls, served}
use Rattle.meaning_runs.specs.Leak.{Opening, opening_of}
use Rattle.meaning_runs.specs.Judged.{Judged, judged_of, judged_under, judged_by, judged_as}
use Rattle.theory_invariant.proofs.CheckLaws.{slot_refused}
use Rattle.theory_invariant.proofs.RunLaws.{Kept, call_kept}
use Rattle.promises.proofs.VerdictLaws.{says}

abbrev pub IsOpen : Option Opening → Type 0
IsOpen none = ⊥
IsOpen (some o) = Unit {0}

-- ── a cell is let in only where its connection is open ──
not_let : {A : Type 0} → false ≡ true → A
not_let e = absurd (let z : ◌≡◌ {A = ℕ} 0 1 = cc in omega arith)

module _ (t : ℕ) (openings : ℕ → Option Opening) where
  abbrev OpenWhere : Judged → Type 0
  OpenWhere j = lets_in j.verdict ≡ true → IsOpen (openings j.vci)

  under_open : (vci u clp : ℕ) (x : Option Opening) → openings u ≡ x → OpenWhere (judged_under t vci u clp x)
  unfolding lets_in
  under_open vci u clp none e n = not_let n
  under_open vci u clp (some o) e n = subst IsOpen (sym e) tt

  by_open : (kind z : ℕ) (cell : List ℕ) → OpenWhere (judged_by kind z t openings cell)
  unfolding judged_by lets_in
  by_open kind z cell =
      go (length cell =? 0 || no_user_cell hd) (names_connection z hd) (under_open hd.vci u (clp_in cell) (openings u) refl)
    where
      hd : Header
      hd = header_at kind cell 0

      u : ℕ
      u = connection z hd

      go : (b c : Bool) → OpenWhere (judged_under t hd.vci u (clp_in cell) (openings u))
          → OpenWhere (when b then judged_of nothing 0 0 else when not c then judged_of unknown hd.vci 0
          else judged_under t hd.vci u (clp_in cell) (openings u))
      go true c k n = not_let n
      go false false k n = not_let n
      go false true k n = k n

judged_open : (kind z : ℕ) (h : List Event) (a : Arriving) → OpenWhere (served h) (λ v. opening_of v h) (judged_as kind z h a)
unfolding lets_in
judged_open kind z h a = go a.dropped
  where
    go : (b : Bool) → OpenWhere (served h) (λ v. opening_of v h)
        (when b then judged_of dropped 0 0 else judged_by kind z (served h) (λ v. opening_of v h) a.cell)
    go true n = not_let n
    go false n = by_open (served h) (λ v. opening_of v h) kind z a.cell n

-- ── of a run ──
abbrev pub AcceptedOpen : List Event → Type 0
AcceptedOpen [] = Unit {0}
AcceptedOpen (opened who vci m F C x number ∷ h) = AcceptedOpen h
AcceptedOpen (closed who vci number ∷ h) = AcceptedOpen h
AcceptedOpen (ran cell a out ∷ h) = (lets_in a.verdict ≡ true → IsOpen (opening_of a.vci h)) × AcceptedOpen h

module _ (N z kind : ℕ) where
  slot_open : (r : Run) (cell : List ℕ) → Kept N z kind r → lets_in (slot r.state cell).answer.verdict ≡ true
      → IsOpen (opening_of (slot r.state cell).answer.vci r.events)
  unfolding lets_in
  slot_open r cell k n = go (length cell =? 0 || length cell =? 53) refl
    where
      h : List Event
      h = r.events

      a : Answer
      a = (slot r.state cell).answer

      go : (b : Bool) → length cell =? 0 || length cell =? 53 ≡ b
          → IsOpen (opening_of (slot r.state cell).answer.vci r.events)
      go true e =
          subst (OpenWhere (served h) (λ v. opening_of v h)) (sym (says N z kind r.events r.state k.inv cell e))
          (judged_open kind z h (let_in r.state cell)) n
      go false e =
          not_let (sym (ap (λ (w : Work). lets_in w.answer.verdict) (slot_refused N z kind r.events r.state k.inv cell e))
          ∙ n)

  call_open : (r : Run) (c : Call) → Kept N z kind r → AcceptedOpen r.events → AcceptedOpen (call r c).events
  unfolding call call_at slot
  call_open r (on_open_with who v m F C x) k p = p
  call_open r (on_close who v) k p = p
  call_open r (on_slot cell) k p = (slot_open r cell k, p)

  pub calls_open : (r : Run) (cs : List Call) → Kept N z kind r → AcceptedOpen r.events → AcceptedOpen (calls r cs).events
  unfolding calls
  calls_open r [] k p = p
  calls_open r (c ∷ cs) k p = calls_open (call r c) cs (call_kept N z kind r c k) (call_open r c k p)
