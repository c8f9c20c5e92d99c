-- VCs and paths apart: no two connections have the same number, an open or close that answers 0 names a connection, and a cell that
-- is let in has the number that its header names; so nothing that names one connection moves another.
use Prim.Native.Nat.{ℕ}
use mathlib.Core.Path.{◌≡◌, refl, sym, ap, ◌∙◌}
use mathlib.Core.Logic.{◌≢◌}
use mathlib.Core.Bool.{Bool, true, false, not, ◌&&◌, ◌||◌}
use mathlib.Core.List.{List, ◌∷◌}
use mathlib.Core.Option.{Option, none, some}
use native.Mathlib.Omega.{arith}
use borrow.Author.Tests.{ne_eqb, not-false}
use lib.ListN.{length}
use Rattle.meaning.specs.Plain.{◌=?◌}
use Rattle.meaning.specs.Numbers.{octets, dropped, lets_in}
use Rattle.meaning.specs.State.{State, with_words}
use Rattle.meaning.specs.Header.{Header, header_at, clp_in, no_user_cell, Name, named, number_in, name_in, connection, names_connection}
use Rattle.meaning.specs.Operators.{owns}
use Rattle.meaning.specs.Bucket.{bucket_of, obeys_rules}
use Rattle.meaning.specs.Words.{Second, connection_at, second_obeys, opened_connection, closed_connection, debt}
use Rattle.meaning.specs.Calls.{Called, open_call, close_call}
use Rattle.meaning.specs.Work.{Work}
use Rattle.meaning.specs.Slot.{slot}
use Rattle.meaning.proofs.NamesLaws.{one_name}
use Rattle.meaning.proofs.WordsLaws.{write_read_other}
use Rattle.meaning_runs.specs.Run.{on_open_with, on_close, on_slot, Event, opened, closed, Run, let_in, call_at, call, served}
use Rattle.meaning_runs.specs.Leak.{Opening, accepts, opening_of}
use Rattle.meaning_runs.specs.Judged.{Judged, judged_of, judged_under, judged_by, judged}
use Rattle.meaning_runs.proofs.OutLaws.{if_holds}
use Rattle.theory_invariant.specs.Invariant.{Inv}
use Rattle.theory_invariant.proofs.CallLaws.{shared_in, shared_foreign, shared_out}
use Rattle.theory_invariant.proofs.CheckLaws.{slot_refused}
use Rattle.theory_invariant.proofs.RunLaws.{Kept}
use Rattle.promises.specs.Demand3.{header_let_in}
use Rattle.promises.specs.Paths.{Apart}
use Rattle.promises.proofs.VerdictLaws.{says}

never : false ≡ true → ⊥
never e = let y : ◌≡◌ {A = ℕ} 0 1 = cc in omega arith

last_no : (b : Bool) → b && false ≡ false
last_no true = refl
last_no false = refl

other_open : (who u v m F C : ℕ) (x : Second) (number : ℕ) (h : List Event) → u ≢ v
    → opening_of v (opened who u m F C x number ∷ h) ≡ opening_of v h
unfolding opening_of
other_open who u v m F C x number h ne = rw (ne_eqb u v ne, last_no (number =? 0))

other_close : (who u v number : ℕ) (h : List Event) → u ≢ v → opening_of v (closed who u number ∷ h) ≡ opening_of v h
unfolding opening_of
other_close who u v number h ne = rw (ne_eqb u v ne, last_no (number =? 0))

-- the connection that a header names is the one of that name
same_name : (z : ℕ) (hd : Header) (b : Name) → names_connection z hd ≡ true → named z b ≡ true → connection z hd ≡ number_in z b
    → name_in hd ≡ b
unfolding names_connection connection
same_name z hd b p q e = one_name z (name_in hd) b p q e

-- a cell that the leak rules let in has the number of the connection that its header names
judged_names : (kind z t : ℕ) (openings : ℕ → Option Opening) (cell : List ℕ)
    → lets_in (judged_by kind z t openings cell).verdict ≡ true
    → (names_connection z (header_at kind cell 0) ≡ true)
    × ((judged_by kind z t openings cell).vci ≡ connection z (header_at kind cell 0))
unfolding judged_by lets_in
judged_names kind z t openings cell =
    if_holds P (length cell =? 0 || no_user_cell hd) _ _ (λ _ e. absurd (never e))
    (λ _. if_holds P (not (names_connection z hd)) _ _ (λ _ e. absurd (never e))
    (λ n. under (not-false (names_connection z hd) n) (openings (connection z hd))))
  where
    hd : Header
    hd = header_at kind cell 0

    P : Judged → Type 0
    P j = lets_in j.verdict ≡ true → (names_connection z hd ≡ true) × (j.vci ≡ connection z hd)

    under : names_connection z hd ≡ true → (o : Option Opening) → P (judged_under t hd.vci (connection z hd) (clp_in cell) o)
    under n none e = absurd (never e)
    under n (some o) e = (n, refl)

module _ (N z kind : ℕ) (r : Run) (k : Kept N z kind r) where
  abbrev s : State
  s = r.state

  abbrev h : List Event
  h = r.events

  abbrev i : Inv N z kind h s
  i = k.inv

  -- a call that names a, and another connection b
  module _ (who : ℕ) (a b : Name) (nb : named z b ≡ true) (ne : a ≢ b) where
    abbrev u : ℕ
    u = number_in s.ctl.v a

    abbrev v : ℕ
    v = number_in z b

    differ : named s.ctl.v a ≡ true → u ≢ v
    differ e y =
        ne (one_name z a b (ap (λ (n : ℕ). named n a) (sym i.stage.v_is) ∙ e) nb
        (ap (λ (n : ℕ). number_in n a) (sym i.stage.v_is) ∙ y))

    -- the opening and the words after an open, and after a close
    module _ (m F C : ℕ) (x : Second) where
      abbrev Opens : Called → Type 0
      Opens c =
          (opening_of v (opened who u m F C x c.number ∷ h) ≡ opening_of v h)
          × (connection_at c.words v ≡ connection_at s.words v)

      opens : (t o : Bool) → named s.ctl.v a ≡ t → owns s.ctl who a ≡ o → Opens (open_call s.ctl s.words who a m F C x)
      unfolding open_call opening_of
      opens false o e p = rw (shared_out N z kind h s i who a e) (refl, refl)
      opens true false e p = rw (shared_foreign N z kind h s i who a e p) (refl, refl)
      opens true true e p =
          rw (shared_in N z kind h s i who a e p)
          (if_holds Opens ((connection_at s.words u).opened =? 1) _ _ (λ _. (other_open who u v m F C x 5 h ne', refl))
          (λ _. if_holds Opens (not (obeys_rules s.ctl.n (bucket_of m F C 0))) _ _ (λ _. (other_open who u v m F C x 6 h ne', refl))
          (λ _. if_holds Opens (not (second_obeys (bucket_of x.m x.F x.C 0) x.tag)) _ _
          (λ _. (other_open who u v m F C x 11 h ne', refl))
          (λ _. (
            other_open who u v m F C x 0 h ne',
            write_read_other s.words u (opened_connection s.ctl.t (bucket_of m F C 0) x) v (λ y. ne' (sym y)),
          )))))
        where
          ne' : u ≢ v
          ne' = differ e

      pub open_apart : let after = call r (on_open_with who a m F C x) in
          (opening_of (number_in z b) after.events ≡ opening_of (number_in z b) r.events)
          × (connection_at after.state.words (number_in z b) ≡ connection_at r.state.words (number_in z b))
      unfolding call call_at slot with_words
      open_apart = opens (named s.ctl.v a) (owns s.ctl who a) refl refl

    abbrev Closes : Called → Type 0
    Closes c =
        (opening_of v (closed who u c.number ∷ h) ≡ opening_of v h)
        × (connection_at c.words v ≡ connection_at s.words v)

    closes : (t o : Bool) → named s.ctl.v a ≡ t → owns s.ctl who a ≡ o → Closes (close_call s.ctl s.words who a)
    unfolding close_call opening_of
    closes false o e p = rw (shared_out N z kind h s i who a e) (refl, refl)
    closes true false e p = rw (shared_foreign N z kind h s i who a e p) (refl, refl)
    closes true true e p =
        rw (shared_in N z kind h s i who a e p)
        (if_holds Closes ((connection_at s.words u).opened =? 0) _ _ (λ _. (other_close who u v 7 h ne', refl))
        (λ _. if_holds Closes
        (not ((connection_at s.words u).waiting =? 0 && debt s.ctl.t (connection_at s.words u) =? 0)) _ _
        (λ _. (other_close who u v 8 h ne', refl))
        (λ _. (other_close who u v 0 h ne', write_read_other s.words u closed_connection v (λ y. ne' (sym y))))))
      where
        ne' : u ≢ v
        ne' = differ e

    pub close_apart : let after = call r (on_close who a) in
        (opening_of (number_in z b) after.events ≡ opening_of (number_in z b) r.events)
        × (connection_at after.state.words (number_in z b) ≡ connection_at r.state.words (number_in z b))
    unfolding call call_at slot with_words
    close_apart = closes (named s.ctl.v a) (owns s.ctl who a) refl refl

  -- ── a slot ──
  pub let_in_names : (cell : List ℕ) → lets_in (slot r.state cell).answer.verdict ≡ true
      → (names_connection z (header_let_in kind r.state cell) ≡ true)
      × ((slot r.state cell).answer.vci ≡ connection z (header_let_in kind r.state cell))
  unfolding lets_in
  let_in_names cell lets = go (length cell =? 0 || length cell =? octets) (let_in s cell).dropped refl refl
    where
      Names : Type 0
      Names =
          (names_connection z (header_let_in kind s cell) ≡ true)
          × ((slot s cell).answer.vci ≡ connection z (header_let_in kind s cell))

      by : judged_of (slot s cell).answer.verdict (slot s cell).answer.vci (slot s cell).answer.d ≡ judged kind z h (let_in s cell).cell
          → Names
      by e =
          let q = judged_names kind z (served h) (λ c. opening_of c h) (let_in s cell).cell
          (sym (ap (λ (j : Judged). lets_in j.verdict) e) ∙ lets) in
          (q.0, ap (λ (j : Judged). j.vci) e ∙ q.1)

      lost : (verdict : ℕ) → (slot s cell).answer.verdict ≡ verdict → lets_in verdict ≡ false → Names
      lost verdict e f = absurd (never (sym (ap lets_in e ∙ f) ∙ lets))

      go : (l d : Bool) → length cell =? 0 || length cell =? octets ≡ l → (let_in s cell).dropped ≡ d → Names
      go false d e f = lost 0 (ap (λ (w : Work). w.answer.verdict) (slot_refused N z kind h s i cell e)) refl
      go true true e f = lost dropped (ap (λ (j : Judged). j.verdict) (says N z kind h s i cell e) ∙ rw f) refl
      go true false e f = by (says N z kind h s i cell e ∙ rw f)

  slot_apart : (cell : List ℕ) (b : Name) → named z b ≡ true → name_in (header_let_in kind s cell) ≢ b
      → opening_of (number_in z b) (call r (on_slot cell)).events ≡ opening_of (number_in z b) h
  unfolding call call_at slot opening_of accepts
  slot_apart cell b nb ne = go (lets_in (slot s cell).answer.verdict) refl
    where
      go : (t : Bool) → lets_in (slot s cell).answer.verdict ≡ t
          → opening_of (number_in z b) (call r (on_slot cell)).events ≡ opening_of (number_in z b) h
      go false e = rw e
      go true e =
          let q = let_in_names cell e in
          rw (
            e,
            ne_eqb (slot s cell).answer.vci (number_in z b)
                (λ y. ne (same_name z (header_let_in kind s cell) b q.0 nb (sym q.1 ∙ y))),
          )

  pub apart : Apart z kind r
  apart =
      record {
        v_is = i.stage.v_is;
        kind_is = i.stage.kind_is;
        one_number = one_name z;
        open_apart = λ who a b m F C x nb ne. open_apart who a b nb ne m F C x;
        close_apart = λ who a b nb ne. close_apart who a b nb ne;
        slot_apart = slot_apart;
      }
