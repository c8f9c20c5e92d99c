-- One call of a run: what is not A's leaves A's openings and cells; what is A's is answered by A's own openings, and moves them
-- alone. Assumes nothing.
use Prim.Native.Nat.{ℕ}
use mathlib.Core.Path.{◌≡◌, refl, sym, ap, ap₂, ◌∙◌}
use mathlib.Core.Logic.{◌≢◌}
use mathlib.Core.Bool.{Bool, true, false, not, ◌&&◌, ◌||◌}
use mathlib.Core.List.{List, [], ◌∷◌, ◌++◌, append-nil}
use mathlib.Core.Option.{Option, none, some}
use native.Mathlib.Decide.{ℕ_discrete}
use native.Mathlib.Omega.{arith}
use borrow.Author.Tests.{eq-eqb, ne_eqb, eqb-true, eqb-false}
use lib.ListN.{length}
use Rattle.meaning.specs.declared.Answer.{Answer}
use Rattle.meaning.specs.Plain.{when◌then◌else◌, ◌=?◌}
use Rattle.meaning.specs.Numbers.{octets, lets_in}
use Rattle.meaning.specs.State.{State}
use Rattle.meaning.specs.Header.{Header, header_at, clp_in, Name, named, number_in, name_in, connection, names_connection}
use Rattle.meaning.specs.Operators.{owner_of, owns}
use Rattle.meaning.specs.Words.{Second}
use Rattle.meaning.specs.Calls.{open_call, close_call}
use Rattle.meaning.specs.Arrival.{sent_as}
use Rattle.meaning.specs.Work.{Work}
use Rattle.meaning.specs.Slot.{slot}
use Rattle.meaning.proofs.NamesLaws.{both, one_name}
use Rattle.meaning_runs.specs.Run.{Call, on_open_with, on_close, on_slot, Event, opened, closed, ran, Run, let_in, shown, call_at, call, served}
use Rattle.meaning_runs.specs.Leak.{Opening, accepts, opening_of}
use Rattle.meaning_runs.specs.Seen.{Cell, cell_under, cells_of}
use Rattle.meaning_runs.specs.Judged.{Judged, judged_of, judged_by, judged}
use Rattle.theory_invariant.proofs.CheckLaws.{slot_served, slot_refused}
use Rattle.theory_choice.proofs.AnswerLaws.{open_answers, open_answers_lem}
use Rattle.promises.proofs.ApartLaws.{apart, let_in_names}
use Rattle.promises.proofs.VerdictLaws.{let_in_lem}
use Rattle.promise_bound.proofs.CellLaws.{cells_new, cells_not, cells_open, cells_close}
use Rattle.promise_operators.specs.Operators.{Card, is_of, names_a, through, is_a, cell_told, ask_of, word_of}
use Rattle.promise_operators.proofs.Alone.{opens_as, cell_by, word_for, after, cells_told}
use Rattle.promise_operators.proofs.Owned.{open_owned, close_owned}
use Rattle.promise_operators.proofs.Ready.{Ready, owns_is}

pub true_false : {A : Type 0} → ◌≡◌ {A = Bool} true false → A
true_false e = absurd (let y : ◌≡◌ {A = ℕ} 0 1 = cc in omega arith)

last_no : (b : Bool) → b && false ≡ false
last_no true = refl
last_no false = refl

module _ (c : Card) (A : ℕ) where
  abbrev z : ℕ
  z = c.z

  -- a connection of A's: there is such a one, and A owns it
  pub named_of : (name : Name) → is_of c A name ≡ true → named c.z name ≡ true
  named_of name e = (both (named c.z name) (A =? owner_of c.splitvci c.splitpath name) e).0

  pub owned_of : (name : Name) → is_of c A name ≡ true → A =? owner_of c.splitvci c.splitpath name ≡ true
  owned_of name e = (both (named c.z name) (A =? owner_of c.splitvci c.splitpath name) e).1

  module _ (r : Run) (k : Ready c r) where
    abbrev h : List Event
    h = r.events

    abbrev s : State
    s = r.state

    z_is : s.ctl.v ≡ z
    z_is = k.kept.inv.stage.v_is

    at_z : (name : Name) → number_in s.ctl.v name ≡ number_in z name
    at_z name = ap (λ (v : ℕ). number_in v name) z_is

    -- ── what is not A's leaves A's openings ──
    -- an open or close that answers 0 is its operator's
    foreign : (who : ℕ) (other name : Name) → who =? A ≡ false → is_of c A name ≡ true
        → (named s.ctl.v other ≡ true) × (owns s.ctl who other ≡ true) → number_in s.ctl.v other ≢ number_in z name
    foreign who other name not-A mine own e =
        let same = one_name z other name (ap (λ (v : ℕ). named v other) (sym z_is) ∙ own.0) (named_of name mine) (sym (at_z other) ∙ e) in
        let theirs = eqb-true who (owner_of c.splitvci c.splitpath other) (sym (owns_is c r k who other) ∙ own.1) in
        let ours = eqb-true A (owner_of c.splitvci c.splitpath name) (owned_of name mine) in
        eqb-false who A not-A (theirs ∙ ap (owner_of c.splitvci c.splitpath) same ∙ sym ours)

    -- so an answer of 0 is for another connection
    apart_by : (number v u : ℕ) → (number ≡ 0 → u ≢ v) → number =? 0 && u =? v ≡ false
    apart_by number v u f = go (ℕ_discrete number 0)
      where
        go : Dec (number ≡ 0) → number =? 0 && u =? v ≡ false
        go (yes e) = rw (ne_eqb u v (f e)) (last_no (number =? 0))
        go (no e) = rw (ne_eqb number 0 e)

    -- a slot whose cell isn't A's names no connection of A's, or is refused
    slot_other : (cell : List ℕ) → is_a c A r (on_slot cell) ≡ false → (name : Name) → is_of c A name ≡ true
        → accepts (number_in z name) (slot s cell).answer ≡ false
    unfolding accepts lets_in names_connection connection
    slot_other cell not-A name mine = go (length cell =? 0 || length cell =? octets) refl
      where
        names : lets_in (slot s cell).answer.verdict ≡ true → (slot s cell).answer.number ≡ 0 → (slot s cell).answer.vci ≢ number_in z name
        names lets zero e =
            let q = let_in_names c.N c.z c.kind r k.kept cell lets in
            let is = one_name z (name_in hd) name q.0 (named_of name mine) (sym q.1 ∙ e) in
            true_false (sym (both_yes zero is) ∙ not-A)
          where
            hd : Header
            hd = header_at c.kind (through r cell) 0

            both_yes : (slot s cell).answer.number ≡ 0 → name_in hd ≡ name → is_a c A r (on_slot cell) ≡ true
            both_yes zero is = rw (eq-eqb (slot s cell).answer.number 0 zero, is) mine

        choose : (b : Bool) → lets_in (slot s cell).answer.verdict ≡ b → (slot s cell).answer.number ≡ 0
            → lets_in (slot s cell).answer.verdict && (slot s cell).answer.vci =? number_in z name ≡ false
        choose false e zero = rw e
        choose true e zero = rw (e, ne_eqb (slot s cell).answer.vci (number_in z name) (names e zero))

        go : (b : Bool) → length cell =? 0 || length cell =? octets ≡ b
            → lets_in (slot s cell).answer.verdict && (slot s cell).answer.vci =? number_in z name ≡ false
        go true e =
            choose (lets_in (slot s cell).answer.verdict) refl
            (slot_served c.N c.z c.kind h s k.kept.inv cell e).number
        go false e = rw (ap (λ (w : Work). w.answer.verdict) (slot_refused c.N c.z c.kind h s k.kept.inv cell e))

    pub others_leave : (x : Call) → is_a c A r x ≡ false → (name : Name) → is_of c A name ≡ true
        → opening_of (number_in c.z name) (call r x).events ≡ opening_of (number_in c.z name) r.events
    unfolding call call_at slot opening_of
    others_leave (on_open_with who other m F C x) not-A name mine =
        rw (apart_by (open_call s.ctl s.words who other m F C x).number (number_in z name) (number_in s.ctl.v other)
        (λ e. foreign who other name not-A mine (open_owned s.ctl s.words who other m F C x e)))
    others_leave (on_close who other) not-A name mine =
        rw (apart_by (close_call s.ctl s.words who other).number (number_in z name) (number_in s.ctl.v other)
        (λ e. foreign who other name not-A mine (close_owned s.ctl s.words who other e)))
    others_leave (on_slot cell) not-A name mine = rw (slot_other cell not-A name mine)

    pub cells_leave : (x : Call) → is_a c A r x ≡ false → (name : Name) → is_of c A name ≡ true
        → cells_of (number_in c.z name) (call r x).events ≡ cells_of (number_in c.z name) r.events
    unfolding call call_at slot
    cells_leave (on_open_with who other m F C x) not-A name mine = cells_open (number_in z name) h who _ m F C x _
    cells_leave (on_close who other) not-A name mine = cells_close (number_in z name) h who _ _
    cells_leave (on_slot cell) not-A name mine =
        cells_not (number_in z name) h (let_in s cell).cell (slot s cell).answer (shown (slot s cell)) (slot_other cell not-A name mine)

    -- ── what is A's follows from A's openings ──
    module _ (f : ℕ → Option Opening) (agree : (name : Name) → is_of c A name ≡ true → opening_of (number_in c.z name) r.events ≡ f (number_in c.z name)) where
      -- an open: of a connection that isn't A's, or that isn't there, the opening isn't looked at
      pub open_told : (name : Name) (m F C : ℕ) (x : Second)
          → (open_call s.ctl s.words A name m F C x).number ≡ opens_as c A f name m F C x
      open_told name m F C x =
          open_answers_lem c.N c.z c.kind h s k.kept.inv A name m F C x
          ∙ ap (λ (own : Bool). open_answers c.N c.z own name m F C x (opening_of (number_in z name) h)) (owns_is c r k A name)
          ∙ go (named z name) (A =? owner_of c.splitvci c.splitpath name) refl refl
        where
          go : (a b : Bool) → named z name ≡ a → A =? owner_of c.splitvci c.splitpath name ≡ b
              → open_answers c.N c.z (A =? owner_of c.splitvci c.splitpath name) name m F C x (opening_of (number_in z name) h)
              ≡ open_answers c.N c.z (A =? owner_of c.splitvci c.splitpath name) name m F C x (f (number_in z name))
          go true true e o =
              ap (open_answers c.N c.z (A =? owner_of c.splitvci c.splitpath name) name m F C x) (agree name (rw (e, o)))
          go true false e o = rw (e, o)
          go false b e o = rw e

      -- a cell of A's own
      module _ (cell : List ℕ) (yes-A : is_a c A r (on_slot cell) ≡ true) where
        abbrev passed : List ℕ
        passed = through r cell

        abbrev hd : Header
        hd = header_at c.kind (through r cell) 0

        served_0 : (slot s cell).answer.number ≡ 0
        served_0 =
            eqb-true (slot s cell).answer.number 0
            (both ((slot s cell).answer.number =? 0) (names_a c A (through r cell)) yes-A).0

        names_mine : is_of c A (name_in hd) ≡ true
        names_mine = (both ((slot s cell).answer.number =? 0) (names_a c A (through r cell)) yes-A).1

        is_named_lem : names_connection z hd ≡ true
        unfolding names_connection
        is_named_lem = named_of (name_in hd) names_mine

        own_opening : opening_of (connection z hd) h ≡ f (connection z hd)
        unfolding connection
        own_opening = agree (name_in hd) names_mine

        is_lent_lem : length cell =? 0 || length cell =? octets ≡ true
        is_lent_lem = go (length cell =? 0 || length cell =? octets) refl
          where
            go : (b : Bool) → length cell =? 0 || length cell =? octets ≡ b → b ≡ true
            go true e = refl
            go false e =
                absurd (omega (arith, served_0, ap (λ (w : Work). w.answer.number) (slot_refused c.N c.z c.kind h s k.kept.inv cell e)))

        abbrev j : Judged
        j = judged_by c.kind c.z (served r.events) f (through r cell)

        -- a verdict reads the opening of the connection that the header names, and no other
        only : judged c.kind c.z h passed ≡ j
        unfolding judged_by
        only = rw own_opening

        pub judged_alone : judged_of (slot s cell).answer.verdict (slot s cell).answer.vci (slot s cell).answer.d ≡ j
        judged_alone =
            (slot_served c.N c.z c.kind h s k.kept.inv cell is_lent_lem).says
            ∙ (rw (let_in_lem c.N c.z c.kind h s k.kept.inv cell is_named_lem) only)

        verdict_is : (slot s cell).answer.verdict ≡ j.verdict
        verdict_is = ap (λ (x : Judged). x.verdict) judged_alone

        vci_is : (slot s cell).answer.vci ≡ j.vci
        vci_is = ap (λ (x : Judged). x.vci) judged_alone

        cell_by_lem : (t : ℕ) (a : Answer) (i : Judged) (l : List ℕ) (o : Option Opening) → judged_of a.verdict a.vci a.d ≡ i
            → cell_under t a l o ≡ cell_by t i l o
        cell_by_lem t a i l none e = rw (ap (λ (x : Judged). x.vci) e, ap (λ (x : Judged). x.D) e)
        cell_by_lem t a i l (some o) e = rw (ap (λ (x : Judged). x.vci) e, ap (λ (x : Judged). x.D) e)

        pub cell_told_lem : word_of c r (on_slot cell) ≡ word_for c A f (ask_of r (on_slot cell))
        cell_told_lem =
            ap₂ (λ (v : ℕ) (x : Cell). cell_told v x) verdict_is
            (cell_by_lem (served h) (slot s cell).answer j (sent_as (slot s cell).answer.verdict passed) (opening_of (connection z hd) h) judged_alone
            ∙ ap₂ (λ (v : ℕ) (o : Option Opening). cell_by (served h) j (sent_as v passed) o) verdict_is own_opening)

        pub cell_after : (name : Name) → is_of c A name ≡ true
            → opening_of (number_in c.z name) (call r (on_slot cell)).events ≡ after c A f (ask_of r (on_slot cell)) (number_in c.z name)
        unfolding call call_at slot opening_of accepts
        cell_after name mine = rw (verdict_is, vci_is, agree name mine)

        -- the cell that is noted, if it is let in, is the one that A is told
        pub cell_noted : (name : Name) → is_of c A name ≡ true
            → cells_of (number_in c.z name) (call r (on_slot cell)).events
            ≡ cells_of (number_in c.z name) r.events ++ cells_told (number_in c.z name) (word_of c r (on_slot cell) ∷ [])
        unfolding call call_at slot cells_told accepts
        cell_noted name mine = go (accepts v a) refl
          where
            v : ℕ
            v = number_in z name

            a : Answer
            a = (slot s cell).answer

            new : Cell
            new = cell_under (served h) a (sent_as a.verdict passed) (opening_of (connection z hd) h)

            vci_of_lem : (o : Option Opening) → (cell_under (served h) a (sent_as a.verdict passed) o).vci ≡ a.vci
            vci_of_lem none = refl
            vci_of_lem (some o) = refl

            test : lets_in a.verdict && new.vci =? v ≡ accepts v a
            test = ap (λ (u : ℕ). lets_in a.verdict && u =? v) (vci_of_lem (opening_of (connection z hd) h))

            same : accepts v a ≡ true → opening_of v h ≡ opening_of (connection z hd) h
            same e =
                let p = both (lets_in a.verdict) (a.vci =? v) e in
                ap (λ (u : ℕ). opening_of u h)
                (sym (eqb-true a.vci v p.1) ∙ (let_in_names c.N c.z c.kind r k.kept cell p.0).1)

            go : (b : Bool) → accepts v a ≡ b
                → cells_of v (ran passed a (shown (slot s cell)) ∷ h)
                ≡ cells_of v h ++ (when lets_in a.verdict && new.vci =? v then new ∷ [] else [])
            go true e =
                rw (test ∙ e)
                (cells_new v h passed a (shown (slot s cell)) e
                ∙ ap (λ (o : Option Opening). cells_of v h ++ (cell_under (served h) a (sent_as a.verdict passed) o ∷ [])) (same e))
            go false e = rw (test ∙ e) (cells_not v h passed a (shown (slot s cell)) e ∙ sym (append-nil (cells_of v h)))
