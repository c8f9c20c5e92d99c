-- Of one run, call after call: what A is told, A's openings and A's cells are functions of what A asked. So two runs in which A asks the
-- same agree. Assumes nothing.
use Prim.Native.Nat.{ℕ, ◌+◌, ◌-◌, ◌≤◌, ◌<◌}
use mathlib.Core.Path.{◌≡◌, refl, sym, ap, ◌∙◌, subst}
use mathlib.Core.Logic.{◌↔◌}
use mathlib.Core.Bool.{Bool, true, false, ◌&&◌}
use mathlib.Core.List.{List, [], ◌∷◌, ◌++◌, append_assoc, append-nil}
use mathlib.Core.Option.{Option, none, some}
use native.Mathlib.Decide.{ℕ_discrete}
use native.Mathlib.Omega.{arith}
use borrow.Author.Tests.{eqb-true}
use lib.ListN.{length, get_or}
use Rattle.meaning.specs.declared.Record.{Record}
use Rattle.meaning.specs.Plain.{when◌then◌else◌, ◌=?◌}
use Rattle.meaning.specs.Numbers.{lets_in}
use Rattle.meaning.specs.Header.{Name, named, number_in}
use Rattle.meaning.specs.Operators.{owns}
use Rattle.meaning.specs.Words.{Connection, connection_at}
use Rattle.meaning.specs.Calls.{close_call}
use Rattle.meaning.specs.Slot.{slot}
use Rattle.meaning.proofs.NamesLaws.{number_low, number_used}
use Rattle.meaning_runs.specs.Run.{Call, on_open_with, on_close, on_slot, Event, Run, call_at, call, calls, served}
use Rattle.meaning_runs.specs.Leak.{Opening, opening_of}
use Rattle.meaning_runs.specs.Seen.{Cell, absent_cell, cells_in, cells_of, departures_of, cell_at, departure_at}
use Rattle.theory_choice.proofs.AnswerLaws.{close_answers, close_answers_lem}
use Rattle.promises.specs.Debt.{Paid, AllLeft}
use Rattle.promises.proofs.Demand3Laws.{demanded}
use Rattle.promises.proofs.DebtLaws.{exactly, or_eight}
use Rattle.promise_bound.proofs.CellLaws.{cells_open, cells_close}
use Rattle.promise_operators.specs.Operators.{Card, is_of, is_a, Ask, Word, open_as_told, close_told, cell_told, ask_of, word_of, closed_with, asked, told}
use Rattle.promise_operators.specs.Operators.{FromFresh, start_of, end_of, SameForA, OperatorsHold, OthersTouchNothing}
use Rattle.promise_operators.proofs.Alone.{word_for, after, words_from, after_all, cells_told}
use Rattle.promise_operators.proofs.Ready.{Ready, owns_is, call_ready, start_ready, end_ready}
use Rattle.promise_operators.proofs.Lawful.{true_false, named_of, owned_of, others_leave, cells_leave, open_told, cell_told_lem, cell_after, cell_noted}

module _ (c : Card) (A : ℕ) where
  abbrev Agree : Run → (ℕ → Option Opening) → Type 0
  Agree r f = (name : Name) → is_of c A name ≡ true → opening_of (number_in c.z name) r.events ≡ f (number_in c.z name)

  -- ── one call of A's ──
  word_own : (r : Run) → Ready c r → (f : ℕ → Option Opening) → Agree r f → (x : Call) → is_a c A r x ≡ true
      → word_of c r x ≡ word_for c A f (ask_of r x)
  word_own r k f agree (on_open_with who name m F C x) y =
      ap (λ (w : ℕ). word_of c r (on_open_with w name m F C x)) (eqb-true who A y)
      ∙ ap open_as_told (open_told c A r k f agree name m F C x)
  word_own r k f agree (on_close who name) y = refl
  word_own r k f agree (on_slot cell) y = cell_told_lem c A r k f agree cell y

  after_own : (r : Run) → Ready c r → (f : ℕ → Option Opening) → Agree r f → (x : Call) → is_a c A r x ≡ true
      → Agree (call r x) (λ v. after c A f (ask_of r x) v)
  unfolding call call_at slot opening_of
  after_own r k f agree (on_open_with who name m F C x) y other mine =
      let w = eqb-true who A y in
      rw (w, open_told c A r k f agree name m F C x, ap (λ (v : ℕ). number_in v name) k.kept.inv.stage.v_is, agree other mine)
  after_own r k f agree (on_close who name) y other mine =
      rw (ap (λ (v : ℕ). number_in v name) k.kept.inv.stage.v_is, agree other mine)
  after_own r k f agree (on_slot cell) y other mine = cell_after c A r k f agree cell y other mine

  cells_own : (r : Run) → Ready c r → (f : ℕ → Option Opening) → Agree r f → (x : Call) → is_a c A r x ≡ true
      → (name : Name) → is_of c A name ≡ true
      → cells_of (number_in c.z name) (call r x).events
      ≡ cells_of (number_in c.z name) r.events ++ cells_told (number_in c.z name) (word_of c r x ∷ [])
  unfolding call call_at slot cells_told
  cells_own r k f agree (on_open_with who other m F C x) y name mine =
      cells_open (number_in c.z name) r.events who _ m F C x _ ∙ sym (append-nil (cells_of (number_in c.z name) r.events))
  cells_own r k f agree (on_close who other) y name mine =
      cells_close (number_in c.z name) r.events who _ _ ∙ sym (append-nil (cells_of (number_in c.z name) r.events))
  cells_own r k f agree (on_slot cell) y name mine = cell_noted c A r k f agree cell y name mine

  -- one word more
  told_more : (v : ℕ) (w : Word) (ws : List Word) → cells_told v (w ∷ []) ++ cells_told v ws ≡ cells_told v (w ∷ ws)
  unfolding cells_told
  told_more v (open_as_told number) ws = refl
  told_more v (close_told number) ws = refl
  told_more v (cell_told verdict x) ws = go (lets_in verdict && x.vci =? v)
    where
      go : (b : Bool) → (when b then x ∷ [] else []) ++ cells_told v ws ≡ (when b then x ∷ cells_told v ws else cells_told v ws)
      go true = refl
      go false = refl

  -- ── one call after the other ──
  record Alone (r : Run) (f : ℕ → Option Opening) (xs : List Call) : Type 0 where
    words : told c A r xs ≡ words_from c A f (asked c A r xs)
    openings : Agree (calls r xs) (λ v. after_all c A f (asked c A r xs) v)
    cells : (name : Name) → is_of c A name ≡ true
        → cells_of (number_in c.z name) (calls r xs).events
        ≡ cells_of (number_in c.z name) r.events ++ cells_told (number_in c.z name) (told c A r xs)

  alone_other : (r : Run) → Ready c r → (f : ℕ → Option Opening) (x : Call) (xs : List Call) → is_a c A r x ≡ false
      → Alone (call r x) f xs → Alone r f (x ∷ xs)
  unfolding asked told calls
  alone_other r k f x xs n g =
      record {
        words = rw n g.words;
        openings = λ name mine. rw n (g.openings name mine);
        cells = λ name mine. rw n (g.cells name mine
            ∙ ap (λ l. l ++ cells_told (number_in c.z name) (told c A (call r x) xs)) (cells_leave c A r k x n name mine));
      }

  alone_own : (r : Run) → Ready c r → (f : ℕ → Option Opening) → Agree r f → (x : Call) (xs : List Call) → is_a c A r x ≡ true
      → Alone (call r x) (λ v. after c A f (ask_of r x) v) xs → Alone r f (x ∷ xs)
  unfolding asked told calls words_from after_all
  alone_own r k f agree x xs y g =
      record {
        words = rw y (ap (λ w. w ∷ told c A (call r x) xs) (word_own r k f agree x y)
            ∙ ap (λ ws. word_for c A f (ask_of r x) ∷ ws) g.words);
        openings = λ name mine. rw y (g.openings name mine);
        cells = λ name mine.
            let v = number_in c.z name in
            let ws = told c A (call r x) xs in
            rw y (g.cells name mine
            ∙ ap (λ l. l ++ cells_told v ws) (cells_own r k f agree x y name mine)
            ∙ append_assoc (cells_of v r.events) (cells_told v (word_of c r x ∷ [])) (cells_told v ws)
            ∙ ap (λ l. cells_of v r.events ++ l) (told_more v (word_of c r x) ws));
      }

  alone : (r : Run) → Ready c r → (f : ℕ → Option Opening) → Agree r f → (xs : List Call) → Alone r f xs
  unfolding asked told calls words_from after_all cells_told
  alone r k f agree [] =
      record {
        words = refl;
        openings = agree;
        cells = λ name mine. sym (append-nil (cells_of (number_in c.z name) r.events));
      }
  alone r k f agree (x ∷ xs) = go (is_a c A r x) refl (λ g m. alone (call r x) (call_ready c r x k) g m xs)
    where
      go : (b : Bool) → is_a c A r x ≡ b → ((g : ℕ → Option Opening) → Agree (call r x) g → Alone (call r x) g xs) → Alone r f (x ∷ xs)
      go true y rest = alone_own r k f agree x xs y (rest _ (after_own r k f agree x y))
      go false n rest =
          alone_other r k f x xs n (rest f (λ name mine. others_leave c A r k x n name mine ∙ agree name mine))

  -- from a fresh state no connection is open
  fresh_none : (p : FromFresh c) → Agree (start_of c p) (λ v. none)
  unfolding opening_of
  fresh_none p name mine = refl

  of : (p : FromFresh c) → Alone (start_of c p) (λ v. none) p.following
  of p = alone (start_of c p) (start_ready c p) (λ v. none) (fresh_none p) p.following

  -- ── two runs ──
  module _ (p q : FromFresh c) (e : asked c A (start_of c p) p.following ≡ asked c A (start_of c q) q.following) where
    abbrev h : List Event
    h = (end_of c p).events

    abbrev h' : List Event
    h' = (end_of c q).events

    told_same : told c A (start_of c p) p.following ≡ told c A (start_of c q) q.following
    told_same = (of p).words ∙ ap (words_from c A (λ v. none)) e ∙ sym (of q).words

    opening_same : (name : Name) → is_of c A name ≡ true
        → opening_of (number_in c.z name) (end_of c p).events ≡ opening_of (number_in c.z name) (end_of c q).events
    opening_same name mine =
        (of p).openings name mine ∙ ap (λ qs. after_all c A (λ v. none) qs (number_in c.z name)) e ∙ sym ((of q).openings name mine)

    start_cells : (v : ℕ) (a : FromFresh c) → cells_of v (start_of c a).events ≡ []
    unfolding cells_of cells_in
    start_cells v a = refl

    cells_same : (name : Name) → is_of c A name ≡ true
        → cells_of (number_in c.z name) (end_of c p).events ≡ cells_of (number_in c.z name) (end_of c q).events
    cells_same name mine =
        let v = number_in c.z name in
        (of p).cells name mine
        ∙ ap (λ l. l ++ cells_told v (told c A (start_of c p) p.following)) (start_cells v p ∙ sym (start_cells v q))
        ∙ ap (λ ws. cells_of v (start_of c q).events ++ cells_told v ws) told_same
        ∙ sym ((of q).cells name mine)

    -- ── closes ──
    module _ (name : Name) (mine : is_of c A name ≡ true) (same : served (end_of c p).events ≡ served (end_of c q).events)
        (left : AllLeft (number_in c.z name) (end_of c p).events ↔ AllLeft (number_in c.z name) (end_of c q).events) where
      abbrev v : ℕ
      v = number_in c.z name

      own : (a : FromFresh c) → owns (end_of c a).state.ctl A name ≡ true
      own a = owns_is c (end_of c a) (end_ready c a) A name ∙ owned_of c A name mine

      -- a connection that isn't open
      shut : (a : FromFresh c) → opening_of v (end_of c a).events ≡ none → closed_with (end_of c a) A name ≡ 7
      shut a f =
          let k = end_ready c a in
          close_answers_lem c.N c.z c.kind (end_of c a).events (end_of c a).state k.kept.inv A name
          ∙ rw (named_of c A name mine, own a, f)

      abbrev exact : (a : FromFresh c) (o : Opening) → opening_of v (end_of c a).events ≡ some o
          → (closed_with (end_of c a) A name ≡ 0) ↔ (AllLeft v (end_of c a).events × Paid o (served (end_of c a).events - 1))
      exact a o f =
          exactly c.N c.z c.kind (end_of c a).events (end_of c a).state (end_ready c a).kept.inv name o (named_of c A name mine) f A (own a)

      eight : (a : FromFresh c) (o : Opening) → opening_of v (end_of c a).events ≡ some o → (closed_with (end_of c a) A name ≡ 0 → ⊥)
          → closed_with (end_of c a) A name ≡ 8
      eight a o f =
          or_eight c.N c.z c.kind (end_of c a).events (end_of c a).state (end_ready c a).kept.inv name o (named_of c A name mine) f A (own a)

      close_open : (o : Opening) → opening_of v h ≡ some o → opening_of v h' ≡ some o → Dec (closed_with (end_of c p) A name ≡ 0)
          → closed_with (end_of c p) A name ≡ closed_with (end_of c q) A name
      close_open o f f' (yes y) =
          let g = (exact p o f).0 y in
          y ∙ sym ((exact q o f').1 (left.0 g.0, subst (λ (t : ℕ). Paid o (t - 1)) same g.1))
      close_open o f f' (no n) =
          eight p o f n
          ∙ sym (eight q o f' (λ y.
          let g = (exact q o f').0 y in
          n ((exact p o f).1 (left.1 g.0, subst (λ (t : ℕ). Paid o (t - 1)) (sym same) g.1))))

      pub closes_alike : closed_with (end_of c p) A name ≡ closed_with (end_of c q) A name
      closes_alike = go (opening_of v h) refl
        where
          go : (o : Option Opening) → opening_of v h ≡ o → closed_with (end_of c p) A name ≡ closed_with (end_of c q) A name
          go none f = shut p f ∙ sym (shut q (sym (opening_same name mine) ∙ f))
          go (some o) f = close_open o f (sym (opening_same name mine) ∙ f) (ℕ_discrete (closed_with (end_of c p) A name) 0)

    same_for_a : SameForA c A p q
    same_for_a =
        record {
          told_same = told_same;
          opening_same = opening_same;
          cells_same = cells_same;
          departs_near = λ name n mine a b.
              let v = number_in c.z name in
              let d = demanded c.N c.z c.kind h (end_of c p).state (end_ready c p).kept.inv in
              let d' = demanded c.N c.z c.kind h' (end_of c q).state (end_ready c q).kept.inv in
              let due : (cell_at v n h).due ≡ (cell_at v n h').due = ap (λ (l : List Cell). (get_or l n absent_cell).due) (cells_same name mine) in
              omega (arith, d.not_late v n a, d'.not_early v n b, due);
          closes_alike = closes_alike;
        }

-- REQUEST (xi): what A is told depends on what A asked
pub operators : OperatorsHold
operators c A p q e = same_for_a c A p q e

-- and nobody else touches A's openings
pub others_touch_nothing : OthersTouchNothing
others_touch_nothing c A p x n name mine = others_leave c A (end_of c p) (end_ready c p) x n name mine
