-- Demand 3's clauses on the verdict: of what the header check lets through it is the leak rules', since the invariant ties
-- the words to them; a header that names a connection is no dropped cell's.
use Prim.Native.Nat.{ℕ, ◌+◌, ◌*◌, ◌/◌, ◌%◌}
use mathlib.Core.Path.{◌≡◌, refl, sym, ap, ◌∙◌}
use mathlib.Core.Logic.{◌≢◌, ◌↔◌}
use mathlib.Core.Bool.{Bool, true, false, not, ◌&&◌, ◌||◌}
use mathlib.Core.List.{List, [], ◌∷◌}
use mathlib.Core.Option.{some}
use native.Mathlib.Omega.{arith}
use borrow.Author.Tests.{ne_eqb, eqb-true}
use lib.ListN.{length}
use Rattle.meaning.specs.Plain.{when◌then◌else◌, ◌=?◌}
use Rattle.meaning.specs.Numbers.{uni, accepted, excess, tagged, lets_in}
use Rattle.meaning.specs.State.{State}
use Rattle.meaning.specs.Header.{Header, vpi_high, header_of, header_at, clp_in, no_user_cell, connection, names_connection}
use Rattle.meaning.specs.Slot.{slot}
use Rattle.meaning.proofs.NamesLaws.{vc_number, names_not_0}
use Rattle.meaning.proofs.CheckedLaws.{dropped_none}
use Rattle.meaning_runs.specs.Run.{Event, let_in, served}
use Rattle.meaning_runs.specs.Leak.{Opening, leak_accepts, sustains, verdict_by, opening_of}
use Rattle.meaning_runs.specs.Judged.{Judged, judged_of, judged_under, judged_by, judged, judged_as}
use Rattle.theory_invariant.specs.Invariant.{Inv}
use Rattle.theory_invariant.proofs.CheckLaws.{slot_served}
use Rattle.promises.specs.Demand3.{admits, header_let_in}

-- accepted or tagged: what the leak rules let in
pub admits_is : (o : Opening) (clp t : ℕ) → lets_in (verdict_by o clp t) ≡ admits o clp t
unfolding verdict_by admits lets_in
admits_is o clp t = go (leak_accepts o t) (clp =? 0) (sustains o t) (o.second.tag =? 0)
  where
    go : (a b c d : Bool)
        → lets_in (when not a then excess else when b && not c then (when d then excess else tagged) else accepted)
        ≡ a && (not b || c || not d)
    go false b c d = refl
    go true false c d = refl
    go true true true d = refl
    go true true false true = refl
    go true true false false = refl

module _ (N z kind : ℕ) (h : List Event) (s : State) (i : Inv N z kind h s) where
  pub says : (cell : List ℕ) → length cell =? 0 || length cell =? 53 ≡ true
      → judged_of (slot s cell).answer.verdict (slot s cell).answer.vci (slot s cell).answer.d ≡ judged_as kind z h (let_in s cell)
  says cell e = (slot_served N z kind h s i cell e).says

  lent : (cell : List ℕ) → length cell ≡ 53 → length cell =? 0 || length cell =? 53 ≡ true
  lent cell e = rw e

  -- a header that names a connection is a user cell's, and no list without octets has it
  user_cell : (h : Header) → names_connection z h ≡ true → no_user_cell h ≡ false
  unfolding no_user_cell
  user_cell h n = go (h.vpi =? 0) (h.vci =? 0) refl refl
    where
      go : (a b : Bool) → h.vpi =? 0 ≡ a → h.vci =? 0 ≡ b → a && b ≡ false
      go true true e f = absurd (names_not_0 z h n (vc_number z h (eqb-true h.vpi 0 e) ∙ eqb-true h.vci 0 f))
      go true false e f = refl
      go false b e f = refl

  empty_header : no_user_cell (header_at kind [] 0) ≡ true
  unfolding no_user_cell header_at header_of vpi_high
  empty_header = go (kind =? uni)
    where
      go : (b : Bool) → ((when b then 0 % 16 else 0) * 16 + 0 / 16 =? 0) && (0 % 16 * 4096 + 0 * 16 + 0 / 16 =? 0) ≡ true
      go true = refl
      go false = refl

  some_octets : (cell : List ℕ) → names_connection z (header_at kind cell 0) ≡ true → length cell ≢ 0
  some_octets [] n e =
      absurd (let y : ◌≡◌ {A = Bool} true false = sym empty_header ∙ user_cell (header_at kind [] 0) n in
      let x : ◌≡◌ {A = ℕ} 0 1 = cc in omega arith)
  some_octets (x ∷ cell) n e = omega arith

  pub user : (cell : List ℕ) → names_connection z (header_at kind cell 0) ≡ true
      → length cell =? 0 || no_user_cell (header_at kind cell 0) ≡ false
  user cell n = rw (ne_eqb (length cell) 0 (some_octets cell n)) (user_cell (header_at kind cell 0) n)

  -- so it is not dropped
  pub let_in_lem : (cell : List ℕ) → names_connection z (header_let_in kind s cell) ≡ true → (let_in s cell).dropped ≡ false
  let_in_lem cell n = go (let_in s cell).dropped refl
    where
      go : (b : Bool) → (let_in s cell).dropped ≡ b → b ≡ false
      go false e = refl
      go true e =
          absurd (let y : ◌≡◌ {A = Bool} true false =
          sym (ap (λ l. length l =? 0 || no_user_cell (header_at kind l 0)) (dropped_none s.ctl.raw s.ctl.mode cell e))
          ∙ user (let_in s cell).cell n in let x : ◌≡◌ {A = ℕ} 0 1 = cc in omega arith)

  through : (cell : List ℕ) → length cell ≡ 53 → (let_in s cell).dropped ≡ false
      → judged_of (slot s cell).answer.verdict (slot s cell).answer.vci (slot s cell).answer.d ≡ judged kind z h (let_in s cell).cell
  through cell e d = says cell (lent cell e) ∙ rw d

  pub judged_is : (cell : List ℕ) (o : Opening) → names_connection z (header_at kind cell 0) ≡ true
      → opening_of (connection z (header_at kind cell 0)) h ≡ some o
      → judged kind z h cell
      ≡ judged_under (served h) (header_at kind cell 0).vci (connection z (header_at kind cell 0)) (clp_in cell) (some o)
  unfolding judged_by
  judged_is cell o n q = rw (user cell n, n, q)

  -- of a cell of an open connection: what the leak rules say under its opening
  pub judged_open : (cell : List ℕ) (o : Opening) → length cell ≡ 53 → names_connection z (header_let_in kind s cell) ≡ true
      → opening_of (connection z (header_let_in kind s cell)) h ≡ some o
      → judged_of (slot s cell).answer.verdict (slot s cell).answer.vci (slot s cell).answer.d
      ≡ judged_under (served h) (header_let_in kind s cell).vci (connection z (header_let_in kind s cell)) (clp_in (let_in s cell).cell)
      (some o)
  judged_open cell o e n q = through cell e (let_in_lem cell n) ∙ judged_is (let_in s cell).cell o n q

  verdict_is : (cell : List ℕ) (o : Opening) → length cell ≡ 53 → names_connection z (header_let_in kind s cell) ≡ true
      → opening_of (connection z (header_let_in kind s cell)) h ≡ some o
      → (slot s cell).answer.verdict ≡ verdict_by o (clp_in (let_in s cell).cell) (served h)
  verdict_is cell o e n q = ap (λ (j : Judged). j.verdict) (judged_open cell o e n q)

  pub accepts : (cell : List ℕ) (o : Opening) → length cell ≡ 53 → names_connection z (header_let_in kind s cell) ≡ true
      → opening_of (connection z (header_let_in kind s cell)) h ≡ some o
      → (lets_in (slot s cell).answer.verdict ≡ true) ↔ (admits o (clp_in (let_in s cell).cell) (served h) ≡ true)
  accepts cell o e n q = (λ p. sym same ∙ p, λ p. same ∙ p)
    where
      same : lets_in (slot s cell).answer.verdict ≡ admits o (clp_in (let_in s cell).cell) (served h)
      same = ap lets_in (verdict_is cell o e n q) ∙ admits_is o (clp_in (let_in s cell).cell) (served h)
