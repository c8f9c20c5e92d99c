-- Queued headers and waiting, clause and budget: the cells of xs use the cells' budget up exactly when each header names
-- an open connection and each open connection's waiting is the number of its cells.
use Prim.Native.Nat.{ℕ, ◌≤◌, ◌<◌}
use mathlib.Core.Path.{◌≡◌, refl, sym, ap, ◌∙◌}
use mathlib.Core.Bool.{Bool, true, false, true≢false}
use mathlib.Core.List.{List, [], ◌∷◌, map}
use native.Mathlib.Omega.{arith}
use native.Mathlib.Decide.{ℕ_discrete, dec_lt}
use lib.ListN.{get_or}
use borrow.Author.Tests.{eq-eqb, eqb-true}
use Rattle.meaning.specs.Plain.{◌=?◌}
use Rattle.meaning.specs.Numbers.{connections_in, unused, empty, cell_start, open_place}
use Rattle.meaning.specs.Header.{Header, header_at, connection, names_connection, names_open}
use Rattle.meaning.specs.Words.{connection_at}
use Rattle.meaning.specs.Audit.{count, connection_in}
use Rattle.meaning.proofs.NamesLaws.{names_low, names_used}
use Rattle.call_audit.specs.Budgets.{waits_at}
use Rattle.mem_walks.specs.Walk.{name_of}
use Rattle.std.proofs.lemmas.Bool.{and_parts}
use Rattle.mem_walks.proofs.BudgetLaws.{is, is_same, is_no}
use Rattle.call_audit.proofs.WaitsLaws.{MayWait, waits_some, waits_open, waits_shut}

-- a header that names a connection, and that connection is open
names_open_lem : (z : ℕ) (words : List ℕ) (h : Header) → names_connection z h ≡ true → MayWait words z (connection z h)
    → names_open z words h ≡ true
unfolding names_open connection_at
names_open_lem z words h e m = rw (e, eq-eqb (get_or words (open_place (connection z h)) 0) 1 m.2)

open_named : (z : ℕ) (words : List ℕ) (h : Header) → names_open z words h ≡ true
    → (names_connection z h ≡ true) × MayWait words z (connection z h)
unfolding names_open connection_at
open_named z words h t =
    let a = and_parts (names_connection z h) (get_or words (open_place (connection z h)) 0 =? 1) t in
    let opened = eqb-true (get_or words (open_place (connection z h)) 0) 1 a.1 in
    (a.0, (names_low z h a.0, names_used z h a.0, opened))

-- A list and the names of its numbers

named_in : (nm : ℕ → ℕ) (x : ℕ) (xs : List ℕ) → 0 < count x xs → 0 < count (nm x) (map nm xs)
named_in nm x [] h = absurd (omega arith)
named_in nm x (y ∷ ys) h = go (ℕ_discrete y x) (named_in nm x ys)
  where
    go : Dec (y ≡ x) → (0 < count x ys → 0 < count (nm x) (map nm ys)) → 0 < count (nm x) (map nm (y ∷ ys))
    go (yes e) f = omega (arith, is_same (nm x), ap (λ (z : ℕ). is (nm x) (nm z)) e)
    go (no n) f = omega (arith, f (omega (arith, is_no x y n)))

none_named : (nm : ℕ → ℕ) (u : ℕ) (xs : List ℕ) → ((x : ℕ) → 0 < count x xs → nm x ≡ u → ⊥) → count u (map nm xs) ≡ 0
none_named nm u [] f = refl
none_named nm u (y ∷ ys) f =
    omega (arith, is_no u (nm y) (f y (omega (arith, is_same y))), none_named nm u ys (λ x h. f x (omega arith)))

same_names : (f g : ℕ → ℕ) (xs : List ℕ) → ((x : ℕ) → 0 < count x xs → f x ≡ g x) → map f xs ≡ map g xs
same_names f g [] h = refl
same_names f g (y ∷ ys) h =
    let e : f y ≡ g y = h y (omega (arith, is_same y)) in
    let t : map f ys ≡ map g ys = same_names f g ys (λ x n. h x (omega arith)) in
    rw (e, t)

-- The number that the walk takes off: the connection's, or 65,535 where none is named

module _ (kind z : ℕ) (cells : List ℕ) (x : ℕ) where
  abbrev h : Header
  h = header_at kind cells (cell_start x)

  name_is : names_connection z h ≡ true → name_of kind z cells x ≡ connection_in kind z cells x
  unfolding name_of connection_in
  name_is e = rw e

  name_bad : names_connection z h ≡ false → name_of kind z cells x ≡ empty
  unfolding name_of
  name_bad e = rw e

  in_is : connection_in kind z cells x ≡ connection z h
  unfolding connection_in
  in_is = refl

module _ (kind z : ℕ) (cells words xs : List ℕ) where
  abbrev header : ℕ → Header
  header x = header_at kind cells (cell_start x)

  abbrev pub Named : Type 0
  Named = (x : ℕ) → 0 < count x xs → names_open z words (header x) ≡ true

  abbrev pub Waits : Type 0
  Waits = (c : ℕ) → c < connections_in z → unused z c ≡ false → (connection_at words c).opened ≡ 1
      → (connection_at words c).waiting ≡ count c (map (connection_in kind z cells) xs)

  abbrev pub UsedUp : Type 0
  UsedUp = (k : ℕ) → count k (map (name_of kind z cells) xs) ≡ waits_at words z k

  pub named_of : connections_in z ≤ empty → UsedUp → Named
  named_of small f x g = go (names_connection z (header x)) refl
    where
      some : 0 < waits_at words z (name_of kind z cells x)
      some = omega (arith, named_in (name_of kind z cells) x xs g, f (name_of kind z cells x))

      go : (b : Bool) → names_connection z (header x) ≡ b → names_open z words (header x) ≡ true
      go true e =
          names_open_lem z words (header x) e
          (waits_some words z (connection z (header x)) (rw (← in_is kind z cells x, ← name_is kind z cells x e) some))
      go false e =
          absurd (omega (arith, small, (waits_some words z (name_of kind z cells x) some).0, name_bad kind z cells x e))

  names_same : Named → map (name_of kind z cells) xs ≡ map (connection_in kind z cells) xs
  names_same f =
      same_names (name_of kind z cells) (connection_in kind z cells) xs
      (λ x g. name_is kind z cells x (open_named z words (header x) (f x g)).0)

  pub waits_of_lem : connections_in z ≤ empty → UsedUp → Waits
  waits_of_lem small f c a d e =
      sym (waits_open words z c (a, d, e)) ∙ sym (f c) ∙ ap (count c) (names_same (named_of small f))

  pub used_up : Named → Waits → UsedUp
  used_up f g u = go (dec_lt u (connections_in z)) (unused z u) refl (ℕ_discrete (connection_at words u).opened 1)
    where
      shut : (MayWait words z u → ⊥) → count u (map (name_of kind z cells) xs) ≡ waits_at words z u
      shut n =
          none_named (name_of kind z cells) u xs
          (λ x h e.
          let o = open_named z words (header x) (f x h) in
          let y : connection z (header x) ≡ u = sym (in_is kind z cells x) ∙ sym (name_is kind z cells x o.0) ∙ e in
          n (rw y at o.1))
          ∙ sym (waits_shut words z u n)

      go : Dec (u < connections_in z) → (b : Bool) → unused z u ≡ b → Dec ((connection_at words u).opened ≡ 1)
          → count u (map (name_of kind z cells) xs) ≡ waits_at words z u
      go (yes a) false b (yes d) =
          ap (count u) (names_same f) ∙ sym (waits_open words z u (a, b, d) ∙ g u a b d)
      go (no a) b e d = shut (λ h. a h.0)
      go (yes a) true b d = shut (λ h. absurd (true≢false (sym b ∙ h.1)))
      go (yes a) false b (no d) = shut (λ h. d h.2)
