-- The two budgets that a state gives, filled one number at a time: 1 for each space that is not free, its waiting for each open
-- connection, by the cases of their definitions.
use Prim.Native.Nat.{ℕ, ◌+◌, ◌*◌, ◌≤◌, ◌<◌}
use mathlib.Core.Path.{◌≡◌, refl, sym, ap, ◌∙◌}
use mathlib.Core.Bool.{Bool, true, false, not, ◌&&◌}
use mathlib.Core.List.{List}
use native.Mathlib.Omega.{arith}
use native.Mathlib.Decide.{ℕ_discrete, dec_lt}
use lib.ListN.{length, get_or, set}
use lib.Seq.{get_or-set_same, get_or-set_other}
use borrow.Author.Tests.{lt-ltb, le-ltb, le-leb, lt-leb, eq-eqb, ne_eqb, eqb-true, ltb-true, not-true}
use Rattle.meaning.specs.Plain.{when◌then◌else◌, ◌<?◌, ◌≤?◌, ◌=?◌}
use Rattle.meaning.specs.Numbers.{paths, connections_in, unused, words_per_connection}
use Rattle.meaning.specs.Words.{connection_at, connection_fits}
use Rattle.call_audit.specs.Budgets.{uses_of, inside, waits_of, filled_at, waits_at, FitFrom, AllFit}
use Rattle.meaning.proofs.WordsLaws.{opened_at, waiting_at}
use Rattle.meaning.proofs.NamesLaws.{used_is, used_not_0, used_not_z}
use Rattle.mem_walks.specs.Budget.{Gone}
use Rattle.std.proofs.lemmas.Bool.{and_parts}
use Rattle.mem_walks.proofs.Choice.{if_elim}

-- Spaces

module _ (bits : List ℕ) where
  pub inside_yes : (k n : ℕ) → k < n → inside bits k n ≡ uses_of bits k
  unfolding inside
  inside_yes k n h = rw (lt-ltb k n h)

  pub inside_no : (k n : ℕ) → n ≤ k → inside bits k n ≡ 0
  unfolding inside
  inside_no k n h = rw (le-ltb k n h)

  inside_on : (k i : ℕ) → (k ≡ i → ⊥) → inside bits k i ≡ inside bits k (i + 1)
  inside_on k i n = go (dec_lt k i)
    where
      more : (k i : ℕ) → i ≤ k → (k ≡ i → ⊥) → i < k
      more k i m n = omega arith

      go : Dec (k < i) → inside bits k i ≡ inside bits k (i + 1)
      go (yes h) = inside_yes k i h ∙ sym (inside_yes k (i + 1) (omega arith))
      go (no h) = inside_no k i (omega arith) ∙ sym (inside_no k (i + 1) (omega (arith, more k i (omega arith) n)))

  -- a turn of the loop that fills the spaces' budget
  pub inside_turn : (b : List ℕ) (i d : ℕ) → i < length b → d ≡ uses_of bits i → ((k : ℕ) → get_or b k 0 ≡ inside bits k i) → (k : ℕ)
      → get_or (set b i d) k 0 ≡ inside bits k (i + 1)
  inside_turn b i d h u f k = go (ℕ_discrete k i)
    where
      go : Dec (k ≡ i) → get_or (set b i d) k 0 ≡ inside bits k (i + 1)
      go (yes e) =
          ap (λ (j : ℕ). get_or (set b i d) j 0) e
          ∙ get_or-set_same b i d 0 h
          ∙ u
          ∙ ap (uses_of bits) (sym e)
          ∙ sym (inside_yes k (i + 1) (omega arith))
      go (no n) = get_or-set_other b i k d 0 n ∙ f k ∙ inside_on k i n

-- Waiting

module _ (words : List ℕ) where
  abbrev waits_on : ℕ → ℕ
  waits_on k = waits_of (connection_at words k)

  -- a part of the records filled: what it holds inside, and before and past it
  module _ (w : List ℕ) (from : ℕ) where
    pub filled_in : (to k : ℕ) → from ≤ k → k < to → filled_at words w from to k ≡ waits_on k
    unfolding filled_at
    filled_in to k h g = rw (le-leb from k h, lt-ltb k to g)

    pub filled_before : (to k : ℕ) → k < from → filled_at words w from to k ≡ get_or w k 0
    unfolding filled_at
    filled_before to k h = rw (lt-leb from k h)

    pub filled_past : (to k : ℕ) → to ≤ k → filled_at words w from to k ≡ get_or w k 0
    unfolding filled_at
    filled_past to k h = rw (le-ltb k to h) (none (from ≤? k))
      where
        none : (a : Bool) → (when a && false then waits_on k else get_or w k 0) ≡ get_or w k 0
        none true = refl
        none false = refl

    pub filled_none : (k : ℕ) → get_or w k 0 ≡ filled_at words w from from k
    filled_none k = go (dec_lt k from)
      where
        go : Dec (k < from) → get_or w k 0 ≡ filled_at words w from from k
        go (yes h) = sym (filled_before from k h)
        go (no h) = sym (filled_past from k (omega arith))

    -- a turn of the loop that fills the cells' budget
    pub filled_turn : (w' : List ℕ) (u d : ℕ) → from ≤ u → u < length w' → d ≡ waits_on u
        → ((k : ℕ) → get_or w' k 0 ≡ filled_at words w from u k) → (k : ℕ)
        → get_or (set w' u d) k 0 ≡ filled_at words w from (u + 1) k
    filled_turn w' u d p h e f k = go (ℕ_discrete k u)
      where
        near : Dec (k < from) → Dec (k < u) → (k ≡ u → ⊥) → filled_at words w from u k ≡ filled_at words w from (u + 1) k
        near (yes b) g n = filled_before u k b ∙ sym (filled_before (u + 1) k b)
        near (no b) (yes g) n = filled_in u k (omega arith) g ∙ sym (filled_in (u + 1) k (omega arith) (omega arith))
        near (no b) (no g) n = filled_past u k (omega arith) ∙ sym (filled_past (u + 1) k (past k u g n))
          where
            past : (k u : ℕ) → (k < u → ⊥) → (k ≡ u → ⊥) → u + 1 ≤ k
            past k u g n = omega arith

        go : Dec (k ≡ u) → get_or (set w' u d) k 0 ≡ filled_at words w from (u + 1) k
        go (yes a) =
            ap (λ (j : ℕ). get_or (set w' u d) j 0) a
            ∙ get_or-set_same w' u d 0 h
            ∙ e
            ∙ sym (filled_in (u + 1) u p (omega arith))
            ∙ ap (λ (j : ℕ). filled_at words w from (u + 1) j) (sym a)
        go (no a) = get_or-set_other w' u k d 0 a ∙ f k ∙ near (dec_lt k from) (dec_lt k u) a

  pub waits_read : (k : ℕ) → get_or words (words_per_connection * k) 0 ≡ 1 → get_or words (words_per_connection * k + 6) 0 ≡ waits_on k
  unfolding waits_of
  waits_read k h = rw (eq-eqb (connection_at words k).opened 1 (opened_at words k ∙ h)) (sym (waiting_at words k))

  pub waits_read_shut : (k : ℕ) → (get_or words (words_per_connection * k) 0 ≡ 1 → ⊥) → 0 ≡ waits_on k
  unfolding waits_of
  waits_read_shut k h = rw (ne_eqb (connection_at words k).opened 1 (λ e. h (sym (opened_at words k) ∙ e)))

  -- a connection that may have cells: it is open
  abbrev pub MayWait : ℕ → ℕ → Type 0
  MayWait z k = (k < connections_in z) × (unused z k ≡ false) × ((connection_at words k).opened ≡ 1)

  waits_in : (z k : ℕ) → k < connections_in z → unused z k ≡ false → waits_at words z k ≡ waits_on k
  unfolding waits_at
  waits_in z k h g = rw (lt-ltb k (connections_in z) h, g)

  pub waits_some : (z k : ℕ) → 0 < waits_at words z k → MayWait z k
  unfolding waits_at waits_of
  waits_some z k =
      if_elim (λ (y : ℕ). 0 < y → MayWait z k) (k <? connections_in z && not (unused z k)) _ 0
      (λ a. if_elim (λ (y : ℕ). 0 < y → MayWait z k) ((connection_at words k).opened =? 1) (connection_at words k).waiting 0
      (λ d _.
      let i = and_parts (k <? connections_in z) (not (unused z k)) a in
      (ltb-true k (connections_in z) i.0, not-true (unused z k) i.1, eqb-true (connection_at words k).opened 1 d))
      (λ d h. absurd (omega arith)))
      (λ a h. absurd (omega arith))

  pub waits_open : (z k : ℕ) → MayWait z k → waits_at words z k ≡ (connection_at words k).waiting
  unfolding waits_of
  waits_open z k h = waits_in z k h.0 h.1 ∙ rw (eq-eqb (connection_at words k).opened 1 h.2)

  pub waits_shut : (z k : ℕ) → (MayWait z k → ⊥) → waits_at words z k ≡ 0
  waits_shut z k n = go (dec_lt 0 (waits_at words z k))
    where
      go : Dec (0 < waits_at words z k) → waits_at words z k ≡ 0
      go (yes h) = absurd (n (waits_some z k h))
      go (no h) = omega arith

  -- both parts filled, one after the other, from a budget of nothing
  pub both_filled : (z : ℕ) (w w' : List ℕ) → 1 < z → Gone w
      → ((k : ℕ) → get_or w' k 0 ≡ filled_at words w 1 z k) → (k : ℕ)
      → filled_at words w' (z + 1) (z + paths) k ≡ waits_at words z k
  both_filled z w w' some gone f k = go (ℕ_discrete k 0) (ℕ_discrete k z) (dec_lt k z) (dec_lt k (z + paths))
    where
      shut : (MayWait z k → ⊥) → get_or w' k 0 ≡ get_or w k 0 → get_or w' k 0 ≡ waits_at words z k
      shut n e = e ∙ gone k ∙ sym (waits_shut z k n)

      go : Dec (k ≡ 0) → Dec (k ≡ z) → Dec (k < z) → Dec (k < z + paths)
          → filled_at words w' (z + 1) (z + paths) k ≡ waits_at words z k
      go (yes a) b d e =
          filled_before w' (z + 1) (z + paths) k (omega arith)
          ∙ shut (λ m. used_not_0 z k m.1 a) (f k ∙ filled_before w 1 z k (omega arith))
      go (no a) (yes b) d e =
          filled_before w' (z + 1) (z + paths) k (omega arith)
          ∙ shut (λ m. used_not_z z k m.1 b) (f k ∙ filled_past w 1 z k (omega arith))
      go (no a) (no b) (yes d) e =
          filled_before w' (z + 1) (z + paths) k (omega arith)
          ∙ f k
          ∙ filled_in w 1 z k (omega arith) d
          ∙ sym (waits_in z k (omega arith) (used_is z k a b))
      go (no a) (no b) (no d) (yes e) =
          filled_in w' (z + 1) (z + paths) k (above k z b d) e ∙ sym (waits_in z k e (used_is z k a b))
        where
          above : (k z : ℕ) → (k ≡ z → ⊥) → (k < z → ⊥) → z + 1 ≤ k
          above k z b d = omega arith
      go (no a) (no b) (no d) (no e) =
          filled_past w' (z + 1) (z + paths) k (omega arith)
          ∙ shut (λ m. e m.0) (f k ∙ filled_past w 1 z k (omega arith))

-- The ranges of all connections are those of both parts

module _ (N z : ℕ) (words : List ℕ) where
  pub all_fit : FitFrom N 1 z words → FitFrom N (z + 1) (z + paths) words → AllFit N z words
  all_fit f g c low used = go (dec_lt c z)
    where
      a : c ≡ 0 → ⊥
      a = used_not_0 z c used

      b : c ≡ z → ⊥
      b = used_not_z z c used

      go : Dec (c < z) → connection_fits N (connection_at words c) ≡ true
      go (yes d) = f c (omega (arith, a)) d
      go (no d) = g c (omega (arith, b, d)) low

  pub first_fit : AllFit N z words → FitFrom N 1 z words
  first_fit f c h g = f c (omega arith) (used_is z c (λ e. omega (arith, h, e)) (λ e. omega (arith, g, e)))

  pub second_fit : AllFit N z words → FitFrom N (z + 1) (z + paths) words
  second_fit f c h g = f c g (used_is z c (λ e. omega (arith, h, e)) (λ e. omega (arith, h, e)))
