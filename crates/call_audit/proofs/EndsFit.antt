-- "lengths and ranges hold throughout": where the clauses hold, heads, tails and the links that are read are in range,
-- since each of them is a space of some list.
use Prim.Native.Nat.{ℕ, ◌≤◌, ◌<◌}
use mathlib.Core.Path.{◌≡◌, sym, ap, ◌∙◌}
use mathlib.Core.Bool.{true}
use mathlib.Core.List.{List, [], ◌∷◌, ◌++◌}
use native.Mathlib.Omega.{arith}
use native.Mathlib.Decide.{ℕ_discrete, dec_lt}
use lib.ListN.{get_or}
use Rattle.meaning.specs.State.{State, Ends, output_list}
use Rattle.meaning.specs.Lists.{empty_list, ends_fit, entry_at}
use Rattle.meaning.specs.Audit.{Leads, Chain, count, joined, AuditHolds}
use Rattle.meaning.proofs.ListsLaws.{fit_marked, fit_empty}
use Rattle.mem_walks.proofs.BudgetLaws.{is, is_same, is_no, count_append, count_joined}

-- no number from N on stands in the list
abbrev pub Below : ℕ → List ℕ → Type 0
Below N xs = (x : ℕ) → N ≤ x → count x xs ≡ 0

below : (N x : ℕ) (xs : List ℕ) → Below N xs → 0 < count x xs → x < N
below N x xs f h = go (dec_lt x N)
  where
    go : Dec (x < N) → x < N
    go (yes p) = p
    go (no p) = absurd (omega (arith, f x (omega arith)))

module _ (l : List ℕ) (t : ℕ) where
  -- the tail stands in the chain
  tail_in : (x : ℕ) (xs : List ℕ) → Leads l t x xs → 0 < count t (x ∷ xs)
  tail_in x [] e = omega (arith, is_same t, ap (λ (k : ℕ). is t k) e)
  tail_in x (y ∷ ys) e = omega (arith, tail_in y ys e.2)

  -- so does the link of each space but the tail
  link_in : (k x : ℕ) (xs : List ℕ) → Leads l t x xs → (k ≡ t → ⊥) → 0 < count k (x ∷ xs)
      → 0 < count (get_or l k 0) (x ∷ xs)
  link_in k x [] e n h = go (ℕ_discrete x k)
    where
      go : Dec (x ≡ k) → 0 < count (get_or l k 0) (x ∷ [])
      go (yes p) = absurd (n (sym p ∙ e))
      go (no p) = absurd (omega (arith, is_no k x p))
  link_in k x (y ∷ ys) e n h = go (ℕ_discrete x k) (link_in k y ys e.2 n)
    where
      go : Dec (x ≡ k) → (0 < count k (y ∷ ys) → 0 < count (get_or l k 0) (y ∷ ys)) → 0 < count (get_or l k 0) (x ∷ y ∷ ys)
      go (yes p) later =
          let q : get_or l k 0 ≡ y = ap (λ (j : ℕ). get_or l j 0) (sym p) ∙ e.1 in
          omega (arith, is_same y, ap (λ (j : ℕ). is j y) q, ap (λ (j : ℕ). count j (x ∷ y ∷ ys)) q)
      go (no p) later = omega (arith, later (omega (arith, is_no k x p)))

module _ (l : List ℕ) (N : ℕ) (e : Ends) where
  chain_ends : (xs : List ℕ) → Below N xs → Chain l e xs → ends_fit N e ≡ true
  chain_ends [] f c =
      let p : e.head ≡ empty_list.head = c.0 in
      let q : e.tail ≡ empty_list.tail = c.1 in
      ap (ends_fit N) (λ i. record { head = p i; tail = q i }) ∙ fit_empty N
  chain_ends (x ∷ xs) f c =
      let low : 0 < count x (x ∷ xs) = omega (arith, is_same x) in
      fit_marked N e.head e.tail (omega (arith, c.0, below N x (x ∷ xs) f low))
      (below N e.tail (x ∷ xs) f (tail_in l e.tail x xs c.1))

  chain_links : (xs : List ℕ) → Below N xs → Chain l e xs → (x : ℕ) → 0 < count x xs → (x ≡ e.tail → ⊥)
      → get_or l x 0 < N
  chain_links [] f c x h n = absurd (omega arith)
  chain_links (y ∷ ys) f c x h n =
      below N (get_or l x 0) (y ∷ ys) f (link_in l e.tail x y ys c.1 n h)

module _ (s : State) (h : AuditHolds s) where
  abbrev N : ℕ
  N = s.ctl.n

  queued_below : Below N (h.output ++ joined h.queues)
  queued_below = h.no_other

  output_below : Below N h.output
  output_below x g = omega (arith, queued_below x g, count_append x h.output (joined h.queues))

  queue_below : (e : ℕ) → Below N (get_or h.queues e [])
  queue_below e x g =
      omega (arith, queued_below x g, count_append x h.output (joined h.queues), count_joined x h.queues e)

  -- "a head and tail are both below N or both 65,535"
  pub output_fits : ends_fit N (output_list s) ≡ true
  output_fits = chain_ends s.links N (output_list s) h.output output_below h.output_is

  pub entry_fits : (e : ℕ) → e < N → ends_fit N (entry_at s.calendar e) ≡ true
  entry_fits e g =
      chain_ends s.links N (entry_at s.calendar e) (get_or h.queues e []) (queue_below e) (h.queues_are e g)

  -- "a link that is read is below N": the link of each space but the tail
  pub output_links_fit : (x : ℕ) → 0 < count x h.output → (x ≡ (output_list s).tail → ⊥) → get_or s.links x 0 < N
  output_links_fit = chain_links s.links N (output_list s) h.output output_below h.output_is

  pub entry_links_fit : (e : ℕ) → e < N → (x : ℕ) → 0 < count x (get_or h.queues e [])
      → (x ≡ (entry_at s.calendar e).tail → ⊥) → get_or s.links x 0 < N
  entry_links_fit e g =
      chain_links s.links N (entry_at s.calendar e) (get_or h.queues e []) (queue_below e) (h.queues_are e g)
