-- A list of spaces in the links is a chain as the audit has it, and counts agree.
use Prim.Native.Nat.{ℕ, ◌+◌, ◌≤◌}
use mathlib.Core.Path.{◌≡◌, refl, sym, ap, ◌∙◌}
use mathlib.Core.List.{List, [], ◌∷◌, ◌++◌, map}
use Rattle.meaning.specs.State.{Ends}
use Rattle.meaning.specs.Audit.{Leads, Chain, count, joined}
use Rattle.theory_queues.specs.Queue.{flat}
use Rattle.theory_queues.proofs.QueueLaws.{map_append}
use Rattle.theory_chains.specs.Strung.{is, self, cnt, Follow, last_of, Strung}
use Rattle.theory_chains.proofs.StrungLaws.{Off, off_last}

module _ {C : Type 0} (sp : C → ℕ) where
  pub count_is : (k : ℕ) (q : List C) → count k (map sp q) ≡ cnt sp k q
  unfolding is
  count_is k [] = refl
  count_is k (c ∷ q) = ap (λ n. is k (sp c) + n) (count_is k q)

  leads_to : (l : List ℕ) (x : C) (xs : List C) → Off sp (sp (last_of sp x xs)) x xs → Follow sp l x xs
      → Leads l (sp (last_of sp x xs)) (sp x) (map sp xs)
  leads_to l x [] o f = refl
  leads_to l x (y ∷ ys) o f = (o.0, f.0, leads_to l y ys o.1 f.1)

  pub chain_is : (l : List ℕ) (e : Ends) (q : List C) → ((k : ℕ) → cnt sp k q ≤ 1) → Strung sp l e q → Chain l e (map sp q)
  chain_is l e [] p s = s
  chain_is l e (x ∷ xs) p s =
      (s.0, rw s.1 (leads_to l x xs (off_last sp x xs (p (sp (last_of sp x xs)))) s.2))

  pub joined_map : (r : List (List C)) → joined (map (map sp) r) ≡ map sp (flat r)
  joined_map [] = refl
  joined_map (q ∷ r) = ap (λ l. map sp q ++ l) (joined_map r) ∙ sym (map_append sp q (flat r))

pub map_self : (q : List ℕ) → map self q ≡ q
map_self [] = refl
map_self (x ∷ q) = ap (λ l. x ∷ l) (map_self q)
