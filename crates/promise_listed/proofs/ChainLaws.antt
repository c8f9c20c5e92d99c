-- The lists in one memory of links, through each move of a slot: a cell joins a queue, a queue joins the Output List, a space goes behind
-- the Free List. And that head and tail after a move are the same whichever links lead there.
use Prim.Native.Nat.{ℕ, ◌+◌, ◌*◌, ◌≤◌, ◌<◌}
use mathlib.Core.Path.{◌≡◌, refl, sym, ap, ◌∙◌, subst}
use mathlib.Core.Logic.{◌≢◌}
use mathlib.Core.Bool.{Bool, true, false}
use mathlib.Core.List.{List, [], ◌∷◌, ◌++◌}
use native.Mathlib.Decide.{ℕ_discrete}
use native.Mathlib.Omega.{arith}
use borrow.Author.Tests.{eq-eqb, ne_eqb}
use lib.ListN.{length}
use Rattle.meaning.specs.Numbers.{empty}
use Rattle.meaning.specs.State.{Ends}
use Rattle.meaning.specs.Lists.{empty_list, is_empty, entry_at, write_entry, Grown, join_head, join_tail}
use Rattle.meaning.proofs.ListsLaws.{entry_read, entry_other}
use Rattle.theory_chains.specs.Strung.{is, inside, self, cnt, Strung}
use Rattle.theory_chains.proofs.CountLaws.{inside_le}
use Rattle.theory_chains.proofs.JoinLaws.{head_bare, head_marked, tail_bare, tail_marked, join_head_lem, join_tail_lem, beside_head, beside_tail, head_length, tail_length}
use Rattle.promise_listed.specs.Tied.{Chains, upd}

-- ── head and tail do not depend on the links ──
pub head_ends : (l k : List ℕ) (e : Ends) (x : ℕ) → (join_head l e x).ends ≡ (join_head k e x).ends
head_ends l k e x = go (is_empty e) refl
  where
    go : (b : Bool) → is_empty e ≡ b → (join_head l e x).ends ≡ (join_head k e x).ends
    go true h = rw (head_bare l e x h, head_bare k e x h)
    go false h = rw (head_marked l e x h, head_marked k e x h)

pub tail_ends : (l k : List ℕ) (e more : Ends) → (join_tail l e more).ends ≡ (join_tail k e more).ends
tail_ends l k e more = go (is_empty e) refl
  where
    go : (b : Bool) → is_empty e ≡ b → (join_tail l e more).ends ≡ (join_tail k e more).ends
    go true h = rw (tail_bare l e more h, tail_bare k e more h)
    go false h = rw (tail_marked l e more h, tail_marked k e more h)

pub same_ends : (l k : List ℕ) (e d : Ends) (q : List ℕ) → Strung self l e q → Strung self k d q → e ≡ d
same_ends l k e d [] s t = λ i. record { head = (s.0 ∙ sym t.0) i; tail = (s.1 ∙ sym t.1) i }
same_ends l k e d (x ∷ xs) s t = λ i. record { head = (s.0 ∙ sym t.0) i; tail = (s.1 ∙ sym t.1) i }

-- ── one queue changed ──
module _ (q : ℕ → List ℕ) (e : ℕ) (l : List ℕ) where
  pub upd_own : upd q e l e ≡ l
  upd_own = rw (eq-eqb e e refl)

  pub upd_other : (d : ℕ) → d ≢ e → upd q e l d ≡ q d
  upd_other d ne = rw (ne_eqb d e ne)

module _ (N : ℕ) (low : N ≤ empty) (links calendar : List ℕ) (out : Ends) (o : List ℕ) (q : ℕ → List ℕ)
    (c : Chains N links calendar out o q) (long : length calendar ≡ 2 * N) where
  -- x, which stands in no list, joins entry e at the head
  module _ (e x : ℕ) (he : e < N) (alone : (k : ℕ) → is k x + cnt self k (q e) ≤ inside k N) (none : cnt self x o ≡ 0)
      (nowhere : (d : ℕ) → d < N → cnt self x (q d) ≡ 0) where
    abbrev grown : Grown
    grown = join_head links (entry_at calendar e) x

    abbrev joined : List ℕ
    joined = x ∷ q e

    placed_at : (d : ℕ) → d < N → Dec (d ≡ e)
        → Strung self grown.links (entry_at (write_entry calendar e grown.ends) d) (upd q e joined d)
    placed_at d h (yes p) =
        subst (λ (i : ℕ). Strung self grown.links (entry_at (write_entry calendar e grown.ends) i) (upd q e joined i)) (sym p)
        (rw (entry_read calendar e grown.ends (omega (arith, long, he)), upd_own q e joined)
        (join_head_lem self links N c.long low (entry_at calendar e) x (q e) alone (c.queues_are e he)))
    placed_at d h (no p) =
        rw (entry_other calendar e grown.ends d p, upd_other q e joined d p)
        (beside_head self self links (entry_at calendar e) (entry_at calendar d) x (q d) (nowhere d h) (c.queues_are d h))

    pub placed : Chains N (join_head links (entry_at calendar e) x).links
        (write_entry calendar e (join_head links (entry_at calendar e) x).ends) out o (upd q e (x ∷ q e))
    placed =
        record {
          long = head_length links (entry_at calendar e) x ∙ c.long;
          out_is = beside_head self self links (entry_at calendar e) out x o none c.out_is;
          queues_are = λ d h. placed_at d h (ℕ_discrete d e);
        }

  -- entry T, which is not empty, joins the Output List
  module _ (T : ℕ) (h_t : T < N) (y : ℕ) (ys : List ℕ) (some : q T ≡ y ∷ ys)
      (within : (k e : ℕ) → e < N → cnt self k o + cnt self k (q e) ≤ inside k N) where
    abbrev entry : Ends
    entry = entry_at calendar T

    abbrev longer : Grown
    longer = join_tail links out entry

    sent_at : (d : ℕ) → d < N → Dec (d ≡ T)
        → Strung self longer.links (entry_at (write_entry calendar T empty_list) d) (upd q T [] d)
    sent_at d h (yes p) =
        subst (λ (i : ℕ). Strung self longer.links (entry_at (write_entry calendar T empty_list) i) (upd q T [] i)) (sym p)
        (rw (entry_read calendar T empty_list (omega (arith, long, h_t)), upd_own q T []) (refl, refl))
    sent_at d h (no p) =
        rw (entry_other calendar T empty_list d p, upd_other q T [] d p)
        (beside_tail self self links out entry (entry_at calendar d) o (q d) (λ k. omega (arith, within k d h, inside_le k N))
        c.out_is (c.queues_are d h))

    pub sent : Chains N (join_tail links out (entry_at calendar T)).links (write_entry calendar T empty_list)
        (join_tail links out (entry_at calendar T)).ends (o ++ q T) (upd q T [])
    sent =
        record {
          long = tail_length links out entry ∙ c.long;
          out_is = subst (λ (l : List ℕ). Strung self longer.links longer.ends (o ++ l)) (sym some)
              (join_tail_lem self links N c.long low out entry o y ys
              (λ k. omega (arith, within k T h_t, ap (λ (l : List ℕ). cnt self k l) some))
              c.out_is (subst (λ (l : List ℕ). Strung self links entry l) some (c.queues_are T h_t)));
          queues_are = λ d h. sent_at d h (ℕ_discrete d T);
        }

  -- a space goes behind the list fl, which has no space in common with the others
  pub given_behind : (free more : Ends) (fl : List ℕ) → Strung self links free fl → ((k : ℕ) → cnt self k fl + cnt self k o ≤ 1)
      → ((k e : ℕ) → e < N → cnt self k fl + cnt self k (q e) ≤ 1) → Chains N (join_tail links free more).links calendar out o q
  given_behind free more fl s p r =
      record {
        long = tail_length links free more ∙ c.long;
        out_is = beside_tail self self links free more out fl o p s c.out_is;
        queues_are = λ e h. beside_tail self self links free more (entry_at calendar e) fl (q e) (λ k. r k e h) s (c.queues_are e h);
      }
