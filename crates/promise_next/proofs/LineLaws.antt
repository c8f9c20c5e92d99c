-- The walk over the entries and the line without its memory: an entry holds a cell exactly where its queue does, so what the walk says
-- is when the line's first cell leaves.
use Prim.Native.Nat.{ℕ, zero, suc, ◌+◌, ◌-◌, ◌%◌, ◌≤◌, ◌<◌}
use mathlib.Core.Path.{◌≡◌, refl, sym, ap, ◌∙◌, subst}
use mathlib.Core.Logic.{◌≢◌}
use mathlib.Core.Bool.{Bool, true, false, not, ◌||◌}
use mathlib.Core.List.{List, [], ◌∷◌, map}
use native.Mathlib.Decide.{dec_lt, ℕ_discrete}
use native.Mathlib.Omega.{arith}
use lib.ListN.{get_or}
use Rattle.meaning.specs.Plain.{when◌then◌else◌}
use Rattle.meaning.specs.Numbers.{empty}
use Rattle.meaning.specs.State.{State, Ends, output_list}
use Rattle.meaning.specs.Lists.{is_empty, entry_at}
use Rattle.meaning.specs.Next.{first_in}
use Rattle.meaning_runs.specs.Run.{Event}
use Rattle.theory_queues.specs.Queue.{sum, one, turn}
use Rattle.theory_queues.proofs.QueueLaws.{sum_get_or, turn_at, get_d_past}
use Rattle.theory_chains.specs.Strung.{is, Strung}
use Rattle.theory_chains.proofs.StrungLaws.{Within, marked, bare}
use Rattle.theory_memory.specs.Held.{Queued, space_of}
use Rattle.theory_invariant.specs.Invariant.{cell_in, Inv, Waiting, waiting}
use Rattle.promise_next.specs.Next.{holds_at, full_walk}
use Rattle.promise_next.proofs.FirstLaws.{First, first_in_lem}

abbrev pub is_some : {A : Type 0} → List A → Bool
is_some [] = false
is_some (x ∷ xs) = true

map_some : {A B : Type 0} (f : A → B) (q : List A) → is_some (map f q) ≡ is_some q
map_some f [] = refl
map_some f (x ∷ q) = refl

some_sum : (q : List Queued) → is_some q ≡ true → 1 ≤ sum one q
some_sum [] e = absurd (let z : ◌≡◌ {A = ℕ} 0 1 = cc in omega arith)
some_sum (c ∷ q) e = omega arith

queue_map : {A B : Type 0} (f : A → B) (r : List (List A)) (j : ℕ) → get_or (map (map f) r) j [] ≡ map f (get_or r j [])
queue_map f [] j = refl
queue_map f (q ∷ r) zero = refl
queue_map f (q ∷ r) (suc j) = queue_map f r j

-- k tells when the first cell of what waits leaves: 0 for never, else in the k-th slot from now on
pub record Until (N k : ℕ) (b : Waiting) : Type 0 where
  pub at_most : k ≤ N - 1
  pub never : k ≡ 0 → (is_some b.out ≡ false) × ((j : ℕ) → is_some (get_or b.cal j []) ≡ false)
  pub rests : (j : ℕ) → suc j < k → (is_some b.out ≡ false) × (is_some (get_or b.cal j []) ≡ false)
  pub leaves : k ≢ 0 → is_some b.out || is_some (get_or b.cal (k - 1) []) ≡ true

module _ (N z kind : ℕ) (h : List Event) (s : State) (i : Inv N z kind h s) where
  low : N ≤ empty
  low = omega (arith, i.stage.ranges.N_high)

  filled : (e : Ends) (q : List Queued) → Within space_of N low q → Strung space_of s.links e q → not (is_empty e) ≡ is_some q
  filled e [] p c = ap not (bare space_of N low s.links e c)
  filled e (x ∷ xs) p c = ap not (marked space_of N low s.links e x xs p c)

  out_some : not (is_empty (output_list s)) ≡ is_some (waiting i).out
  out_some =
      filled (output_list s) i.out (λ k. omega (arith, i.stage.has.parted k)) i.stage.has.out_is
      ∙ sym (map_some cell_in i.out)

  queue_some : (j : ℕ) → is_some (get_or (waiting i).cal j []) ≡ is_some (get_or i.cal j [])
  queue_some j = ap is_some (queue_map cell_in i.cal j) ∙ map_some cell_in (get_or i.cal j [])

  at_entry : (j : ℕ) → j < N → holds_at s (suc j) ≡ is_some (get_or (waiting i).cal j [])
  at_entry j l =
      ap (λ (e : ℕ). not (is_empty (entry_at s.calendar e))) place
      ∙ filled (entry_at s.calendar ((s.ctl.turn + 1 + j) % N)) (get_or (turn i.cal) j [])
      (λ k. omega (arith, i.stage.has.parted k, sum_get_or (λ (c : Queued). is k c.space) (turn i.cal) j))
      (i.stage.has.queues_are j l)
      ∙ ap is_some (turn_at i.cal j)
      ∙ sym (queue_some j)
    where
      later : s.ctl.turn + suc j ≡ s.ctl.turn + 1 + j
      later = omega arith

      place : (s.ctl.turn + suc j) % s.ctl.n ≡ (s.ctl.turn + 1 + j) % N
      place = ap (λ (e : ℕ). e % s.ctl.n) later ∙ ap (λ (n : ℕ). (s.ctl.turn + 1 + j) % n) i.stage.n_is

  -- no queue stands behind the N - 1
  past : (j : ℕ) → N - 1 ≤ j → is_some (get_or (waiting i).cal j []) ≡ false
  past j l = queue_some j ∙ ap is_some (get_d_past i.cal j (omega (arith, i.good.long)))

  n_low : 1 ≤ N
  n_low = i.stage.ranges.N_low

  by_output : (o : Bool) → is_some (waiting i).out ≡ o → (d : ℕ) → First (holds_at s) (N - 1) 1 d → Until N (when o then 1 else d) (waiting i)
  by_output true e d f =
      record {
        at_most = omega (arith, i.good.room, some_sum i.out (sym (map_some cell_in i.out) ∙ e));
        never = λ y. absurd (omega arith);
        rests = λ j l. absurd (omega arith);
        leaves = λ y. rw e refl;
      }
  by_output false e d f =
      record {
        at_most = most (ℕ_discrete d 0);
        never = λ y. (e, λ j. all y j (dec_lt j (N - 1)));
        rests = λ j l. (e, sym (at_entry j (omega (arith, below l))) ∙ f.before (suc j) (omega arith) l);
        leaves = λ y. there y;
      }
    where
      most : Dec (d ≡ 0) → d ≤ N - 1
      most (yes y) = omega arith
      most (no y) = omega (arith, (f.found y).1, n_low)

      below : {j : ℕ} → suc j < d → d < N
      below l = omega (arith, (f.found (λ y. omega arith)).1, n_low)

      all : d ≡ 0 → (j : ℕ) → Dec (j < N - 1) → is_some (get_or (waiting i).cal j []) ≡ false
      all y j (yes l) = sym (at_entry j (omega arith)) ∙ f.none y (suc j) (omega arith) (omega arith)
      all y j (no l) = past j (omega arith)

      there : d ≢ 0 → is_some (waiting i).out || is_some (get_or (waiting i).cal (d - 1) []) ≡ true
      there y =
          rw e (sym (at_entry (d - 1) (omega (arith, (f.found y).1, n_low)))
          ∙ ap (holds_at s) (omega (arith, (f.found y).0)) ∙ (f.found y).2)

  pub walk_tells : Until N (full_walk s) (waiting i)
  unfolding full_walk
  walk_tells =
      rw (out_some)
      (by_output (is_some (waiting i).out) refl (first_in (holds_at s) (s.ctl.n - 1) 1)
      (subst (λ (n : ℕ). First (holds_at s) (n - 1) 1 (first_in (holds_at s) (s.ctl.n - 1) 1)) i.stage.n_is
      (first_in_lem (holds_at s) (s.ctl.n - 1) 1 (omega arith))))
