-- After setup both forms are tied: every space is free by its bit, and the old links lead from 0 to N-1 through the Free List.
use Prim.Native.Nat.{ℕ, zero, suc, ◌+◌, ◌-◌, ◌*◌, ◌≤◌, ◌<◌}
use mathlib.Core.Path.{◌≡◌, refl, sym, ap, ◌∙◌}
use mathlib.Core.List.{List, [], ◌∷◌, ◌++◌}
use native.Mathlib.Decide.{ℕ_discrete, dec_lt}
use native.Mathlib.Omega.{arith}
use lib.ListN.{length, get_or, replicate, length-replicate, get_or-replicate, length-append, get_or-append}
use Rattle.meaning.specs.Numbers.{empty}
use Rattle.meaning.specs.State.{ends_of}
use Rattle.meaning.specs.Bits.{all_free}
use Rattle.meaning.specs.Lists.{entry_at}
use Rattle.meaning.specs.Calls.{Options, fresh_record, fresh_state}
use Rattle.meaning.proofs.BitsLaws.{all_length, all_free_lem}
use Rattle.meaning_listed.specs.Listed.{count_up}
use Rattle.theory_queues.specs.Queue.{sum}
use Rattle.theory_chains.specs.Strung.{is, inside, self, cnt, Follow, last_of}
use Rattle.theory_chains.proofs.CountLaws.{is_no, is_yes, inside_yes, inside_no}
use Rattle.theory_memory.specs.Held.{free_at}
use Rattle.theory_invariant.specs.Invariant.{Ranges}
use Rattle.promise_listed.specs.Tied.{TiedAt}

up_length : (k i : ℕ) → length (count_up k i) ≡ k
unfolding count_up
up_length zero i = refl
up_length (suc k) i = ap suc (up_length k (i + 1))

up_at : (k i j : ℕ) → j < k → get_or (count_up k i) j 0 ≡ i + j
unfolding count_up
up_at zero i j h = absurd (omega arith)
up_at (suc k) i zero h = omega arith
up_at (suc k) i (suc j) h = up_at k (i + 1) j (omega arith) ∙ omega arith

inside_next : (k i : ℕ) → inside k (i + 1) ≡ inside k i + is k i
inside_next k i = go (dec_lt k i) (ℕ_discrete k i)
  where
    go : Dec (k < i) → Dec (k ≡ i) → inside k (i + 1) ≡ inside k i + is k i
    go (yes p) d = omega (arith, inside_yes k i p, inside_yes k (i + 1) (omega arith), is_no k i (λ e. omega arith))
    go (no p) (yes e) = omega (arith, inside_no k i (omega arith), inside_yes k (i + 1) (omega arith), is_yes k i e)
    go (no p) (no e) = omega (arith, inside_no k i (omega arith), inside_no k (i + 1) (omega arith), is_no k i e)

-- each of them stands there once
up_count : (k m i : ℕ) → sum (is k) (count_up m i) + inside k i ≡ inside k (i + m)
unfolding count_up
up_count k zero i = let e : i + 0 ≡ i = omega arith in omega (arith, ap (inside k) e)
up_count k (suc m) i = omega (arith, up_count k m (i + 1), inside_next k i, ap (inside k) shift)
  where
    shift : i + 1 + m ≡ i + suc m
    shift = omega arith

abbrev chained : ℕ → List ℕ
chained w = count_up w 1 ++ (0 ∷ [])

chained_at : (w k : ℕ) → k < w → get_or (chained w) k 0 ≡ k + 1
chained_at w k h = get_or-append (count_up w 1) (0 ∷ []) 0 k (omega (arith, up_length w 1)) ∙ up_at w 1 k h ∙ omega arith

up_follow : (l : List ℕ) (w : ℕ) → ((k : ℕ) → k < w → get_or l k 0 ≡ k + 1) → (m i : ℕ) → i + m ≤ w → Follow self l i (count_up m (i + 1))
unfolding count_up
up_follow l w f zero i h = tt
up_follow l w f (suc m) i h = (f i (omega arith), up_follow l w f m (i + 1) (omega arith))

up_last : (m i : ℕ) → last_of self i (count_up m (i + 1)) ≡ i + m
unfolding count_up
up_last zero i = omega arith
up_last (suc m) i = up_last m (i + 1) ∙ omega arith

module _ (N z : ℕ) (o : Options) (r : Ranges N z) where
  abbrev w : ℕ
  w = N - 1

  entries : (e : ℕ) → e < N
      → ((entry_at (replicate (2 * N) empty) e).head ≡ empty) × ((entry_at (replicate (2 * N) empty) e).tail ≡ empty)
  unfolding entry_at
  entries e h =
      (get_or-replicate (2 * N) (2 * e) empty 0 (omega arith), get_or-replicate (2 * N) (2 * e + 1) empty 0 (omega arith))

  -- the free spaces are those below N, by their bits and in the list
  all_at : (k : ℕ) → free_at (all_free N) k ≡ inside k N
  unfolding free_at inside
  all_at k = rw (all_free_lem N k r.N_high)

  whole : 1 + w ≡ N
  whole = omega (arith, r.N_low)

  listed_at : (k : ℕ) → cnt self k (0 ∷ count_up w 1) ≡ inside k N
  listed_at k =
      omega (arith, up_count k w 1, ap (inside k) whole, inside_next k 0, inside_no k 0 (omega arith))

  pub fresh_tied : TiedAt (fresh_state N z o) (count_up (N - 1) 1 ++ (0 ∷ [])) (ends_of 0 (N - 1))
  unfolding fresh_state fresh_record
  fresh_tied =
      record {
        o = [];
        q = λ e. [];
        fl = 0 ∷ count_up w 1;
        most = r.N_high;
        turn_low = omega (arith, r.N_low);
        calendar_long = length-replicate (2 * N) empty;
        bits_long = all_length N;
        new = record { long = length-replicate N 0; out_is = (refl, refl); queues_are = entries };
        old = record {
          long = length-append (count_up w 1) (0 ∷ []) ∙ omega (arith, up_length w 1, whole);
          out_is = (refl, refl);
          queues_are = entries;
        };
        free_is = (refl, sym (up_last w 0 ∙ omega arith), up_follow (chained w) w (chained_at w) w 0 (omega arith));
        frees = λ k. listed_at k ∙ sym (all_at k);
        within = λ k e h. omega (arith, listed_at k);
        apart = λ k e d h j ne. omega arith;
      }
