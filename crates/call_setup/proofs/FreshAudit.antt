-- From a setup that answered 0 the audit's clauses hold: all spaces are free and stand in no list, and no connection is open.
use Prim.Native.Nat.{ℕ, ◌+◌, ◌-◌, ◌*◌, ◌≤◌, ◌<◌}
use mathlib.Core.Path.{◌≡◌, refl, sym, ◌∙◌, ap, subst}
use mathlib.Core.Bool.{Bool, true, false, not, ◌&&◌}
use mathlib.Core.List.{List, [], ◌++◌}
use native.Mathlib.Decide.{dec_lt}
use native.Mathlib.Omega.{arith}
use borrow.Author.Tests.{eq-eqb, lt-ltb, le-ltb}
use lib.ListN.{get_or, replicate, length-replicate, get_or-replicate}
use Rattle.meaning.specs.declared.Fresh.{Fresh}
use Rattle.meaning.specs.Plain.{when◌then◌else◌, ◌<?◌}
use Rattle.meaning.specs.Numbers.{most_n, ranges_hold, words_in, open_place, kind_in_range, splits_hold}
use Rattle.meaning.specs.Bits.{is_free_space, is_marked, all_free}
use Rattle.meaning.specs.State.{state_of, words_length, lengths_hold, State, with_record}
use Rattle.meaning.specs.Words.{connection_at, connection_fits}
use Rattle.meaning.specs.Lists.{is_empty, entry_at}
use Rattle.meaning.specs.Calls.{SetUp, set_up_of, zeros, raw_number, Kind, UNI, NNI, kind_number, Options, setup, fresh_record, fresh_state, Asked, chosen}
use Rattle.meaning.specs.Promises.{setup_promise}
use Rattle.meaning.specs.Audit.{Chain, count, joined, AuditHolds}
use Rattle.leaf_refusal.proofs.Ranges.{InRange, ranges_facts}
use Rattle.meaning.proofs.BitsLaws.{all_length, all_fit, all_free_lem}
use Rattle.meaning.proofs.MarksLaws.{no_marks}
use Rattle.call_setup.proofs.Counts.{joined_none, get_or_zeros}

module _ (N z : ℕ) (r : InRange N z) where
  abbrev links : List ℕ
  links = replicate N 0

  -- no cell is queued
  abbrev queued : List ℕ
  queued = [] ++ joined (replicate N [])

  lengths_hold_lem : lengths_hold N z (replicate (53 * N) 0) links (replicate (2 * N) 65535) (replicate (words_in z) 0) (all_free N) (replicate N 0) ≡ true
  unfolding lengths_hold words_length
  lengths_hold_lem =
      simp (
        eq-eqb _ _ (length-replicate {A = ℕ} (53 * N) 0),
        eq-eqb _ _ (length-replicate {A = ℕ} N 0),
        eq-eqb _ _ (length-replicate {A = ℕ} (2 * N) 65535),
        eq-eqb _ _ (length-replicate {A = ℕ} (words_in z) 0),
        eq-eqb _ _ (all_length N),
      )

  entry_empty : (e : ℕ) → e < N → Chain links (entry_at (replicate (2 * N) 65535) e) (get_or (replicate N []) e [])
  unfolding entry_at
  entry_empty e h =
      rw (get_or-replicate {A = List ℕ} N e [] [] h)
      (get_or-replicate {A = ℕ} (2 * N) (2 * e) 65535 0 (omega arith), get_or-replicate {A = ℕ} (2 * N) (2 * e + 1) 65535 0 (omega arith))

  no_cell : (e : ℕ) → Dec (e < N) → (e <? N && not (is_empty (entry_at (replicate (2 * N) 65535) e))) ≡ false
  unfolding entry_at
  no_cell e (yes h) = rw (lt-ltb e N h, eq-eqb _ _ (get_or-replicate {A = ℕ} (2 * N) (2 * e) 65535 0 (omega arith)))
  no_cell e (no h) = rw (le-ltb e N (omega arith))

  -- no entry is marked
  marks_are : (e : ℕ) → e < most_n → is_marked (all_free N) e ≡ (e <? N && not (is_empty (entry_at (replicate (2 * N) 65535) e)))
  marks_are e l = no_marks N e r.N_most l ∙ sym (no_cell e (dec_lt e N))

  counted : (x : ℕ) → count x queued ≡ 0
  counted x = ap (count x) (joined_none N)

  -- each space is free, and in no list
  free_once : (x : ℕ) → x < N → count x queued ≡ (when is_free_space (all_free N) x then 0 else 1)
  free_once x l = rw (all_free_lem N x r.N_most ∙ lt-ltb x N l) (counted x)

  closed : (c : ℕ) → (connection_at (replicate (words_in z) 0) c).opened ≡ 0
  unfolding connection_at
  closed c = get_or_zeros (words_in z) (open_place c)

  fits : (c : ℕ) → connection_fits N (connection_at (replicate (words_in z) 0) c) ≡ true
  unfolding connection_fits
  fits c = simp (closed c)

-- raw is 1 or 0 in the record
raw_low : (raw : Bool) → raw_number raw ≤ 1
raw_low true = omega arith
raw_low false = omega arith

-- and so is the line kind
kind_low : (kind : Kind) → kind_number kind ≤ 1
kind_low UNI = omega arith
kind_low NNI = omega arith

pub fresh_audit : (N z : ℕ) (o : Options) → ranges_hold N z ≡ true → splits_hold z o.splitvci o.splitpath ≡ true → AuditHolds (fresh_state N z o)
unfolding fresh_state fresh_record
fresh_audit N z o h split =
    let r = ranges_facts N z h in
    record {
      ranges = h;
      lengths = lengths_hold_lem N z r;
      turn_low = omega (arith, r.N_least);
      rotation_low = omega (arith, r.V_least);
      raw_low = raw_low o.raw;
      mode_low = omega arith;
      kind_low = kind_low o.kind;
      splits = split;
      connections_fit = λ c a b. fits N z r c;
      spaces_fit_lem = all_fit N r.N_most;
      marks_are = marks_are N z r;
      output = [];
      queues = replicate N [];
      output_is = (refl, refl);
      queues_many = length-replicate {A = List ℕ} N [];
      queues_are = entry_empty N z r;
      once = free_once N z r;
      no_other = λ x l. counted N z r x;
      turn_empty = get_or-replicate {A = List ℕ} N (N - 1) [] [] (omega (arith, r.N_least));
      named = λ x p. absurd (omega (arith, counted N z r x));
      waits = λ c a b o. absurd (omega (arith, o, closed N z r c));
    }

-- what setup's promise allows with number 0 meets the audit's clauses
pub setup_audit : (N z : ℕ) (asked : Asked) (lent : State) (r : Fresh) (cells' links' calendar' words' bits' arrived' : List ℕ)
    → setup_promise N z asked lent (set_up_of r.number (state_of r.ctl cells' links' calendar' words' bits' arrived'))
    → r.number ≡ 0
    → AuditHolds (state_of r.ctl cells' links' calendar' words' bits' arrived')
unfolding setup
setup_audit N z asked lent r cells' links' calendar' words' bits' arrived' p e =
    subst AuditHolds (sym (ap (λ (s : SetUp). s.state) p)) (go in_range splits known long refl refl (sym (ap (λ (s : SetUp). s.number) p) ∙ e))
  where
    in_range : Bool
    in_range = ranges_hold N z

    splits : Bool
    splits = splits_hold z asked.splitvci asked.splitpath

    known : Bool
    known = kind_in_range asked.kind

    long : Bool
    long = lengths_hold N z lent.cells lent.links lent.calendar lent.words lent.bits lent.arrived

    after : Bool → Bool → Bool → Bool → SetUp
    after a s b d =
        let as_it_came = with_record lent zeros in
        when not a then set_up_of 1 as_it_came
        else when not s then set_up_of 1 as_it_came
        else when not b then set_up_of 13 as_it_came
        else when not d then set_up_of 2 as_it_came
        else set_up_of 0 (fresh_state N z (chosen asked))

    go : (a s b d : Bool) → in_range ≡ a → splits ≡ s → (after a s b d).number ≡ 0 → AuditHolds (after a s b d).state
    go true true true true h g k = fresh_audit N z (chosen asked) h g
    go true true true false h g k = absurd (omega arith)
    go true true false d h g k = absurd (omega arith)
    go true false b d h g k = absurd (omega arith)
    go false s b d h g k = absurd (omega arith)
