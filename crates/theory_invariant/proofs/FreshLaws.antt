-- A fresh state is in order: nothing is queued, every space is free, no entry is marked, every connection is closed.
use Prim.Native.Nat.{ℕ, zero, suc, ◌+◌, ◌-◌, ◌*◌, ◌%◌, ◌≤◌, ◌<◌}
use mathlib.Core.Path.{◌≡◌, refl, sym, ap, ◌∙◌}
use mathlib.Core.Bool.{Bool, true, false, not, ◌&&◌}
use mathlib.Core.List.{List, []}
use native.Mathlib.Nat.{mod-lt, mod-eq_of_lt}
use native.Mathlib.Decide.{dec_lt}
use native.Mathlib.Omega.{arith}
use borrow.Author.Tests.{leb-true, eq-eqb, lt-ltb, le-ltb}
use lib.ListN.{length, replicate, length-replicate, get_or-replicate}
use Rattle.meaning.specs.Plain.{when◌then◌else◌, ◌<?◌, ◌≤?◌}
use Rattle.meaning.specs.Numbers.{ranges_hold, connections_in, kind_in_range, nni, most_n, least_v, most_v, empty, slot_numbers, words_in, open_place, splits_hold}
use Rattle.meaning.specs.State.{State, state_of, output_list, lengths_hold, with_record}
use Rattle.meaning.specs.Bits.{all_free}
use Rattle.meaning.proofs.BitsLaws.{all_length, all_fit, all_free_lem}
use Rattle.meaning.proofs.MarksLaws.{no_marks}
use Rattle.meaning.specs.Words.{connection_at}
use Rattle.meaning.specs.Lists.{is_empty, entry_at}
use Rattle.meaning.specs.Calls.{SetUp, set_up_of, zeros, raw_number, UNI, NNI, kind_number, kind_of, Options, options_of, fresh_record, fresh_state, setup, Kind, Asked, chosen, Allowed}
use Rattle.meaning_runs.specs.Run.{served}
use Rattle.meaning_runs.specs.Leak.{opening_of}
use Rattle.meaning_runs.specs.Seen.{cells_in, departures_in}
use Rattle.theory_queues.specs.Queue.{one, turn, bare}
use Rattle.theory_queues.proofs.QueueLaws.{bare_length, bare_sums, bare_at, bare_flat, turn_length, turn_sums, turn_at, alls_bare, alls_turn}
use Rattle.theory_queues.proofs.LineLaws.{fresh_good}
use Rattle.theory_chains.specs.Strung.{is, inside}
use Rattle.theory_table.proofs.ClockLaws.{slots_many}
use Rattle.theory_table.proofs.LeakLaws.{and_left, and_right}
use Rattle.theory_memory.specs.Held.{Queued, due_of, Held, Dated, free_at, Has}
use Rattle.theory_invariant.specs.Invariant.{Ranges, Sits, Inv}

pub ranges_are : (N z : ℕ) → ranges_hold N z ≡ true → Ranges N z
unfolding ranges_hold
ranges_are N z e =
    record {
      N_low = leb-true 1 N (and_left (1 ≤? N) (N ≤? most_n) two);
      N_high = leb-true N most_n (and_right (1 ≤? N) (N ≤? most_n) two);
      z_low = leb-true least_v z (and_right (1 ≤? N && N ≤? most_n) (least_v ≤? z) three);
      z_high = leb-true z most_v (and_right (1 ≤? N && N ≤? most_n && least_v ≤? z) (z ≤? most_v) e);
    }
  where
    three : 1 ≤? N && N ≤? most_n && least_v ≤? z ≡ true
    three = and_left (1 ≤? N && N ≤? most_n && least_v ≤? z) (z ≤? most_v) e

    two : 1 ≤? N && N ≤? most_n ≡ true
    two = and_left (1 ≤? N && N ≤? most_n) (least_v ≤? z) three

-- "Raw is a yes or no at setup"
raw_number_lem : (raw : Bool) → raw_number raw ≤ 1
raw_number_lem true = omega arith
raw_number_lem false = omega arith

-- "a line kind chosen at setup"
kind_number_lem : (kind : Kind) → kind_in_range (kind_number kind) ≡ true
unfolding kind_in_range
kind_number_lem UNI = refl
kind_number_lem NNI = refl

module _ (N z : ℕ) (o : Options) (r : Ranges N z) where
  size : N ≡ suc (N - 1)
  size = omega (arith, r.N_low)

  abbrev w : ℕ
  w = N - 1

  abbrev s : State
  s = fresh_state N z o

  long : length (replicate (2 * N) empty) ≡ 2 * N
  long = length-replicate (2 * N) empty

  entries : (e : ℕ) → e < N
      → ((entry_at (replicate (2 * N) empty) e).head ≡ empty) × ((entry_at (replicate (2 * N) empty) e).tail ≡ empty)
  unfolding entry_at
  entries e h =
      (get_or-replicate (2 * N) (2 * e) empty 0 (omega arith), get_or-replicate (2 * N) (2 * e + 1) empty 0 (omega arith))

  -- the free spaces are those below N
  all_at : (k : ℕ) → free_at (all_free N) k ≡ inside k N
  unfolding free_at inside
  all_at k = rw (all_free_lem N k r.N_high)

  -- no entry is marked
  unmarked_all : (e : ℕ) → Dec (e < N) → (e <? N && not (is_empty (entry_at (replicate (2 * N) empty) e))) ≡ false
  unmarked_all e (yes h) = rw (lt-ltb e N h, eq-eqb (entry_at (replicate (2 * N) empty) e).head empty (entries e h).0)
  unmarked_all e (no h) = rw (le-ltb e N (omega arith))

  fresh_has : Has N (w + 1) s.cells s.links s.calendar (output_list s) s.ctl.free s.bits []
      (turn (bare w))
  unfolding fresh_state fresh_record
  fresh_has =
      record {
        most = r.N_high;
        cells_long_lem = length-replicate (53 * N) 0;
        links_long = length-replicate N 0;
        calendar_long = long;
        bits_long = all_length N;
        wide = turn_length (bare w) ∙ ap suc (bare_length Queued w) ∙ sym size;
        spaces_fit_lem = all_fit N r.N_high;
        marks_are = λ e he. no_marks N e r.N_high he ∙ sym (unmarked_all e (dec_lt e N));
        out_is = (refl, refl);
        queues_are = λ j h. rw (turn_at (bare w) j, bare_at Queued w j)
            (entries ((w + 1 + j) % N) (mod-lt (w + 1 + j) r.N_low));
        parted = λ k. omega (
          arith,
          all_at k,
          turn_sums (λ (c : Queued). is k c.space) (bare w),
          bare_sums (λ (c : Queued). is k c.space) w,
        );
        full = omega (arith, turn_sums (one {C = Queued}) (bare w), bare_sums (one {C = Queued}) w);
        held_out = tt;
        held_cal = alls_turn (Held (replicate (53 * N) 0)) (bare w) (alls_bare (Held (replicate (53 * N) 0)) w);
      }

  pub fresh_inv : splits_hold z o.splitvci o.splitpath ≡ true → Inv N z (kind_number o.kind) [] (fresh_state N z o)
  unfolding fresh_state fresh_record served opening_of cells_in departures_in connection_at
  fresh_inv split =
      record {
        out = [];
        cal = bare w;
        left = [];
        stage = record {
          ranges = r;
          n_is = refl;
          v_is = refl;
          t_is = sym (ap (λ (k : ℕ). k % slot_numbers) zeroth
              ∙ mod-eq_of_lt {n = slot_numbers - 1} {m = slot_numbers} (omega (arith, slots_many)));
          turn_low = omega (arith, r.N_low);
          rotation_is = sym (ap (λ (k : ℕ). k % connections_in z) first
              ∙ mod-eq_of_lt {n = connections_in z - 1} {m = connections_in z} (omega arith));
          kind_is = refl;
          kind_fits = kind_number_lem o.kind;
          has = fresh_has;
          dates = record {
            long = length-replicate N 0;
            dated_out = tt;
            dated_cal = alls_turn (Dated (replicate N 0)) (bare w) (alls_bare (Dated (replicate N 0)) w);
          };
          words_long = length-replicate (words_in z) 0;
          table = λ v h1 h2. get_or-replicate (words_in z) (open_place v) 0 0 (omega arith);
        };
        raw_low = raw_number_lem o.raw;
        mode_low = omega arith;
        splits = split;
        good = fresh_good due_of w;
        sits_out = tt;
        sits_cal = alls_bare (Sits (kind_number o.kind) z (λ v. opening_of v [])) w;
        seen = refl;
        in_time = tt;
        order = λ v. rw (bare_flat Queued w);
        delays = tt;
        named = tt;
        named_left = tt;
        left_rise = omega arith;
        cells_rise = omega arith;
      }
    where
      zeroth : 0 + (slot_numbers - 1) ≡ slot_numbers - 1
      zeroth = omega arith

      first : 0 + (connections_in z - 1) ≡ connections_in z - 1
      first = omega arith

-- the kind that a setup was handed is the kind that it chose
kind_chosen : (kind : ℕ) → kind_in_range kind ≡ true → kind_number (kind_of kind) ≡ kind
unfolding kind_in_range
kind_chosen zero e = refl
kind_chosen (suc zero) e = refl
kind_chosen (suc (suc k)) e = absurd (omega (arith, leb-true (suc (suc k)) nni e))

-- a setup that answers 0 leaves a fresh state, whatever the memory held
pub setup_fresh : (N z : ℕ) (a : Asked) (lent : State)
    → (setup N z a lent).number ≡ 0
    → Allowed N z (chosen a)
    × ((setup N z a lent).state ≡ fresh_state N z (chosen a))
    × (kind_number (kind_of a.kind) ≡ a.kind)
unfolding setup
setup_fresh N z a lent e =
    go (ranges_hold N z) (splits_hold z a.splitvci a.splitpath) (kind_in_range a.kind) (lengths_hold N z lent.cells lent.links lent.calendar lent.words lent.bits lent.arrived) refl refl refl e
  where
    as_it_came : State
    as_it_came = with_record lent zeros

    fresh : State
    fresh = fresh_state N z (chosen a)

    after : Bool → Bool → Bool → Bool → SetUp
    after x t y w =
        when not x then set_up_of 1 as_it_came
        else when not t then set_up_of 1 as_it_came
        else when not y then set_up_of 13 as_it_came
        else when not w then set_up_of 2 as_it_came
        else set_up_of 0 fresh

    go : (x t y w : Bool) → ranges_hold N z ≡ x → splits_hold z a.splitvci a.splitpath ≡ t → kind_in_range a.kind ≡ y
        → (after x t y w).number ≡ 0
        → Allowed N z (chosen a) × ((after x t y w).state ≡ fresh) × (kind_number (kind_of a.kind) ≡ a.kind)
    go false t y w p d k q = absurd (omega (arith, q))
    go true false y w p d k q = absurd (omega (arith, q))
    go true true false w p d k q = absurd (omega (arith, q))
    go true true true false p d k q = absurd (omega (arith, q))
    go true true true true p d k q = ((p, d), refl, kind_chosen a.kind k)
