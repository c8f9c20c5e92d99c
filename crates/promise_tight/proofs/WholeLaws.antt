-- The whole run of `late_calls`: both VCs are opened, VC 2 sends, then VC 1, then nothing more arrives; which cells were
-- accepted, and when they are due.
use Prim.Native.Nat.{ℕ, ◌+◌, ◌-◌, ◌*◌, ◌/◌, ◌≤◌}
use mathlib.Core.Path.{◌≡◌, refl, sym, ap, ◌∙◌, subst}
use mathlib.Core.Bool.{Bool, true}
use mathlib.Core.List.{List, [], ◌∷◌, ◌++◌}
use mathlib.Core.Option.{none}
use native.Mathlib.Nat.{div-mul-le_self}
use native.Mathlib.Omega.{arith}
use borrow.Author.Tests.{le-leb, lt-ltb, le-ltb}
use lib.ListN.{replicate}
use Rattle.meaning.specs.Numbers.{ranges_hold}
use Rattle.meaning.specs.Bucket.{bucket_of, obeys_rules}
use Rattle.meaning.specs.State.{with_words}
use Rattle.meaning.specs.Header.{by_vci}
use Rattle.meaning.specs.Operators.{second_operator, owner_of, owns}
use Rattle.meaning.specs.Words.{without_second}
use Rattle.meaning.specs.Calls.{Kind, Options, options_of, kind_number, fresh_record, fresh_state}
use Rattle.meaning.proofs.OperatorsLaws.{alone_allowed}
use Rattle.meaning_runs.specs.Run.{Call, on_open, on_slot, opened, Run, call_at, call, calls, fresh_run, served}
use Rattle.meaning_runs.specs.Leak.{opening_of}
use Rattle.meaning_runs.specs.Seen.{cells_in, cells_of}
use Rattle.theory_invariant.proofs.RunLaws.{Kept, call_kept, run_kept}
use Rattle.promise_tight.specs.Tight.{cell_of, late_calls}
use Rattle.promise_tight.proofs.CallLaws.{opened_is}
use Rattle.promise_tight.proofs.SendLaws.{SentTwo, all_two, SentOne, all_one, Done, all_pauses}

-- ── calls one after the other ──
calls_append : (r : Run) (cs ds : List Call) → calls r (cs ++ ds) ≡ calls (calls r cs) ds
unfolding calls
calls_append r [] ds = refl
calls_append r (c ∷ cs) ds = calls_append (call r c) cs ds

calls_two : (r : Run) (c d : Call) (cs : List Call) → calls r (c ∷ d ∷ cs) ≡ calls (call (call r c) d) cs
unfolding calls
calls_two r c d cs = refl

-- ── both VCs are opened ──
one_obeys : (N : ℕ) → 1 ≤ N → obeys_rules N (bucket_of 0 1 1 0) ≡ true
unfolding obeys_rules
one_obeys N low = lt-ltb 0 N low

two_obeys : (N : ℕ) → 1 ≤ N → obeys_rules N (bucket_of 10 1_025 (N * 1_024 + 1_024) 0) ≡ true
unfolding obeys_rules
two_obeys N low =
    rw (
      le-leb 1_025 (N * 1_024 + 1_024) (omega (arith, low)),
      lt-ltb ((N * 1_024 + 1_024 - 1_025) / 1_024) N
          (omega (arith, low, div-mul-le_self (N * 1_024 + 1_024 - 1_025) 1_024)),
    )

module _ (N z : ℕ) (raw : Bool) (line : Kind) (range : ranges_hold N z ≡ true) (N_low : 2 ≤ N) (z_low : 3 ≤ z) where
  abbrev o : Options
  o = options_of raw line

  abbrev kind : ℕ
  kind = kind_number line

  abbrev fresh : Run
  fresh = fresh_run N z o

  fresh_kept : Kept N z kind fresh
  unfolding calls
  fresh_kept = run_kept N z o (alone_allowed N z raw line range) []

  fresh_none : (v : ℕ) → opening_of v fresh.events ≡ none
  unfolding fresh_run opening_of
  fresh_none v = refl

  -- all VCs are the second operator's
  fresh_owns : (u : ℕ) → 1 ≤ u → owns fresh.state.ctl second_operator (by_vci u) ≡ true
  unfolding owns owner_of fresh_run fresh_state fresh_record
  fresh_owns u low = rw (le-ltb u 1 low)

  abbrev after_one : Run
  after_one = call fresh (on_open 1 0 1 1)

  one_events : after_one.events ≡ opened second_operator 1 0 1 1 without_second 0 ∷ fresh.events
  one_events =
      opened_is N z kind fresh fresh_kept 1 0 1 1 (omega arith) (omega (arith, z_low)) (fresh_owns 1 (omega arith)) (fresh_none 1)
      (one_obeys N (omega (arith, N_low)))

  one_kept : Kept N z kind after_one
  one_kept = call_kept N z kind fresh (on_open 1 0 1 1) fresh_kept

  two_owned : owns after_one.state.ctl second_operator (by_vci 2) ≡ true
  unfolding call call_at with_words
  two_owned = fresh_owns 2 (omega arith)

  two_shut : opening_of 2 after_one.events ≡ none
  unfolding fresh_run opening_of
  two_shut = ap (opening_of 2) one_events

  abbrev opened_both : Run
  opened_both = call after_one (on_open 2 10 1_025 (N * 1_024 + 1_024))

  both_events : opened_both.events ≡ opened second_operator 2 10 1_025 (N * 1_024 + 1_024) without_second 0 ∷ opened second_operator 1 0 1 1 without_second 0 ∷ []
  unfolding fresh_run
  both_events =
      opened_is N z kind after_one one_kept 2 10 1_025 (N * 1_024 + 1_024) (omega arith) (omega (arith, z_low)) two_owned two_shut
      (two_obeys N (omega (arith, N_low)))
      ∙ ap (λ l. opened second_operator 2 10 1_025 (N * 1_024 + 1_024) without_second 0 ∷ l) one_events

  start : SentTwo N z kind z_low 0 opened_both
  unfolding served opening_of cells_of cells_in
  start =
      record {
        kept = call_kept N z kind after_one (on_open 2 10 1_025 (N * 1_024 + 1_024)) one_kept;
        slots = rw both_events;
        rate = none;
        one_is = rw both_events;
        two_is = rw both_events;
        cells_one = rw both_events (refl, λ j low. absurd (omega (arith, low)));
        cells_two = rw both_events (refl, λ j low. absurd (omega (arith, low)));
      }

  -- ── the whole run ──
  abbrev a : ℕ
  a = N * 1_024

  abbrev sent_two : Run
  sent_two = calls opened_both (replicate (N * 1_024) (cell_of 2))

  abbrev sent_one : Run
  sent_one = calls sent_two (replicate (N - 1) (cell_of 1))

  abbrev last : Run
  last = calls sent_one (replicate (N - 1) (on_slot []))

  twos : SentTwo N z kind z_low a sent_two
  twos =
      subst (λ (k : ℕ). SentTwo N z kind z_low k sent_two) (omega arith)
      (all_two N z kind z_low (N * 1_024) 0 opened_both (omega arith) start)

  ones : SentOne N z kind z_low (N - 1) sent_one
  ones =
      subst (λ (k : ℕ). SentOne N z kind z_low k sent_one) (omega arith)
      (all_one N z kind z_low (N - 1) 0 sent_two
      (record {
        kept = twos.kept;
        slots = twos.slots ∙ omega arith;
        rate = none;
        one_is = twos.one_is;
        cells_one = twos.cells_one;
        cells_two = twos.cells_two;
      }))

  done : Done N z kind z_low (N - 1) (N - 1) last
  done =
      subst (λ (k : ℕ). Done N z kind z_low (N - 1) k last) (omega arith)
      (all_pauses N z kind z_low (N - 1) (N - 1) 0 sent_one
      (record {
        kept = ones.kept;
        slots = ones.slots ∙ omega arith;
        cells_one = ones.cells_one;
        cells_two = ones.cells_two;
      }))

  run_is : calls fresh (late_calls N) ≡ last
  run_is =
      calls_two fresh (on_open 1 0 1 1) (on_open 2 10 1_025 (N * 1_024 + 1_024))
      (replicate (N * 1_024) (cell_of 2) ++ (replicate (N - 1) (cell_of 1) ++ replicate (N - 1) (on_slot [])))
      ∙ calls_append opened_both (replicate (N * 1_024) (cell_of 2)) (replicate (N - 1) (cell_of 1) ++ replicate (N - 1) (on_slot []))
      ∙ calls_append sent_two (replicate (N - 1) (cell_of 1)) (replicate (N - 1) (on_slot []))

  pub all_done : Done N z (kind_number line) z_low (N - 1) (N - 1) (calls (fresh_run N z (options_of raw line)) (late_calls N))
  all_done = subst (λ (r : Run). Done N z kind z_low (N - 1) (N - 1) r) (sym run_is) done
