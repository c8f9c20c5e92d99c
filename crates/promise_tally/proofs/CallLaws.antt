-- One call of the tally after a slot: it answers 0, and adds the delay of the named connection's cell, if one left. The slots from its
-- arrival are fewer than 2^32, so that the clock's wrap doesn't show.
use Prim.Native.Nat.{ℕ, ◌-◌, ◌%◌, ◌≤◌, ◌<◌}
use mathlib.Core.Path.{◌≡◌, refl, sym, ◌∙◌}
use mathlib.Core.Logic.{◌≢◌}
use mathlib.Core.Bool.{Bool, true, false}
use mathlib.Core.List.{List, [], ◌∷◌, ◌++◌}
use native.Mathlib.Omega.{arith}
use borrow.Author.Tests.{eq-eqb, ne_eqb, lt-ltb}
use lib.ListN.{length, get_or}
use Rattle.meaning.specs.declared.Record.{Record}
use Rattle.meaning.specs.Numbers.{slot_numbers, unused}
use Rattle.meaning.specs.State.{State}
use Rattle.meaning.specs.Bucket.{elapsed}
use Rattle.meaning_runs.specs.Run.{Event}
use Rattle.theory_invariant.specs.Invariant.{Inv}
use Rattle.theory_invariant.proofs.SlotLaws.{ranges_at}
use Rattle.call_tally.specs.declared.Tally.{Tally}
use Rattle.call_tally.specs.Tally.{tallied_of, is_connection, space_fits, tally_refusal, tally_one, tally_slot}
use Rattle.call_tally.specs.Delays.{tally_all}
use Rattle.call_tally.specs.Laws.{AddsUp}
use Rattle.call_tally.proofs.Cases.{fits_good}

-- ── numbers ──
pub elapsed_true : (t last : ℕ) → last ≤ t → t - last < 4_096 → elapsed (t % slot_numbers) (last % slot_numbers) ≡ t - last
unfolding elapsed slot_numbers
elapsed_true t last a b = omega arith

pub connection_not_0 : (z v : ℕ) → is_connection z v ≡ true → v ≢ 0
unfolding is_connection unused
connection_not_0 z v e n = let y : ◌≡◌ {A = Bool} false true = rw n at e in let x : ◌≡◌ {A = ℕ} 0 1 = cc in omega arith

-- ── the call ──
module _ (t : Tally) (r : Record) (arrived : List ℕ) (c x o : ℕ) (fits : tally_refusal t.bins t.cells r (length arrived) c x o ≡ 0) where
  pub tally_other : o ≢ c → tally_slot t r arrived c x o ≡ tallied_of 0 t
  unfolding tally_slot
  tally_other n = rw (fits, ne_eqb o c n)

  pub tally_own : o ≡ c → tally_slot t r arrived c x o ≡ tallied_of 0 (tally_one t (elapsed r.t (get_or arrived x 0)))
  unfolding tally_slot
  tally_own e = rw (fits, eq-eqb o c e)

-- in a state that a run reaches it is not refused
pub tally_answers : (N z kind : ℕ) (h : List Event) (s : State) (i : Inv N z kind h s) (t : Tally) (v x o : ℕ)
    → is_connection z v ≡ true → AddsUp t → space_fits N v x o ≡ true
    → tally_refusal t.bins t.cells s.ctl (length s.arrived) v x o ≡ 0
unfolding tally_refusal
tally_answers N z kind h s i t v x o is adds fits =
    rw (
      ranges_at N z kind h s i,
      eq-eqb (length s.arrived) s.ctl.n (i.stage.dates.long ∙ sym i.stage.n_is),
      i.stage.v_is,
      is,
      i.stage.n_is,
      fits,
      fits_good t.bins t.cells adds.1 adds.0,
    )

pub space_other : (N c x o : ℕ) → o ≢ c → space_fits N c x o ≡ true
unfolding space_fits
space_other N c x o n = rw (ne_eqb o c n) refl

pub space_own : (N c x o : ℕ) → o ≡ c → x < N → space_fits N c x o ≡ true
unfolding space_fits
space_own N c x o e l = rw (eq-eqb o c e, lt-ltb x N l) refl

pub tally_append : (t : Tally) (a b : List ℕ) → tally_all t (a ++ b) ≡ tally_all (tally_all t a) b
unfolding tally_all
tally_append t [] b = refl
tally_append t (d ∷ a) b = tally_append (tally_one t d) a b
