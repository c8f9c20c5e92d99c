-- Fills one after the other make the text of the whole trace: each puts the lines of the next records, and where no record
-- stands there is nothing more to put.
use Prim.Native.Nat.{ℕ, zero, suc, ◌+◌, ◌≤◌, ◌<◌}
use mathlib.Core.Path.{◌≡◌, refl, sym, ap, ◌∙◌}
use mathlib.Core.List.{List, [], ◌++◌, append_assoc}
use lib.ListN.{length}
use native.Mathlib.Omega.{arith}
use Rattle.trace_record.specs.Trace.{TraceRecord, Stands, event, finish, refusal, stands_at}
use Rattle.text_print.specs.Print.{line_of, text_at, text_from}
use Rattle.text_print.specs.Fill.{Lines, none, then, NoRecord}
use Rattle.text_print.proofs.Within.{read_within}

module _ (trace : List ℕ) where
  -- the same from every next place is the same from here
  text_by : (at : ℕ) (f g : ℕ → List ℕ) → ((next : ℕ) → at < next → next ≤ length trace → f next ≡ g next)
      → (x : Stands) → stands_at trace at ≡ x → text_at trace f x ≡ text_at trace g x
  unfolding text_at
  text_by at f g h (event r next) e =
      let w = read_within trace at r next e in
      ap (λ (t : List ℕ). line_of trace r ++ t) (h next w.1 w.2)
  text_by at f g h finish e = refl
  text_by at f g h (refusal number place) e = refl

  -- past the end there is nothing
  text_past : (at : ℕ) (f : ℕ → List ℕ) → length trace < at → (x : Stands) → stands_at trace at ≡ x → [] ≡ text_at trace f x
  unfolding text_at
  text_past at f h (event r next) e = let w = read_within trace at r next e in absurd (omega (arith, h, w.1, w.2))
  text_past at f h finish e = refl
  text_past at f h (refusal number place) e = refl

  over_by : (f : ℕ → List ℕ) (x : Stands) → NoRecord x → text_at trace f x ≡ []
  unfolding text_at
  over_by f (event r next) n = absurd n
  over_by f finish n = refl
  over_by f (refusal number place) n = refl

  -- one record more than is enough changes nothing
  pub text_enough : (k at : ℕ) → length trace < k + at → text_from k trace at ≡ text_from (suc k) trace at
  unfolding text_from
  text_enough zero at h = text_past at (text_from zero trace) (omega arith) (stands_at trace at) refl
  text_enough (suc k) at h =
      text_by at (text_from k trace) (text_from (suc k) trace) (λ next l m. text_enough k next (omega arith)) (stands_at trace at) refl

  -- a record's line, then what follows it
  pub text_step : (k at : ℕ) (r : TraceRecord) (next : ℕ) → length trace < k + at → stands_at trace at ≡ event r next
      → text_from k trace at ≡ line_of trace r ++ text_from k trace next
  unfolding text_from text_at
  text_step zero at r next h e = let w = read_within trace at r next e in absurd (omega (arith, h, w.1, w.2))
  text_step (suc k) at r next h e =
      let w = read_within trace at r next e in
      rw e (ap (λ (t : List ℕ). line_of trace r ++ t) (text_enough k next (omega (arith, h, w.1))))

  -- where no record stands nothing follows
  pub text_over : (k at : ℕ) → NoRecord (stands_at trace at) → text_from k trace at ≡ []
  unfolding text_from
  text_over zero at h = refl
  text_over (suc k) at h = over_by (text_from k trace) (stands_at trace at) h

  -- lines, then what follows them
  pub lines_then : (k : ℕ) {long at : ℕ} {text : List ℕ} {at' : ℕ} → length trace < k + at → Lines trace long at text at'
      → (at ≤ at') × (text_from k trace at ≡ text ++ text_from k trace at')
  lines_then k h none = (omega arith, refl)
  lines_then k {long} {at} h (then {text} {at'} r next l room e) =
      let w = read_within trace at' r next e in let i = lines_then k h l in (
        omega (arith, i.0, w.1),
        i.1 ∙ ap (λ (t : List ℕ). text ++ t) (text_step k at' r next (omega (arith, h, i.0)) e)
            ∙ sym (append_assoc text (line_of trace r) (text_from k trace next)),
      )
