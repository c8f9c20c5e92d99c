-- Two results of a fill's promise coincide: the lines are put while a record stands and a line surely has room, so how far
-- they go is fixed, and with it the place, the buffer and how much of it is used.
use Prim.Native.Nat.{ℕ, zero, suc, ◌+◌, ◌≤◌, ◌<◌}
use mathlib.Core.Path.{◌≡◌, refl, sym, ap, subst, ◌∙◌}
use mathlib.Core.Bool.{Bool, true, false}
use mathlib.Core.Logic.{◌⊎◌, ⊎_elim}
use mathlib.Core.List.{List, [], ◌++◌}
use lib.ListN.{length}
use native.Mathlib.Omega.{arith}
use borrow.Author.Tests.{le-leb, lt-leb}
use Rattle.meaning.specs.Plain.{when◌then◌else◌, ◌≤?◌}
use Rattle.trace_record.specs.Trace.{TraceRecord, Stands, event, finish, refusal, stands_at}
use Rattle.list_lines.specs.Put.{Put}
use Rattle.list_lines.proofs.Puts.{put_once}
use Rattle.text_print.specs.declared.Printed.{Printed}
use Rattle.text_print.specs.Print.{line_of, line_room}
use Rattle.text_print.specs.Fill.{Lines, none, then as then_line, NoRecord, FillPromise}
use Rattle.text_print.proofs.Within.{read_within}

-- the lines so far, and the place behind them
record Far : Type 0 where
  pub text : List ℕ
  pub at : ℕ

abbrev far : List ℕ → ℕ → Far
far text at = record { text = text; at = at }

module _ (trace : List ℕ) (long : ℕ) where
  -- how far lines go, of at most k more
  unfoldable on_at : (List ℕ → ℕ → Far) → List ℕ → ℕ → Stands → Far
  on_at on text at (event r n) = on (text ++ line_of trace r) n
  on_at on text at finish = far text at
  on_at on text at (refusal number place) = far text at

  unfoldable on_from : ℕ → List ℕ → ℕ → Far
  on_from zero text at = far text at
  on_from (suc k) text at = when length text + line_room ≤? long then on_at (on_from k) text at (stands_at trace at) else far text at

  on_by : (text : List ℕ) (at : ℕ) (f g : List ℕ → ℕ → Far) → ((t : List ℕ) (n : ℕ) → at < n → n ≤ length trace → f t n ≡ g t n)
      → (x : Stands) → stands_at trace at ≡ x → on_at f text at x ≡ on_at g text at x
  unfolding on_at
  on_by text at f g h (event r n) e = let w = read_within trace at r n e in h (text ++ line_of trace r) n w.1 w.2
  on_by text at f g h finish e = refl
  on_by text at f g h (refusal number place) e = refl

  on_past : (text : List ℕ) (at : ℕ) (f : List ℕ → ℕ → Far) → length trace < at → (x : Stands) → stands_at trace at ≡ x → far text at ≡ on_at f text at x
  unfolding on_at
  on_past text at f h (event r n) e = let w = read_within trace at r n e in absurd (omega (arith, h, w.1, w.2))
  on_past text at f h finish e = refl
  on_past text at f h (refusal number place) e = refl

  either : (b : Bool) {x y : Far} → x ≡ y → x ≡ (when b then y else x)
  either true e = e
  either false e = refl

  -- one line more than is enough changes nothing
  on_enough : (k : ℕ) (text : List ℕ) (at : ℕ) → length trace < k + at → on_from k text at ≡ on_from (suc k) text at
  unfolding on_from
  on_enough zero text at h = either (length text + line_room ≤? long) (on_past text at (on_from zero) (omega arith) (stands_at trace at) refl)
  on_enough (suc k) text at h =
      ap (λ (x : Far). when length text + line_room ≤? long then x else far text at)
      (on_by text at (on_from k) (on_from (suc k)) (λ t n l m. on_enough k t n (omega arith)) (stands_at trace at) refl)

  on_step : (k : ℕ) (text : List ℕ) (at : ℕ) (r : TraceRecord) (n : ℕ) → length trace < k + at → length text + line_room ≤ long
      → stands_at trace at ≡ event r n → on_from k text at ≡ on_from k (text ++ line_of trace r) n
  unfolding on_from on_at
  on_step zero text at r n h room e = let w = read_within trace at r n e in absurd (omega (arith, h, w.1, w.2))
  on_step (suc k) text at r n h room e =
      let w = read_within trace at r n e in
      ap (λ (b : Bool). when b then on_at (on_from k) text at (stands_at trace at) else far text at) (le-leb (length text + line_room) long room)
      ∙ ap (on_at (on_from k) text at) e
      ∙ on_enough k (text ++ line_of trace r) n (omega (arith, h, w.1))

  over_by : (f : List ℕ → ℕ → Far) (text : List ℕ) (at : ℕ) (x : Stands) → NoRecord x → on_at f text at x ≡ far text at
  unfolding on_at
  over_by f text at (event r n) h = absurd h
  over_by f text at finish h = refl
  over_by f text at (refusal number place) h = refl

  off : (b : Bool) {x y : Far} → x ≡ y → (when b then x else y) ≡ y
  off true e = e
  off false e = refl

  -- no record, or no room: they go no further
  on_over : (k : ℕ) (text : List ℕ) (at : ℕ) → NoRecord (stands_at trace at) ⊎ (long < length text + line_room) → on_from k text at ≡ far text at
  unfolding on_from
  on_over zero text at h = refl
  on_over (suc k) text at h =
      ⊎_elim
      (λ (n : NoRecord (stands_at trace at)). off (length text + line_room ≤? long) (over_by (on_from k) text at (stands_at trace at) n))
      (λ (l : long < length text + line_room). ap (λ (b : Bool). when b then on_at (on_from k) text at (stands_at trace at) else far text at) (lt-leb (length text + line_room) long l)) h

  lines_on : (k : ℕ) {at : ℕ} {text : List ℕ} {at' : ℕ} → length trace < k + at → Lines trace long at text at'
      → (at ≤ at') × (on_from k [] at ≡ on_from k text at')
  lines_on k h none = (omega arith, refl)
  lines_on k {at} h (then_line {text} {at'} r n l room e) =
      let w = read_within trace at' r n e in let i = lines_on k h l in
      (omega (arith, i.0, w.1), i.1 ∙ on_step k text at' r n (omega (arith, h, i.0)) room e)

  lines_far : {at : ℕ} {text : List ℕ} {at' : ℕ} → Lines trace long at text at' → NoRecord (stands_at trace at') ⊎ (long < length text + line_room)
      → on_from (length trace + 1) [] at ≡ far text at'
  lines_far {at} {text} {at'} l h = (lines_on (length trace + 1) (omega arith) l).1 ∙ on_over (length trace + 1) text at' h

-- the place, how much of the buffer is used, and the buffer
pub fill_once : (trace : List ℕ) (at : ℕ) (out : List ℕ) {r q : Printed} {a b : List ℕ} → FillPromise trace at out r a → FillPromise trace at out q b
    → (r.at ≡ q.at) × (r.used ≡ q.used) × (a ≡ b)
fill_once trace at out {r} {q} {a} {b} p s =
    let f : far p.text r.at ≡ far s.text q.at = sym (lines_far trace (length out) p.lines p.full) ∙ lines_far trace (length out) s.lines s.full in
    let t : p.text ≡ s.text = ap (λ (x : Far). x.text) f in
    let o = put_once (subst (λ (x : List ℕ). Put out 0 x a r.used) t p.put) s.put in
    (ap (λ (x : Far). x.at) f, o.1, o.0)
