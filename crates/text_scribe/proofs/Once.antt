-- What a hand-over may leave: both memories are fixed; the buffer is so after so many fills, and where all was handed over there
-- is one number of fills. So two that say yes handed over the same octets, in the same order, and left the same buffer. What
-- stays open is the writer's: at which fill it says no.
use Prim.Native.Nat.{ℕ, ◌<◌}
use mathlib.Core.Path.{◌≡◌, refl, sym, ap, subst, ◌∙◌}
use mathlib.Core.Bool.{Bool, true, false}
use mathlib.Core.List.{List, ◌++◌, append-nil}
use native.Mathlib.Decide.{dec_lt}
use native.Mathlib.Omega.{arith}
use lib.ListN.{length, take, drop}
use Rattle.list_lines.specs.Put.{Put}
use Rattle.list_lines.proofs.Puts.{put_once}
use Rattle.text_scribe.specs.Scribe.{said_of, trace_of, error_of, Scribed, trace_long, line_long, ScribePromise}
use Rattle.text_scribe.specs.Handed.{Fills, no_fill, then_fill, Passed, Handed}

-- what two results have in common
pub record Same (r s : Scribed) (out line out' line' : List ℕ) : Type 0 where
  pub trace : trace_long r ≡ trace_long s
  pub error : line_long r ≡ line_long s
  pub outs : out ≡ out'
  pub lines : line ≡ line'

pub scribe_once : {input out line out' line' out'' line'' : List ℕ} {r s : Scribed} → ScribePromise input out line r out' line'
    → ScribePromise input out line s out'' line'' → Same r s out' line' out'' line''
scribe_once p q =
    let t = put_once p.trace q.trace in
    let e = put_once p.error q.error in
    record { trace = t.1; error = e.1; outs = t.0; lines = e.0 }

-- before the last fill not all was sent
record Before (all out : List ℕ) (j : ℕ) : Type 0 where
  pub sent : List ℕ
  pub buffer : List ℕ
  pub fills : Fills all out j sent buffer
  pub going : length sent < length all

module _ (all : List ℕ) {out : List ℕ} where
  -- what was put, and the buffer
  pub fills_once : {k : ℕ} {a b a-out b-out : List ℕ} → Fills all out k a a-out → Fills all out k b b-out → (a ≡ b) × (a-out ≡ b-out)
  fills_once no_fill no_fill = (refl, refl)
  fills_once {a-out = a-out} {b-out = b-out} (then_fill {sent = s} {out' = o} m _ f _ p) (then_fill {sent = t} {out' = v} n _ g _ q) =
      let i = fills_once f g in
      let e = put_once (subst (λ (x : List ℕ). Put v 0 (take (length out) (drop (length x) all)) a-out m) i.0 (subst (λ (x : List ℕ). Put x 0 (take (length out) (drop (length s) all)) a-out m) i.1 p)) q in
      (ap (λ (x : List ℕ). x ++ take m a-out) i.0 ∙ ap (λ (x : List ℕ). t ++ take m x) e.0 ∙ ap (λ (x : ℕ). t ++ take x b-out) e.1, e.0)

  fills_before : {k j : ℕ} {s out' : List ℕ} → Fills all out k s out' → j < k → Before all out j
  fills_before no_fill l = absurd (omega arith)
  fills_before {j = j} (then_fill {count = k} _ _ f h _) l = go (dec_lt j k) (λ m. fills_before f m)
    where
      go : Dec (j < k) → (j < k → Before all out j) → Before all out j
      go (yes m) on = on m
      go (no m) on = let e : k ≡ j = omega arith in subst (Before all out) e (record { sent = _; buffer = _; fills = f; going = h })

  not_fewer : {j k : ℕ} {a b a-out b-out : List ℕ} → Fills all out j a a-out → length a ≡ length all → Fills all out k b b-out → j < k → ⊥
  not_fewer f d g l =
      let p = fills_before g l in
      omega (arith, ap length (fills_once f p.fills).0, d, p.going)

  sent_all : {answer : Bool} {out' : List ℕ} (p : Passed all out answer out') → answer ≡ true → length p.sent ≡ length all
  sent_all p e =
      ap length (sym (append-nil p.sent) ∙ ap (λ (x : List ℕ). p.sent ++ x) (sym (p.whole e)) ∙ sym p.begins)

  -- two that say yes made as many fills
  passed_count : {x y : Bool} {a-out b-out : List ℕ} (a : Passed all out x a-out) (b : Passed all out y b-out) → x ≡ true → y ≡ true → a.count ≡ b.count
  passed_count a b p q = go (dec_lt a.count b.count) (dec_lt b.count a.count)
    where
      go : Dec (a.count < b.count) → Dec (b.count < a.count) → a.count ≡ b.count
      go (yes l) m = absurd (not_fewer a.fills (sent_all a p) b.fills l)
      go (no l) (yes m) = absurd (not_fewer b.fills (sent_all b q) a.fills m)
      go (no l) (no m) = omega arith

  -- after as many fills
  pub passed_once : {x y : Bool} {a-out b-out : List ℕ} (a : Passed all out x a-out) (b : Passed all out y b-out) → a.count ≡ b.count
      → (a.sent ≡ b.sent) × (a-out ≡ b-out)
  passed_once {a-out = a-out} a b e = fills_once (subst (λ (k : ℕ). Fills all out k a.sent a-out) e a.fills) b.fills

  pub passed_whole : {x y : Bool} {a-out b-out : List ℕ} (a : Passed all out x a-out) (b : Passed all out y b-out) → x ≡ true → y ≡ true
      → (a.sent ≡ b.sent) × (a-out ≡ b-out)
  passed_whole a b p q = passed_once a b (passed_count a b p q)

module _ {input whole line out a-whole b-whole a-line b-line a-out b-out : List ℕ} {x y : Bool}
    (a : Handed input whole line out x a-whole a-line a-out) (b : Handed input whole line out y b-whole b-line b-out) where
  pub handed_once : Same a.made b.made a-whole a-line b-whole b-line
  handed_once = scribe_once a.promise b.promise

  -- yes is said only where the trace was handed over
  pub good : {answer : Bool} {w l o : List ℕ} (h : Handed input whole line out answer w l o) → answer ≡ true → h.good ≡ true
  good h e = go h.good refl
    where
      go : (g : Bool) → h.good ≡ g → h.good ≡ true
      go true z = z
      go false z = let n : true ≡ false = sym e ∙ (h.cut z).0 in let m : ◌≡◌ {A = ℕ} 0 1 = cc in absurd (omega arith)

  -- two that say yes: what each descriptor was handed, and the buffer
  pub handed_whole : (p : x ≡ true) (q : y ≡ true)
      → (a.trace.sent ≡ b.trace.sent) × ((a.error (good a p)).sent ≡ (b.error (good b q)).sent) × (a-out ≡ b-out)
  handed_whole p q =
      let t = passed_whole (trace_of (said_of input) (length whole)) a.trace b.trace (good a p) (good b q) in
      let w = subst P t.1 (λ c d. passed_whole E c d p q) (a.error (good a p)) (b.error (good b q)) in
      (t.0, w.0, w.1)
    where
      E : List ℕ
      E = error_of (said_of input) (length whole)

      P : List ℕ → Type 0
      P m = (c : Passed E a.middle x a-out) (d : Passed E m y b-out) → (c.sent ≡ d.sent) × (a-out ≡ b-out)
