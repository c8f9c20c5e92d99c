-- A text read up to place p: with the octets o before it and a pause of rest slots that may still grow, what is left comes to
-- what the whole text comes to.
use Prim.Native.Nat.{ℕ, zero, suc, ◌+◌, ◌≤◌, ◌<◌}
use mathlib.Core.Path.{◌≡◌, refl, ap, ◌∙◌}
use mathlib.Core.Bool.{Bool, true, false, ◌&&◌}
use mathlib.Core.List.{List, [], ◌∷◌, ◌++◌}
use native.Mathlib.Omega.{arith}
use borrow.Author.Tests.{le-leb, lt-leb}
use lib.ListN.{length}
use Rattle.meaning.specs.Plain.{refused, next, when◌then◌else◌, ◌≤?◌}
use Rattle.text_meaning.specs.Events.{Event, full, rest_of}
use Rattle.text_meaning.specs.Grammar.{line}
use Rattle.text_meaning.specs.Writing.{placed, behind, line_at}
use Rattle.text_trip.specs.Flow.{Flow, flow, step, ending, Streamed, whole, stopped, stream_at, stream_from, stream}

pub record Reached (text : List ℕ) (p rest : ℕ) (o : List ℕ) : Type 0 where
  pub k : ℕ
  pub same : stream text ≡ stream_from k text p (flow o rest)
  pub enough : length text < k + p
  pub within : p ≤ length text
  pub below : rest < full

pub reached_start : (text : List ℕ) → Reached text 0 0 []
unfolding stream
reached_start text = record { k = length text + 1; same = refl; enough = omega arith; within = omega arith; below = omega arith }

and_false : (b : Bool) → b && false ≡ false
and_false true = refl
and_false false = refl

-- the end is tested before a line is read
ends : (text : List ℕ) (p : ℕ) (f : Flow) (x : Streamed) (b : Bool) → (1 ≤? p && length text ≤? p) ≡ b
    → (when 1 ≤? p && length text ≤? p then whole (ending f) else x) ≡ (when b then whole (ending f) else x)
ends text p f x b e = ap (λ (c : Bool). when c then whole (ending f) else x) e

reads_on : (k : ℕ) (text : List ℕ) (p : ℕ) (f : Flow) → (1 ≤? p && length text ≤? p) ≡ false
    → stream_from (suc k) text p f ≡ stream_at (stream_from k text) p f (line_at text p)
unfolding stream_from
reads_on k text p f e = ends text p f (stream_at (stream_from k text) p f (line_at text p)) false e

at_end_lem : (k : ℕ) (text : List ℕ) (p : ℕ) (f : Flow) → (1 ≤? p && length text ≤? p) ≡ true → stream_from (suc k) text p f ≡ whole (ending f)
unfolding stream_from
at_end_lem k text p f e = ends text p f (stream_at (stream_from k text) p f (line_at text p)) true e

not_yet : (text : List ℕ) (p : ℕ) → p < length text → (1 ≤? p && length text ≤? p) ≡ false
not_yet text p h = ap (λ (b : Bool). 1 ≤? p && b) (lt-leb (length text) p h) ∙ and_false (1 ≤? p)

over : (text : List ℕ) (p : ℕ) → 1 ≤ p → length text ≤ p → (1 ≤? p && length text ≤? p) ≡ true
over text p a b = ap (λ (x : Bool). x && length text ≤? p) (le-leb 1 p a) ∙ le-leb (length text) p b

no_line : (text : List ℕ) → length text ≤ 0 → line_at text 0 ≡ refused
unfolding line_at behind line
no_line [] h = refl
no_line (x ∷ s) h = absurd (omega (arith, h))

module _ {text : List ℕ} {p rest : ℕ} {o : List ℕ} (r : Reached text p rest o) where
  -- one line more
  pub reached_next : {e : Event} {q rest' : ℕ} {o' : List ℕ} → p < length text → line_at text p ≡ next (placed e q)
      → p < q → q ≤ length text → step (flow o rest) e ≡ flow o' rest' → rest' < full → Reached text q rest' o'
  unfolding stream_at
  reached_next {e} {q} {rest'} {o'} h l on in-text s below = go r.k r.same r.enough
    where
      go : (k : ℕ) → stream text ≡ stream_from k text p (flow o rest) → length text < k + p → Reached text q rest' o'
      go zero same enough = absurd (omega arith)
      go (suc k) same enough =
          record {
            k = k;
            same =
                same
                ∙ reads_on k text p (flow o rest) (not_yet text p h)
                ∙ ap (stream_at (stream_from k text) p (flow o rest)) l
                ∙ ap (stream_from k text q) s;
            enough = omega arith;
            within = in-text;
            below = below;
          }

  stops : (1 ≤? p && length text ≤? p) ≡ false → line_at text p ≡ refused → stream text ≡ stopped p
  unfolding stream_at
  stops b l = go r.k r.same r.enough
    where
      go : (k : ℕ) → stream text ≡ stream_from k text p (flow o rest) → length text < k + p → stream text ≡ stopped p
      go zero same enough = absurd (omega (arith, r.within, enough))
      go (suc k) same enough = same ∙ reads_on k text p (flow o rest) b ∙ ap (stream_at (stream_from k text) p (flow o rest)) l

  -- no line
  pub reached_stop : p < length text → line_at text p ≡ refused → stream text ≡ stopped p
  reached_stop h l = stops (not_yet text p h) l

  -- an empty text
  pub reached_none : p ≡ 0 → length text ≤ p → stream text ≡ stopped 0
  reached_none z h =
      stops (ap (λ (k : ℕ). 1 ≤? k && length text ≤? k) z) (ap (line_at text) z ∙ no_line text (omega (arith, z, h))) ∙ ap stopped z

  -- the text's end
  pub reached_end : (p ≡ 0 → ⊥) → length text ≤ p → stream text ≡ whole (o ++ rest_of rest)
  unfolding ending
  reached_end z h = go r.k r.same r.enough
    where
      go : (k : ℕ) → stream text ≡ stream_from k text p (flow o rest) → length text < k + p → stream text ≡ whole (o ++ rest_of rest)
      go zero same enough = absurd (omega (arith, r.within, enough))
      go (suc k) same enough = same ∙ at_end_lem k text p (flow o rest) (over text p (omega (arith, z)) h)
