-- A stride leads on; a line of two numbers; when a fill is refused.
use Prim.Native.Nat.{ℕ, ◌<◌}
use mathlib.Core.Path.{◌≡◌, refl, sym, ap, subst, ◌∙◌}
use mathlib.Core.Bool.{Bool, true, false, not, ◌&&◌}
use mathlib.Core.List.{List, [], ◌∷◌, ◌++◌, append_assoc}
use lib.ListN.{length}
use borrow.Author.Tests.{eq-eqb, ne_eqb}
use Rattle.meaning.specs.Plain.{when◌then◌else◌}
use Rattle.list_lines.specs.Text.{line}
use Rattle.trace_record.specs.Trace.{stands_at, said_of}
use Rattle.trace_record.specs.declared.Event.{Event}
use Rattle.trace_record.specs.declared.Found.{Found}
use Rattle.trace_record.specs.declared.Found.TheVariants.{Read}
use Rattle.mend_step.specs.declared.Stride.{Stride}
use Rattle.mend_step.specs.Salvage.{reading_of, reads_to, step_at, next_of}
use Rattle.mend_step.proofs.Walk.{step_on}
use Rattle.std.specs.Prelude.{Ok, Err}
use Rattle.mend_fill.specs.declared.Filled.{Filled}
use Rattle.mend_fill.specs.declared.FillError.TheVariants.{NoHead}
use Rattle.mend_fill.specs.Lines.{numeral, stretch_line}
use Rattle.mend_fill.specs.Fill.{fill_of, Took, begun, refuses, FillPromise}

pub leads_on : (p : ℕ) (st : Stride) (s : List ℕ) (n : ℕ) → st ≡ step_at s n p → p < n → p < next_of st
leads_on p st s n e h = subst (λ (x : Stride). p < next_of x) (sym e) (step_on s n p h)

pub line_of : (first long : ℕ) → stretch_line first long ≡ (numeral first ++ (32 ∷ [])) ++ (numeral long ++ (10 ∷ []))
unfolding stretch_line line
line_of first long = sym (append_assoc (numeral first) (32 ∷ []) (numeral long ++ (10 ∷ [])))

-- ---- 17

pub read_begun : (s : List ℕ) (q : ℕ) (f : Found) (e : Event) (next : ℕ) → said_of f ≡ stands_at s q → f ≡ Read e next → true ≡ begun (reads_to s q)
unfolding reads_to
read_begun s q f e next h g = ap (λ (x : Found). begun (reading_of (said_of x))) (sym g) ∙ ap (λ x. begun (reading_of x)) h

module _ (s : List ℕ) (p : ℕ) where
  pub refuses_later : (p ≡ 0 → ⊥) → false ≡ refuses s p
  unfolding refuses
  refuses_later h = sym (ap (λ (b : Bool). b && not (begun (reads_to s 0))) (ne_eqb p 0 h))

  pub refuses_first : {b : Bool} → p ≡ 0 → b ≡ begun (reads_to s 0) → not b ≡ refuses s p
  unfolding refuses
  refuses_first h e = ap not e ∙ sym (ap (λ (b : Bool). b && not (begun (reads_to s 0))) (eq-eqb p 0 h))

  module _ (n : ℕ) (out text : List ℕ) where
    pub fill_refused : refuses s p ≡ true → FillPromise s n p out text (Err NoHead) out text
    fill_refused h =
        record {
          number = sym (ap (λ (b : Bool). when b then 17 else 0) h);
          took = (refl, refl);
        }

    pub fill_taken : {r : Filled} {out' text' : List ℕ} → refuses s p ≡ false
        → Took s p (fill_of s n p (length out) (length text)) out text r out' text' → FillPromise s n p out text (Ok r) out' text'
    fill_taken h t =
        record {
          number = sym (ap (λ (b : Bool). when b then 17 else 0) h);
          took = t;
        }
