-- The cases of the definitions, each from plain facts of the numbers and of the reader's answer, as the code's tests show
-- them.
use Prim.Native.Nat.{ℕ, zero, suc, ◌+◌, ◌-◌, ◌≤◌, ◌<◌}
use mathlib.Core.Path.{◌≡◌, refl, sym, ap, ◌∙◌}
use mathlib.Core.Bool.{Bool, true, false, ◌&&◌, ◌||◌}
use mathlib.Core.List.{List}
use lib.ListN.{length}
use borrow.Author.Tests.{leb-true, eq-eqb, ne_eqb, le-leb, lt-leb}
use native.Mathlib.Omega.{arith}
use Rattle.meaning.specs.Plain.{when◌then◌else◌, ◌≤?◌}
use Rattle.trace_record.specs.Marks.{letters_of}
use Rattle.trace_record.specs.Trace.{MarkAt, mark_octets, be16, stands_at, said_of, mark_gm, mark_gr, mark_gn, mark_vo, mark_vx, mark_ca, mark_sl, mark_vs, mark_po, mark_px}
use Rattle.trace_record.specs.declared.Event.{Event}
use Rattle.trace_record.specs.declared.Found.{Found}
use Rattle.trace_record.specs.declared.Found.TheVariants.{Read, End, Unreadable}
use Rattle.std.specs.declared.option.Option.{Option}
use Rattle.std.specs.declared.option.Option.TheVariants.{None, Some}
use Rattle.std.specs.Option.{is_some}
use Rattle.std.specs.Prelude.{◌↔◌}
use Rattle.trace_record.specs.declared.mark.Mark.{Mark}
use Rattle.trace_record.specs.declared.mark.Mark.TheVariants.{Gm, Gr, Gn, Vo, Vs, Vx, Po, Px, Ca, Sl}
use Rattle.mend_step.specs.declared.Stride.TheVariants.{Kept, Skipped}
use Rattle.mend_step.specs.Salvage.{none, up_to, reading_of, reads_to, is_mark, known_mark, followed, meets_rule, first_of, resume, step_of, step_at}
use Rattle.mend_step.proofs.Shape.{reads_shape}

or_off : {b c : Bool} → b ≡ false → b || c ≡ c
or_off {b} {c} h = ap (λ (x : Bool). x || c) h

pub mark_none : (m : ℕ) → (m ≡ mark_ca → ⊥) → (m ≡ mark_sl → ⊥) → (m ≡ mark_vo → ⊥) → (m ≡ mark_vx → ⊥) → (m ≡ mark_gm → ⊥)
    → (m ≡ mark_gr → ⊥) → (m ≡ mark_gn → ⊥) → (m ≡ mark_vs → ⊥) → (m ≡ mark_po → ⊥) → (m ≡ mark_px → ⊥) → false ≡ is_mark m
unfolding is_mark
mark_none m ca sl vo vx gm gr gn vs po px =
    sym
    (or_off (ne_eqb m mark_ca ca) ∙ or_off (ne_eqb m mark_sl sl) ∙ or_off (ne_eqb m mark_vo vo) ∙ or_off (ne_eqb m mark_vx vx)
    ∙ or_off (ne_eqb m mark_gm gm) ∙ or_off (ne_eqb m mark_gr gr) ∙ or_off (ne_eqb m mark_gn gn) ∙ or_off (ne_eqb m mark_vs vs)
    ∙ or_off (ne_eqb m mark_po po) ∙ or_off (ne_eqb m mark_px px))

-- a mark that stands at a place is known, and none is known where none stands
known : (m : Mark) → is_mark (letters_of m) ≡ true
unfolding is_mark
known Gm = refl
known Gr = refl
known Gn = refl
known Vo = refl
known Vs = refl
known Vx = refl
known Po = refl
known Px = refl
known Ca = refl
known Sl = refl

module _ (s : List ℕ) (e : ℕ) where
  none_known : ((m : Mark) → MarkAt s e m → ⊥) → (b : Bool) → e + mark_octets ≤? length s ≡ b → false ≡ (b && is_mark (be16 s e))
  none_known u false t = refl
  none_known u true t =
      let f : (m : Mark) → be16 s e ≡ letters_of m → ⊥ = λ m q. u m (leb-true _ _ t, q) in
      mark_none (be16 s e) (f Ca) (f Sl) (f Vo) (f Vx) (f Gm) (f Gr) (f Gn) (f Vs) (f Po) (f Px)

  pub known_short : length s < e + 2 → false ≡ known_mark s e
  unfolding known_mark
  known_short h = sym (ap (λ (b : Bool). b && is_mark (be16 s e)) (lt-leb (e + 2) (length s) h))

  pub mark_known : (r : Option Mark) → ((m : Mark) → (r ≡ Some m) ↔ (MarkAt s e m)) → is_some r ≡ known_mark s e
  unfolding known_mark
  mark_known (Some m) h =
      let a = (h m).0 refl in
      sym (simp (le-leb (e + mark_octets) (length s) a.0, a.1, known m))
  mark_known None h = none_known (λ m a. let z = (h m).1 a in cc) (e + mark_octets ≤? length s) refl

module _ (s : List ℕ) (q : ℕ) where
  no_record : (f : Found) → ((e : Event) (next : ℕ) → f ≡ Read e next → ⊥) → reading_of (said_of f) ≡ none
  no_record (Read e next) h = absurd (h e next refl)
  no_record End h = refl
  no_record (Unreadable place) h = refl

  pub answer_none : (f : Found) → said_of f ≡ stands_at s q → ((e : Event) (next : ℕ) → f ≡ Read e next → ⊥) → reads_to s q ≡ none
  unfolding reads_to
  answer_none f h t = ap reading_of (sym h) ∙ no_record f t

  pub answer_read : (f : Found) (e : Event) (next : ℕ) → said_of f ≡ stands_at s q → f ≡ Read e next → reads_to s q ≡ up_to next
  unfolding reads_to
  answer_read f e next h g = ap reading_of (sym h) ∙ ap (λ (x : Found). reading_of (said_of x)) g

  pub read_within : (next : ℕ) → reads_to s q ≡ up_to next → next ≤ length s
  read_within next h = (reads_shape s q next h).within

module _ (s : List ℕ) (n q : ℕ) where
  pub rule_none : reads_to s q ≡ none → false ≡ meets_rule s n q
  unfolding meets_rule
  rule_none h = sym (ap (followed s n) h)

  module _ (next : ℕ) (h : reads_to s q ≡ up_to next) where
    pub rule_end : next ≡ n → true ≡ meets_rule s n q
    unfolding meets_rule
    rule_end e = sym (ap (followed s n) h ∙ ap (λ (b : Bool). b || known_mark s next) (eq-eqb next n e))

    pub rule_mark : {r : Bool} → (next ≡ n → ⊥) → r ≡ known_mark s next → r ≡ meets_rule s n q
    unfolding meets_rule
    rule_mark u k = k ∙ sym (ap (followed s n) h ∙ ap (λ (b : Bool). b || known_mark s next) (ne_eqb next n u))

    pub step_read : Kept next ≡ step_at s n q
    unfolding step_at
    step_read = sym (ap (step_of s n q) h)

  pub step_none : {j : ℕ} → reads_to s q ≡ none → j ≡ resume s n q → Skipped j ≡ step_at s n q
  unfolding step_at
  step_none {j} h e = ap (λ (m : ℕ). Skipped m) e ∙ sym (ap (step_of s n q) h)

  -- ---- the search

  more : (j k : ℕ) → j ≡ k → first_of s n j q ≡ first_of s n k q
  more j k e = ap (λ (x : ℕ). first_of s n x q) e

  pub first_end : length s ≤ q → first_of s n (length s - q) q ≡ n
  unfolding first_of
  first_end h = more (length s - q) zero (omega arith)

  pub first_meets : q < length s → meets_rule s n q ≡ true → first_of s n (length s - q) q ≡ q
  unfolding first_of
  first_meets h e =
      more (length s - q) (suc (length s - (q + 1))) (omega arith)
      ∙ ap (λ (b : Bool). when b then q else first_of s n (length s - (q + 1)) (suc q)) e

  pub first_skips : q < length s → meets_rule s n q ≡ false → first_of s n (length s - q) q ≡ first_of s n (length s - (q + 1)) (q + 1)
  unfolding first_of
  first_skips h e =
      let z : suc q ≡ q + 1 = omega arith in
      more (length s - q) (suc (length s - (q + 1))) (omega arith)
      ∙ ap (λ (b : Bool). when b then q else first_of s n (length s - (q + 1)) (suc q)) e
      ∙ ap (first_of s n (length s - (q + 1))) z

module _ (s : List ℕ) (n p : ℕ) where
  pub resume_is : resume s n p ≡ first_of s n (length s - (p + 1)) (p + 1)
  unfolding resume
  resume_is = let z : suc p ≡ p + 1 = omega arith in ap (λ (q : ℕ). first_of s n (length s - q) q) z

  pub resume_end : length s ≤ p → n ≡ resume s n p
  resume_end h = sym (resume_is ∙ first_end s n (p + 1) (omega arith))
