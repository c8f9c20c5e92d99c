-- What a served slot of a burst writes, where what stands before its own octets and numbers is set apart: its 53 octets of
-- departures are its line cell, or stay where nothing departs, and its six numbers are its answer.
use Prim.Native.Nat.{ℕ, ◌+◌, ◌*◌, ◌/◌, ◌≤◌, ◌<◌}
use mathlib.Core.Path.{◌≡◌, refl, sym, ap, ◌∙◌}
use mathlib.Core.Logic.{◌≢◌}
use mathlib.Core.Bool.{Bool, true, false}
use mathlib.Core.List.{List, [], ◌∷◌, ◌++◌, append_assoc}
use native.Mathlib.Omega.{arith}
use native.Mathlib.Nat.{zero-add, suc-add}
use borrow.Author.Tests.{eqb-true, eqb-false, lt-ltb}
use lib.ListN.{length, take, drop, set, length-append, length-drop, take-append-drop}
use lib.Seq.{length-take-le, take_at, drop-append-add}
use Rattle.meaning.specs.declared.Answer.{Answer}
use Rattle.meaning.specs.Plain.{when◌then◌else◌, ◌=?◌}
use Rattle.meaning.specs.Numbers.{octets, empty}
use Rattle.meaning.specs.State.{write_cell}
use Rattle.meaning.specs.Work.{Work}
use Rattle.meaning.specs.Line.{line_part, octets_of, line_cell}
use Rattle.meaning_runs.specs.Run.{idle, shown}
use Rattle.meaning_runs.proofs.LineLaws.{shown_any}
use Rattle.burst_out.specs.Handout.{own_octets, shown_into, write_answer, Shows}
use Rattle.burst_out.proofs.ShowLaws.{shown_none}
use Rattle.promise_polled.specs.Polled.{six_of}

-- ── departures ──
-- the 53 octets that a slot leaves to be read: those of the line cell, or those lent
abbrev pub out_of : Work → List ℕ → List ℕ
out_of w d = when w.answer.space =? empty then take octets d else shown w

module _ (fd d : List ℕ) (i : ℕ) (at : length fd ≡ 53 * i) (room : 53 ≤ length d) where
  inside : 53 * i + 53 ≤ length (fd ++ d)
  inside = rw (length-append fd d) (omega (arith, at, room))

  past : (k : ℕ) → drop (53 * i + k) (fd ++ d) ≡ drop k d
  past k = ap (λ (n : ℕ). drop (n + k) (fd ++ d)) (sym at) ∙ drop-append-add fd d k

  put : (out : List ℕ) → write_cell (fd ++ d) i out ≡ fd ++ (out ++ drop 53 d)
  unfolding write_cell
  put out =
      ap (λ (l : List ℕ). l ++ (out ++ drop (53 * i + 53) (fd ++ d))) (take_at fd d (53 * i) at)
      ∙ ap (λ (l : List ℕ). fd ++ (out ++ l)) (past 53)

  own_long : length (own_octets (fd ++ d) i) ≡ 53
  unfolding own_octets
  own_long = length-take-le 53 (drop (53 * i) (fd ++ d)) (rw (length-drop (53 * i) (fd ++ d)) (omega (arith, inside)))

  module _ (w : Work) (shows : Shows w.state.cells w.answer.space) where
    shown_put : w.answer.space ≢ empty
        → shown_into (fd ++ d) i w.state.cells w.answer.space ≡ fd ++ (shown w ++ drop 53 d)
    unfolding shown_into
    shown_put ne =
        ap (write_cell (fd ++ d) i) (sym (shown_any w (own_octets (fd ++ d) i) own_long ne)) ∙ put (shown w)

    pub out_put : shown_into (fd ++ d) i w.state.cells w.answer.space ≡ fd ++ out_of w d ++ drop 53 d
    out_put = go (w.answer.space =? empty) refl
      where
        go : (b : Bool) → (w.answer.space =? empty) ≡ b
            → shown_into (fd ++ d) i w.state.cells w.answer.space ≡ fd ++ (when b then take octets d else shown w) ++ drop 53 d
        go true e =
            shown_none (fd ++ d) i inside w.state.cells shows.allowed w.answer.space (eqb-true w.answer.space empty e)
            ∙ sym (append_assoc fd (take 53 d) (drop 53 d) ∙ ap (λ (l : List ℕ). fd ++ l) (take-append-drop 53 d))
        go false e =
            shown_put (eqb-false w.answer.space empty e)
            ∙ sym (append_assoc fd (shown w) (drop 53 d))

-- the line cell is 53 octets
module _ (w : Work) (shows : Shows w.state.cells w.answer.space) where
  line_long : w.answer.space < length w.state.cells / 53 → length (line_cell w.state.cells idle w.answer.space) ≡ 53
  unfolding line_cell line_part octets_of
  line_long low =
      simp (shows.allowed, lt-ltb w.answer.space (length w.state.cells / 53) low)
      (length-take-le 53 (drop (53 * w.answer.space) w.state.cells)
      (rw (length-drop (53 * w.answer.space) w.state.cells) (omega (arith, low))))

  pub out_long : (d : List ℕ) → 53 ≤ length d → length (out_of w d) ≡ 53
  unfolding shown
  out_long d room = go (w.answer.space =? empty) refl
    where
      go : (b : Bool) → (w.answer.space =? empty) ≡ b
          → length (when b then take octets d else when b then [] else line_cell w.state.cells idle w.answer.space) ≡ 53
      go true e = length-take-le 53 d room
      go false e = line_long (shows.low (eqb-false w.answer.space empty e))

-- ── answers ──
set_past : (xs ys : List ℕ) (k v : ℕ) → set (xs ++ ys) (length xs + k) v ≡ xs ++ set ys k v
set_past [] ys k v = ap (λ (n : ℕ). set ys n v) (zero-add k)
set_past (x ∷ xs) ys k v =
    ap (λ (n : ℕ). set (x ∷ (xs ++ ys)) n v) (suc-add (length xs) k) ∙ ap (λ (l : List ℕ). x ∷ l) (set_past xs ys k v)

module _ (fa : List ℕ) (n : ℕ) (at : length fa ≡ n) where
  first_set : (l : List ℕ) (v : ℕ) → set (fa ++ l) n v ≡ fa ++ set l 0 v
  first_set l v = ap (λ (m : ℕ). set (fa ++ l) m v) (sym (omega (arith, at))) ∙ set_past fa l 0 v

  next_set : (x l : List ℕ) (k v : ℕ) → x ≡ fa ++ l → set x (n + k) v ≡ fa ++ set l k v
  next_set x l k v e =
      ap (λ (y : List ℕ). set y (n + k) v) e ∙ ap (λ (m : ℕ). set (fa ++ l) (m + k) v) (sym at) ∙ set_past fa l k v

six_set : (l : List ℕ) (a : Answer) → 6 ≤ length l
    → set (set (set (set (set (set l 0 a.number) 1 a.verdict) 2 a.vci) 3 a.d) 4 a.space) 5 a.departing
    ≡ six_of a ++ drop 6 l
six_set [] a h = absurd (omega arith)
six_set (x0 ∷ []) a h = absurd (omega arith)
six_set (x0 ∷ x1 ∷ []) a h = absurd (omega arith)
six_set (x0 ∷ x1 ∷ x2 ∷ []) a h = absurd (omega arith)
six_set (x0 ∷ x1 ∷ x2 ∷ x3 ∷ []) a h = absurd (omega arith)
six_set (x0 ∷ x1 ∷ x2 ∷ x3 ∷ x4 ∷ []) a h = absurd (omega arith)
six_set (x0 ∷ x1 ∷ x2 ∷ x3 ∷ x4 ∷ x5 ∷ l) a h = refl

pub answer_put : (fa l : List ℕ) (i : ℕ) (a : Answer) → length fa ≡ 6 * i → 6 ≤ length l
    → write_answer (fa ++ l) i a ≡ fa ++ six_of a ++ drop 6 l
unfolding write_answer
answer_put fa l i a at room =
    let n = 6 * i in
    let s0 = first_set fa n at l a.number in
    let s1 = next_set fa n at _ (set l 0 a.number) 1 a.verdict s0 in
    let s2 = next_set fa n at _ (set (set l 0 a.number) 1 a.verdict) 2 a.vci s1 in
    let s3 = next_set fa n at _ (set (set (set l 0 a.number) 1 a.verdict) 2 a.vci) 3 a.d s2 in
    let s4 = next_set fa n at _ (set (set (set (set l 0 a.number) 1 a.verdict) 2 a.vci) 3 a.d) 4 a.space s3 in
    next_set fa n at _ (set (set (set (set (set l 0 a.number) 1 a.verdict) 2 a.vci) 3 a.d) 4 a.space) 5 a.departing s4
    ∙ ap (λ (x : List ℕ). fa ++ x) (six_set l a room)
    ∙ sym (append_assoc fa (six_of a) (drop 6 l))
