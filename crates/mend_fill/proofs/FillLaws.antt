-- A fill, piece by piece: when it takes none, when it takes one and goes on, and what stands in the buffers after some.
use Prim.Native.Nat.{ℕ, zero, suc, ◌+◌, ◌-◌, ◌≤◌, ◌<◌}
use mathlib.Core.Path.{◌≡◌, refl, sym, ap, subst, ◌∙◌}
use mathlib.Core.Bool.{Bool, true, false, ◌&&◌}
use mathlib.Core.List.{List, [], ◌∷◌, ◌++◌, append-nil, append_assoc}
use lib.ListN.{length, take, drop}
use lib.Seq.{append_snoc}
use borrow.Author.Tests.{ltb-true, lt-ltb, le-ltb, le-leb, lt-leb}
use native.Mathlib.Omega.{arith}
use Rattle.meaning.specs.Plain.{when◌then◌else◌, ◌<?◌, ◌≤?◌}
use Rattle.list_lines.specs.Put.{Put}
use Rattle.list_lines.proofs.Puts.{put_is, put_then, put_none}
use Rattle.mend_step.specs.declared.Stride.{Stride}
use Rattle.mend_step.specs.declared.Stride.TheVariants.{Kept, Skipped}
use Rattle.mend_step.specs.Salvage.{step_at, next_of, Piece, keeps, skips, piece_of, written_of}
use Rattle.mend_step.proofs.Walk.{step_on}
use Rattle.mend_step.proofs.Pieces.{written_append}
use Rattle.mend_fill.specs.Lines.{stretch_line, lines_of}
use Rattle.mend_fill.specs.Fill.{record_room, line_room, fill_from, fill_of, end_of, Took}

pub and_first : (a b : Bool) → a && b ≡ true → a ≡ true
and_first true b h = refl
and_first false b h = h

and_off : {a : Bool} (b : Bool) → a ≡ false → a && b ≡ false
and_off b h = ap (λ (x : Bool). x && b) h

pub and_last : (a : Bool) {b : Bool} → b ≡ false → a && b ≡ false
and_last true h = h
and_last false h = refl

both : {a b : Bool} → a ≡ true → b ≡ true → a && b ≡ true
both {a} {b} h k = ap (λ (x : Bool). x && b) h ∙ k

pub lines_append : (xs ys : List Piece) → lines_of (xs ++ ys) ≡ lines_of xs ++ lines_of ys
lines_append [] ys = refl
lines_append (keeps p l ∷ xs) ys = lines_append xs ys
lines_append (skips p l ∷ xs) ys =
    ap (λ (x : List ℕ). stretch_line p l ++ x) (lines_append xs ys) ∙ sym (append_assoc (stretch_line p l) (lines_of xs) (lines_of ys))

-- a stretch that is skipped has its line
pub skip_lists : (p next : ℕ) → lines_of (piece_of p (Skipped next) ∷ []) ≡ stretch_line p (next - p)
skip_lists p next = append-nil (stretch_line p (next - p))

-- ---- where pieces end

pub end_one : (p q : ℕ) (st : Stride) (xs : List Piece) → q < next_of st → end_of p (piece_of q st ∷ xs) ≡ end_of (next_of st) xs
end_one p q (Kept m) xs h = let same : q + (m - q) ≡ m = omega (arith, h) in ap (λ (k : ℕ). end_of k xs) same
end_one p q (Skipped m) xs h = let same : q + (m - q) ≡ m = omega (arith, h) in ap (λ (k : ℕ). end_of k xs) same

pub end_append : (p : ℕ) (xs ys : List Piece) → end_of p (xs ++ ys) ≡ end_of (end_of p xs) ys
end_append p [] ys = refl
end_append p (keeps q l ∷ xs) ys = end_append (q + l) xs ys
end_append p (skips q l ∷ xs) ys = end_append (q + l) xs ys

module _ (s : List ℕ) (n : ℕ) where
  -- what a fill has after its first piece
  abbrev later : ℕ → ℕ → ℕ → ℕ → List Piece
  later k p a b =
      fill_from s n k (next_of (step_at s n p)) (a - length (written_of s (piece_of p (step_at s n p) ∷ [])))
      (b - length (lines_of (piece_of p (step_at s n p) ∷ [])))

  none_from : (k p a b : ℕ) → p <? n && (record_room ≤? a && line_room ≤? b) ≡ false → fill_from s n k p a b ≡ []
  unfolding fill_from
  none_from zero p a b h = refl
  none_from (suc k) p a b h = ap (λ (x : Bool). when x then piece_of p (step_at s n p) ∷ later k p a b else []) h

  pub fill_fuel : (k j p a b : ℕ) → n - p ≤ k → n - p ≤ j → fill_from s n k p a b ≡ fill_from s n j p a b
  unfolding fill_from
  fill_fuel zero j p a b h l =
      sym (none_from j p a b (and_off (record_room ≤? a && line_room ≤? b) (le-ltb p n (omega arith))))
  fill_fuel (suc k) zero p a b h l = none_from (suc k) p a b (and_off (record_room ≤? a && line_room ≤? b) (le-ltb p n (omega arith)))
  fill_fuel (suc k) (suc j) p a b h l =
      go (p <? n && (record_room ≤? a && line_room ≤? b)) refl (λ q x y. fill_fuel k j q x y)
    where
      go : (t : Bool) → p <? n && (record_room ≤? a && line_room ≤? b) ≡ t
          → ((q x y : ℕ) → n - q ≤ k → n - q ≤ j → fill_from s n k q x y ≡ fill_from s n j q x y)
          → (when t then piece_of p (step_at s n p) ∷ later k p a b else []) ≡ (when t then piece_of p (step_at s n p) ∷ later j p a b else [])
      go true e more =
          let i = ltb-true p n (and_first (p <? n) (record_room ≤? a && line_room ≤? b) e) in
          let o = step_on s n p i in
          ap (λ (xs : List Piece). piece_of p (step_at s n p) ∷ xs)
          (more (next_of (step_at s n p)) (a - length (written_of s (piece_of p (step_at s n p) ∷ []))) (b - length (lines_of (piece_of p (step_at s n p) ∷ []))) (omega (arith, o)) (omega (arith, o)))
      go false e more = refl

  pub none_at_end : (p a b : ℕ) → n ≤ p → fill_of s n p a b ≡ []
  unfolding fill_of
  none_at_end p a b h = none_from (n - p) p a b (and_off (record_room ≤? a && line_room ≤? b) (le-ltb p n h))

  pub none_record : (p a b : ℕ) → a < record_room → fill_of s n p a b ≡ []
  unfolding fill_of
  none_record p a b h = none_from (n - p) p a b (and_last (p <? n) (and_off (line_room ≤? b) (lt-leb record_room a h)))

  pub none_line : (p a b : ℕ) → b < line_room → fill_of s n p a b ≡ []
  unfolding fill_of
  none_line p a b h = none_from (n - p) p a b (and_last (p <? n) (and_last (record_room ≤? a) (lt-leb line_room b h)))

  pub one_more : (p a b : ℕ) → p < n → record_room ≤ a → line_room ≤ b
      → fill_of s n p a b
      ≡ piece_of p (step_at s n p)
      ∷ fill_of s n (next_of (step_at s n p)) (a - length (written_of s (piece_of p (step_at s n p) ∷ [])))
      (b - length (lines_of (piece_of p (step_at s n p) ∷ [])))
  unfolding fill_of fill_from
  one_more p a b h l m =
      let z : n - p ≡ suc (n - suc p) = omega arith in
      let o = step_on s n p h in
      let t : p <? n && (record_room ≤? a && line_room ≤? b) ≡ true = both (lt-ltb p n h) (both (le-leb record_room a l) (le-leb line_room b m)) in
      ap (λ (k : ℕ). fill_from s n k p a b) z
      ∙ ap (λ (x : Bool). when x then piece_of p (step_at s n p) ∷ later (n - suc p) p a b else []) t
      ∙ ap (λ (xs : List Piece). piece_of p (step_at s n p) ∷ xs)
      (fill_fuel (n - suc p) (n - (next_of (step_at s n p))) (next_of (step_at s n p)) (a - length (written_of s (piece_of p (step_at s n p) ∷ [])))
      (b - length (lines_of (piece_of p (step_at s n p) ∷ []))) (omega (arith, o)) (omega arith))

-- ---- the pieces so far, and what stands in the buffers

pub record Done (s : List ℕ) (n p a b : ℕ) (out₀ text₀ out text : List ℕ) (now written listed : ℕ) : Type 0 where
  pub ps : List Piece
  pub rest : fill_of s n p a b ≡ ps ++ fill_of s n now (a - written) (b - listed)
  pub here : now ≡ end_of p ps
  pub out_has : Put out₀ 0 (written_of s ps) out written
  pub text_has : Put text₀ 0 (lines_of ps) text listed

module _ (s : List ℕ) (n p a b : ℕ) (out₀ text₀ : List ℕ) where
  pub done_none : Done s n p a b out₀ text₀ out₀ text₀ p 0 0
  done_none =
      let x : a ≡ a - 0 = omega arith in
      let y : b ≡ b - 0 = omega arith in
      record {
        ps = [];
        rest = ap (λ (k : ℕ). fill_of s n p k b) x ∙ ap (λ (k : ℕ). fill_of s n p (a - 0) k) y;
        here = refl;
        out_has = put_none out₀ 0;
        text_has = put_none text₀ 0;
      }

  pub done_more : {out text out' text' : List ℕ} {now written listed w l : ℕ} {st : Stride} → Done s n p a b out₀ text₀ out text now written listed
      → now < n → record_room ≤ a - written → line_room ≤ b - listed → st ≡ step_at s n now
      → Put out written (written_of s (piece_of now st ∷ [])) out' w → Put text listed (lines_of (piece_of now st ∷ [])) text' l
      → Done s n p a b out₀ text₀ out' text' (next_of st) w l
  done_more {now = now} {written} {listed} {w} {l} {st} d h ra rb e f g =
      let x = piece_of now st in
      let o : now < next_of st = subst (λ (q : Stride). now < next_of q) (sym e) (step_on s n now h) in
      let u : a - written - length (written_of s (x ∷ [])) ≡ a - w = omega (arith, f.next) in
      let v : b - listed - length (lines_of (x ∷ [])) ≡ b - l = omega (arith, g.next) in
      let one : fill_of s n now (a - written) (b - listed) ≡ x ∷ fill_of s n (next_of st) (a - written - length (written_of s (x ∷ []))) (b - listed - length (lines_of (x ∷ []))) =
      subst (λ (q : Stride). fill_of s n now (a - written) (b - listed) ≡ piece_of now q ∷ fill_of s n (next_of q) (a - written - length (written_of s (piece_of now q ∷ []))) (b - listed - length (lines_of (piece_of now q ∷ []))))
      (sym e) (one_more s n now (a - written) (b - listed) h ra rb) in
      record {
        ps = d.ps ++ (x ∷ []);
        rest = d.rest
            ∙ ap (λ (xs : List Piece). d.ps ++ xs)
            (one ∙ ap (λ (k : ℕ). x ∷ fill_of s n (next_of st) k (b - listed - length (lines_of (x ∷ [])))) u ∙ ap (λ (k : ℕ). x ∷ fill_of s n (next_of st) (a - w) k) v)
            ∙ sym (append_snoc d.ps x (fill_of s n (next_of st) (a - w) (b - l)));
        here = sym (end_append p d.ps (x ∷ []) ∙ end_one (end_of p d.ps) now st [] o);
        out_has = put_is (written_append s d.ps (x ∷ [])) (put_then d.out_has f);
        text_has = put_is (lines_append d.ps (x ∷ [])) (put_then d.text_has g);
      }

  -- a record that is kept, or a stretch that is skipped
  pub done_kept : {out text out' : List ℕ} {now written listed w next : ℕ} → Done s n p a b out₀ text₀ out text now written listed
      → now < n → record_room ≤ a - written → line_room ≤ b - listed → Kept next ≡ step_at s n now
      → Put out written (take (next - now) (drop now s)) out' w → Done s n p a b out₀ text₀ out' text next w listed
  done_kept {text = text} {now = now} {listed = listed} {next = next} d h ra rb e f =
      done_more d h ra rb e (put_is (append-nil (take (next - now) (drop now s))) f) (put_none text listed)

  pub done_skipped : {out text text' : List ℕ} {now written listed l next : ℕ} → Done s n p a b out₀ text₀ out text now written listed
      → now < n → record_room ≤ a - written → line_room ≤ b - listed → Skipped next ≡ step_at s n now
      → Put text listed (stretch_line now (next - now)) text' l → Done s n p a b out₀ text₀ out text' next written l
  done_skipped {out = out} {now = now} {written = written} {next = next} d h ra rb e f =
      done_more d h ra rb e (put_none out written) (put_is (append-nil (stretch_line now (next - now))) f)

  pub done_all : {out text : List ℕ} {now written listed : ℕ} → Done s n p a b out₀ text₀ out text now written listed
      → fill_of s n now (a - written) (b - listed) ≡ [] → written ≤ length out₀ → listed ≤ length text₀
      → Took s p (fill_of s n p a b) out₀ text₀ (record { at = now; written = written; listed = listed }) out text
  done_all {now = now} {written} {listed} d e h l =
      let all : fill_of s n p a b ≡ d.ps = d.rest ∙ ap (λ (xs : List Piece). d.ps ++ xs) e ∙ append-nil d.ps in
      record {
        at = d.here ∙ ap (end_of p) (sym all);
        written = put_is (ap (written_of s) all) d.out_has;
        listed = put_is (ap lines_of all) d.text_has;
        within = (h, l);
      }
