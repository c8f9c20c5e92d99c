-- Fill after fill is the walk: what a fill takes is what the walk has from there, and the walk goes on where the fill ends;
-- with room for a record and a line each fill leads on.
use Prim.Native.Nat.{ℕ, zero, suc, ◌-◌, ◌≤◌, ◌<◌}
use mathlib.Core.Path.{◌≡◌, refl, sym, ap, subst, ◌∙◌}
use mathlib.Core.Bool.{Bool, true, false, not, ◌&&◌}
use mathlib.Core.List.{List, [], ◌∷◌, ◌++◌, append-nil, append_assoc}
use lib.ListN.{length, take}
use borrow.Author.Tests.{ltb-true, lt-ltb, le-ltb, le-leb, lt-leb}
use native.Mathlib.Omega.{arith}
use Rattle.std.specs.declared.option.Option.{Option}
use Rattle.std.specs.Prelude.{Result, Ok, Err, OnOk}
use Rattle.std.specs.Result.{is_err, is_ok, IsOk}
use Rattle.std.specs.Io.KnownBytes.{Appends}
use Rattle.std.proofs.KnownBytes.{Appends-nil, Appends-trans, Keeps-refl}
use Rattle.meaning.specs.Plain.{when◌then◌else◌, ◌<?◌, ◌≤?◌, ◌=?◌}
use Rattle.list_lines.proofs.Puts.{put_front}
use Rattle.mend_step.specs.Salvage.{reads_to, step_at, next_of, Piece, piece_of, walk_from, walk, written_of}
use Rattle.mend_step.proofs.Walk.{step_on}
use Rattle.mend_step.proofs.Pieces.{written_append}
use Rattle.mend_fill.specs.declared.Filled.{Filled}
use Rattle.mend_fill.specs.declared.FillError.{FillError}
use Rattle.mend_fill.specs.declared.FillError.TheVariants.{NoHead}
use Rattle.mend_fill.specs.Lines.{lines_of}
use Rattle.mend_fill.specs.Fill.{record_room, line_room, fill_from, fill_of, end_of, begun, refuses, number_at, FillPromise}
use Rattle.mend_fill.proofs.FillLaws.{and_first, and_last, lines_append, end_one, one_more}
use Rattle.mend_write.specs.Handed.{Fills, no_fill, then_fill, Handed, mends, MendPromise, Taken, stop_17, Written}

-- a write that didn't fail took all
pub took : {T E : Type 0} (r : Result T E) (failed : Bool) (P : Type 0) → failed ≡ is_err r → failed ≡ false → OnOk r P → P
took (Ok x) failed P e f p = p
took (Err x) failed P e f p = let z : true ≡ false = sym e ∙ f in let y : ◌≡◌ {A = ℕ} 0 1 = cc in absurd (omega arith)

pub took_well : {T E : Type 0} (r : Result T E) (good : Bool) (P : Type 0) → good ≡ is_ok r → good ≡ true → OnOk r P → P
took_well (Ok x) good P e f p = p
took_well (Err x) good P e f p = let z : false ≡ true = sym e ∙ f in let y : ◌≡◌ {A = ℕ} 0 1 = cc in absurd (omega arith)

module _ (s : List ℕ) (n : ℕ) where
  walk_fuel : (k j p : ℕ) → n - p ≤ k → n - p ≤ j → walk_from s n k p ≡ walk_from s n j p
  unfolding walk_from
  walk_fuel zero zero p h l = refl
  walk_fuel zero (suc j) p h l =
      sym (ap (λ (b : Bool). when b then piece_of p (step_at s n p) ∷ walk_from s n j (next_of (step_at s n p)) else []) (le-ltb p n (omega arith)))
  walk_fuel (suc k) zero p h l =
      ap (λ (b : Bool). when b then piece_of p (step_at s n p) ∷ walk_from s n k (next_of (step_at s n p)) else []) (le-ltb p n (omega arith))
  walk_fuel (suc k) (suc j) p h l = go (p <? n) refl (λ q. walk_fuel k j q)
    where
      go : (b : Bool) → (p <? n) ≡ b → ((q : ℕ) → n - q ≤ k → n - q ≤ j → walk_from s n k q ≡ walk_from s n j q)
          → (when b then piece_of p (step_at s n p) ∷ walk_from s n k (next_of (step_at s n p)) else [])
          ≡ (when b then piece_of p (step_at s n p) ∷ walk_from s n j (next_of (step_at s n p)) else [])
      go true e more =
          let o = step_on s n p (ltb-true p n e) in
          ap (λ (xs : List Piece). piece_of p (step_at s n p) ∷ xs) (more (next_of (step_at s n p)) (omega (arith, o)) (omega (arith, o)))
      go false e more = refl

  abbrev to : ℕ → List Piece
  to p = walk_from s n (n - p) p

  walk_one : (k p : ℕ) → p < n → walk_from s n (suc k) p ≡ piece_of p (step_at s n p) ∷ walk_from s n k (next_of (step_at s n p))
  unfolding walk_from
  walk_one k p h =
      ap (λ (b : Bool). when b then piece_of p (step_at s n p) ∷ walk_from s n k (next_of (step_at s n p)) else []) (lt-ltb p n h)

  fill_walk : (k p a b : ℕ) → n - p ≤ k → walk_from s n k p ≡ fill_from s n k p a b ++ to (end_of p (fill_from s n k p a b))
  unfolding fill_from
  fill_walk zero p a b h = walk_fuel zero (n - p) p h (omega arith)
  fill_walk (suc k) p a b h =
      go (p <? n && (record_room ≤? a && line_room ≤? b)) refl
      (λ o. fill_walk k (next_of (step_at s n p)) (a - length (written_of s (piece_of p (step_at s n p) ∷ []))) (b - length (lines_of (piece_of p (step_at s n p) ∷ []))) (omega (arith, o)))
    where
      ys : List Piece
      ys = fill_from s n k (next_of (step_at s n p)) (a - length (written_of s (piece_of p (step_at s n p) ∷ []))) (b - length (lines_of (piece_of p (step_at s n p) ∷ [])))

      P : List Piece → Type 0
      P zs = walk_from s n (suc k) p ≡ zs ++ to (end_of p zs)

      go : (t : Bool) → p <? n && (record_room ≤? a && line_room ≤? b) ≡ t
          → (p < next_of (step_at s n p) → walk_from s n k (next_of (step_at s n p)) ≡ ys ++ to (end_of (next_of (step_at s n p)) ys))
          → P (when t then piece_of p (step_at s n p) ∷ ys else [])
      go true e more =
          let i = ltb-true p n (and_first (p <? n) (record_room ≤? a && line_room ≤? b) e) in
          let o = step_on s n p i in
          walk_one k p i
          ∙ ap (λ (xs : List Piece). piece_of p (step_at s n p) ∷ xs) (more o)
          ∙ ap (λ (q : ℕ). piece_of p (step_at s n p) ∷ (ys ++ to q)) (sym (end_one p p (step_at s n p) ys o))
      go false e more = walk_fuel (suc k) (n - p) p h (omega arith)

  end_on : (k p a b : ℕ) → p ≤ end_of p (fill_from s n k p a b)
  unfolding fill_from
  end_on zero p a b = omega arith
  end_on (suc k) p a b =
      go (p <? n && (record_room ≤? a && line_room ≤? b)) refl
      (end_on k (next_of (step_at s n p)) (a - length (written_of s (piece_of p (step_at s n p) ∷ []))) (b - length (lines_of (piece_of p (step_at s n p) ∷ []))))
    where
      ys : List Piece
      ys = fill_from s n k (next_of (step_at s n p)) (a - length (written_of s (piece_of p (step_at s n p) ∷ []))) (b - length (lines_of (piece_of p (step_at s n p) ∷ [])))

      go : (t : Bool) → p <? n && (record_room ≤? a && line_room ≤? b) ≡ t → next_of (step_at s n p) ≤ end_of (next_of (step_at s n p)) ys
          → p ≤ end_of p (when t then piece_of p (step_at s n p) ∷ ys else [])
      go true e more =
          let o = step_on s n p (ltb-true p n (and_first (p <? n) (record_room ≤? a && line_room ≤? b) e)) in
          omega (arith, o, more, end_one p p (step_at s n p) ys o)
      go false e more = omega arith

  -- with room, a fill below the end leads on
  pub fill_on : (p a b : ℕ) → p < n → record_room ≤ a → line_room ≤ b → p < end_of p (fill_of s n p a b)
  unfolding fill_of
  fill_on p a b h l m =
      let st = step_at s n p in
      let x = a - length (written_of s (piece_of p st ∷ [])) in
      let y = b - length (lines_of (piece_of p st ∷ [])) in
      let o = step_on s n p h in
      let e = ap (end_of p) (one_more s n p a b h l m) ∙ end_one p p st (fill_from s n (n - next_of st) (next_of st) x y) o in
      omega (arith, o, e, end_on (n - next_of st) (next_of st) x y)

  -- ---- the fills so far

  pub record Sofar (out₀ text₀ : List ℕ) (at : ℕ) (out text : List ℕ) : Type 0 where
    pub count : ℕ
    pub ps : List Piece
    pub w : List ℕ
    pub l : List ℕ
    pub fills : Fills s n out₀ text₀ count w l at out text
    pub walked : walk s n ≡ ps ++ to at
    pub w_is : w ≡ written_of s ps
    pub l_is : l ≡ lines_of ps

  pub sofar_none : (out₀ text₀ : List ℕ) → Sofar out₀ text₀ 0 out₀ text₀
  unfolding walk
  sofar_none out₀ text₀ =
      let z : n ≡ n - 0 = omega arith in
      record { count = 0; ps = []; w = []; l = []; fills = no_fill; walked = ap (λ (k : ℕ). walk_from s n k 0) z; w_is = refl; l_is = refl }

  pub not_refused : (p : ℕ) → begun (reads_to s 0) ≡ true → refuses s p ≡ false
  unfolding refuses
  not_refused p h = and_last (p =? 0) (ap not h)

  -- nothing is refused of an input that begins with a record
  pub filled : {p : ℕ} {out text out' text' : List ℕ} (r : Result Filled FillError) → begun (reads_to s 0) ≡ true → FillPromise s n p out text r out' text'
      → IsOk r
  filled (Ok f) h g = refl
  filled {p} (Err NoHead) h g =
      let z : number_at s p ≡ 0 = ap (λ (b : Bool). when b then 17 else 0) (not_refused p h) in absurd (omega (arith, g.number, z))

  pub unwrapped : {p : ℕ} {out text out' text' : List ℕ} {r : Result Filled FillError} {f : Filled} → r ≡ Ok f → FillPromise s n p out text r out' text'
      → FillPromise s n p out text (Ok f) out' text'
  unwrapped {p} {out} {text} {out'} {text'} e g = subst (λ (x : Result Filled FillError). FillPromise s n p out text x out' text') e g

  pub fill_leads : {p : ℕ} {out text out' text' : List ℕ} {r : Filled} → FillPromise s n p out text (Ok r) out' text'
      → p < n → record_room ≤ length out → line_room ≤ length text → p < r.at
  fill_leads {p} {out} {text} f l a b = omega (arith, f.took.at, fill_on p (length out) (length text) l a b)

  pub sofar_more : {out₀ text₀ out text out' text' : List ℕ} {at : ℕ} {r : Filled}
      → Sofar out₀ text₀ at out text → at < n → FillPromise s n at out text (Ok r) out' text' → Sofar out₀ text₀ r.at out' text'
  unfolding fill_of
  sofar_more {out = out} {text} {out'} {text'} {at} {r} d on f =
      let t = f.took in
      let qs = fill_of s n at (length out) (length text) in
      record {
        count = suc d.count;
        ps = d.ps ++ qs;
        w = d.w ++ take r.written out';
        l = d.l ++ take r.listed text';
        fills = then_fill r out' text' d.fills on f;
        walked = d.walked
            ∙ ap (λ (xs : List Piece). d.ps ++ xs) (fill_walk (n - at) at (length out) (length text) (omega arith) ∙ ap (λ (e : ℕ). qs ++ to e) (sym t.at))
            ∙ sym (append_assoc d.ps qs (to r.at));
        w_is = ap (λ (x : List ℕ). x ++ take r.written out') d.w_is
            ∙ ap (λ (x : List ℕ). written_of s d.ps ++ x) (put_front t.written t.within.0)
            ∙ sym (written_append s d.ps qs);
        l_is = ap (λ (x : List ℕ). x ++ take r.listed text') d.l_is
            ∙ ap (λ (x : List ℕ). lines_of d.ps ++ x) (put_front t.listed t.within.1)
            ∙ sym (lines_append d.ps qs);
      }

  -- at the end all of it was handed over
  pub sofar_all : {out₀ text₀ out text : List ℕ} {at : ℕ} → Sofar out₀ text₀ at out text → n ≤ at → Handed s n out₀ text₀ true out text
  unfolding walk_from
  sofar_all {at = at} d h =
      let z : n - at ≡ 0 = omega arith in
      let all : walk s n ≡ d.ps = d.walked ∙ ap (λ (k : ℕ). d.ps ++ walk_from s n k at) z ∙ append-nil d.ps in
      record {
        count = d.count;
        w = d.w;
        l = d.l;
        at = at;
        fills = d.fills;
        all = λ _. (h, d.w_is ∙ ap (written_of s) (sym all), d.l_is ∙ ap lines_of (sym all));
        some = λ e. absurd (let y : ◌≡◌ {A = ℕ} 0 1 = cc in omega arith);
      }

  fills_some : {k at : ℕ} {out₀ text₀ w l out text : List ℕ} → Fills s n out₀ text₀ k w l at out text → 0 < at → 0 < k
  fills_some no_fill h = absurd (omega arith)
  fills_some (then_fill r out text f on p) h = omega arith

  pub sofar_some : {out₀ text₀ out text : List ℕ} {at : ℕ} → Sofar out₀ text₀ at out text → 0 < at → Handed s n out₀ text₀ false out text
  sofar_some {at = at} d h =
      record {
        count = d.count;
        w = d.w;
        l = d.l;
        at = at;
        fills = d.fills;
        all = λ e. absurd (let y : ◌≡◌ {A = ℕ} 0 1 = cc in omega arith);
        some = λ _. fills_some d.fills h;
      }

  -- ---- which octets were taken

  -- so far what the fills put
  pub record Going (out₀ text₀ : List ℕ) (a a' b b' : Option (List ℕ)) (at : ℕ) (out text : List ℕ) : Type 0 where
    pub sofar : Sofar out₀ text₀ at out text
    pub mended : Appends a a' sofar.w
    pub listed : Appends b b' sofar.l

  pub going_none : (out₀ text₀ : List ℕ) (a b : Option (List ℕ)) → Going out₀ text₀ a a b b 0 out₀ text₀
  unfolding sofar_none
  going_none out₀ text₀ a b = record { sofar = sofar_none out₀ text₀; mended = Appends-nil a; listed = Appends-nil b }

  pub going_more : {out₀ text₀ out text out' text' : List ℕ} {a a' b b' : Option (List ℕ)} {at : ℕ} {r : Filled} (a'' b'' : Option (List ℕ))
      → Going out₀ text₀ a a' b b' at out text → at < n → FillPromise s n at out text (Ok r) out' text'
      → Appends a' a'' (take r.written out') → Appends b' b'' (take r.listed text')
      → Going out₀ text₀ a a'' b b'' r.at out' text'
  unfolding sofar_more
  going_more a'' b'' d on f p q =
      record {
        sofar = sofar_more d.sofar on f;
        mended = Appends-trans _ _ _ _ _ d.mended p;
        listed = Appends-trans _ _ _ _ _ d.listed q;
      }

  pub going_all : {out₀ text₀ out text : List ℕ} {a a' b b' : Option (List ℕ)} {at : ℕ} → Going out₀ text₀ a a' b b' at out text → n ≤ at
      → Taken s n a a' b b'
  unfolding sofar_all
  going_all {a = a} {a'} {b} {b'} d h =
      let w = (sofar_all d.sofar h).all refl in
      record { mended = subst (Appends a a') w.1 d.mended; listed = subst (Appends b b') w.2 d.listed }

  pub no_yes : (a a' b b' : Option (List ℕ)) → begun (reads_to s 0) ≡ true → Written s n false a a' b b'
  no_yes a a' b b' h =
      record {
        taken = λ e. absurd (let y : ◌≡◌ {A = ℕ} 0 1 = cc in omega arith);
        said = λ e. absurd (let y : ◌≡◌ {A = ℕ} 0 1 = cc in omega arith);
        kept = λ e. absurd (let x : true ≡ false = sym h ∙ e in let y : ◌≡◌ {A = ℕ} 0 1 = cc in omega arith);
      }

  pub all_taken : {r : Bool} {a a' b b' : Option (List ℕ)} → begun (reads_to s 0) ≡ true → (r ≡ true → Taken s n a a' b b') → Written s n r a a' b b'
  all_taken h t =
      record {
        taken = λ e _. t e;
        said = λ _ e. absurd (let x : true ≡ false = sym h ∙ e in let y : ◌≡◌ {A = ℕ} 0 1 = cc in omega arith);
        kept = λ e. absurd (let x : true ≡ false = sym h ∙ e in let y : ◌≡◌ {A = ℕ} 0 1 = cc in omega arith);
      }

  pub said_17 : {r : Bool} {a b b' : Option (List ℕ)} → begun (reads_to s 0) ≡ false → (r ≡ true → Appends b b' stop_17) → Written s n r a a b b'
  said_17 {a = a} h t =
      record {
        taken = λ _ e. absurd (let x : true ≡ false = sym e ∙ h in let y : ◌≡◌ {A = ℕ} 0 1 = cc in omega arith);
        said = λ e _. t e;
        kept = λ _. Keeps-refl a;
      }

  -- ---- whether it is mended

  pub not_mended : (out text : List ℕ) {r : Bool} → mends s out text ≡ false → (begun (reads_to s 0) ≡ true → r ≡ false)
      → MendPromise s n out text r out text
  not_mended out text h no-yes =
      record {
        handed = λ e. absurd (let x : false ≡ true = sym h ∙ e in let y : ◌≡◌ {A = ℕ} 0 1 = cc in omega arith);
        kept = λ _. (refl, refl);
        short = λ b _. no-yes b;
      }

  -- 17: it doesn't begin with a record, so nothing is asked of the answer
  pub not_begun : {r : Bool} → begun (reads_to s 0) ≡ false → begun (reads_to s 0) ≡ true → r ≡ false
  not_begun h e = absurd (let x : false ≡ true = sym h ∙ e in let y : ◌≡◌ {A = ℕ} 0 1 = cc in omega arith)

  pub is_mended : {out text out' text' : List ℕ} {r : Bool} → mends s out text ≡ true → Handed s n out text r out' text'
      → MendPromise s n out text r out' text'
  is_mended h f =
      record {
        handed = λ _. f;
        kept = λ e. absurd (let x : true ≡ false = sym h ∙ e in let y : ◌≡◌ {A = ℕ} 0 1 = cc in omega arith);
        short = λ _ e. absurd (let x : true ≡ false = sym h ∙ e in let y : ◌≡◌ {A = ℕ} 0 1 = cc in omega arith);
      }

module _ (s out text : List ℕ) where
  pub mends_17 : begun (reads_to s 0) ≡ false → mends s out text ≡ false
  mends_17 h = ap (λ (b : Bool). b && (record_room ≤? length out && line_room ≤? length text)) h

  pub mends_short : length out < record_room → mends s out text ≡ false
  mends_short h = and_last (begun (reads_to s 0)) (ap (λ (b : Bool). b && line_room ≤? length text) (lt-leb record_room (length out) h))

  pub mends_narrow : length text < line_room → mends s out text ≡ false
  mends_narrow h = and_last (begun (reads_to s 0)) (and_last (record_room ≤? length out) (lt-leb line_room (length text) h))

  pub mends_all : begun (reads_to s 0) ≡ true → record_room ≤ length out → line_room ≤ length text → mends s out text ≡ true
  mends_all h a b =
      ap (λ (x : Bool). x && (record_room ≤? length out && line_room ≤? length text)) h
      ∙ ap (λ (x : Bool). x && line_room ≤? length text) (le-leb record_room (length out) a)
      ∙ le-leb line_room (length text) b
