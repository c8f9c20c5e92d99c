-- The octets of a record that the reader found are those that stand in the trace from its place to the next: its numbers,
-- written high octet first, are the octets that they were read from.
use Prim.Native.Nat.{ℕ, zero, suc, ◌+◌, ◌*◌, ◌/◌, ◌%◌, ◌≤◌, ◌<◌}
use mathlib.Core.Path.{◌≡◌, refl, sym, ap, ◌∙◌}
use mathlib.Core.Bool.{Bool, true, false, ◌&&◌}
use mathlib.Core.List.{List, [], ◌∷◌, ◌++◌, append_assoc}
use native.Mathlib.Numerals.{add-one}
use native.Mathlib.Omega.{arith}
use borrow.Author.Tests.{leb-true, eqb-true, eqb-false}
use lib.ListN.{length, get_or, take, drop, take-append-drop}
use lib.Seq.{drop-cons, drop-drop}
use Rattle.meaning.specs.Plain.{when◌then◌else◌, ◌<?◌, ◌≤?◌, ◌=?◌}
use Rattle.meaning.specs.Numbers.{octets}
use Rattle.trace_record.specs.Trace.{Stands, event, finish, refusal}
use Rattle.trace_record.specs.Trace.{be16, be32, whole, setup_at, open_at, sustain_at, close_at, open_path_at, close_path_at, cell_at, pause_at, first_at, later_at, stands_at}
use Rattle.trace_record.specs.declared.Head.{Head}
use Rattle.trace_record.specs.declared.Head.TheVariants.{Gm, Gr, Gn}
use Rattle.trace_record.specs.Trace.{head_mark, mark_octets, mark_gm, mark_gr, mark_gn, mark_vo, mark_vx, mark_ca, mark_sl, mark_vs, mark_po, mark_px}
use Rattle.text_meaning.specs.Shapes.{of16, of32}
use Rattle.text_meaning.specs.Events.{Event, told, pause, full, octets_of, opening_of, closing_of, event_of}
use Rattle.text_trip.proofs.Settled.{single_octets}

-- a pause of one record, as the reader reads it
abbrev pub Read : Event → Type 0
Read (told o) = 0 ≤ 0
Read (pause n) = (0 < n) × (n ≤ full)

module _ (s : List ℕ) (b : (i : ℕ) → get_or s i 0 < 256) where
  one : (i : ℕ) → i < length s → get_or s i 0 ∷ drop (i + 1) s ≡ drop i s
  one i h = ap (λ (k : ℕ). get_or s i 0 ∷ drop k s) (add-one i) ∙ sym (drop-cons s i 0 h)

  be16_of : (i : ℕ) → of16 (be16 s i) ≡ get_or s i 0 ∷ get_or s (i + 1) 0 ∷ []
  unfolding be16
  be16_of i =
      let y = b (i + 1) in
      let d : (get_or s i 0 * 256 + get_or s (i + 1) 0) / 256 ≡ get_or s i 0 = omega arith in
      let m : (get_or s i 0 * 256 + get_or s (i + 1) 0) % 256 ≡ get_or s (i + 1) 0 = omega arith in
      ap (λ (k : ℕ). k ∷ (get_or s i 0 * 256 + get_or s (i + 1) 0) % 256 ∷ []) d ∙ ap (λ (k : ℕ). get_or s i 0 ∷ k ∷ []) m

  be16_below : (i : ℕ) → be16 s i < 65_536
  unfolding be16
  be16_below i = let x = b i in let y = b (i + 1) in omega arith

  two : (i : ℕ) → i + 2 ≤ length s → of16 (be16 s i) ++ drop (i + 2) s ≡ drop i s
  two i h =
      let e : i + 2 ≡ i + 1 + 1 = omega arith in
      ap (λ (x : List ℕ). x ++ drop (i + 2) s) (be16_of i)
      ∙ ap (λ (k : ℕ). get_or s i 0 ∷ get_or s (i + 1) 0 ∷ drop k s) e
      ∙ ap (λ (x : List ℕ). get_or s i 0 ∷ x) (one (i + 1) (omega arith))
      ∙ one i (omega arith)

  four : (i : ℕ) → i + 4 ≤ length s → of32 (be32 s i) ++ drop (i + 4) s ≡ drop i s
  unfolding be32
  four i h =
      let y = be16_below (i + 2) in
      let d : (be16 s i * 65_536 + be16 s (i + 2)) / 65_536 ≡ be16 s i = omega arith in
      let m : (be16 s i * 65_536 + be16 s (i + 2)) % 65_536 ≡ be16 s (i + 2) = omega arith in
      let e : i + 4 ≡ i + 2 + 2 = omega arith in
      ap (λ (k : ℕ). (of16 k ++ of16 ((be16 s i * 65_536 + be16 s (i + 2)) % 65_536)) ++ drop (i + 4) s) d
      ∙ ap (λ (k : ℕ). (of16 (be16 s i) ++ of16 k) ++ drop (i + 4) s) m
      ∙ append_assoc (of16 (be16 s i)) (of16 (be16 s (i + 2))) (drop (i + 4) s)
      ∙ ap (λ (x : List ℕ). of16 (be16 s i) ++ x) (ap (λ (k : ℕ). of16 (be16 s (i + 2)) ++ drop k s) e ∙ two (i + 2) (omega arith))
      ∙ two i (omega arith)

  module _ (at : ℕ) where
    abbrev pub Same : Stands → Type 0
    Same (event r next) = (octets_of (event_of s r) ++ drop next s ≡ drop at s) × (at < next) × Read (event_of s r)
    Same finish = at ≡ length s
    Same (refusal number place) = 0 ≤ 0

    choose : (P : Stands → Type 0) (t : Bool) {x y : Stands} → (t ≡ true → P x) → (t ≡ false → P y) → P (when t then x else y)
    choose P true t f = t refl
    choose P false t f = f refl

    -- a mark, and what stands behind it
    marked : (m : ℕ) (x : List ℕ) → be16 s at ≡ m → at + 2 ≤ length s → x ≡ drop (at + 2) s → of16 m ++ x ≡ drop at s
    marked m x e h f = ap (λ (k : ℕ). of16 k ++ x) (sym e) ∙ ap (λ (y : List ℕ). of16 (be16 s at) ++ y) f ∙ two at h

    setup_same : (head : Head) → be16 s at ≡ head_mark head → Same (setup_at s at head)
    unfolding setup_at whole octets_of event_of
    setup_same head e =
        choose Same (at + 6 ≤? length s)
        (λ t.
        let h : at + 6 ≤ length s = leb-true (at + 6) (length s) t in
        let j : at + 6 ≡ at + 4 + 2 = omega arith in
        let k : at + 4 ≡ at + 2 + 2 = omega arith in (
          append_assoc (of16 (head_mark head)) (of16 (be16 s (at + 2)) ++ of16 (be16 s (at + 4))) (drop (at + 6) s)
              ∙ marked (head_mark head) ((of16 (be16 s (at + 2)) ++ of16 (be16 s (at + 4))) ++ drop (at + 6) s) e (omega arith)
              (append_assoc (of16 (be16 s (at + 2))) (of16 (be16 s (at + 4))) (drop (at + 6) s)
              ∙ ap (λ (y : List ℕ). of16 (be16 s (at + 2)) ++ y) (ap (λ (i : ℕ). of16 (be16 s (at + 4)) ++ drop i s) j ∙ two (at + 4) (omega arith) ∙ ap (λ (i : ℕ). drop i s) k)
              ∙ two (at + 2) (omega arith)),
          omega arith,
          omega arith,
        ))
        (λ _. omega arith)

    -- a closing that stands there, whatever its mark
    closed : (mark : ℕ) → be16 s at ≡ mark → at + 4 ≤ length s → closing_of mark (be16 s (at + 2)) ++ drop (at + 4) s ≡ drop at s
    closed mark e h =
        let k : at + 4 ≡ at + 2 + 2 = omega arith in
        append_assoc (of16 mark) (of16 (be16 s (at + 2))) (drop (at + 4) s)
        ∙ marked mark (of16 (be16 s (at + 2)) ++ drop (at + 4) s) e (omega arith) (ap (λ (i : ℕ). of16 (be16 s (at + 2)) ++ drop i s) k ∙ two (at + 2) (omega arith))

    close_same : be16 s at ≡ mark_vx → Same (close_at s at)
    unfolding close_at whole octets_of event_of
    close_same e = choose Same (at + 4 ≤? length s) (λ t. (closed mark_vx e (leb-true _ _ t), omega arith, omega arith)) (λ _. omega arith)

    path_close_same : be16 s at ≡ mark_px → Same (close_path_at s at)
    unfolding close_path_at whole octets_of event_of
    path_close_same e = choose Same (at + 4 ≤? length s) (λ t. (closed mark_px e (leb-true _ _ t), omega arith, omega arith)) (λ _. omega arith)

    pause_same : be16 s at ≡ mark_sl → Same (pause_at s at)
    unfolding pause_at whole event_of
    pause_same e =
        choose Same (be16 s (at + 2) =? 0) (λ _. omega arith)
        (λ z.
        choose Same (at + 4 ≤? length s)
        (λ t.
        let h : at + 4 ≤ length s = leb-true (at + 4) (length s) t in
        let k : at + 4 ≡ at + 2 + 2 = omega arith in
        let n = eqb-false (be16 s (at + 2)) 0 z in
        let l = be16_below (at + 2) in (
          ap (λ (x : List ℕ). x ++ drop (at + 4) s) (single_octets (be16 s (at + 2)) (omega arith) (omega arith))
              ∙ append_assoc (of16 mark_sl) (of16 (be16 s (at + 2))) (drop (at + 4) s)
              ∙ marked mark_sl (of16 (be16 s (at + 2)) ++ drop (at + 4) s) e (omega arith) (ap (λ (i : ℕ). of16 (be16 s (at + 2)) ++ drop i s) k ∙ two (at + 2) (omega arith)),
          omega arith,
          (omega arith, omega arith),
        ))
        (λ _. omega arith))

    cell_same : be16 s at ≡ mark_ca → Same (cell_at s at)
    unfolding cell_at whole octets_of event_of
    cell_same e =
        choose Same (at + 55 ≤? length s)
        (λ t.
        let h : at + 55 ≤ length s = leb-true (at + 55) (length s) t in
        let k : at + 55 ≡ at + 2 + 53 = omega arith in (
          append_assoc (of16 mark_ca) (take octets (drop (at + 2) s)) (drop (at + 55) s)
              ∙ marked mark_ca (take octets (drop (at + 2) s) ++ drop (at + 55) s) e (omega arith)
              (ap (λ (i : ℕ). take octets (drop (at + 2) s) ++ drop i s) k
              ∙ ap (λ (x : List ℕ). take octets (drop (at + 2) s) ++ x) (sym (drop-drop 53 (at + 2) s))
              ∙ take-append-drop octets (drop (at + 2) s)),
          omega arith,
          omega arith,
        ))
        (λ _. omega arith)

    -- an opening that stands there, whatever its mark
    opened : (mark : ℕ) → be16 s at ≡ mark → at + 13 ≤ length s
        → opening_of mark (be16 s (at + 2)) (get_or s (at + 4) 0) (be32 s (at + 5)) (be32 s (at + 9)) ++ drop (at + 13) s ≡ drop at s
    opened mark e h =
        let f = be32 s (at + 5) in
        let k = be32 s (at + 9) in
        let e1 : at + 13 ≡ at + 9 + 4 = omega arith in
        let e2 : at + 9 ≡ at + 5 + 4 = omega arith in
        let e3 : at + 5 ≡ at + 4 + 1 = omega arith in
        let e4 : at + 4 ≡ at + 2 + 2 = omega arith in
        append_assoc (of16 mark) (of16 (be16 s (at + 2)) ++ (get_or s (at + 4) 0 ∷ (of32 f ++ of32 k))) (drop (at + 13) s)
        ∙ marked mark ((of16 (be16 s (at + 2)) ++ (get_or s (at + 4) 0 ∷ (of32 f ++ of32 k))) ++ drop (at + 13) s) e (omega arith)
        (append_assoc (of16 (be16 s (at + 2))) (get_or s (at + 4) 0 ∷ (of32 f ++ of32 k)) (drop (at + 13) s)
        ∙ ap (λ (y : List ℕ). of16 (be16 s (at + 2)) ++ y)
        (ap (λ (y : List ℕ). get_or s (at + 4) 0 ∷ y)
        (append_assoc (of32 f) (of32 k) (drop (at + 13) s)
        ∙ ap (λ (y : List ℕ). of32 f ++ y) (ap (λ (i : ℕ). of32 k ++ drop i s) e1 ∙ four (at + 9) (omega arith) ∙ ap (λ (i : ℕ). drop i s) e2)
        ∙ four (at + 5) (omega arith) ∙ ap (λ (i : ℕ). drop i s) e3)
        ∙ one (at + 4) (omega arith) ∙ ap (λ (i : ℕ). drop i s) e4)
        ∙ two (at + 2) (omega arith))

    open_same : be16 s at ≡ mark_vo → Same (open_at s at)
    unfolding open_at whole octets_of event_of
    open_same e = choose Same (at + 13 ≤? length s) (λ t. (opened mark_vo e (leb-true _ _ t), omega arith, omega arith)) (λ _. omega arith)

    path_same : be16 s at ≡ mark_po → Same (open_path_at s at)
    unfolding open_path_at whole octets_of event_of
    path_same e = choose Same (at + 13 ≤? length s) (λ t. (opened mark_po e (leb-true _ _ t), omega arith, omega arith)) (λ _. omega arith)

    -- octets that stand there up to place j, and a part before them from place i on
    behind : {x : List ℕ} (f : List ℕ → List ℕ) (i j : ℕ) → i ≡ j → x ≡ drop i s → f x ≡ f (drop j s)
    behind f i j e h = ap f (h ∙ ap (λ (k : ℕ). drop k s) e)

    sustain_same : be16 s at ≡ mark_vs → Same (sustain_at s at)
    unfolding sustain_at whole octets_of event_of
    sustain_same e =
        choose Same (at + 23 ≤? length s)
        (λ t.
        let h : at + 23 ≤ length s = leb-true (at + 23) (length s) t in
        let tag = behind (λ y. get_or s (at + 22) 0 ∷ y) (at + 23) (at + 22 + 1) (omega arith) refl ∙ one (at + 22) (omega arith) in
        let c2 = behind (λ y. of32 (be32 s (at + 18)) ++ y) (at + 22) (at + 18 + 4) (omega arith) tag ∙ four (at + 18) (omega arith) in
        let f2 = behind (λ y. of32 (be32 s (at + 14)) ++ y) (at + 18) (at + 14 + 4) (omega arith) c2 ∙ four (at + 14) (omega arith) in
        let m2 = behind (λ y. get_or s (at + 13) 0 ∷ y) (at + 14) (at + 13 + 1) (omega arith) f2 ∙ one (at + 13) (omega arith) in
        let c1 = behind (λ y. of32 (be32 s (at + 9)) ++ y) (at + 13) (at + 9 + 4) (omega arith) m2 ∙ four (at + 9) (omega arith) in
        let f1 = behind (λ y. of32 (be32 s (at + 5)) ++ y) (at + 9) (at + 5 + 4) (omega arith) c1 ∙ four (at + 5) (omega arith) in
        let m1 = behind (λ y. get_or s (at + 4) 0 ∷ y) (at + 5) (at + 4 + 1) (omega arith) f1 ∙ one (at + 4) (omega arith) in
        let v1 = behind (λ y. of16 (be16 s (at + 2)) ++ y) (at + 4) (at + 2 + 2) (omega arith) m1 ∙ two (at + 2) (omega arith) in
        (marked mark_vs _ e (omega arith) v1, omega arith, omega arith))
        (λ _. omega arith)

    both : (x y : Bool) → x && y ≡ true → y ≡ true
    both true y h = h
    both false y h = let z : ◌≡◌ {A = ℕ} 0 1 = cc in absurd (omega arith)

    pub stands_same : Same (stands_at s at)
    unfolding stands_at first_at later_at
    stands_same =
        choose Same (1 ≤? at && at =? length s) (λ t. eqb-true at (length s) (both (1 ≤? at) (at =? length s) t))
        (λ _. choose Same (length s <? at + mark_octets) (λ _. omega arith)
        (λ _. choose Same (at =? 0)
        (λ _. choose Same (be16 s at =? mark_gm) (λ t. setup_same Gm (eqb-true _ _ t))
        (λ _. choose Same (be16 s at =? mark_gr) (λ t. setup_same Gr (eqb-true _ _ t))
        (λ _. choose Same (be16 s at =? mark_gn) (λ t. setup_same Gn (eqb-true _ _ t)) (λ _. omega arith))))
        (λ _. choose Same (be16 s at =? mark_ca) (λ t. cell_same (eqb-true _ _ t))
        (λ _. choose Same (be16 s at =? mark_sl) (λ t. pause_same (eqb-true _ _ t))
        (λ _. choose Same (be16 s at =? mark_vo) (λ t. open_same (eqb-true _ _ t))
        (λ _. choose Same (be16 s at =? mark_vx) (λ t. close_same (eqb-true _ _ t))
        (λ _. choose Same (be16 s at =? mark_vs) (λ t. sustain_same (eqb-true _ _ t))
        (λ _. choose Same (be16 s at =? mark_po) (λ t. path_same (eqb-true _ _ t))
        (λ _. choose Same (be16 s at =? mark_px) (λ t. path_close_same (eqb-true _ _ t)) (λ _. omega arith))))))))))
