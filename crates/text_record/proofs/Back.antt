-- Each record, put in its place, is what the reader reads there: each number is read back from the octets that hold it.
use Prim.Native.Nat.{ℕ, suc, ◌+◌, ◌-◌, ◌/◌, ◌%◌, ◌≤◌, ◌<◌}
use mathlib.Core.Path.{◌≡◌, refl, sym, ap, ◌∙◌}
use mathlib.Core.List.{List, ◌++◌}
use lib.ListN.{length, get_or, take, drop, length-drop}
use lib.Seq.{ext_get_or, get_or-take, get_or-drop, length-take-le}
use native.Mathlib.Omega.{arith}
use Rattle.meaning.specs.Numbers.{octets}
use Rattle.meaning.specs.Words.{Second}
use Rattle.trace_record.specs.declared.Head.{Head}
use Rattle.trace_record.specs.declared.Head.TheVariants.{Gm, Gr, Gn}
use Rattle.trace_record.specs.Trace.{TraceRecord, GM as Trace-as-GM, VO as Trace-as-VO, VX as Trace-as-VX, PO as Trace-as-PO, PX as Trace-as-PX}
use Rattle.trace_record.specs.Trace.{be16, be32, whole, event, stands_at, setup_at, open_at, sustain_at, close_at, open_path_at, close_path_at, cell_at, first_at, later_at}
use Rattle.trace_record.specs.Trace.{head_mark, mark_vo, mark_vx, mark_ca, mark_sl, mark_vs, mark_po, mark_px, long_gm, long_vo, long_vx, long_ca, long_sl, long_vs}
use Rattle.trace_record.proofs.Cases.{whole_read, sustain_same, pause_whole, later_cell, later_pause, later_sustain, stands_first, stands_later}
use Rattle.text_meaning.specs.Shapes.{of16}
use Rattle.text_meaning.specs.Events.{opening_of, closing_of}
use Rattle.list_lines.specs.Put.{puts}
use Rattle.text_record.specs.Record.{GM, VO, VX, CA, SL, VS, PO, PX, record_octets, record_at}
use Rattle.text_record.proofs.Puts.{puts_length, puts_in}

add_two : (k : ℕ) → k + 2 ≡ suc (suc k)
add_two k = omega arith

-- a number of 16 bits from its two octets
be16_is : (s : List ℕ) (i n : ℕ) → get_or s i 0 ≡ n / 256 → get_or s (i + 1) 0 ≡ n % 256 → n ≡ be16 s i
unfolding be16
be16_is s i n a b = omega arith

be32_is : (s : List ℕ) (i n : ℕ) → n / 65_536 ≡ be16 s i → n % 65_536 ≡ be16 s (i + 2) → n ≡ be32 s i
unfolding be32
be32_is s i n a b = omega arith

-- octets os in their place, at place at of an output that has room for them
module _ (out : List ℕ) (at : ℕ) (os : List ℕ) (h : at + length os ≤ length out) where
  -- octet k of them, at place j
  octet_back : (k j n : ℕ) → j ≡ at + k → k < length os → get_or os k 0 ≡ n → n ≡ get_or (puts out at os) j 0
  octet_back k j n e m g = sym (puts_in out at os k j e h m ∙ g)

  -- a number of 16 bits whose octets are k and k + 1
  two_back : (k j n : ℕ) → j ≡ at + k → k + 2 ≤ length os → get_or os k 0 ≡ n / 256 → get_or os (k + 1) 0 ≡ n % 256
      → n ≡ be16 (puts out at os) j
  two_back k j n e m a b =
      be16_is (puts out at os) j n (sym (octet_back k j (n / 256) e (omega arith) a))
      (sym (octet_back (k + 1) (j + 1) (n % 256) (omega arith) (omega arith) b))

  -- a number of 32 bits whose octets are k to k + 3
  four_back : (k j n : ℕ) → j ≡ at + k → k + 4 ≤ length os → get_or os k 0 ≡ n / 65_536 / 256 → get_or os (k + 1) 0 ≡ n / 65_536 % 256
      → get_or os (k + 2) 0 ≡ n % 65_536 / 256 → get_or os (k + 2 + 1) 0 ≡ n % 65_536 % 256 → n ≡ be32 (puts out at os) j
  four_back k j n e m a b d f =
      be32_is (puts out at os) j n (two_back k j (n / 65_536) e (omega arith) a b)
      (two_back (k + 2) (j + 2) (n % 65_536) (omega arith) (omega arith) d f)

  room_back : (k : ℕ) → k ≤ length os → at + k ≤ length (puts out at os)
  room_back k m = omega (arith, puts_length out at os)

module _ (out : List ℕ) (at : ℕ) where
  -- a head's mark leads to its record
  headed : (s : List ℕ) (head : Head) → first_at s at (head_mark head) ≡ setup_at s at head
  unfolding first_at
  headed s Gm = refl
  headed s Gr = refl
  headed s Gn = refl

  head_back : (mark N z : ℕ) (head : Head) → mark ≡ head_mark head → at ≡ 0 → at + long_gm ≤ length out
      → stands_at (puts out at (of16 mark ++ (of16 N ++ of16 z))) at ≡ event (Trace-as-GM N z head) (at + long_gm)
  unfolding setup_at
  head_back mark N z head q e h =
      let os = of16 mark ++ (of16 N ++ of16 z) in let s = puts out at os in let l = puts_length out at os in
      let n : N ≡ be16 s (at + 2) = two_back out at os h 2 (at + 2) N refl (omega arith) refl refl in
      let v : z ≡ be16 s (at + 4) = two_back out at os h 4 (at + 4) z refl (omega arith) refl refl in
      sym (stands_first s at (λ q. omega arith) (omega arith) (two_back out at os h 0 at mark (omega arith) (omega arith) refl refl) e
      (whole_read s at long_gm (Trace-as-GM (be16 s (at + 2)) (be16 s (at + 4)) head) (cc) (omega arith) ∙ sym (headed s head) ∙ ap (first_at s at) (sym q)))

  pub setup_back : (N z : ℕ) (head : Head) → at ≡ 0 → at + long_gm ≤ length out
      → stands_at (puts out at (record_octets (GM N z head))) at ≡ event (record_at at (GM N z head)) (at + long_gm)
  unfolding record_octets record_at
  setup_back N z head e h = head_back (head_mark head) N z head refl e h

  module _ (later : at ≡ 0 → ⊥) where
    -- an opening and a closing, by mark and by the record that the mark leads to
    opening_back : (f : (c m F C : ℕ) → TraceRecord) (mark c m F C : ℕ)
        → ((s : List ℕ) → later_at s at mark ≡ whole s at long_vo (f (be16 s (at + 2)) (get_or s (at + 4) 0) (be32 s (at + 5)) (be32 s (at + 9))))
        → at + long_vo ≤ length out → stands_at (puts out at (opening_of mark c m F C)) at ≡ event (f c m F C) (at + long_vo)
    opening_back f mark c m F C leads h =
        let os = opening_of mark c m F C in let s = puts out at os in let l = puts_length out at os in
        let n : c ≡ be16 s (at + 2) = two_back out at os h 2 (at + 2) c refl (omega arith) refl refl in
        let k : m ≡ get_or s (at + 4) 0 = octet_back out at os h 4 (at + 4) m refl (omega arith) refl in
        let x : F ≡ be32 s (at + 5) = four_back out at os h 5 (at + 5) F refl (omega arith) refl refl refl refl in
        let y : C ≡ be32 s (at + 9) = four_back out at os h 9 (at + 9) C refl (omega arith) refl refl refl refl in
        sym (stands_later s at (λ q. omega arith) (omega arith) (two_back out at os h 0 at mark (omega arith) (omega arith) refl refl) later
        (whole_read s at long_vo (f (be16 s (at + 2)) (get_or s (at + 4) 0) (be32 s (at + 5)) (be32 s (at + 9))) (cc) (omega arith) ∙ sym (leads s)))

    closing_back : (f : (c : ℕ) → TraceRecord) (mark c : ℕ) → ((s : List ℕ) → later_at s at mark ≡ whole s at long_vx (f (be16 s (at + 2))))
        → at + long_vx ≤ length out → stands_at (puts out at (closing_of mark c)) at ≡ event (f c) (at + long_vx)
    closing_back f mark c leads h =
        let os = closing_of mark c in let s = puts out at os in let l = puts_length out at os in
        let n : c ≡ be16 s (at + 2) = two_back out at os h 2 (at + 2) c refl (omega arith) refl refl in
        sym (stands_later s at (λ q. omega arith) (omega arith) (two_back out at os h 0 at mark (omega arith) (omega arith) refl refl) later
        (whole_read s at long_vx (f (be16 s (at + 2))) (ap f n) (omega arith) ∙ sym (leads s)))

    pub open_back : (vci m F C : ℕ) → at + long_vo ≤ length out
        → stands_at (puts out at (record_octets (VO vci m F C))) at ≡ event (record_at at (VO vci m F C)) (at + long_vo)
    unfolding record_octets record_at later_at open_at
    open_back vci m F C h = opening_back Trace-as-VO mark_vo vci m F C (λ s. refl) h

    pub path_back : (vpi m F C : ℕ) → at + long_vo ≤ length out
        → stands_at (puts out at (record_octets (PO vpi m F C))) at ≡ event (record_at at (PO vpi m F C)) (at + long_vo)
    unfolding record_octets record_at later_at open_path_at
    path_back vpi m F C h = opening_back Trace-as-PO mark_po vpi m F C (λ s. refl) h

    pub close_back : (vci : ℕ) → at + long_vx ≤ length out
        → stands_at (puts out at (record_octets (VX vci))) at ≡ event (record_at at (VX vci)) (at + long_vx)
    unfolding record_octets record_at later_at close_at
    close_back vci h = closing_back Trace-as-VX mark_vx vci (λ s. refl) h

    pub path_close_back : (vpi : ℕ) → at + long_vx ≤ length out
        → stands_at (puts out at (record_octets (PX vpi))) at ≡ event (record_at at (PX vpi)) (at + long_vx)
    unfolding record_octets record_at later_at close_path_at
    path_close_back vpi h = closing_back Trace-as-PX mark_px vpi (λ s. refl) h

    pub sustain_back : (vci m F C : ℕ) (x : Second) → at + long_vs ≤ length out
        → stands_at (puts out at (record_octets (VS vci m F C x))) at ≡ event (record_at at (VS vci m F C x)) (at + long_vs)
    unfolding record_octets record_at sustain_at
    sustain_back vci m F C x h =
        let os = record_octets (VS vci m F C x) in let s = puts out at os in let l = puts_length out at os in
        sym (stands_later s at (λ q. omega arith) (omega arith) (two_back out at os h 0 at mark_vs (omega arith) (omega arith) refl refl) later
        (later_sustain s at mark_vs (λ q. omega arith) (λ q. omega arith) (λ q. omega arith) (λ q. omega arith) refl
        (whole_read s at long_vs _
        (sustain_same
        (two_back out at os h 2 (at + 2) vci refl (omega arith) refl refl)
        (octet_back out at os h 4 (at + 4) m refl (omega arith) refl)
        (four_back out at os h 5 (at + 5) F refl (omega arith) refl refl refl refl)
        (four_back out at os h 9 (at + 9) C refl (omega arith) refl refl refl refl)
        (octet_back out at os h 13 (at + 13) x.m refl (omega arith) refl)
        (four_back out at os h 14 (at + 14) x.F refl (omega arith) refl refl refl refl)
        (four_back out at os h 18 (at + 18) x.C refl (omega arith) refl refl refl refl)
        (octet_back out at os h 22 (at + 22) x.tag refl (omega arith) refl))
        (omega arith))))

    pub pause_back : (count : ℕ) → (count ≡ 0 → ⊥) → at + long_sl ≤ length out
        → stands_at (puts out at (record_octets (SL count))) at ≡ event (record_at at (SL count)) (at + long_sl)
    unfolding record_octets record_at
    pause_back count some h =
        let os = record_octets (SL count) in let s = puts out at os in let l = puts_length out at os in
        sym (stands_later s at (λ q. omega arith) (omega arith) (two_back out at os h 0 at mark_sl (omega arith) (omega arith) refl refl) later
        (later_pause s at mark_sl (λ q. omega arith) refl
        (pause_whole s at (two_back out at os h 2 (at + 2) count refl (omega arith) refl refl) some (omega arith))))

    pub cell_back : (cell : List ℕ) → length cell ≡ octets → at + long_ca ≤ length out
        → stands_at (puts out at (record_octets (CA cell))) at ≡ event (record_at at (CA cell)) (at + long_ca)
    unfolding record_octets record_at cell_at
    cell_back cell e h =
        let os = record_octets (CA cell) in let s = puts out at os in let l = puts_length out at os in
        let w : at + length os ≤ length out = omega (arith, e) in
        sym (stands_later s at (λ q. omega arith) (omega arith) (two_back out at os w 0 at mark_ca (omega arith) (omega arith) refl refl) later
        (later_cell s at mark_ca refl (whole_read s at long_ca _ refl (omega arith))))

    -- the 53 octets that a CA names are the cell's
    pub cell_same : (cell : List ℕ) → length cell ≡ octets → at + long_ca ≤ length out
        → take octets (drop (at + 2) (puts out at (record_octets (CA cell)))) ≡ cell
    unfolding record_octets
    cell_same cell e h =
        let os = record_octets (CA cell) in let s = puts out at os in let l = puts_length out at os in
        let w : at + length os ≤ length out = omega (arith, e) in
        let d : length (drop (at + 2) s) ≡ length s - (at + 2) = length-drop (at + 2) s in
        let t : length (take octets (drop (at + 2) s)) ≡ octets = length-take-le octets (drop (at + 2) s) (omega arith) in
        ext_get_or 0 (take octets (drop (at + 2) s)) cell (t ∙ sym e)
        (λ k m. get_or-take octets (drop (at + 2) s) k 0 (omega arith) ∙ get_or-drop (at + 2) s k 0
        ∙ puts_in out at os (k + 2) (at + 2 + k) (omega arith) w (omega arith) ∙ ap (λ (n : ℕ). get_or os n 0) (add_two k))
