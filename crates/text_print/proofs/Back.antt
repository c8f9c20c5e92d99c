-- A printed line, read by the grammar of texts, says the very record that it was printed from: field after field, each is
-- read back and put behind the octets before it.
use Prim.Native.Nat.{ℕ, ◌≤◌, ◌<◌}
use mathlib.Core.Path.{◌≡◌, refl, sym, ap, ◌∙◌}
use mathlib.Core.Bool.{true, false}
use mathlib.Core.List.{List, [], ◌∷◌, ◌++◌, append_assoc}
use lib.ListN.{length, get_or, take, drop}
use native.Mathlib.Omega.{arith}
use borrow.Author.Tests.{ne_eqb}
use Rattle.meaning.specs.Plain.{Out, next, ◌and_then◌}
use Rattle.meaning.specs.Numbers.{octets}
use Rattle.meaning.specs.Words.{Second}
use Rattle.trace_record.specs.declared.Head.{Head}
use Rattle.trace_record.specs.declared.Head.TheVariants.{Gm, Gr, Gn}
use Rattle.trace_record.specs.Trace.{GM, VO, VX, CA, SL, VS, PO, PX, mark_gm, mark_gr, mark_gn, mark_vo, mark_vx, mark_ca, mark_sl, mark_vs, mark_po, mark_px}
use Rattle.list_lines.specs.Text.{decimal_of}
use Rattle.list_lines.specs.Text.{line as Text·line}
use Rattle.text_meaning.specs.Shapes.{Field, n8, n16, n32, cell, of16, of32, find}
use Rattle.text_meaning.specs.Events.{told, opening_of, closing_of, event_of}
use Rattle.text_meaning.specs.Grammar.{Part, part, Told, tells, expect, digit_of, hexes, field_at, fields_at, slots_at, shaped_line, line}
use Rattle.text_print.specs.Print.{hex_of, opening_line, closing_line, line_of}
use Rattle.text_print.proofs.Parse.{number_back, hexes_back}

-- neither a space nor a line feed is a digit
space_ends : digit_of 32 ≡ 10
unfolding digit_of
space_ends = refl

feed_ends : digit_of 10 ≡ 10
unfolding digit_of
feed_ends = refl

module _ (fs : List Field) (o : List ℕ) (n x : ℕ) (s : List ℕ) (e : digit_of x ≡ 10) where
  field8 : n ≤ 255 → fields_at (n8 ∷ fs) o (32 ∷ (decimal_of n ++ (x ∷ s))) ≡ fields_at fs (o ++ (n ∷ [])) (x ∷ s)
  unfolding fields_at field_at expect
  field8 h = rw (number_back 255 n x s h (omega arith) e)

  field16 : n ≤ 65_535 → fields_at (n16 ∷ fs) o (32 ∷ (decimal_of n ++ (x ∷ s))) ≡ fields_at fs (o ++ of16 n) (x ∷ s)
  unfolding fields_at field_at expect
  field16 h = rw (number_back 65_535 n x s h (omega arith) e)

  field32 : n ≤ 4_294_967_295 → fields_at (n32 ∷ fs) o (32 ∷ (decimal_of n ++ (x ∷ s))) ≡ fields_at fs (o ++ of32 n) (x ∷ s)
  unfolding fields_at field_at expect
  field32 h = rw (number_back 4_294_967_295 n x s h (omega arith) e)

fields_end : (o s : List ℕ) → fields_at [] o (10 ∷ s) ≡ next (part o s)
unfolding fields_at expect
fields_end o s = refl

field_cell : (xs o s : List ℕ) → length xs ≡ octets → ((i : ℕ) → i < length xs → get_or xs i 0 < 256)
    → fields_at (cell ∷ []) o (32 ∷ (hex_of xs ++ (10 ∷ s))) ≡ next (part (o ++ xs) s)
unfolding fields_at field_at expect
field_cell xs o s e g =
    let h : hexes octets o (hex_of xs ++ (10 ∷ s)) ≡ next (part (o ++ xs) (10 ∷ s)) = ap (λ (k : ℕ). hexes k o (hex_of xs ++ (10 ∷ s))) (sym e) ∙ hexes_back xs o (10 ∷ s) g in
    rw h

-- what the fields of a line say
abbrev told_by : Out Part → Out Told
told_by x = x and_then λ p. next (tells (told p.done) p.rest)

module _ (trace s : List ℕ) where
  closing_parts : (mark c : ℕ) → closing_line mark c ++ s ≡ of16 mark ++ (32 ∷ (decimal_of c ++ (10 ∷ s)))
  unfolding closing_line Text·line
  closing_parts mark c = simp append_assoc

  closing_fields : (mark c : ℕ) → c ≤ 65_535 → fields_at (n16 ∷ []) (of16 mark) (32 ∷ (decimal_of c ++ (10 ∷ s))) ≡ next (part (closing_of mark c) s)
  closing_fields mark c h = field16 [] (of16 mark) c 10 s feed_ends h ∙ fields_end (of16 mark ++ of16 c) s

  pub close_back : (vci : ℕ) → vci ≤ 65_535 → line false (line_of trace (VX vci) ++ s) ≡ next (tells (event_of trace (VX vci)) s)
  unfolding line_of line shaped_line find event_of
  close_back vci h = ap (line false) (closing_parts mark_vx vci) ∙ ap told_by (closing_fields mark_vx vci h)

  pub path_close_back : (vpi : ℕ) → vpi ≤ 65_535 → line false (line_of trace (PX vpi) ++ s) ≡ next (tells (event_of trace (PX vpi)) s)
  unfolding line_of line shaped_line find event_of
  path_close_back vpi h = ap (line false) (closing_parts mark_px vpi) ∙ ap told_by (closing_fields mark_px vpi h)

  pub pause_back : (count : ℕ) → 1 ≤ count → count ≤ 65_535 → line false (line_of trace (SL count) ++ s) ≡ next (tells (event_of trace (SL count)) s)
  unfolding line_of Text·line line shaped_line find event_of slots_at expect
  pause_back count l h =
      ap (λ (t : List ℕ). line false (of16 mark_sl ++ (32 ∷ t))) (append_assoc (decimal_of count) (10 ∷ []) s)
      ∙ rw (number_back 4_294_967_295 count 10 s (omega arith) (omega arith) feed_ends) (simp (ne_eqb count 0 (λ e. omega arith)))

  setup_parts : (m N z : ℕ) → Text·line (of16 m ∷ decimal_of N ∷ decimal_of z ∷ []) ++ s ≡ of16 m ++ (32 ∷ (decimal_of N ++ (32 ∷ (decimal_of z ++ (10 ∷ s)))))
  unfolding Text·line
  setup_parts m N z = simp append_assoc

  setup_fields : (m N z : ℕ) → N ≤ 65_535 → z ≤ 65_535
      → fields_at (n16 ∷ n16 ∷ []) (of16 m) (32 ∷ (decimal_of N ++ (32 ∷ (decimal_of z ++ (10 ∷ s))))) ≡ next (part (of16 m ++ (of16 N ++ of16 z)) s)
  setup_fields m N z h k =
      field16 (n16 ∷ []) (of16 m) N 32 (decimal_of z ++ (10 ∷ s)) space_ends h
      ∙ field16 [] (of16 m ++ of16 N) z 10 s feed_ends k
      ∙ fields_end (of16 m ++ (of16 N ++ of16 z)) s

  pub setup_back : (N z : ℕ) (head : Head) → N ≤ 65_535 → z ≤ 65_535
      → line true (line_of trace (GM N z head) ++ s) ≡ next (tells (event_of trace (GM N z head)) s)
  unfolding line_of line shaped_line find event_of
  setup_back N z Gm h k = ap (line true) (setup_parts mark_gm N z) ∙ ap told_by (setup_fields mark_gm N z h k)
  setup_back N z Gr h k = ap (line true) (setup_parts mark_gr N z) ∙ ap told_by (setup_fields mark_gr N z h k)
  setup_back N z Gn h k = ap (line true) (setup_parts mark_gn N z) ∙ ap told_by (setup_fields mark_gn N z h k)

  opening_parts : (mark c m F C : ℕ) → opening_line mark c m F C ++ s
      ≡ of16 mark ++ (32 ∷ (decimal_of c ++ (32 ∷ (decimal_of m ++ (32 ∷ (decimal_of F ++ (32 ∷ (decimal_of C ++ (10 ∷ s)))))))))
  unfolding opening_line Text·line
  opening_parts mark c m F C = simp append_assoc

  opening_fields : (mark c m F C : ℕ) → c ≤ 65_535 → m ≤ 255 → F ≤ 4_294_967_295 → C ≤ 4_294_967_295
      → fields_at (n16 ∷ n8 ∷ n32 ∷ n32 ∷ []) (of16 mark) (32 ∷ (decimal_of c ++ (32 ∷ (decimal_of m ++ (32 ∷ (decimal_of F ++ (32 ∷ (decimal_of C ++ (10 ∷ s)))))))))
      ≡ next (part (opening_of mark c m F C) s)
  opening_fields mark c m F C hv hm hf hc =
      field16 (n8 ∷ n32 ∷ n32 ∷ []) (of16 mark) c 32 (decimal_of m ++ (32 ∷ (decimal_of F ++ (32 ∷ (decimal_of C ++ (10 ∷ s)))))) space_ends hv
      ∙ field8 (n32 ∷ n32 ∷ []) (of16 mark ++ of16 c) m 32 (decimal_of F ++ (32 ∷ (decimal_of C ++ (10 ∷ s)))) space_ends hm
      ∙ field32 (n32 ∷ []) (of16 mark ++ (of16 c ++ (m ∷ []))) F 32 (decimal_of C ++ (10 ∷ s)) space_ends hf
      ∙ field32 [] (of16 mark ++ (of16 c ++ (m ∷ of32 F))) C 10 s feed_ends hc
      ∙ fields_end (opening_of mark c m F C) s

  pub open_back : (vci m F C : ℕ) → vci ≤ 65_535 → m ≤ 255 → F ≤ 4_294_967_295 → C ≤ 4_294_967_295
      → line false (line_of trace (VO vci m F C) ++ s) ≡ next (tells (event_of trace (VO vci m F C)) s)
  unfolding line_of line shaped_line find event_of
  open_back vci m F C hv hm hf hc = ap (line false) (opening_parts mark_vo vci m F C) ∙ ap told_by (opening_fields mark_vo vci m F C hv hm hf hc)

  pub path_back : (vpi m F C : ℕ) → vpi ≤ 65_535 → m ≤ 255 → F ≤ 4_294_967_295 → C ≤ 4_294_967_295
      → line false (line_of trace (PO vpi m F C) ++ s) ≡ next (tells (event_of trace (PO vpi m F C)) s)
  unfolding line_of line shaped_line find event_of
  path_back vpi m F C hv hm hf hc = ap (line false) (opening_parts mark_po vpi m F C) ∙ ap told_by (opening_fields mark_po vpi m F C hv hm hf hc)

  -- a VS: the fields of a VO, then those of the second bucket and the flag
  abbrev behind : Second → List ℕ
  behind x = decimal_of x.m ++ (32 ∷ (decimal_of x.F ++ (32 ∷ (decimal_of x.C ++ (32 ∷ (decimal_of x.tag ++ (10 ∷ s)))))))

  sustain_parts : (vci m F C : ℕ) (x : Second)
      → Text·line (of16 mark_vs ∷ decimal_of vci ∷ decimal_of m ∷ decimal_of F ∷ decimal_of C ∷ decimal_of x.m ∷ decimal_of x.F ∷ decimal_of x.C ∷ decimal_of x.tag ∷ []) ++ s
      ≡ of16 mark_vs ++ (32 ∷ (decimal_of vci ++ (32 ∷ (decimal_of m ++ (32 ∷ (decimal_of F ++ (32 ∷ (decimal_of C ++ (32 ∷ behind x)))))))))
  unfolding Text·line
  sustain_parts vci m F C x = simp append_assoc

  second_fields : (o : List ℕ) (x : Second) → x.m ≤ 255 → x.F ≤ 4_294_967_295 → x.C ≤ 4_294_967_295 → x.tag ≤ 255
      → fields_at (n8 ∷ n32 ∷ n32 ∷ n8 ∷ []) o (32 ∷ behind x) ≡ next (part ((((o ++ (x.m ∷ [])) ++ of32 x.F) ++ of32 x.C) ++ (x.tag ∷ [])) s)
  second_fields o x hm hf hc ht =
      field8 (n32 ∷ n32 ∷ n8 ∷ []) o x.m 32 (decimal_of x.F ++ (32 ∷ (decimal_of x.C ++ (32 ∷ (decimal_of x.tag ++ (10 ∷ s)))))) space_ends hm
      ∙ field32 (n32 ∷ n8 ∷ []) (o ++ (x.m ∷ [])) x.F 32 (decimal_of x.C ++ (32 ∷ (decimal_of x.tag ++ (10 ∷ s)))) space_ends hf
      ∙ field32 (n8 ∷ []) ((o ++ (x.m ∷ [])) ++ of32 x.F) x.C 32 (decimal_of x.tag ++ (10 ∷ s)) space_ends hc
      ∙ field8 [] (((o ++ (x.m ∷ [])) ++ of32 x.F) ++ of32 x.C) x.tag 10 s feed_ends ht
      ∙ fields_end ((((o ++ (x.m ∷ [])) ++ of32 x.F) ++ of32 x.C) ++ (x.tag ∷ [])) s

  pub sustain_back : (vci m F C : ℕ) (x : Second) → vci ≤ 65_535 → m ≤ 255 → F ≤ 4_294_967_295 → C ≤ 4_294_967_295
      → x.m ≤ 255 → x.F ≤ 4_294_967_295 → x.C ≤ 4_294_967_295 → x.tag ≤ 255
      → line false (line_of trace (VS vci m F C x) ++ s) ≡ next (tells (event_of trace (VS vci m F C x)) s)
  unfolding line_of line shaped_line find event_of
  sustain_back vci m F C x hv hm hf hc im jf jc jt =
      let second = n8 ∷ n32 ∷ n32 ∷ n8 ∷ [] in
      ap (line false) (sustain_parts vci m F C x)
      ∙ ap told_by
      (field16 (n8 ∷ n32 ∷ n32 ∷ second) (of16 mark_vs) vci 32 (decimal_of m ++ (32 ∷ (decimal_of F ++ (32 ∷ (decimal_of C ++ (32 ∷ behind x)))))) space_ends hv
      ∙ field8 (n32 ∷ n32 ∷ second) (of16 mark_vs ++ of16 vci) m 32 (decimal_of F ++ (32 ∷ (decimal_of C ++ (32 ∷ behind x)))) space_ends hm
      ∙ field32 (n32 ∷ second) (of16 mark_vs ++ (of16 vci ++ (m ∷ []))) F 32 (decimal_of C ++ (32 ∷ behind x)) space_ends hf
      ∙ field32 second (of16 mark_vs ++ (of16 vci ++ (m ∷ of32 F))) C 32 (behind x) space_ends hc
      ∙ second_fields (of16 mark_vs ++ (of16 vci ++ (m ∷ (of32 F ++ of32 C)))) x im jf jc jt)

  pub cell_back : (start : ℕ) → length (take octets (drop start trace)) ≡ octets
      → ((i : ℕ) → i < length (take octets (drop start trace)) → get_or (take octets (drop start trace)) i 0 < 256)
      → line false (line_of trace (CA start) ++ s) ≡ next (tells (event_of trace (CA start)) s)
  unfolding line_of Text·line line shaped_line find event_of
  cell_back start e g =
      ap (λ (t : List ℕ). line false (of16 mark_ca ++ (32 ∷ t))) (append_assoc (hex_of (take octets (drop start trace))) (10 ∷ []) s)
      ∙ ap told_by (field_cell (take octets (drop start trace)) (of16 mark_ca) s e g)
