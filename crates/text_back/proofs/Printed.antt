-- A trace printed as a text, and the text written again: of a trace that is readable throughout, the text says its events, so
-- what is written is the trace exactly when each SL directly followed by an SL is full.
use Prim.Native.Nat.{ℕ, zero, suc, ◌+◌, ◌-◌, ◌≤◌, ◌<◌}
use mathlib.Core.Path.{◌≡◌, refl, sym, ap, subst, ◌∙◌}
use mathlib.Core.Bool.{Bool, true, false, ◌&&◌}
use mathlib.Core.List.{List, [], ◌∷◌, ◌++◌}
use native.Mathlib.Omega.{arith}
use Rattle.std.proofs.Common.{Ok, Err}
use Rattle.text_meaning.specs.declared.WriteError.TheVariants.{TooShort}
use borrow.Author.Tests.{le-leb, lt-leb, le-ltb, eq-eqb, ne_eqb, eqb-true, eqb-false}
use lib.ListN.{length, get_or, take, drop, length-append, length-drop}
use lib.Seq.{drop-drop, drop-append_seam, take_at}
use Rattle.meaning.specs.Plain.{next, when◌then◌else◌, ◌<?◌, ◌≤?◌, ◌=?◌}
use Rattle.list_lines.specs.Text.{line as Text·line}
use Rattle.trace_record.specs.Trace.{TraceRecord, GM, VO, VX, CA, SL, VS, PO, PX, Stands, event, finish, refusal, stands_at}
use Rattle.trace_record.specs.Fits.{Fits, stands_fits}
use Rattle.text_meaning.specs.Events.{Event, octets_all, merge, event_of}
use Rattle.text_meaning.specs.Grammar.{tells, line}
use Rattle.text_meaning.specs.Writing.{Answer, placed, behind, line_at, Said, good, bad, onto, events_at, events_from, events, Wrote, wrote, laid, write_said, write_text}
use Rattle.text_trip.specs.Settled.{Settled}
use Rattle.text_trip.specs.Reading.{read_at, read_from, read}
use Rattle.text_trip.proofs.Trip.{trip}
use Rattle.text_print.specs.Print.{opening_line, closing_line, line_of, text_from, text_of}
use Rattle.text_print.specs.Fill.{NoRecord}
use Rattle.text_print.proofs.Whole.{text_step, text_over}
use Rattle.text_print.proofs.Within.{read_within}
use Rattle.text_back.proofs.Bounds.{line_back}

-- what was read behind an event
record Rest (e : Event) (q : Said) (es : List Event) : Type 0 where
  pub rest : List Event
  pub said : q ≡ good rest
  pub is : es ≡ e ∷ rest

onto_rest : (e : Event) (q : Said) (es : List Event) → onto e q ≡ good es → Rest e q es
unfolding onto
onto_rest e (good fs) es h = record { rest = fs; said = refl; is = cc }
onto_rest e (bad p) es h = let z : ◌≡◌ {A = ℕ} 0 1 = cc in absurd (omega arith)

-- the line at a place of a text, where it is known what the octets from there on are
line_known : (text : List ℕ) (p : ℕ) (first : Bool) (d : List ℕ) (e : Event) (rest : List ℕ) → (p =? 0) ≡ first → drop p text ≡ d
    → line first d ≡ next (tells e rest) → line_at text p ≡ next (placed e (length text - length rest))
unfolding line_at behind
line_known text p first d e rest f g h =
    ap (λ (b : Bool). behind (length text) (line b (drop p text))) f ∙ ap (λ (x : List ℕ). behind (length text) (line first x)) g ∙ ap (behind (length text)) h

never : (b c : Bool) → c ≡ false → (b && c) ≡ false
never true c e = e
never false c e = refl

-- one line, and then what follows it
events_one : (k : ℕ) (text : List ℕ) (p : ℕ) (e : Event) (q : ℕ) (es : List Event) → p < length text → line_at text p ≡ next (placed e q)
    → events_from k text q ≡ good es → events_from (suc k) text p ≡ good (e ∷ es)
unfolding events_from events_at onto
events_one k text p e q es h l on =
    ap (λ (b : Bool). when b then good [] else events_at (events_from k text) p (line_at text p)) (never (1 ≤? p) (length text ≤? p) (lt-leb (length text) p h))
    ∙ ap (events_at (events_from k text) p) l
    ∙ ap (onto e) on

events_end : (k : ℕ) (text : List ℕ) (p : ℕ) → 0 < p → length text ≤ p → events_from (suc k) text p ≡ good []
unfolding events_from
events_end k text p h l =
    ap (λ (b : Bool). when b && length text ≤? p then good [] else events_at (events_from k text) p (line_at text p)) (le-leb 1 p h)
    ∙ ap (λ (b : Bool). when b then good [] else events_at (events_from k text) p (line_at text p)) (le-leb (length text) p l)

-- first here and there
same_first : (p at : ℕ) → (p ≡ 0 → at ≡ 0) → (at ≡ 0 → p ≡ 0) → (b : Bool) → (at =? 0) ≡ b → (p =? 0) ≡ b
same_first p at f g true e = eq-eqb p 0 (g (eqb-true at 0 e))
same_first p at f g false e = ne_eqb p 0 (λ z. eqb-false at 0 e (f z))

module _ (s : List ℕ) (b : (i : ℕ) → get_or s i 0 < 256) where
  abbrev text : List ℕ
  text = text_of s

  abbrev long : ℕ
  long = length s + 1

  -- place p of the text is where the lines from place at of the trace on begin
  record At (p at : ℕ) : Type 0 where
    pub here : drop p text ≡ text_from long s at
    pub within : p ≤ length text
    pub first : p ≡ 0 → at ≡ 0
    pub begins : at ≡ 0 → p ≡ 0

  positive : (n : ℕ) → (n ≡ 0 → ⊥) → 0 < n
  positive n h = omega arith

  -- a line has octets
  line_some : (r : TraceRecord) → 0 < length (line_of s r)
  unfolding line_of opening_line closing_line Text·line
  line_some (GM N z head) = omega arith
  line_some (VO vci m F C) = omega arith
  line_some (VX vci) = omega arith
  line_some (VS vci m F C x) = omega arith
  line_some (PO vpi m F C) = omega arith
  line_some (PX vpi) = omega arith
  line_some (CA start) = omega arith
  line_some (SL count) = omega arith

  printed_at : (i j p at : ℕ) (es : List Event) → At p at → length text < suc j + p → (x : Stands) → stands_at s at ≡ x
      → ((q n : ℕ) (fs : List Event) → At q n → length text < j + q → read_from i s n ≡ good fs → events_from j text q ≡ good fs)
      → read_at (read_from i s) s x ≡ good es → events_from (suc j) text p ≡ good es
  unfolding read_at
  printed_at i j p at es a h (refusal number place) e on r = let z : ◌≡◌ {A = ℕ} 0 1 = cc in absurd (omega arith)
  printed_at i j p at es a h finish e on r =
      let f : Fits s at finish = subst (Fits s at) e (stands_fits s at) in
      let o : text_from long s at ≡ [] = text_over s long at (subst NoRecord (sym e) (omega arith)) in
      let l = length-drop p text in
      let m = ap length (a.here ∙ o) in
      let w : p ≡ 0 → at ≡ 0 = a.first in
      let z : es ≡ [] = cc in
      events_end j text p (positive p (λ q. omega (arith, a.first q, f.0))) (omega (arith, l, m)) ∙ ap good (sym z)
  printed_at i j p at es a h (event rec n) e on r =
      let t = text_from long s n in
      let d : drop p text ≡ line_of s rec ++ t = a.here ∙ text_step s long at rec n (omega arith) e in
      let c = onto_rest (event_of s rec) (read_from i s n) es r in
      let g = line_some rec in
      let w = read_within s at rec n e in
      let l = length-drop p text in
      let m = ap length d ∙ length-append (line_of s rec) t in
      let q = length text - length t in
      let u : q ≡ p + length (line_of s rec) = omega (arith, l, m, g, a.within) in
      let k = line_known text p (at =? 0) (line_of s rec ++ t) (event_of s rec) t (same_first p at a.first a.begins (at =? 0) refl) d (line_back s b at rec n t e) in
      let v : drop q text ≡ t = ap (λ (x : ℕ). drop x text) u ∙ sym (drop-drop (length (line_of s rec)) p text) ∙ ap (drop (length (line_of s rec))) d ∙ drop-append_seam (line_of s rec) t in
      let y : At q n = record { here = v; within = omega (arith, u, l, m, g); first = λ z. absurd (omega (arith, z, u, g)); begins = λ z. absurd (omega (arith, z, w.1)) } in
      events_one j text p (event_of s rec) q c.rest (omega (arith, l, m, g)) k (on q n c.rest y (omega (arith, h, u, g)) c.said) ∙ ap good (sym c.is)

  printed_from : (i j p at : ℕ) (es : List Event) → At p at → length text < j + p → read_from i s at ≡ good es → events_from j text p ≡ good es
  unfolding read_from
  printed_from zero j p at es a h r = let z : ◌≡◌ {A = ℕ} 0 1 = cc in absurd (omega arith)
  printed_from (suc i) zero p at es a h r = absurd (omega (arith, h, a.within))
  printed_from (suc i) (suc j) p at es a h r = printed_at i j p at es a h (stands_at s at) refl (λ q n fs. printed_from i j q n fs) r

  -- the text of a readable trace says the trace's events
  pub printed_events : (es : List Event) → read s ≡ good es → events (text_of s) ≡ good es
  unfolding read events text_of
  printed_events es r =
      printed_from (length s + 1) (length text + 1) 0 0 es (record { here = refl; within = omega arith; first = λ z. z; begins = λ z. z }) (omega arith) r

  -- `scribe` of what `unscribe` prints gives a trace back that is in the form: 0, its length, its octets
  pub printed_written : (es : List Event) (output : List ℕ) → read s ≡ good es → Settled es → length s ≤ length output
      → write_text (text_of s) output ≡ wrote (Ok (length s)) (s ++ drop (length s) output)
  unfolding write_text write_said laid
  printed_written es output r f h =
      ap (λ (q : Said). write_said q output) (printed_events es r)
      ∙ ap (λ (o : List ℕ). laid o output) ((trip s b es r).0 f)
      ∙ ap (λ (t : Bool). when t then wrote (Err (TooShort 0)) output else wrote (Ok (length s)) (s ++ drop (length s) output)) (le-ltb (length output) (length s) h)

  -- and no other: where it gives the trace back, each SL directly followed by an SL is full
  pub written_settled : (es : List Event) (output : List ℕ) → read s ≡ good es
      → write_text (text_of s) output ≡ wrote (Ok (length s)) (s ++ drop (length s) output) → Settled es
  unfolding write_text write_said laid
  written_settled es output r w =
      let o = octets_all (merge es) in
      let e : laid o output ≡ wrote (Ok (length s)) (s ++ drop (length s) output) = sym (ap (λ (q : Said). write_said q output) (printed_events es r)) ∙ w in
      (trip s b es r).1 (laid_is o output (length output <? length o) e)
    where
      laid_is : (o output : List ℕ) (t : Bool) → (when t then wrote (Err (TooShort 0)) output else wrote (Ok (length o)) (o ++ drop (length o) output)) ≡ wrote (Ok (length s)) (s ++ drop (length s) output) → o ≡ s
      laid_is o output true e = let z : ◌≡◌ {A = Answer} (Err (TooShort 0)) (Ok (length s)) = ap (λ (x : Wrote). x.answer) e in absurd (cc)
      laid_is o output false e =
          let z : ◌≡◌ {A = Answer} (Ok (length o)) (Ok (length s)) = ap (λ (x : Wrote). x.answer) e in
          let l : length o ≡ length s = cc in
          sym (take_at o (drop (length o) output) (length o) refl)
          ∙ ap (λ (x : Wrote). take (length o) x.output) e
          ∙ take_at s (drop (length s) output) (length o) (sym l)
