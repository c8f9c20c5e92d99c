-- W4, the promise of a record's writer and the reader of the trace: what was written is read back, and no other octet changed;
-- 10 exactly where no octets would be read so; 14 exactly where otherwise the record doesn't fit.
use Prim.Native.Nat.{ℕ, ◌+◌, ◌≤◌, ◌<◌}
use mathlib.Core.Path.{◌≡◌, refl, sym, ap, subst, ◌∙◌}
use mathlib.Core.Bool.{Bool, true, false, ◌&&◌}
use mathlib.Core.Logic.{⊎_elim}
use mathlib.Core.List.{List, ◌++◌}
use lib.ListN.{length, get_or, take, drop, replicate, length-replicate, length-drop}
use lib.Seq.{length-take-le}
use borrow.Author.Tests.{leb-true, leb-false, eqb-true, eqb-false, le-leb, eq-eqb, ne_eqb}
use native.Mathlib.Omega.{arith}
use Rattle.std.proofs.Common.{Ok, Err}
use Rattle.meaning.specs.Plain.{when◌then◌else◌, ◌≤?◌, ◌=?◌}
use Rattle.meaning.specs.Numbers.{octets}
use Rattle.trace_record.specs.Trace.{event, mark_ca, long_ca}
use Rattle.trace_record.specs.Fits.{Fits, stands_fits}
use Rattle.list_lines.specs.Put.{puts}
use Rattle.text_meaning.specs.declared.WriteError.{WriteError}
use Rattle.text_meaning.specs.declared.WriteError.TheVariants.{Unreadable, TooShort}
use Rattle.text_meaning.specs.Writing.{Answer, number_in}
use Rattle.text_meaning.specs.Shapes.{of16}
use Rattle.text_meaning.specs.Events.{told, event_of}
use Rattle.text_record.specs.Record.{Given, GM, VO, VX, CA, SL, VS, PO, PX, record_octets, allowed_at, record_at}
use Rattle.text_record.specs.Promises.{answer_at, number_at, output_at, WritePromise}
use Rattle.text_record.specs.Back.{Reads, Kept}
use Rattle.text_record.proofs.Puts.{puts_length, puts_before, puts_behind}
use Rattle.text_record.proofs.Back.{setup_back, open_back, sustain_back, close_back, path_back, path_close_back, pause_back, cell_back, cell_same}

both : (a b : Bool) → a && b ≡ true → (a ≡ true) × (b ≡ true)
both true true h = (refl, refl)
both true false h = (refl, h)
both false b h = (h, cc)

not_zero : (n : ℕ) → (1 ≤? n) ≡ true → n ≡ 0 → ⊥
not_zero n t e = let h = leb-true 1 n t in omega arith

-- a record that the reader would not refuse, put where it has room, is read there
pub put_reads : (out : List ℕ) (at : ℕ) (r : Given) → allowed_at at r ≡ true → at + length (record_octets r) ≤ length out
    → Reads (puts out at (record_octets r)) at r
unfolding allowed_at record_octets record_at event_of
put_reads out at (GM N z head) a h = record { stands = setup_back out at N z head (eqb-true at 0 a) h; says = refl }
put_reads out at (VO vci m F C) a h = record { stands = open_back out at (not_zero at a) vci m F C h; says = refl }
put_reads out at (VS vci m F C x) a h = record { stands = sustain_back out at (not_zero at a) vci m F C x h; says = refl }
put_reads out at (PO vpi m F C) a h = record { stands = path_back out at (not_zero at a) vpi m F C h; says = refl }
put_reads out at (PX vpi) a h = record { stands = path_close_back out at (not_zero at a) vpi h; says = refl }
put_reads out at (VX vci) a h = record { stands = close_back out at (not_zero at a) vci h; says = refl }
put_reads out at (SL count) a h =
    let t = both (1 ≤? at) (1 ≤? count) a in
    record { stands = pause_back out at (not_zero at t.0) count (not_zero count t.1) h; says = refl }
put_reads out at (CA cell) a h =
    let t = both (1 ≤? at) (length cell =? octets) a in let e = eqb-true (length cell) octets t.1 in
    let w : at + long_ca ≤ length out = omega (arith, h, e) in
    record {
      stands = cell_back out at (not_zero at t.0) cell e w ∙ ap (λ (n : ℕ). event (record_at at (CA cell)) n) (omega (arith, e));
      says = ap (λ (c : List ℕ). told (of16 mark_ca ++ c)) (cell_same out at (not_zero at t.0) cell e w);
    }

differ : {a b : Bool} → a ≡ true → b ≡ true → a && b ≡ false → ⊥
differ {a} {b} h k e =
    let t : (a && b) ≡ true = simp (h, k) in
    let z : true ≡ false = sym t ∙ e in
    let n : ◌≡◌ {A = ℕ} 0 1 = cc in omega arith

-- what the reader reads at a place is what it allows there
allowed_there : (trace : List ℕ) (at : ℕ) (r : Given) → Reads trace at r → Fits trace at (event (record_at at r) (at + length (record_octets r)))
allowed_there trace at r q = subst (Fits trace at) q.stands (stands_fits trace at)

not_later : (at : ℕ) → (1 ≤? at) ≡ false → 0 < at → ⊥
not_later at a h = let l = leb-false 1 at a in omega arith

never_read : (trace : List ℕ) (at : ℕ) (r : Given) → allowed_at at r ≡ false → Reads trace at r → ⊥
unfolding allowed_at record_octets record_at event_of
never_read trace at (GM N z head) a q = eqb-false at 0 a (allowed_there trace at (GM N z head) q).2
never_read trace at (VO vci m F C) a q = not_later at a (allowed_there trace at (VO vci m F C) q).2
never_read trace at (VS vci m F C x) a q = not_later at a (allowed_there trace at (VS vci m F C x) q).2
never_read trace at (VX vci) a q = not_later at a (allowed_there trace at (VX vci) q).2
never_read trace at (PO vpi m F C) a q = not_later at a (allowed_there trace at (PO vpi m F C) q).2
never_read trace at (PX vpi) a q = not_later at a (allowed_there trace at (PX vpi) q).2
never_read trace at (SL count) a q =
    let f = allowed_there trace at (SL count) q in differ (le-leb 1 at f.2.0) (le-leb 1 count f.2.1) a
never_read trace at (CA cell) a q =
    let f : Fits trace at (event (record_at at (CA cell)) _) = subst (Fits trace at) q.stands (stands_fits trace at) in
    let t : length (take octets (drop (at + 2) trace)) ≡ octets = length-take-le octets (drop (at + 2) trace) (omega (arith, length-drop (at + 2) trace, f.0, f.1)) in
    let e : take octets (drop (at + 2) trace) ≡ cell = cc q.says in
    differ (le-leb 1 at f.2.0) (eq-eqb (length cell) octets (ap length (sym e) ∙ t)) a

-- the tests of an answer
abbrev answer_by : ℕ → ℕ → Bool → Bool → Answer
answer_by q at a b = when a then (when b then Ok q else Err (TooShort at)) else Err (Unreadable at)

tested : (q at : ℕ) (a b : Bool) {n : ℕ} → Ok n ≡ answer_by q at a b → (a ≡ true) × (b ≡ true) × (n ≡ q)
tested q at true true h = (refl, refl, cc)
tested q at true false h = absurd (cc)
tested q at false b h = absurd (cc)

refused_test : (q at : ℕ) (a b : Bool) {p : ℕ} → Err (Unreadable p) ≡ answer_by q at a b → (a ≡ false) × (p ≡ at)
refused_test q at true true h = absurd (cc)
refused_test q at true false h = absurd (cc)
refused_test q at false b h = (refl, cc)

-- the place beside a refusal
abbrev pub place_in : WriteError → ℕ
place_in (Unreadable p) = p
place_in (TooShort p) = p

refused_at : (q at : ℕ) (a b : Bool) {e : WriteError} → Err e ≡ answer_by q at a b → place_in e ≡ at
refused_at q at true true h = absurd (cc)
refused_at q at true false {e} h = let z : e ≡ TooShort at = cc in ap place_in z
refused_at q at false b {e} h = let z : e ≡ Unreadable at = cc in ap place_in z

allowed_test : (q at : ℕ) (a b : Bool) → (Err (Unreadable at) ≡ answer_by q at a b → ⊥) → a ≡ true
allowed_test q at true b h = refl
allowed_test q at false b h = absurd (h refl)

not_done : (e : WriteError) → number_in (Err e) ≡ 0 → ⊥
not_done (Unreadable p) h = omega arith
not_done (TooShort p) h = omega arith

module _ (out : List ℕ) (at : ℕ) (r : Given) (w : Answer) (out' : List ℕ) (p : WritePromise out at r w out') where
  abbrev fits : Bool
  fits = at + length (record_octets r) ≤? length out

  module _ (q : ℕ) (z : w ≡ Ok q) where
    done : (allowed_at at r ≡ true) × (fits ≡ true) × (q ≡ at + length (record_octets r))
    unfolding answer_at
    done = tested (at + length (record_octets r)) at (allowed_at at r) fits (sym z ∙ p.answer)

    put : out' ≡ puts out at (record_octets r)
    unfolding output_at answer_at
    put = let d = done in p.output ∙ simp (d.0, d.1)

    -- "if it answers 0 at p with next place q, the reader at p reads that record and q"
    pub written_reads : Reads out' at r
    written_reads = let d = done in subst (λ (o : List ℕ). Reads o at r) (sym put) (put_reads out at r d.0 (leb-true _ _ d.1))

    pub written_next : q ≡ at + length (record_octets r)
    written_next = done.2

    -- "and only octets p to q-1 changed"
    pub written_kept : Kept out at q out'
    written_kept =
        record {
          long = ap length put ∙ puts_length out at (record_octets r);
          others = λ k h. ap (λ (o : List ℕ). get_or o k 0) put
              ∙ ⊎_elim (puts_before out at (record_octets r) k) (λ b. puts_behind out at (record_octets r) k (omega (arith, b, done.2))) h;
        }

  -- neither refusal changes an octet, and each is said of the very place
  pub refused_kept : (e : WriteError) → w ≡ Err e → (out' ≡ out) × (place_in e ≡ at)
  unfolding output_at answer_at
  refused_kept e z =
      let n : number_at out at r ≡ number_in (Err e) = ap number_in (sym p.answer ∙ z) in (
        p.output ∙ simp (ne_eqb (number_at out at r) 0 (λ k. not_done e (sym n ∙ k))),
        refused_at (at + length (record_octets r)) at (allowed_at at r) fits (sym z ∙ p.answer),
      )

  -- "10 exactly when no octets at p would be read back so": where it answers 10 there are none, and otherwise there are some
  module _ (q : ℕ) (z : w ≡ Err (Unreadable q)) where
    pub refused_never : (trace : List ℕ) → Reads trace at r → ⊥
    unfolding answer_at
    refused_never trace b = never_read trace at r (refused_test (at + length (record_octets r)) at (allowed_at at r) fits (sym z ∙ p.answer)).0 b

    pub refused_there : q ≡ at
    unfolding answer_at
    refused_there = (refused_test (at + length (record_octets r)) at (allowed_at at r) fits (sym z ∙ p.answer)).1

  pub allowed_some : (w ≡ Err (Unreadable at) → ⊥) → Reads (puts (replicate (at + length (record_octets r)) 0) at (record_octets r)) at r
  unfolding answer_at
  allowed_some z =
      put_reads (replicate (at + length (record_octets r)) 0) at r (allowed_test (at + length (record_octets r)) at (allowed_at at r) fits (λ q. z (p.answer ∙ sym q)))
      (omega (arith, length-replicate {A = ℕ} (at + length (record_octets r)) 0))
