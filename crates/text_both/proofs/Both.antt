-- There and back: the lines of a readable trace end where it ends, and its text says its events, which merged come to its octets.
use Prim.Native.Nat.{ℕ, zero, suc, ◌+◌, ◌≤◌, ◌<◌}
use mathlib.Core.Path.{◌≡◌, refl, ap, subst, ◌∙◌}
use mathlib.Core.Bool.{Bool, true, false, ◌&&◌}
use mathlib.Core.List.{List, []}
use native.Mathlib.Omega.{arith}
use borrow.Author.Tests.{le-leb, le-ltb, eq-eqb}
use lib.ListN.{length, get_or, take}
use Rattle.meaning.specs.Plain.{when◌then◌else◌, ◌<?◌, ◌=?◌}
use Rattle.trace_record.specs.Trace.{Stands, event, finish, refusal, stands_at}
use Rattle.trace_record.specs.Fits.{Fits, stands_fits}
use Rattle.list_lines.specs.Lines.{stop_line}
use Rattle.text_meaning.specs.Events.{Event, octets_all, merge}
use Rattle.text_meaning.specs.Writing.{Said, good, bad, onto, events}
use Rattle.text_trip.specs.Settled.{Settled}
use Rattle.text_trip.specs.Reading.{read_at, read_from, read}
use Rattle.text_trip.proofs.Trip.{trip}
use Rattle.text_print.specs.Print.{text_of}
use Rattle.text_scribe.specs.Scribe.{limit, goes_further, said_of, short_line, trace_of, error_of}
use Rattle.text_show.specs.Shown.{end_at, end_from, end_of, at_end, stop_of}
use Rattle.text_back.proofs.Printed.{printed_events}
use Rattle.text_both.specs.Both.{ThereAndBack}

-- what was read behind an event was good
record Good (q : Said) : Type 0 where
  pub said : List Event
  pub is : q ≡ good said

onto_good : (e : Event) (q : Said) (es : List Event) → onto e q ≡ good es → Good q
unfolding onto
onto_good e (good fs) es h = record { said = fs; is = refl }
onto_good e (bad p) es h = let z : ◌≡◌ {A = ℕ} 0 1 = cc in absurd (omega arith)

module _ (s : List ℕ) where
  -- where reading reaches the end, so do the lines, and the trace isn't empty
  abbrev Ends : ℕ → Type 0
  Ends p = (p ≡ length s) × (0 < length s)

  ends_at : (k at : ℕ) (es : List Event) (x : Stands) → stands_at s at ≡ x → ((n : ℕ) (fs : List Event) → read_from k s n ≡ good fs → Ends (end_from k s n))
      → read_at (read_from k s) s x ≡ good es → Ends (end_at (end_from k s) at x)
  unfolding read_at end_at
  ends_at k at es (event r n) e on h = let g = onto_good _ (read_from k s n) es h in on n g.said g.is
  ends_at k at es finish e on h =
      let f : Fits s at finish = subst (Fits s at) e (stands_fits s at) in (f.1, omega (arith, f.0, f.1))
  ends_at k at es (refusal number place) e on h = let z : ◌≡◌ {A = ℕ} 0 1 = cc in absurd (omega arith)

  ends_from : (k at : ℕ) (es : List Event) → read_from k s at ≡ good es → Ends (end_from k s at)
  unfolding read_from end_from
  ends_from zero at es h = let z : ◌≡◌ {A = ℕ} 0 1 = cc in absurd (omega arith)
  ends_from (suc k) at es h = ends_at k at es (stands_at s at) refl (ends_from k) h

  at_its_end : Ends (end_of s) → at_end (end_of s) (length s) ≡ true
  at_its_end e =
      ap (λ (b : Bool). b && end_of s =? length s) (le-leb 1 (end_of s) (omega (arith, e.0, e.1))) ∙ eq-eqb (end_of s) (length s) e.0

  no_stop : (es : List Event) → read s ≡ good es → stop_of s (length s) ≡ []
  unfolding read end_of stop_of
  no_stop es h = ap (λ (b : Bool). when b then [] else stop_line (end_of s)) (at_its_end (ends_from (length s + 1) 0 es h))

-- a text that the program takes says what it says
said_whole : (text : List ℕ) → length text ≤ limit → said_of text ≡ events text
unfolding said_of
said_whole text h = ap (λ (b : Bool). when b then goes_further limit (events (take limit text)) else events text) (le-ltb limit (length text) h)

pub there_and_back : (s : List ℕ) → ((i : ℕ) → get_or s i 0 < 256) → (es : List Event) (room : ℕ) → read s ≡ good es → Settled es
    → length (text_of s) ≤ limit → length s ≤ room → ThereAndBack s room
unfolding trace_of error_of
there_and_back s b es room r f l h =
    let q : said_of (text_of s) ≡ good es = said_whole (text_of s) l ∙ printed_events s b es r in
    let o : octets_all (merge es) ≡ s = (trip s b es r).0 f in
    let t : (room <? length (octets_all (merge es))) ≡ false = ap (λ (x : List ℕ). room <? length x) o ∙ le-ltb room (length s) h in
    record {
      printed = no_stop s es r;
      written = ap (λ (x : Said). trace_of x room) q ∙ ap (λ (c : Bool). when c then [] else octets_all (merge es)) t ∙ o;
      silent = ap (λ (x : Said). error_of x room) q ∙ ap (λ (c : Bool). when c then short_line else []) t;
    }
