-- Of a whole text: its events begin with a GM kind and have no other, line after line; so what was written of it is read back
-- as its events, adjoining pauses added together.
use Prim.Native.Nat.{ℕ, zero, suc, ◌+◌, ◌≤◌, ◌<◌}
use mathlib.Core.Path.{◌≡◌, refl, ap, subst, ◌∙◌}
use mathlib.Core.Bool.{Bool, true, false, ◌&&◌}
use mathlib.Core.List.{List, [], ◌++◌}
use native.Mathlib.Omega.{arith}
use Rattle.std.proofs.Common.{Ok, Err}
use Rattle.text_meaning.specs.declared.WriteError.TheVariants.{TooShort}
use borrow.Author.Tests.{leb-true, ne_eqb}
use lib.ListN.{length, take, drop, length-drop}
use lib.Seq.{take_at}
use Rattle.meaning.specs.Plain.{Out, refused, next, when◌then◌else◌, ◌<?◌, ◌≤?◌, ◌=?◌}
use Rattle.text_meaning.specs.Events.{Event, octets_all, merge}
use Rattle.text_meaning.specs.Grammar.{Told, line}
use Rattle.text_meaning.specs.Writing.{Placed, behind, line_at, Said, good, bad, onto, events_at, events_from, events, Wrote, wrote, laid, write_said, write_text}
use Rattle.text_trip.specs.Reading.{read}
use Rattle.text_back.specs.Back.{Sayable, Later, Begun, WrittenBack}
use Rattle.text_back.proofs.ReadBack.{read_back}
use Rattle.text_back.proofs.Says.{Holds, place_of, LineSays, line_said}

-- what is said from place p on
abbrev Fine : ℕ → Said → Type 0
Fine p (bad q) = 0 ≤ 0
Fine zero (good es) = Begun es
Fine (suc p) (good es) = Later es

fine_onto : (p q : ℕ) (e : Event) (s : Said) → Sayable (place_of (p =? 0)) e → 0 < q → Fine q s → Fine p (onto e s)
unfolding onto
fine_onto p zero e s h l f = absurd (omega arith)
fine_onto p (suc q) e (bad r) h l f = omega arith
fine_onto zero (suc q) e (good es) h l f = (h, f)
fine_onto (suc p) (suc q) e (good es) h l f = (subst (λ (b : Bool). Sayable (place_of b) e) (ne_eqb (suc p) 0 (λ z. omega arith)) h, f)

-- a line's event, and its place, which is never the first
record LineFine (p : ℕ) (l : Placed) : Type 0 where
  pub sayable : Sayable (place_of (p =? 0)) l.event
  pub later : 0 < l.place

line_fine : (text : List ℕ) (p : ℕ) → Holds (LineFine p) (line_at text p)
unfolding line_at behind
line_fine text p = go (line (p =? 0) (drop p text)) (line_said (p =? 0) (drop p text))
  where
    go : (x : Out Told) → Holds (LineSays (p =? 0) (drop p text)) x → Holds (LineFine p) (behind (length text) x)
    go refused h = omega arith
    go (next t) h = let l = length-drop p text in record { sayable = h.sayable; later = omega (arith, l, h.left) }

module _ (text : List ℕ) where
  fine_line : (k p : ℕ) (x : Out Placed) → Holds (LineFine p) x → ((q : ℕ) → Fine q (events_from k text q))
      → Fine p (events_at (events_from k text) p x)
  unfolding events_at
  fine_line k p refused h on = omega arith
  fine_line k p (next l) h on = fine_onto p l.place l.event (events_from k text l.place) h.sayable h.later (on l.place)

  fine_or : (p : ℕ) (s : Said) (b c : Bool) → (1 ≤? p) ≡ b → Fine p s → Fine p (when b && c then good [] else s)
  fine_or p s false c e f = f
  fine_or p s true false e f = f
  fine_or zero s true true e f = let z = leb-true 1 0 e in absurd (omega arith)
  fine_or (suc p) s true true e f = omega arith

  fine_from : (k p : ℕ) → Fine p (events_from k text p)
  unfolding events_from
  fine_from zero p = omega arith
  fine_from (suc k) p =
      fine_or p (events_at (events_from k text) p (line_at text p)) (1 ≤? p) (length text ≤? p) refl
      (fine_line k p (line_at text p) (line_fine text p) (fine_from k))

-- the events of a good text begin with a GM kind and have no other
pub text_begun : (text : List ℕ) (es : List Event) → events text ≡ good es → Begun es
unfolding events
text_begun text es e = subst (Fine 0) e (fine_from text (length text + 1) 0)

-- of what was laid into an output, the octets are those that it says
laid_front : (o output : List ℕ) (n : ℕ) (b : Bool) → (when b then wrote (Err (TooShort 0)) output else wrote (Ok (length o)) (o ++ drop (length o) output)).answer ≡ Ok n
    → take n (when b then wrote (Err (TooShort 0)) output else wrote (Ok (length o)) (o ++ drop (length o) output)).output ≡ o
laid_front o output n true z = absurd (cc)
laid_front o output n false z = let m : length o ≡ n = cc in take_at o (drop (length o) output) n m

written_said : (text output : List ℕ) (n : ℕ) (q : Said) → events text ≡ q → (write_said q output).answer ≡ Ok n
    → write_text text output ≡ write_said q output → WrittenBack text output n
unfolding write_said laid
written_said text output n (bad p) e z w = absurd (cc)
written_said text output n (good es) e z w =
    let r = read_back es (text_begun text es e) in
    record {
      says = es;
      found = r.found;
      told = e;
      reads = ap (λ (x : Wrote). read (take n x.output)) w
          ∙ ap read (laid_front (octets_all (merge es)) output n (length output <? length (octets_all (merge es))) z)
          ∙ r.reads;
      same = r.same;
    }

-- "Reading what was written gives the events back", of every text and every output into which it was written
pub written_back : (text output : List ℕ) (n : ℕ) → (write_text text output).answer ≡ Ok n → WrittenBack text output n
unfolding write_text
written_back text output n z = written_said text output n (events text) refl z refl
