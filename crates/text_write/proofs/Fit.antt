-- A text that was judged good and fits: the octets at each place fit too, since none is ever taken back.
use Prim.Native.Nat.{ℕ, zero, suc, ◌+◌, ◌/◌, ◌≤◌, ◌<◌}
use mathlib.Core.Path.{◌≡◌, refl, sym, ap, ◌∙◌}
use mathlib.Core.Bool.{Bool, true, false, ◌&&◌}
use mathlib.Core.List.{List, [], ◌++◌}
use native.Mathlib.Decide.{dec_lt}
use native.Mathlib.Omega.{arith}
use Rattle.std.proofs.Common.{Ok, Err}
use borrow.Author.Tests.{lt-ltb, le-ltb}
use lib.ListN.{length, length-append}
use Rattle.meaning.specs.Plain.{Out, refused, next, when◌then◌else◌, ◌≤?◌}
use Rattle.text_meaning.specs.declared.WriteError.TheVariants.{Unreadable, TooShort}
use Rattle.text_meaning.specs.Events.{Event, told, pause, full, fulls, rest_of}
use Rattle.text_meaning.specs.Writing.{Placed, line_at, Answer}
use Rattle.text_trip.specs.Flow.{Flow, flow, step, ending, Streamed, whole, stopped, stream_at, stream_from, stream, judged}
use Rattle.text_write.proofs.Reach.{Reached}

pub record Fit (most : ℕ) (s : Streamed) : Type 0 where
  pub octets : List ℕ
  pub is : s ≡ whole octets
  pub fits : length octets ≤ most

abbrev says : List ℕ → Bool → Answer
says o b = when b then Err (TooShort 0) else Ok (length o)

pub judged_short : (most : ℕ) (o : List ℕ) → most < length o → judged most (whole o) ≡ Err (TooShort 0)
unfolding judged
judged_short most o h = ap (says o) (lt-ltb most (length o) h)

pub judged_fits : (most : ℕ) (o : List ℕ) → length o ≤ most → judged most (whole o) ≡ Ok (length o)
unfolding judged
judged_fits most o h = ap (says o) (le-ltb most (length o) h)

pub judged_bad : (most p : ℕ) → judged most (stopped p) ≡ Err (Unreadable p)
unfolding judged
judged_bad most p = refl

pub fit_of : (most : ℕ) (s : Streamed) {n : ℕ} → judged most s ≡ Ok n → Fit most s
fit_of most (stopped p) {n} e = let z : ◌≡◌ {A = Answer} (Err (Unreadable p)) (Ok n) = sym (judged_bad most p) ∙ e in absurd (cc)
fit_of most (whole o) {n} e = go (dec_lt most (length o))
  where
    go : Dec (most < length o) → Fit most (whole o)
    go (yes h) = let z : ◌≡◌ {A = Answer} (Err (TooShort 0)) (Ok n) = sym (judged_short most o h) ∙ e in absurd (cc)
    go (no h) = record { octets = o; is = refl; fits = omega arith }

octets_in : Streamed → List ℕ
octets_in (whole o) = o
octets_in (stopped p) = []

-- the octets of a text that fits are those that were judged
pub fit_long : {most : ℕ} {o : List ℕ} → Fit most (whole o) → length o ≤ most
unfolding octets_in
fit_long {most} {o} f = let z : o ≡ f.octets = ap octets_in f.is in omega (arith, f.fits, ap length z)

pub never : {p : ℕ} {o : List ℕ} → stopped p ≡ whole o → ⊥
never e = let z : ◌≡◌ {A = ℕ} 0 1 = cc in omega arith

step_grows : (f : Flow) (e : Event) → length f.octets ≤ length (step f e).octets
unfolding step
step_grows f (told x) = omega (arith, length-append f.octets (rest_of f.rest ++ x))
step_grows f (pause n) = omega (arith, length-append f.octets (fulls ((f.rest + n) / full)))

end_grows : (f : Flow) {o : List ℕ} → whole (ending f) ≡ whole o → length f.octets ≤ length o
unfolding ending octets_in
end_grows f {o} e =
    let z : f.octets ++ rest_of f.rest ≡ o = ap octets_in e in
    omega (arith, length-append f.octets (rest_of f.rest), ap length z)

-- one line, where what follows is known
line_grows : (k : ℕ) (text : List ℕ) (p : ℕ) (f : Flow) (x : Out Placed) {o : List ℕ}
    → ((q : ℕ) (g : Flow) → stream_from k text q g ≡ whole o → length g.octets ≤ length o)
    → stream_at (stream_from k text) p f x ≡ whole o → length f.octets ≤ length o
unfolding stream_at
line_grows k text p f refused on e = absurd (never e)
line_grows k text p f (next l) on e = omega (arith, step_grows f l.event, on l.place (step f l.event) e)

ends_or : (f : Flow) (b : Bool) (x : Streamed) {o : List ℕ} → (x ≡ whole o → length f.octets ≤ length o)
    → (when b then whole (ending f) else x) ≡ whole o → length f.octets ≤ length o
ends_or f true x h e = end_grows f e
ends_or f false x h e = h e

stream_grows : (k : ℕ) (text : List ℕ) (p : ℕ) (f : Flow) {o : List ℕ} → stream_from k text p f ≡ whole o → length f.octets ≤ length o
unfolding stream_from
stream_grows zero text p f e = absurd (never e)
stream_grows (suc k) text p f e =
    ends_or f (1 ≤? p && length text ≤? p) (stream_at (stream_from k text) p f (line_at text p))
    (λ q. line_grows k text p f (line_at text p) (λ r g z. stream_grows k text r g z) q) e

pub reached_fits : {text : List ℕ} {p rest most : ℕ} {o : List ℕ} → Fit most (stream text) → Reached text p rest o → length o ≤ most
reached_fits {text} {p} {rest} {most} {o} t r =
    omega (arith, stream_grows r.k text p (flow o rest) (sym r.same ∙ t.is), t.fits)
