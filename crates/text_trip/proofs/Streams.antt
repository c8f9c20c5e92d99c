-- Written line by line, a text comes to the octets of its merged events: what is carried from line to line is the rest of
-- a pause, and full records are never taken back.
use Prim.Native.Nat.{ℕ, zero, suc, ◌+◌, ◌*◌, ◌/◌, ◌%◌, ◌≤◌, ◌<◌}
use mathlib.Core.Path.{◌≡◌, refl, sym, ap, ◌∙◌}
use mathlib.Core.Bool.{Bool, true, false, ◌&&◌}
use mathlib.Core.List.{List, [], ◌∷◌, ◌++◌, append_assoc, append-nil}
use native.Mathlib.Omega.{arith}
use lib.ListN.{length}
use Rattle.meaning.specs.Plain.{Out, refused, next, when◌then◌else◌, ◌≤?◌}
use Rattle.text_meaning.specs.Events.{Event, told, pause, full, fulls, rest_of, octets_of, octets_all, join, merge}
use Rattle.text_meaning.specs.Writing.{Placed, line_at, Said, good, bad, onto, events_at, events_from, events}
use Rattle.text_trip.proofs.Merge.{join_none, join_join, join_full, pause_rest}
use Rattle.text_trip.specs.Flow.{Flow, flow, step, ending, Streamed, whole, stopped, stream_at, stream_from, stream}

unfoldable flowed : Flow → List Event → Flow
flowed f [] = f
flowed f (e ∷ es) = flowed (step f e) es

unfoldable finish : Flow → Said → Streamed
finish f (good es) = whole (ending (flowed f es))
finish f (bad p) = stopped p

finish_onto : (f : Flow) (e : Event) (s : Said) → finish (step f e) s ≡ finish f (onto e s)
unfolding finish onto flowed
finish_onto f e (good es) = refl
finish_onto f e (bad p) = refl

-- one line, where what follows is known
stream_line : (k : ℕ) (text : List ℕ) (p : ℕ) (f : Flow) (o : Out Placed)
    → ((q : ℕ) (g : Flow) → stream_from k text q g ≡ finish g (events_from k text q))
    → stream_at (stream_from k text) p f o ≡ finish f (events_at (events_from k text) p o)
unfolding finish stream_at events_at
stream_line k text p f refused on = refl
stream_line k text p f (next l) on = on l.place (step f l.event) ∙ finish_onto f l.event (events_from k text l.place)

stream_or : (text : List ℕ) (f : Flow) (b : Bool) (x : Streamed) (y : Said) → x ≡ finish f y
    → (when b then whole (ending f) else x) ≡ finish f (when b then good [] else y)
unfolding finish flowed
stream_or text f true x y e = refl
stream_or text f false x y e = e

stream_events : (k : ℕ) (text : List ℕ) (p : ℕ) (f : Flow) → stream_from k text p f ≡ finish f (events_from k text p)
unfolding stream_from events_from finish
stream_events zero text p f = refl
stream_events (suc k) text p f =
    stream_or text f (1 ≤? p && length text ≤? p) (stream_at (stream_from k text) p f (line_at text p)) (events_at (events_from k text) p (line_at text p)) (stream_line k text p f (line_at text p) (λ q g. stream_events k text q g))

-- what a rest and the events behind it come to
ending_flowed : (o : List ℕ) (r : ℕ) (es : List Event) → r < full → ending (flowed (flow o r) es) ≡ o ++ octets_all (join r (merge es))
unfolding flowed ending step merge join octets_all octets_of
ending_flowed o r [] h = ap (λ (x : List ℕ). o ++ x) (sym (pause_rest r h) ∙ sym (append-nil (octets_of (pause r))))
ending_flowed o r (told x ∷ es) h =
    ending_flowed (o ++ (rest_of r ++ x)) 0 es (omega arith)
    ∙ ap (λ (y : List ℕ). (o ++ (rest_of r ++ x)) ++ y) (join_none (merge es))
    ∙ append_assoc o (rest_of r ++ x) (octets_all (merge es))
    ∙ ap (λ (y : List ℕ). o ++ y) (append_assoc (rest_of r) x (octets_all (merge es)))
    ∙ ap (λ (y : List ℕ). o ++ (y ++ (octets_of (told x) ++ octets_all (merge es)))) (sym (pause_rest r h))
ending_flowed o r (pause n ∷ es) h =
    let e : (r + n) / full * full + (r + n) % full ≡ r + n = omega arith in
    ending_flowed (o ++ fulls ((r + n) / full)) ((r + n) % full) es (omega arith)
    ∙ append_assoc o (fulls ((r + n) / full)) (octets_all (join ((r + n) % full) (merge es)))
    ∙ ap (λ (y : List ℕ). o ++ y)
    (sym (join_full ((r + n) / full) ((r + n) % full) (merge es))
    ∙ ap (λ (k : ℕ). octets_all (join k (merge es))) e
    ∙ ap octets_all (sym (join_join r n (merge es))))

abbrev pub merged : Said → Streamed
merged (good es) = whole (octets_all (merge es))
merged (bad p) = stopped p

finish_merged : (s : Said) → finish (flow [] 0) s ≡ merged s
unfolding finish
finish_merged (good es) = ap whole (ending_flowed [] 0 es (omega arith) ∙ join_none (merge es))
finish_merged (bad p) = refl

pub stream_merged : (text : List ℕ) → stream text ≡ merged (events text)
unfolding stream events
stream_merged text = stream_events (length text + 1) text 0 (flow [] 0) ∙ finish_merged (events_from (length text + 1) text 0)
