-- What a text comes to, by the answer: the trace in its buffer, or one line in the other.
use Prim.Native.Nat.{ℕ, ◌≤◌, ◌<◌}
use mathlib.Core.Path.{◌≡◌, refl, sym, ap, ◌∙◌}
use mathlib.Core.Bool.{Bool}
use mathlib.Core.List.{List, [], ◌∷◌, ◌++◌}
use native.Mathlib.Decide.{dec_lt}
use native.Mathlib.Omega.{arith}
use Rattle.std.proofs.Common.{Ok, Err}
use borrow.Author.Tests.{lt-ltb, le-ltb}
use lib.ListN.{length, take, drop}
use Rattle.meaning.specs.Plain.{when◌then◌else◌}
use Rattle.list_lines.specs.Text.{line}
use Rattle.list_lines.specs.Lines.{stop_line}
use Rattle.list_lines.specs.Put.{Put, puts}
use Rattle.list_lines.proofs.Puts.{put_is, put_none, put_whole}
use Rattle.text_meaning.specs.declared.WriteError.TheVariants.{Unreadable, TooShort}
use Rattle.text_meaning.specs.Events.{Event, octets_all, merge}
use Rattle.text_meaning.specs.Writing.{Answer, Said, good, bad, events, Wrote, wrote, write_said, write_text}
use Rattle.text_trip.specs.Flow.{stream, judged}
use Rattle.text_trip.proofs.Streams.{merged, stream_merged}
use Rattle.text_write.proofs.Fit.{judged_short, judged_fits, judged_bad}
use Rattle.text_write.proofs.Answer.{laid_short, laid_fits}
use Rattle.text_scribe.specs.Scribe.{limit, goes_further, said_of, short_line, trace_of, error_of}

-- ---- a text within the limit, and one that goes on

within : (input : List ℕ) → length input ≤ limit → said_of input ≡ events input
unfolding said_of
within input h = ap (λ (b : Bool). when b then goes_further limit (events (take limit input)) else events input) (le-ltb limit (length input) h)

beyond : (input : List ℕ) → limit < length input → said_of input ≡ goes_further limit (events (take limit input))
unfolding said_of
beyond input h = ap (λ (b : Bool). when b then goes_further limit (events (take limit input)) else events input) (lt-ltb limit (length input) h)

pub said_within : (input out : List ℕ) → length input ≤ limit → write_text input out ≡ write_said (said_of input) out
unfolding write_text
said_within input out h = ap (λ (s : Said). write_said s out) (sym (within input h))

goes_stop : (n : ℕ) (s : Said) (p : ℕ) → Err (Unreadable p) ≡ judged 0 (merged s) → goes_further n s ≡ bad p
unfolding goes_further
goes_stop n (bad q) p e = let z : ◌≡◌ {A = Answer} (Err (Unreadable p)) (Err (Unreadable q)) = e ∙ judged_bad 0 q in ap (λ (k : ℕ). bad k) (cc)
goes_stop n (good es) p e = go (dec_lt 0 (length (octets_all (merge es))))
  where
    o : List ℕ
    o = octets_all (merge es)

    go : Dec (0 < length o) → bad n ≡ bad p
    go (yes h) = let z : ◌≡◌ {A = Answer} (Err (Unreadable p)) (Err (TooShort 0)) = e ∙ judged_short 0 o h in absurd (cc)
    go (no h) = let z : ◌≡◌ {A = Answer} (Err (Unreadable p)) (Ok (length o)) = e ∙ judged_fits 0 o (omega arith) in absurd (cc)

goes_good : (n : ℕ) (s : Said) (a : Answer) → a ≡ judged 0 (merged s) → ((p : ℕ) → a ≡ Err (Unreadable p) → ⊥) → goes_further n s ≡ bad n
unfolding goes_further
goes_good n (good es) a e z = refl
goes_good n (bad p) a e z = absurd (z p (e ∙ judged_bad 0 p))

-- the front was judged
module _ (input out : List ℕ) (h : limit < length input) where
  pub said_stop : (p : ℕ) → Err (Unreadable p) ≡ judged 0 (stream (take limit input)) → wrote (Err (Unreadable p)) out ≡ write_said (said_of input) out
  unfolding write_said
  said_stop p e =
      ap (λ (s : Said). write_said s out)
      (sym (beyond input h ∙ goes_stop limit (events (take limit input)) p (e ∙ ap (judged 0) (stream_merged (take limit input)))))

  pub said_beyond : (a : Answer) → a ≡ judged 0 (stream (take limit input)) → ((p : ℕ) → a ≡ Err (Unreadable p) → ⊥) → wrote (Err (Unreadable limit)) out ≡ write_said (said_of input) out
  unfolding write_said
  said_beyond a e z =
      ap (λ (s : Said). write_said s out)
      (sym (beyond input h ∙ goes_good limit (events (take limit input)) a (e ∙ ap (judged 0) (stream_merged (take limit input))) z))

-- ---- what is handed over

traces_short : (es : List Event) (room : ℕ) → room < length (octets_all (merge es)) → (trace_of (good es) room ≡ []) × (error_of (good es) room ≡ short_line)
unfolding trace_of error_of
traces_short es room h = (
  ap (λ (b : Bool). when b then [] else octets_all (merge es)) (lt-ltb room (length (octets_all (merge es))) h),
  ap (λ (b : Bool). when b then short_line else []) (lt-ltb room (length (octets_all (merge es))) h),
)

traces_fits : (es : List Event) (room : ℕ) → length (octets_all (merge es)) ≤ room → (trace_of (good es) room ≡ octets_all (merge es)) × (error_of (good es) room ≡ [])
unfolding trace_of error_of
traces_fits es room h = (
  ap (λ (b : Bool). when b then [] else octets_all (merge es)) (le-ltb room (length (octets_all (merge es))) h),
  ap (λ (b : Bool). when b then short_line else []) (le-ltb room (length (octets_all (merge es))) h),
)

unwritten : {out out' o : List ℕ} → out' ≡ out → o ≡ [] → Put out 0 o out' 0
unwritten {out} {out'} {o} e f = put_is f (rw e (put_none out 0))

written : (out o : List ℕ) {out' : List ℕ} → length o ≤ length out → out' ≡ o ++ drop (length o) out → Put out 0 o out' (length o)
written out o h e =
    let q : Put out 0 o (puts out 0 o) (length o) = record { list = refl; next = omega arith } in
    record { list = e ∙ sym (put_whole q h); next = omega arith }

-- the three answers
module _ (out out' : List ℕ) where
  pub came_all : (s : Said) (n : ℕ) → wrote (Ok n) out' ≡ write_said s out → Put out 0 (trace_of s (length out)) out' n × (error_of s (length out) ≡ []) × (n ≤ length out)
  unfolding write_said
  came_all (bad p) n e = let z : ◌≡◌ {A = Answer} (Ok n) (Err (Unreadable p)) = ap (λ (x : Wrote). x.answer) e in absurd (cc)
  came_all (good es) n e = go (dec_lt (length out) (length (octets_all (merge es))))
    where
      go : Dec (length out < length (octets_all (merge es))) → Put out 0 (trace_of (good es) (length out)) out' n × (error_of (good es) (length out) ≡ []) × (n ≤ length out)
      go (yes h) = let z : ◌≡◌ {A = Answer} (Ok n) (Err (TooShort 0)) = ap (λ (x : Wrote). x.answer) (e ∙ laid_short (octets_all (merge es)) out h) in absurd (cc)
      go (no h) =
          let b : length (octets_all (merge es)) ≤ length out = omega arith in
          let f = e ∙ laid_fits (octets_all (merge es)) out b in
          let t = traces_fits es (length out) b in
          let z : ◌≡◌ {A = Answer} (Ok n) (Ok (length (octets_all (merge es)))) = ap (λ (x : Wrote). x.answer) f in
          let m : n ≡ length (octets_all (merge es)) = cc in
          (put_is t.0 (rw m (written out (octets_all (merge es)) b (ap (λ (x : Wrote). x.output) f))), t.1, omega (arith, m, b))

  pub came_none : (s : Said) (p : ℕ) → wrote (Err (Unreadable p)) out' ≡ write_said s out → Put out 0 (trace_of s (length out)) out' 0 × (error_of s (length out) ≡ stop_line p)
  unfolding write_said trace_of error_of
  came_none (bad q) p e =
      let z : ◌≡◌ {A = Answer} (Err (Unreadable p)) (Err (Unreadable q)) = ap (λ (x : Wrote). x.answer) e in
      let m : p ≡ q = cc in (unwritten (ap (λ (x : Wrote). x.output) e) refl, ap stop_line (sym m))
  came_none (good es) p e = go (dec_lt (length out) (length (octets_all (merge es))))
    where
      go : Dec (length out < length (octets_all (merge es))) → Put out 0 (trace_of (good es) (length out)) out' 0 × (error_of (good es) (length out) ≡ stop_line p)
      go (yes h) = let z : ◌≡◌ {A = Answer} (Err (Unreadable p)) (Err (TooShort 0)) = ap (λ (x : Wrote). x.answer) (e ∙ laid_short (octets_all (merge es)) out h) in absurd (cc)
      go (no h) = let z : ◌≡◌ {A = Answer} (Err (Unreadable p)) (Ok (length (octets_all (merge es)))) = ap (λ (x : Wrote). x.answer) (e ∙ laid_fits (octets_all (merge es)) out (omega arith)) in absurd (cc)

  pub came_short : (s : Said) (q : ℕ) → wrote (Err (TooShort q)) out' ≡ write_said s out → Put out 0 (trace_of s (length out)) out' 0 × (error_of s (length out) ≡ short_line)
  unfolding write_said
  came_short (bad p) q e = let z : ◌≡◌ {A = Answer} (Err (TooShort q)) (Err (Unreadable p)) = ap (λ (x : Wrote). x.answer) e in absurd (cc)
  came_short (good es) q e = go (dec_lt (length out) (length (octets_all (merge es))))
    where
      go : Dec (length out < length (octets_all (merge es))) → Put out 0 (trace_of (good es) (length out)) out' 0 × (error_of (good es) (length out) ≡ short_line)
      go (yes h) =
          let t = traces_short es (length out) h in
          (unwritten (ap (λ (x : Wrote). x.output) (e ∙ laid_short (octets_all (merge es)) out h)) t.0, t.1)
      go (no h) = let z : ◌≡◌ {A = Answer} (Err (TooShort q)) (Ok (length (octets_all (merge es)))) = ap (λ (x : Wrote). x.answer) (e ∙ laid_fits (octets_all (merge es)) out (omega arith)) in absurd (cc)

pub short_words : short_line ≡ 115 ∷ 116 ∷ 111 ∷ 112 ∷ 32 ∷ 49 ∷ 52 ∷ 10 ∷ []
unfolding short_line line
short_words = refl
