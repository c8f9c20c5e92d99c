-- What was judged, and what was laid, is what writing the text means: a text comes to the octets of its merged events.
use Rattle.std.proofs.Common.{◌≡◌, ℕ, ◌≤◌, ◌<◌, Ok, Err, Bool, List, ◌++◌, length, drop, refl, sym, ap, ◌∙◌, arith}
use native.Mathlib.Decide.{dec_lt}
use borrow.Author.Tests.{lt-ltb, le-ltb}
use Rattle.std.specs.Result.{IsErrAnd}
use Rattle.meaning.specs.Plain.{when◌then◌else◌}
use Rattle.text_meaning.specs.declared.WriteError.{WriteError}
use Rattle.text_meaning.specs.declared.WriteError.TheVariants.{Unreadable, TooShort}
use Rattle.text_meaning.specs.Writing.{Answer, Said, good, bad, events, Wrote, wrote, laid, write_said, write_text}
use Rattle.text_trip.specs.Flow.{Streamed, whole, stopped, stream, judged}
use Rattle.text_trip.proofs.Streams.{merged, stream_merged}
use Rattle.text_write.specs.Adds.{laid_by}
use Rattle.text_write.proofs.Fit.{judged_short, judged_fits, judged_bad}

final_of : Streamed → List ℕ → Wrote
final_of (whole o) out = laid o out
final_of (stopped p) out = wrote (Err (Unreadable p)) out

final_said : (s : Said) (out : List ℕ) → final_of (merged s) out ≡ write_said s out
unfolding final_of write_said
final_said (good es) out = refl
final_said (bad p) out = refl

final_text : (text out : List ℕ) → final_of (stream text) out ≡ write_text text out
unfolding write_text
final_text text out = ap (λ (x : Streamed). final_of x out) (stream_merged text) ∙ final_said (events text) out

lays : List ℕ → List ℕ → Bool → Wrote
lays o out b = when b then wrote (Err (TooShort 0)) out else wrote (Ok (length o)) (o ++ drop (length o) out)

pub laid_short : (o out : List ℕ) → length out < length o → laid o out ≡ wrote (Err (TooShort 0)) out
unfolding laid lays
laid_short o out h = ap (lays o out) (lt-ltb (length out) (length o) h)

pub laid_fits : (o out : List ℕ) → length o ≤ length out → laid o out ≡ wrote (Ok (length o)) (o ++ drop (length o) out)
unfolding laid lays
laid_fits o out h = ap (lays o out) (le-ltb (length out) (length o) h)

refuses : (t : Streamed) (out : List ℕ) (e : WriteError) → judged (length out) t ≡ Err e → wrote (Err e) out ≡ final_of t out
unfolding final_of
refuses (stopped p) out e z = ap (λ (a : Answer). wrote a out) (sym z ∙ judged_bad (length out) p)
refuses (whole o) out e z = go (dec_lt (length out) (length o))
  where
    go : Dec (length out < length o) → wrote (Err e) out ≡ laid o out
    go (yes h) = ap (λ (a : Answer). wrote a out) (sym z ∙ judged_short (length out) o h) ∙ sym (laid_short o out h)
    go (no h) = let y : ◌≡◌ {A = Answer} (Err e) (Ok (length o)) = sym z ∙ judged_fits (length out) o (omega arith) in absurd (cc)

accepts : (t : Streamed) (out : List ℕ) (n : ℕ) → judged (length out) t ≡ Ok n → wrote (Ok n) (laid_by t out) ≡ final_of t out
unfolding final_of laid_by
accepts (stopped p) out n z = let y : ◌≡◌ {A = Answer} (Err (Unreadable p)) (Ok n) = sym (judged_bad (length out) p) ∙ z in absurd (cc)
accepts (whole o) out n z = go (dec_lt (length out) (length o))
  where
    go : Dec (length out < length o) → wrote (Ok n) (o ++ drop (length o) out) ≡ laid o out
    go (yes h) = let y : ◌≡◌ {A = Answer} (Err (TooShort 0)) (Ok n) = sym (judged_short (length out) o h) ∙ z in absurd (cc)
    go (no h) = ap (λ (a : Answer). wrote a (o ++ drop (length o) out)) (sym z ∙ judged_fits (length out) o (omega arith)) ∙ sym (laid_fits o out (omega arith))

-- the text refused: the output as it came
pub text_refused : (text out : List ℕ) (e : WriteError) (r : Answer) → Err e ≡ judged (length out) (stream text) → IsErrAnd r (λ x. x ≡ e) → wrote r out ≡ write_text text out
text_refused text out e (Ok n) z h = absurd h
text_refused text out e (Err x) z h = ap (λ (y : WriteError). wrote (Err y) out) h ∙ refuses (stream text) out e (sym z) ∙ final_text text out

-- the text written
pub text_laid : (text out out' : List ℕ) (n : ℕ) → Ok n ≡ judged (length out) (stream text) → out' ≡ laid_by (stream text) out → wrote (Ok n) out' ≡ write_text text out
text_laid text out out' n z l = ap (wrote (Ok n)) l ∙ accepts (stream text) out n (sym z) ∙ final_text text out
