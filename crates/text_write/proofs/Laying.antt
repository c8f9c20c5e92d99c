-- The writer's way through a text that was judged good and fits: the output begins with the octets so far.
use Rattle.std.proofs.Common.{◌≡◌, ℕ, ◌+◌, ◌≤◌, ◌<◌, Some, Ok, Err, IsOk, List, [], ◌++◌, length, drop, length-append, refl, sym, ap, ◌∙◌, arith}
use native.Mathlib.Decide.{dec_lt}
use Rattle.list_lines.specs.Put.{Put}
use Rattle.list_lines.proofs.Puts.{put_none, put_then, put_whole}
use Rattle.meaning.specs.Plain.{refused, next}
use Rattle.text_meaning.specs.Events.{rest_of}
use Rattle.text_meaning.specs.Writing.{Answer, placed, line_at}
use Rattle.text_line.specs.declared.Line.{Line}
use Rattle.text_line.specs.Found.{event_found, LineWithin}
use Rattle.text_trip.specs.Flow.{Streamed, whole, stopped, stream, judged}
use Rattle.text_write.specs.Adds.{adds, rest_long, adds_long, leaves, laid_by}
use Rattle.text_write.proofs.AddLaws.{adds_long_lem, rest_long_lem}
use Rattle.text_write.proofs.Reach.{Reached, reached_start, reached_stop, reached_none, reached_end}
use Rattle.text_write.proofs.Fit.{Fit, fit_of, fit_long, never, reached_fits}
use Rattle.text_write.proofs.Judging.{line_more}

pub record Laying (text out₀ : List ℕ) (p rest : ℕ) (out : List ℕ) (at : ℕ) : Type 0 where
  pub octets : List ℕ
  pub reached : Reached text p rest octets
  pub put : Put out₀ 0 octets out at
  pub same : length out ≡ length out₀

pub laying_start : (text out : List ℕ) → Laying text out 0 0 out 0
laying_start text out = record { octets = []; reached = reached_start text; put = put_none out 0; same = refl }

fits_ok : (most : ℕ) (s : Streamed) (a : Answer) → judged most s ≡ a → IsOk a → Fit most s
fits_ok most s (Ok n) e z = fit_of most s e
fits_ok most s (Err x) e z = absurd (cc)

module _ {text out₀ : List ℕ} {p rest : ℕ} {out : List ℕ} {at : ℕ} (y : Laying text out₀ p rest out at) (z : IsOk (judged (length out₀) (stream text))) where
  fit : Fit (length out₀) (stream text)
  fit = fits_ok (length out₀) (stream text) (judged (length out₀) (stream text)) refl z

  not_stopped : {q : ℕ} → stream text ≡ stopped q → ⊥
  not_stopped e = never (sym e ∙ fit.is)

  -- where no line stands is the text's end
  pub laying_stops : line_at text p ≡ refused → length text ≤ p
  laying_stops e = go (dec_lt p (length text))
    where
      go : Dec (p < length text) → length text ≤ p
      go (yes h) = absurd (not_stopped (reached_stop y.reached h e))
      go (no h) = omega arith

  module _ (rec : List ℕ) (l : Line) (q : ℕ) (e : next (placed (event_found rec l) q) ≡ line_at text p) (w : LineWithin p (length text) (Some (l, q))) (b : 55 ≤ length rec) where
    more : Reached text q (leaves rest l) (y.octets ++ adds rest (event_found rec l))
    more = line_more y.reached (omega (arith, w.0, w.1)) rec l q e w

    -- what a line adds has room
    pub laying_room : at + adds_long rest l ≤ length out
    laying_room = omega (arith, reached_fits fit more, length-append y.octets (adds rest (event_found rec l)), adds_long_lem rest rec l w.2 b, y.put.next, y.same)

    pub laying_more : {rest' at' : ℕ} {out' : List ℕ} → rest' ≡ leaves rest l → Put out at (adds rest (event_found rec l)) out' at' → length out' ≡ length out → Laying text out₀ q rest' out' at'
    laying_more f k s = rw f (record { octets = y.octets ++ adds rest (event_found rec l); reached = more; put = put_then y.put k; same = s ∙ y.same })

  -- the text's end
  module _ (h : length text ≤ p) where
    ended : stream text ≡ whole (y.octets ++ rest_of rest)
    ended = reached_end y.reached (λ n. not_stopped (reached_none y.reached n h)) h

    long : length (y.octets ++ rest_of rest) ≤ length out₀
    long = fit_long (record { octets = fit.octets; is = sym ended ∙ fit.is; fits = fit.fits })

    pub ending_room : at + rest_long rest ≤ length out
    ending_room = omega (arith, long, length-append y.octets (rest_of rest), rest_long_lem rest, y.put.next, y.same)

    pub laying_end : {out' : List ℕ} {r : ℕ} → Put out at (rest_of rest) out' r → out' ≡ laid_by (stream text) out₀
    unfolding laid_by
    laying_end {out'} {r} q =
        let all = put_then y.put q in
        let n : r ≡ length (y.octets ++ rest_of rest) = omega (arith, all.next) in
        put_whole all (omega (arith, all.next, long))
        ∙ ap (λ (k : ℕ). (y.octets ++ rest_of rest) ++ drop k out₀) n
        ∙ ap (λ (s : Streamed). laid_by s out₀) (sym ended)
