-- Two results of `line_at` that its contract allows coincide: the answer and the lent octets.
use Rattle.std.proofs.Common.{◌≡◌, ℕ, ◌≤◌, Option, Some, None, List, length, refl, sym, ap, ◌∙◌, arith}
use lib.Seq.{length-take-le}
use Rattle.meaning.specs.Plain.{Out, refused, next}
use Rattle.list_lines.specs.Put.{puts}
use Rattle.text_meaning.specs.Events.{Event, told, pause}
use Rattle.text_meaning.specs.Writing.{Placed, line_at}
use Rattle.text_line.specs.declared.Line.{Line}
use Rattle.text_line.specs.declared.Line.TheVariants.{Record, Pause}
use Rattle.text_line.specs.Found.{line_found, LineWithin, record_in}

-- the answer that says what stands at a place
abbrev saying : Event → Line
saying (told o) = Record (length o)
saying (pause n) = Pause n

abbrev answer_of : Out Placed → Option (Line × ℕ)
answer_of refused = None
answer_of (next l) = Some (saying l.event, l.place)

answered : (rec : List ℕ) (l : Option (Line × ℕ)) (p text : ℕ) → 55 ≤ length rec → LineWithin p text l → l ≡ answer_of (line_found rec l)
answered rec None p text h w = refl
answered rec (Some (Pause n, q)) p text h w = refl
answered rec (Some (Record long, q)) p text h w = ap (λ (k : ℕ). Some (Record k, q)) (sym (length-take-le long rec (omega (arith, w.2.1))))

pub line_once : (text : List ℕ) (p : ℕ) (rec a b : List ℕ) (l m : Option (Line × ℕ)) → 55 ≤ length a → 55 ≤ length b
    → line_found a l ≡ line_at text p → LineWithin p (length text) l → a ≡ puts rec 0 (record_in (line_at text p))
    → line_found b m ≡ line_at text p → LineWithin p (length text) m → b ≡ puts rec 0 (record_in (line_at text p))
    → (l ≡ m) × (a ≡ b)
line_once text p rec a b l m ra rb fa wa pa fb wb pb =
    (answered a l p (length text) ra wa ∙ ap answer_of (fa ∙ sym fb) ∙ sym (answered b m p (length text) rb wb), pa ∙ sym pb)
