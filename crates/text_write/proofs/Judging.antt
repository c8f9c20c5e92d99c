-- The judge's way through a text: the room that is left is that of the octets so far.
use Rattle.std.proofs.Common.{◌≡◌, ℕ, ◌+◌, ◌-◌, ◌≤◌, ◌<◌, Option, Some, None, Ok, Err, List, [], ◌++◌, length, length-append, sym, ap, ◌∙◌, arith}
use native.Mathlib.Decide.{dec_lt}
use Rattle.meaning.specs.Plain.{refused, next}
use Rattle.text_meaning.specs.declared.WriteError.TheVariants.{Unreadable, TooShort}
use Rattle.text_meaning.specs.Events.{rest_of}
use Rattle.text_meaning.specs.Writing.{placed, line_at}
use Rattle.text_line.specs.declared.Line.{Line}
use Rattle.text_line.specs.Found.{event_found, LineWithin}
use Rattle.text_trip.specs.Flow.{stream, judged}
use Rattle.text_write.specs.Room.{room_of, less_of}
use Rattle.text_write.specs.Adds.{adds, rest_long, adds_long, leaves}
use Rattle.text_write.proofs.RoomLaws.{room_over, room_left, less_room}
use Rattle.text_write.proofs.AddLaws.{adds_long_lem, rest_long_lem, step_adds, leaves_less}
use Rattle.text_write.proofs.Reach.{Reached, reached_start, reached_next, reached_stop, reached_none, reached_end}
use Rattle.text_write.proofs.Fit.{judged_short, judged_fits, judged_bad}

-- the line that was found
pub line_more : {text : List ℕ} {p rest : ℕ} {o : List ℕ} → Reached text p rest o → p < length text → (rec : List ℕ) (l : Line) (q : ℕ)
    → next (placed (event_found rec l) q) ≡ line_at text p → LineWithin p (length text) (Some (l, q)) → Reached text q (leaves rest l) (o ++ adds rest (event_found rec l))
line_more {text} {p} {rest} {o} r h rec l q e w = reached_next r h (sym e) w.0 w.1 (step_adds o rest rec l) (leaves_less rest l)

pub record Judging (text : List ℕ) (most p rest : ℕ) (room : Option ℕ) : Type 0 where
  pub octets : List ℕ
  pub reached : Reached text p rest octets
  pub room_is : room ≡ room_of most (length octets)

pub judging_start : (text : List ℕ) (most : ℕ) → Judging text most 0 0 (Some most)
judging_start text most =
    let none : most ≡ most - 0 = omega arith in
    record { octets = []; reached = reached_start text; room_is = ap (λ (k : ℕ). Some k) none ∙ sym (room_left most 0 (omega arith)) }

-- n octets of o more
room_more : (most n : ℕ) (a o : List ℕ) (room room' : Option ℕ) → room ≡ room_of most (length a) → room' ≡ less_of room n → n ≡ length o
    → room' ≡ room_of most (length (a ++ o))
room_more most n a o room room' e f g =
    f
    ∙ ap (λ (x : Option ℕ). less_of x n) e
    ∙ less_room most (length a) n
    ∙ ap (λ (k : ℕ). room_of most (length a + k)) g
    ∙ ap (room_of most) (sym (length-append a o))

module _ {text : List ℕ} {most p rest : ℕ} {room : Option ℕ} (j : Judging text most p rest room) where
  pub judging_more : p < length text → (rec : List ℕ) (l : Line) (q : ℕ) {rest' n : ℕ} {room' : Option ℕ} → next (placed (event_found rec l) q) ≡ line_at text p
      → LineWithin p (length text) (Some (l, q)) → 55 ≤ length rec → rest' ≡ leaves rest l → n ≡ adds_long rest l → room' ≡ less_of room n → Judging text most q rest' room'
  judging_more h rec l q {rest'} {n} {room'} e w b f g k =
      rw f
      (record {
        octets = j.octets ++ adds rest (event_found rec l);
        reached = line_more j.reached h rec l q e w;
        room_is = room_more most n j.octets (adds rest (event_found rec l)) room room' j.room_is k (g ∙ sym (adds_long_lem rest rec l w.2 b));
      })

  pub judging_stop : p < length text → line_at text p ≡ refused → Err (Unreadable p) ≡ judged most (stream text)
  judging_stop h e = sym (judged_bad most p) ∙ ap (judged most) (sym (reached_stop j.reached h e))

  pub judging_none : p ≡ 0 → length text ≤ p → Err (Unreadable 0) ≡ judged most (stream text)
  judging_none z h = sym (judged_bad most 0) ∙ ap (judged most) (sym (reached_none j.reached z h))

  -- the rest of a pause at the text's end
  module _ {n : ℕ} {last : Option ℕ} (g : n ≡ rest_long rest) (q : last ≡ less_of room n) (z : p ≡ 0 → ⊥) (h : length text ≤ p) where
    abbrev all : List ℕ
    all = j.octets ++ rest_of rest

    last_is : last ≡ room_of most (length all)
    last_is = room_more most n j.octets (rest_of rest) room last j.room_is q (g ∙ sym (rest_long_lem rest))

    pub judging_short : last ≡ None → Err (TooShort 0) ≡ judged most (stream text)
    judging_short o = go (dec_lt most (length all))
      where
        go : Dec (most < length all) → Err (TooShort 0) ≡ judged most (stream text)
        go (yes s) = sym (judged_short most all s) ∙ ap (judged most) (sym (reached_end j.reached z h))
        go (no s) = let f : None ≡ Some (most - length all) = sym o ∙ last_is ∙ room_left most (length all) (omega arith) in absurd (cc)

    pub judging_fits : {left : ℕ} → last ≡ Some left → (left ≤ most) × (Ok (most - left) ≡ judged most (stream text))
    judging_fits {left} o = go (dec_lt most (length all))
      where
        go : Dec (most < length all) → (left ≤ most) × (Ok (most - left) ≡ judged most (stream text))
        go (yes s) = let f : Some left ≡ None = sym o ∙ last_is ∙ room_over most (length all) s in absurd (cc)
        go (no s) =
            let f : Some left ≡ Some (most - length all) = sym o ∙ last_is ∙ room_left most (length all) (omega arith) in
            let k : left ≡ most - length all = cc in
            (omega arith, ap (λ (i : ℕ). Ok i) (omega arith) ∙ sym (judged_fits most all (omega arith)) ∙ ap (judged most) (sym (reached_end j.reached z h)))
