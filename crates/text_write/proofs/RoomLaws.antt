-- Room counted down: n octets less of what long octets leave is what long + n leave, below the output's end and beyond it.
use Rattle.std.proofs.Common.{◌≡◌, ℕ, ◌+◌, ◌-◌, ◌≤◌, ◌<◌, Bool, Option, Some, None, refl, sym, ap, ◌∙◌, arith}
use native.Mathlib.Decide.{dec_lt}
use borrow.Author.Tests.{lt-ltb, le-ltb}
use Rattle.std.specs.Option.{SomeIff}
use Rattle.meaning.specs.Plain.{when◌then◌else◌}
use Rattle.text_write.specs.Room.{room_of, less_of}

room : ℕ → Bool → Option ℕ
room n b = when b then None else Some n

pub room_over : (most long : ℕ) → most < long → room_of most long ≡ None
unfolding room_of room
room_over most long h = ap (room (most - long)) (lt-ltb most long h)

pub room_left : (most long : ℕ) → long ≤ most → room_of most long ≡ Some (most - long)
unfolding room_of room
room_left most long h = ap (room (most - long)) (le-ltb most long h)

pub less_over : (n : ℕ) (r : Option ℕ) → r ≡ None → less_of r n ≡ None
unfolding less_of
less_over n None e = refl
less_over n (Some left) e = absurd (cc)

pub less_short : (n left : ℕ) → left < n → less_of (Some left) n ≡ None
unfolding less_of room
less_short n left h = ap (room (left - n)) (lt-ltb left n h)

pub less_fits : (n left : ℕ) → n ≤ left → less_of (Some left) n ≡ Some (left - n)
unfolding less_of room
less_fits n left h = ap (room (left - n)) (le-ltb left n h)

pub less_some : (n left : ℕ) (r : Option ℕ) → SomeIff r (n ≤ left) (left - n) → r ≡ less_of (Some left) n
less_some n left None h = sym (less_short n left (omega (arith, h)))
less_some n left (Some k) h = ap (λ (i : ℕ). Some i) h.1 ∙ sym (less_fits n left h.0)

pub less_room : (most long n : ℕ) → less_of (room_of most long) n ≡ room_of most (long + n)
less_room most long n = go (dec_lt most long)
  where
    within : long ≤ most → Dec (most - long < n) → less_of (Some (most - long)) n ≡ room_of most (long + n)
    within h (yes l) = less_short n (most - long) l ∙ sym (room_over most (long + n) (omega arith))
    within h (no l) =
        less_fits n (most - long) (omega arith)
        ∙ ap (λ (k : ℕ). Some k) (omega arith)
        ∙ sym (room_left most (long + n) (omega arith))

    go : Dec (most < long) → less_of (room_of most long) n ≡ room_of most (long + n)
    go (yes h) =
        ap (λ (x : Option ℕ). less_of x n) (room_over most long h)
        ∙ less_over n None refl
        ∙ sym (room_over most (long + n) (omega arith))
    go (no h) = ap (λ (x : Option ℕ). less_of x n) (room_left most long (omega arith)) ∙ within (omega arith) (dec_lt (most - long) n)
