-- Setup's refusals, each given where what it tests doesn't hold: "Order: setup 1, 2" of document 01, and "13, line kind
-- unknown, after 1 at setup" of document 02 (vi); by (xi) a split out of its range is 1.
use Rattle.std.specs.Prelude.{ℕ, ◌*◌, Bool, not, ◌&&◌}
use Rattle.meaning.specs.Plain.{◌=?◌}
use Rattle.meaning.specs.Numbers.{octets, per_entry, words_in, bit_words}
use Rattle.leaf_refusal.specs.Order.{refuse_of, first_of}

-- ranges, splits, line kind, lengths
abbrev pub in_order : Bool → Bool → Bool → Bool → ℕ
in_order a s b d = first_of (first_of (first_of (refuse_of 1 (not a)) (refuse_of 1 (not s))) (refuse_of 13 (not b))) (refuse_of 2 (not d))

-- the six lengths that N and V ask for
abbrev pub lengths_are : ℕ → ℕ → ℕ → ℕ → ℕ → ℕ → ℕ → ℕ → Bool
lengths_are N z cells links calendar words bits arrived =
    cells =? octets * N && links =? N && calendar =? per_entry * N && words =? words_in z && bits =? bit_words && arrived =? N
