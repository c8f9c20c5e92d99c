-- Where step 3 seats a cell on a likely way. k is the record in the slot, its clock moved.
--
--   spot_as vci D a  == seat a of a cell of this connection, with this D; seat_at p is a again
--   spot_of vci D a  == the same where there is a seat, and else None
--   Seats k .. p     == the cell has its space, the lowest free one, and its entry
--   MaySeat w ..     == what is asked of the policer in the slot to come, and of lent memories
use Rattle.std.specs.Prelude.{ℕ, ◌*◌, ◌≤◌, ◌<◌, ◌≡◌, true, Option, Some, List, length}
use Rattle.std.specs.Option.{option_map}
use Rattle.meaning.specs.declared.Record.{Record}
use Rattle.meaning.specs.Numbers.{most_n, per_entry, bit_words}
use Rattle.meaning.specs.Bits.{is_free_space, spaces_fit, lowest_free}
use Rattle.meaning.specs.Lists.{ends_fit}
use Rattle.meaning.specs.Lent.{Slice}
use Rattle.mem_lists.specs.declared.Seat.{Seat}
use Rattle.mem_lists.specs.Spaces.{ends_of, seat_as, entry_of, seat_of}
use Rattle.burst_way.specs.declared.Way.{Way}
use Rattle.burst_arrive.specs.declared.Spot.{Spot}

abbrev pub spot_as : ℕ → ℕ → Seat → Spot
spot_as vci D a = record { x = a.x; d = D; vci = vci; e = a.e; head = a.head; tail = a.tail }

abbrev pub spot_of : ℕ → ℕ → Option Seat → Option Spot
spot_of vci D found = option_map (spot_as vci D) found

abbrev pub seat_at : Spot → Seat
seat_at p = seat_as p.x p.e (ends_of p.head p.tail)

pub record Seats (k : Record) (calendar bits : List ℕ) (p : Spot) : Type 0 where
  pub seat : Some (seat_at p) ≡ seat_of k.n calendar k.turn p.d (lowest_free bits)
  pub e_is : p.e ≡ entry_of k.n k.turn p.d
  pub some_free : 1 ≤ k.free
  pub is_free : is_free_space bits p.x ≡ true
  pub x_low : p.x < k.n
  pub entry_fits : ends_fit k.n (ends_of p.head p.tail) ≡ true

abbrev pub MaySeat : Way → Slice → Slice → ℕ → Type 0
MaySeat w calendar bits D =
    (w.n ≤ most_n) × (length calendar.now ≡ per_entry * w.n) × (length bits.now ≡ bit_words) × (w.turn < w.n) × (D < w.n)
    × (spaces_fit w.n w.free bits.now ≡ true)
