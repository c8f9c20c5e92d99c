-- What departs once an accepted cell has its seat, found before anything is written.
--
--   going_of k j a ..      == what departs: Some None for nothing, or a space, with what becomes of entry T; None where the slot is refused
--   going_unmarked k j a.. == the same where entry T is not marked
--   going_marked k j a e.. == the same where entry T is marked, with these ends
--   going_with bits a o .. == o departs, if it may: it is in range, and its space is not free once the cell has taken its own
use Rattle.std.specs.Prelude.{ℕ, ◌+◌, ◌*◌, ◌≤◌, ◌<◌, ◌≡◌, Bool, true, false, not, Option, Some, None, List, length, get_or}
use Rattle.meaning.specs.declared.Record.{Record}
use Rattle.meaning.specs.Plain.{when◌then◌else◌, ◌=?◌}
use Rattle.meaning.specs.Numbers.{most_n, most_v, octets, words_in, bit_words, empty, waiting_place}
use Rattle.meaning.specs.Bits.{is_free_space, taken}
use Rattle.meaning.specs.State.{Ends, HasConnection}
use Rattle.meaning.specs.Lists.{ends_fit, entry_at, write_entry}
use Rattle.meaning.specs.Lent.{Slice, SliceMut}
use Rattle.slot_arrive.specs.declared.Judged.{Judged}
use Rattle.mem_lists.specs.declared.Seat.{Seat}
use Rattle.mem_lists.specs.declared.Off.{Off}
use Rattle.mem_lists.specs.Spaces.{ends_of, linked}
use Rattle.mem_lists.specs.Leaver.{off_after}
use Rattle.slot_plan.specs.Plan.{joined_head, seat_ends}
use Rattle.slot_accept.specs.declared.departure.Departing.{Departing}

abbrev pub going_as : Off → Bool → ℕ → Bool → Departing
going_as o joins from clears = record { off = o; joins = joins; from = from; clears = clears }

-- what departs from memory as the stored cell leaves it, once the chain of entry has joined the Output List, where joins
abbrev pub off_then : Record → Judged → Seat → List ℕ → List ℕ → List ℕ → Bool → Ends → Option Off
off_then k j a cells links words joins entry =
    off_after k.n k.v k.kind cells (linked joins k.outtail entry.head (linked (not (a.head =? empty)) a.x a.head links)) words
    j.vci a.x (joined_head k entry) entry.tail

unfoldable pub going_with : List ℕ → Seat → Option Off → Bool → ℕ → Bool → Option (Option Departing)
going_with bits a None joins from clears = None
going_with bits a (Some o) joins from clears =
    when is_free_space (taken bits a.x) o.space then None else Some (Some (going_as o joins from clears))

unfoldable pub going_unmarked : Record → Judged → Seat → List ℕ → List ℕ → List ℕ → List ℕ → Option (Option Departing)
going_unmarked k j a cells links words bits =
    when k.outhead =? empty then Some None
    else going_with bits a (off_then k j a cells links words false (ends_of 0 k.outtail)) false 0 false

unfoldable pub going_marked : Record → Judged → Seat → Ends → List ℕ → List ℕ → List ℕ → List ℕ → Option (Option Departing)
going_marked k j a entry cells links words bits =
    going_with bits a (off_then k j a cells links words (not (k.outhead =? empty)) entry) (not (k.outhead =? empty)) entry.head true

unfoldable pub going_of : Record → Judged → Seat → List ℕ → List ℕ → List ℕ → List ℕ → List ℕ → Option (Option Departing)
going_of k j a cells links calendar words bits =
    let entry = entry_at (write_entry calendar a.e (seat_ends a)) k.turn in
    when ends_fit k.n entry
    then (when entry.head =? empty then going_unmarked k j a cells links words bits else going_marked k j a entry cells links words bits)
    else None

-- ---- what is asked of lent memories, for contracts
abbrev pub MayGo : Record → Seat → Slice → Slice → Slice → Slice → Type 0
MayGo k a cells links words bits =
    (k.n ≤ most_n) × (k.v ≤ most_v) × (length cells.now ≡ octets * k.n) × (length links.now ≡ k.n) × (length words.now ≡ words_in k.v)
    × (length bits.now ≡ bit_words) × (ends_fit k.n (ends_of k.outhead k.outtail) ≡ true) × (a.x < k.n) × (is_free_space bits.now a.x ≡ true)

abbrev pub MayLeave : Record → Off → Bool → Bool → SliceMut → SliceMut → SliceMut → SliceMut → Type 0
MayLeave k o joins clears links calendar words bits =
    (HasConnection o.vci words.now) × (1 ≤ get_or words.now (waiting_place o.vci) 0) × (2 * k.turn + 2 ≤ length calendar.now)
    × (joins ≡ true → k.outtail < length links.now) × (o.space < most_n) × (length bits.now ≡ bit_words)
    × (is_free_space bits.now o.space ≡ false) × (clears ≡ true → k.turn < most_n)
