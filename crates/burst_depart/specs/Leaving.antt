-- What steps 4 and 5 have found out on a likely way: what departs. What passed is stated, and never that something is refused: each
-- test that fails leaves the likely way, and the slot is served as the call has it. Nor is the likely way left where the lists are
-- regular. k is the record in the slot, its clock moved.
--
--   Left N links x tail .. == what is left of a list from x to tail once x has gone
--   Planned k links ..     == what departs, if anything, but for its connection
--   Leaves k bits entry .. == what departs, if anything, Is being what "departs" means in memory as it then is; bits are the words of free spaces as
--                             step 3 left them, and its space is not free
--   Linked k links entry   == entry T's ends fit, and the head of the Output List, once the entry has joined, is its tail or links on
--   Regular k .. entry     == and that space is not free, and a cell of the connection that it names may depart
use Rattle.std.specs.Prelude.{ℕ, ◌*◌, ◌≤◌, ◌<◌, ◌≡◌, ◌≢◌, Bool, true, false, not, Option, Some, None, MatchOption, List, length, get_or}
use Rattle.meaning.specs.declared.Record.{Record}
use Rattle.meaning.specs.Plain.{when◌then◌else◌, ◌=?◌}
use Rattle.meaning.specs.Numbers.{most_n, per_entry, empty}
use Rattle.meaning.specs.Bits.{is_free_space}
use Rattle.meaning.specs.State.{Ends}
use Rattle.meaning.specs.Lists.{ends_fit, entry_at, write_entry}
use Rattle.meaning.specs.Lent.{Slice, Lent}
use Rattle.mem_lists.specs.declared.Off.{Off}
use Rattle.mem_lists.specs.Spaces.{ends_of, linked, off_as, off_of}
use Rattle.mem_lists.specs.Leaver.{leaver_of, off_after}
use Rattle.slot_plan.specs.Plan.{joined_links, joined_head, seat_ends}
use Rattle.burst_way.specs.declared.Way.{Way}
use Rattle.burst_way.specs.Way.{slot_record}
use Rattle.burst_arrive.specs.declared.Spot.{Spot}
use Rattle.burst_arrive.specs.Arriving.{seat_at}
use Rattle.burst_depart.specs.declared.Leave.{Leave}

-- a connection's number; 0 is no connection's
abbrev pub unless_zero : ℕ → Option ℕ
unless_zero u = when u =? 0 then None else Some u

-- what is left of a list from x to tail once x has gone
pub record Left (N : ℕ) (links : List ℕ) (x tail next tail' : ℕ) : Type 0 where
  pub one : x ≡ tail → (next ≡ empty) × (tail' ≡ empty)
  pub more : x ≢ tail → (next ≡ get_or links x 0) × (next < N) × (tail' ≡ tail)

-- the head of entry T's chain, where that follows the old tail of the Output List
abbrev pub follows_of : Record → Ends → Option ℕ
follows_of k entry = when k.outhead =? empty then None else Some entry.head

-- steps 4 and 5 but for the departing connection
pub record PlannedUnmarked (k : Record) (links : List ℕ) (o : Leave) : Type 0 where
  pub some : k.outhead ≢ empty
  pub space : o.space ≡ k.outhead
  pub rest : Left k.n links o.space k.outtail o.next o.tail
  pub marked : o.marked ≡ false
  pub follows : o.follows ≡ None
  pub space_low : o.space < k.n
  pub left_fits : ends_fit k.n (ends_of o.next o.tail) ≡ true

pub record PlannedMarked (k : Record) (links : List ℕ) (entry : Ends) (o : Leave) : Type 0 where
  pub marked : o.marked ≡ true
  pub follows : o.follows ≡ follows_of k entry
  pub space : o.space ≡ joined_head k entry
  pub rest : Left k.n (joined_links k entry links) o.space entry.tail o.next o.tail
  pub space_low : o.space < k.n
  pub left_fits : ends_fit k.n (ends_of o.next o.tail) ≡ true

-- nothing departs only where entry T is not marked and the Output List is empty
pub record Planned (k : Record) (links : List ℕ) (entry : Ends) (found : Option Leave) : Type 0 where
  pub entry_fits : ends_fit k.n entry ≡ true
  pub unmarked : entry.head ≡ empty → MatchOption found (k.outhead ≡ empty) (λ o. PlannedUnmarked k links o)
  pub marked : entry.head ≢ empty → MatchOption found ⊥ (λ o. PlannedMarked k links entry o)

-- the tail of the Output List once entry T has joined
abbrev pub joined_tail : Record → Ends → ℕ
joined_tail k entry = when entry.head =? empty then k.outtail else entry.tail

-- where the lists are so, the likely way is kept: apart is that the Output List's head is not the tail of the chain that joins it
pub record Linked (k : Record) (links : List ℕ) (entry : Ends) : Type 0 where
  pub entry_fits : ends_fit k.n entry ≡ true
  pub apart : entry.head ≢ empty → k.outhead ≢ empty → k.outhead ≢ entry.tail
  pub link : joined_head k entry ≢ empty → joined_head k entry ≢ joined_tail k entry
      → get_or (joined_links k entry links) (joined_head k entry) 0 < k.n

pub record Regular (k : Record) (cells links words bits : List ℕ) (entry : Ends) : Type 0 where
  pub linked : Linked k links entry
  pub held : joined_head k entry ≢ empty → is_free_space bits (joined_head k entry) ≡ false
  pub of_connection : joined_head k entry ≢ empty → leaver_of k.n k.v k.kind cells words (joined_head k entry) ≢ 0

abbrev pub leave_with : Leave → ℕ → Leave
leave_with o vci =
    record { space = o.space; vci = vci; next = o.next; tail = o.tail; marked = o.marked; follows = o.follows }

-- what departs, as one record
abbrev pub off_at : Leave → Off
off_at o = off_as o.space o.vci (ends_of o.next o.tail)

pub record Goes (k : Record) (bits : List ℕ) (entry : Ends) (o : Leave) (Is : Bool → Ends → Off → Type 0) : Type 0 where
  pub marked : o.marked ≡ true
      → (entry.head ≢ empty) × (o.follows ≡ follows_of k entry) × Is (not (k.outhead =? empty)) entry (off_at o)
  pub unmarked : o.marked ≡ false
      → (entry.head ≡ empty) × (k.outhead ≢ empty) × (o.follows ≡ None) × Is false (ends_of 0 k.outtail) (off_at o)
  pub space_low : o.space < k.n
  pub not_free : is_free_space bits o.space ≡ false
  pub left_fits : ends_fit k.n (ends_of o.next o.tail) ≡ true

pub record Leaves (k : Record) (bits : List ℕ) (entry : Ends) (found : Option Leave) (Is : Bool → Ends → Off → Type 0) : Type 0 where
  pub entry_fits : ends_fit k.n entry ≡ true
  pub departs : MatchOption found ((entry.head ≡ empty) × (k.outhead ≡ empty)) (λ o. Goes k bits entry o Is)

-- where no cell is accepted: memory is as it is, but for the chain of entry T that has joined the Output List, where joins
abbrev pub OffHere : Record → List ℕ → List ℕ → List ℕ → Bool → Ends → Off → Type 0
OffHere k cells links words joins entry o =
    Some o ≡ off_of k.n k.v k.kind cells (linked joins k.outtail entry.head links) words (joined_head k entry) entry.tail

-- entry T once a cell has its seat
abbrev pub entry_then : Record → Spot → List ℕ → Ends
entry_then k p calendar = entry_at (write_entry calendar p.e (seat_ends (seat_at p))) k.turn

-- the same where a cell is accepted into the seat of p and joins entry T, and where it joins any entry; memory is as it was before. The
-- cell itself departs where it has D 0 and the Output List is empty: its entry then had another tail than its space
pub record RegularNow (k : Record) (p : Spot) (cells links words bits : List ℕ) : Type 0 where
  pub alone : k.outhead ≡ empty → p.tail ≢ p.x
  pub other : k.outhead ≢ empty → Regular k cells links words bits (seat_ends (seat_at p))

pub record RegularThen (k : Record) (p : Spot) (cells links calendar words bits : List ℕ) : Type 0 where
  pub alone : k.outhead ≡ empty → p.d ≡ 0 → p.tail ≢ p.x
  pub other : (k.outhead ≡ empty → p.d ≢ 0) → Regular k cells links words bits (entry_then k p calendar)

-- where a cell is accepted into the seat of p, and its connection is p's: of the judgement nothing else matters here
abbrev pub OffThen : Record → Spot → List ℕ → List ℕ → List ℕ → Bool → Ends → Off → Type 0
OffThen k p cells links words joins entry o =
    Some o
    ≡ off_after k.n k.v k.kind cells (linked joins k.outtail entry.head (linked (not (p.head =? empty)) p.x p.head links)) words
    p.vci p.x (joined_head k entry) entry.tail

-- ---- the same of lent memories, for contracts: w is the policer in the slot to come
abbrev pub OffHereIn : Way → Lent → Lent → Lent → Bool → Ends → Off → Type 0
OffHereIn w cells links words = OffHere (slot_record w) cells.entry.now links.entry.now words.entry.now

abbrev pub OffThenIn : Way → Spot → Lent → Lent → Lent → Bool → Ends → Off → Type 0
OffThenIn w p cells links words = OffThen (slot_record w) p cells.entry.now links.entry.now words.entry.now

-- the entries and the Output List may be read
abbrev pub MayRead : Way → Slice → Slice → Type 0
MayRead w links calendar =
    (w.n ≤ most_n) × (length links.now ≡ w.n) × (length calendar.now ≡ per_entry * w.n) × (w.turn < w.n)
    × (ends_fit w.n (ends_of w.outhead w.outtail) ≡ true)
