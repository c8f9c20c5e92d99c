-- What steps 3, 4 and 5 of a slot find in heads, tails, links and headers, as numbers: nothing is written yet.
--
--   linked on i x l   == the links l, with link i naming x where on
--   seat_of            == where an accepted cell goes: its space, its entry and that entry's ends
--   off_of             == what departs from a list of spaces: space, connection, and what is left of the list
use Rattle.std.specs.Prelude.{ℕ, ◌+◌, ◌-◌, ◌≤◌, ◌≡◌, ◌≢◌, Bool, ◌&&◌, Option, Some, None, List, get_or, set}
use Rattle.meaning.specs.Plain.{when◌then◌else◌, ◌<?◌, ◌≤?◌, ◌=?◌}
use Rattle.meaning.specs.Numbers.{empty, cell_start, kind_in_range}
use Rattle.meaning.specs.State.{Ends}
pub use Rattle.meaning.specs.State.{ends_of}
use Rattle.meaning.specs.Header.{header_at, connection, names_open}
use Rattle.meaning.specs.Words.{connection_at}
use Rattle.meaning.specs.Lists.{ends_fit, entry_at}
use Rattle.leaf_header.specs.Name.{numbered}
use Rattle.mem_lists.specs.declared.Seat.{Seat}
use Rattle.mem_lists.specs.declared.Off.{Off}

unfoldable pub linked : Bool → ℕ → ℕ → List ℕ → List ℕ
linked on i x l = when on then set l i x else l

abbrev pub seat_as : ℕ → ℕ → Ends → Seat
seat_as x e entry = record { x = x; e = e; head = entry.head; tail = entry.tail }

-- a cell that takes space x joins entry e, if that entry's ends fit
unfoldable pub seat_at : ℕ → List ℕ → ℕ → ℕ → Option Seat
seat_at N calendar e x =
    let entry = entry_at calendar e in
    when ends_fit N entry then Some (seat_as x e entry) else None

-- (T + D) modulo N, where both are below N
unfoldable pub entry_of : ℕ → ℕ → ℕ → ℕ
entry_of N T D = when T + D <? N then T + D else T + D - N

unfoldable pub seat_of : ℕ → List ℕ → ℕ → ℕ → ℕ → Option Seat
seat_of N calendar T D x = seat_at N calendar (entry_of N T D) x

abbrev pub off_as : ℕ → ℕ → Ends → Off
off_as space vci left = record { space = space; vci = vci; head = left.head; tail = left.tail }

-- the cell in space x may depart: "the departing header names an open VC", or an open path, by the line kind, which fits;
-- "waiting at most N .. above 0"
unfoldable pub may_leave : ℕ → ℕ → ℕ → List ℕ → List ℕ → ℕ → Bool
may_leave N z kind cells words x =
    let h = header_at kind cells (cell_start x) in
    let waiting = (connection_at words (connection z h)).waiting in
    (kind_in_range kind && names_open z words h) && 1 ≤? waiting && waiting ≤? N

-- the head of the list from x to tail departs
unfoldable pub off_of : ℕ → ℕ → ℕ → List ℕ → List ℕ → List ℕ → ℕ → ℕ → Option Off
off_of N z kind cells links words x tail =
    let c = connection z (header_at kind cells (cell_start x)) in
    let follower = get_or links x 0 in
    when may_leave N z kind cells words x
    then (when x =? tail then Some (off_as x c (ends_of empty empty))
    else when follower <? N then Some (off_as x c (ends_of follower tail))
    else None)
    else None

-- cells' are the cells once a cell of the connection own stands in space x
pub record Stored (z kind own x : ℕ) (cells cells' : List ℕ) : Type 0 where
  pub named_own : numbered kind z (header_at kind cells' (cell_start x)) ≡ own
  pub others : (y : ℕ) → y ≢ x → header_at kind cells' (cell_start y) ≡ header_at kind cells (cell_start y)

-- words' are the words once that cell is counted: the connection own is open and has 1 to N cells waiting
pub record Counted (N own : ℕ) (words words' : List ℕ) : Type 0 where
  pub open_own : (connection_at words' own).opened ≡ 1
  pub some_own : 1 ≤ (connection_at words' own).waiting
  pub most_own : (connection_at words' own).waiting ≤ N
  pub opened_others : (u : ℕ) → u ≢ own → (connection_at words' u).opened ≡ (connection_at words u).opened
  pub waiting_others : (u : ℕ) → u ≢ own → (connection_at words' u).waiting ≡ (connection_at words u).waiting
