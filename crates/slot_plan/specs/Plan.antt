-- A slot as the code runs it: all is read and judged first, as numbers; then each case writes, a slice at a time.
--
--   clocked r                == the record once step 1 has moved the clock
--   rotated k b words        == the words once step 2 has written what falls, if anything does
--   rotated_work k ..         == the work after step 2, of which words are the words
--   quiet_work k j ..         == the work after step 3 where no cell is accepted; words are as step 2 left them
--   seating k j x ..         == what is left of step 3 once the cell is judged accepted, x being the space that it takes
--   seat_now k D ..           == where a cell with delay D goes: it takes the lowest free space, if the words of free spaces fit and have one
--   accept_work k j a ..      == the work after step 3 where the cell is accepted into seat a
--   left_by w links cal bits o == the work after step 5 where o departs: w is the work after step 3, links, cal and bits are as
--                               step 4 left them
--   may_be_freed N free bits x    == the words of free spaces and their number fit, and space x is not free
--   leaving w links cal bits o == left_by, or refused where nothing may depart, or where its space may not be freed; a mark says nothing
--                               of that, so the bits of w are judged
use Rattle.std.specs.Prelude.{ℕ, ◌+◌, ◌-◌, ◌%◌, Bool, true, not, ◌&&◌, Option, Some, None, List, set}
use Rattle.meaning.specs.declared.Record.{Record}
use Rattle.meaning.specs.declared.Served.{Served}
use Rattle.meaning.specs.Plain.{when◌then◌else◌, ◌=?◌, Out, refused, next, needs}
use Rattle.meaning.specs.Numbers.{slot_numbers, connections_in, empty, excess}
use Rattle.meaning.specs.Bits.{is_free_space, spaces_fit, lowest_free, taken, given, marked, unmarked}
use Rattle.meaning.specs.State.{state_of, Ends, record_with, write_cell}
use Rattle.meaning.specs.Lists.{empty_list, ends_fit, write_entry}
use Rattle.meaning.specs.Work.{Work, work_of, answer_of, bare_answer}
use Rattle.meaning.specs.Arrival.{sent_as, place}
use Rattle.slot_arrive.specs.declared.Fall.{Fall}
use Rattle.slot_arrive.specs.declared.Judged.{Judged}
use Rattle.slot_arrive.specs.Arrival.{fallen, filled, one_less}
use Rattle.mem_lists.specs.declared.Seat.{Seat}
use Rattle.mem_lists.specs.declared.Off.{Off}
use Rattle.mem_lists.specs.Spaces.{ends_of, linked, seat_of, off_of}

-- the record with another number of free spaces and another Output List
unfoldable pub with_ends : Record → ℕ → Ends → Record
with_ends r free output = record_with r r.t r.turn r.rotation free output

abbrev pub output_ends : Record → Ends
output_ends r = ends_of r.outhead r.outtail

unfoldable pub clocked : Record → Record
clocked r =
    record_with r ((r.t + 1) % slot_numbers) ((r.turn + 1) % r.n) ((r.rotation + 1) % connections_in r.v) r.free (output_ends r)

unfoldable pub rotated : Record → Option Fall → List ℕ → List ℕ
rotated k None words = words
rotated k (Some f) words = fallen true k.rotation f.s f.second k.t words

unfoldable pub quiet_work : Record → Judged → List ℕ → List ℕ → List ℕ → List ℕ → List ℕ → List ℕ → Work
quiet_work k j cells links calendar words bits arrived =
    work_of (state_of k cells links calendar (fallen (j.verdict =? excess) j.vci j.s j.second k.t words) bits arrived)
    (answer_of 0 j.verdict j.vci 0 empty 0)

-- the work after step 2
unfoldable pub rotated_work : Record → List ℕ → List ℕ → List ℕ → List ℕ → List ℕ → List ℕ → Work
rotated_work k cells links calendar words bits arrived = work_of (state_of k cells links calendar words bits arrived) (bare_answer 0)

-- the work in step 3 when a cell is accepted and has no space yet, and the taking of space x
unfoldable pub seeking_work : Record → Judged → List ℕ → List ℕ → List ℕ → List ℕ → List ℕ → List ℕ → Work
seeking_work k j cells links calendar words bits arrived =
    work_of (state_of k cells links calendar (filled j.vci j.s j.second k.t j.waiting words) bits arrived)
    (answer_of 0 j.verdict j.vci j.d empty 0)

unfoldable pub seating : Record → Judged → ℕ → List ℕ → List ℕ → List ℕ → List ℕ → List ℕ → List ℕ → List ℕ → Out Work
seating k j x cell cells links calendar words bits arrived =
    needs (spaces_fit k.n k.free bits && not (k.free =? 0))
    (needs (is_free_space bits x) (place (sent_as j.verdict cell) j.d x (seeking_work k j cells links calendar words bits arrived)))

unfoldable pub seat_now : Record → ℕ → List ℕ → List ℕ → Option Seat
seat_now k D calendar bits =
    when spaces_fit k.n k.free bits && not (k.free =? 0) then seat_of k.n calendar k.turn D (lowest_free bits) else None

-- the entry that the cell has joined: at the head, and at the tail where it was empty
unfoldable pub seat_ends : Seat → Ends
seat_ends a = ends_of a.x (when a.head =? empty then a.x else a.tail)

unfoldable pub accept_work : Record → Judged → Seat → List ℕ → List ℕ → List ℕ → List ℕ → List ℕ → List ℕ → List ℕ → Work
accept_work k j a cell cells links calendar words bits arrived =
    work_of
    (state_of (with_ends k (k.free - 1) (output_ends k))
    (write_cell cells a.x (sent_as j.verdict cell))
    (linked (not (a.head =? empty)) a.x a.head links)
    (write_entry calendar a.e (seat_ends a))
    (filled j.vci j.s j.second k.t j.waiting words)
    (marked (taken bits a.x) a.e)
    (set arrived a.x k.t))
    (answer_of 0 j.verdict j.vci j.d empty 0)

unfoldable pub left_by : Work → List ℕ → List ℕ → List ℕ → Off → Work
left_by w links calendar bits o =
    let s = w.state in
    let r = s.ctl in
    let a = w.answer in
    work_of
    (state_of (with_ends r (r.free + 1) (ends_of o.head o.tail))
    s.cells
    links
    calendar
    (one_less o.vci s.words)
    (given bits o.space)
    s.arrived)
    (answer_of a.number a.verdict a.vci a.d o.space o.vci)

-- refusal 3: "a bit at or above N, a number other than the ones .. or a freed space already free"
unfoldable pub may_be_freed : ℕ → ℕ → List ℕ → ℕ → Bool
may_be_freed N free bits x = spaces_fit N free bits && not (is_free_space bits x)

unfoldable pub leaving : Work → List ℕ → List ℕ → List ℕ → Option Off → Out Work
leaving w links calendar bits None = refused
leaving w links calendar bits (Some o) =
    let s = w.state in
    when may_be_freed s.ctl.n s.ctl.free s.bits o.space then next (left_by w links calendar bits o) else refused

-- step 4: the links once entry T has joined the Output List, and that list's head
unfoldable pub joined_links : Record → Ends → List ℕ → List ℕ
joined_links r entry links = linked (not (r.outhead =? empty)) r.outtail entry.head links

unfoldable pub joined_head : Record → Ends → ℕ
joined_head r entry = when r.outhead =? empty then entry.head else r.outhead

-- what departs from a work after step 3, where entry T is marked, and where it is not
unfoldable pub off_marked : Work → Ends → Option Off
off_marked w entry =
    let s = w.state in
    off_of s.ctl.n s.ctl.v s.ctl.kind s.cells (joined_links s.ctl entry s.links) s.words (joined_head s.ctl entry) entry.tail

unfoldable pub off_unmarked : Work → Option Off
off_unmarked w =
    let s = w.state in
    off_of s.ctl.n s.ctl.v s.ctl.kind s.cells s.links s.words s.ctl.outhead s.ctl.outtail

-- steps 4 and 5 of a work after step 3: entry T is marked, with these ends; or it is not, and the Output List has a head
unfoldable pub leaving_marked : Work → Ends → Out Work
leaving_marked w entry =
    let s = w.state in
    leaving w (joined_links s.ctl entry s.links) (write_entry s.calendar s.ctl.turn empty_list) (unmarked s.bits s.ctl.turn)
    (off_marked w entry)

unfoldable pub leaving_output : Work → Out Work
leaving_output w = leaving w w.state.links w.state.calendar w.state.bits (off_unmarked w)

-- the same where entry T is not marked, whatever the Output List is
unfoldable pub leaving_unmarked : Work → Out Work
leaving_unmarked w =
    let r = w.state.ctl in
    when ends_fit r.n (output_ends r) then (when r.outhead =? empty then next w else leaving_output w) else refused

-- what a case of the code gives back, with the memories as it leaves them
abbrev pub served_work : Served → List ℕ → List ℕ → List ℕ → List ℕ → List ℕ → List ℕ → Work
served_work s cells links calendar words bits arrived = work_of (state_of s.ctl cells links calendar words bits arrived) s.answer
