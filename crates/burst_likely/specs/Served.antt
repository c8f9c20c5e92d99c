-- What a likely way leaves: the slot served, as the five steps say, and handed out; or everything as it came.
--
--   from2 k cell ..     == steps 2 to 5, the clock having moved to k
--   Ready w ..          == what is known where a slot of a run begins
--   Spotted k j .. p    == of a cell that is let in: what it was judged, and that it has its seat
--   went_way w g         == the policer after a slot that was served
--   Done ..             == the slot is served: its answer, the memories, the departing cell and the six numbers
--   Either ..           == that, or everything as it came
--   followed f i l      == the links l, with link i naming what f has, where it has something
--   likely_name ..       == the name of slot i's cell, or none that a header has where the likely ways can't take it
--   Clean ..            == of a raw policer's cell: its octet 5 is the right one
--   likely_judged ..    == what step 3 finds of slot i's cell, by that name
--   Keeps ..            == all is in range and the lists are regular: the likely way is kept
use Rattle.std.specs.Prelude.{ℕ, ◌+◌, ◌*◌, ◌≤◌, ◌<◌, ◌≡◌, ◌≢◌, ◌⊎◌, true, false, Option, Some, None, IfSome, MatchOption, List, length, get_or, set, take, drop}
use Rattle.base_hec.specs.Check.{check_of, head_of}
use Rattle.meaning.specs.declared.Record.{Record}
use Rattle.meaning.specs.declared.Answer.{Answer}
use Rattle.meaning.specs.Plain.{when◌then◌else◌, ◌=?◌, Out, next, ◌and_then◌}
use Rattle.meaning.specs.Numbers.{lets_in, most_n, octets, cell_start, unused, connection_place, connections_in, most_v, empty, excess, waiting_place, bit_words}
use Rattle.meaning.specs.Bits.{is_free_space, spaces_fit, lowest_free}
use Rattle.meaning.specs.State.{Ends, state_of, HasConnection}
use Rattle.meaning.specs.Header.{clp_in}
use Rattle.meaning.specs.Lists.{ends_fit, entry_at}
use Rattle.meaning.specs.Work.{Work, work_of, bare_answer}
use Rattle.meaning.specs.Slot.{step2, step3, step4, step5}
use Rattle.meaning.specs.Lent.{Slice, SliceMut, Lent, LentMut}
use Rattle.leaf_header.specs.Name.{no_name, name_at, word_at}
use Rattle.slot_arrive.specs.declared.Fall.{Fall}
use Rattle.slot_arrive.specs.declared.Judged.{Judged}
use Rattle.slot_arrive.specs.Arrival.{brought_of, judged_name, fallen, filled}
use Rattle.slot_plan.specs.Plan.{with_ends, output_ends, rotated, seat_now}
use Rattle.slot_plan.specs.Works.{quiet_of, accept_of, last_steps}
use Rattle.slot_plan.specs.Facts.{Sized, Accepted}
use Rattle.burst_out.specs.Handout.{shown_into, answer_long, write_answer}
use Rattle.burst_way.specs.declared.Way.{Way}
use Rattle.burst_way.specs.Way.{way_with, slot_record, NamesBy}
use Rattle.burst_arrive.specs.declared.Spot.{Spot}
use Rattle.burst_arrive.specs.Arriving.{seat_at, spot_of, Seats}
use Rattle.burst_depart.specs.declared.Leave.{Leave}
use Rattle.burst_depart.specs.Leaving.{Regular, RegularThen}
use Rattle.burst_likely.specs.declared.Went.{Went}

abbrev pub from2 : Record → List ℕ → List ℕ → List ℕ → List ℕ → List ℕ → List ℕ → List ℕ → Out Work
from2 k cell cells links calendar words bits arrived =
    step2 (work_of (state_of k cells links calendar words bits arrived) (bare_answer 0)) and_then step3 (lowest_free bits) cell and_then step4 and_then step5

pub record Ready (w : Way) (cells links calendar words bits arrived : List ℕ) : Type 0 where
  pub sized : Sized (state_of (slot_record w) cells links calendar words bits arrived)
  pub names : NamesBy w
  pub spaces_fit_lem : spaces_fit w.n w.free bits ≡ true
  pub output_fits : ends_fit w.n (output_ends (slot_record w)) ≡ true
  pub unused_closed : unused w.v w.rotation ≡ true → get_or words (connection_place w.rotation) 0 ≡ 0

pub record Spotted (k : Record) (j : Judged) (calendar words bits cell : List ℕ) (p : Spot) : Type 0 where
  pub is_accepted_lem : Accepted k j cell words
  pub seats : Seats k calendar bits p
  pub of_connection_lem : p.vci ≡ j.vci
  pub of_delay : p.d ≡ j.d

-- slot i has its octets and its six numbers
pub record HandedTo (departures answers : List ℕ) (i : ℕ) : Type 0 where
  pub departure : cell_start i + octets ≤ length departures
  pub answer : answer_long * i + answer_long ≤ length answers

abbrev pub went_way : Way → Went → Way
went_way w g = way_with w w.t w.turn w.rotation g.free g.outhead g.outtail

-- what a slot with target served leaves; a primed name is what a lent buffer holds afterwards
pub record Done (k : Record) (target : Out Work) (w' : Way) (cells' links' calendar' words' bits' arrived' departures departures' answers answers' : List ℕ) (i : ℕ) : Type 0 where
  pub answer : Answer
  pub number : answer.number ≡ 0
  pub is : target ≡ next (work_of (state_of (slot_record w') cells' links' calendar' words' bits' arrived') answer)
  pub shown : departures' ≡ shown_into departures i cells' answer.space
  pub told : answers' ≡ write_answer answers i answer
  pub free : ℕ
  pub output : Ends
  pub ends : slot_record w' ≡ with_ends k free output
  pub spaces_fit_lem : spaces_fit k.n free bits' ≡ true
  pub output_fits : ends_fit k.n output ≡ true

abbrev pub Either : Way → Out Work → Option Went → List ℕ → List ℕ → List ℕ → List ℕ → List ℕ → List ℕ → List ℕ → List ℕ → List ℕ → List ℕ → List ℕ → List ℕ → List ℕ → List ℕ → List ℕ → List ℕ → ℕ → Type 0
Either w target found cells links calendar words bits arrived departures answers cells' links' calendar' words' bits' arrived' departures' answers' i =
    MatchOption found
    ((cells' ≡ cells) × (links' ≡ links) × (calendar' ≡ calendar) × (words' ≡ words) × (bits' ≡ bits) × (arrived' ≡ arrived) × (departures' ≡ departures) × (answers' ≡ answers))
    (λ g. Done (slot_record w) target (went_way w g) cells' links' calendar' words' bits' arrived' departures departures' answers answers' i)

-- the links once the chain of entry T has followed the old tail of the Output List, where it does
abbrev pub followed : Option ℕ → ℕ → List ℕ → List ℕ
followed None tail links = links
followed (Some head) tail links = set links tail head

-- ---- slot i's cell
unfoldable pub likely_name : ℕ → ℕ → List ℕ → ℕ → ℕ → ℕ
likely_name raw kind arrivals size i =
    when size =? 0 then 0
    else when size =? 53
    then (when raw =? 0 then name_at kind arrivals (53 * i) else when check_of (word_at arrivals (53 * i)) =? get_or arrivals (53 * i + 4) 0 then name_at kind arrivals (53 * i) else no_name)
    else no_name

abbrev pub Clean : List ℕ → Type 0
Clean cell = check_of (head_of cell) ≡ get_or cell 4 0

abbrev pub likely_judged : Way → List ℕ → List ℕ → ℕ → ℕ → Option Judged
likely_judged w words arrivals size i =
    judged_name w.n w.v w.t words (likely_name w.raw w.kind arrivals size i) (clp_in (take octets (drop (cell_start i) arrivals)))

-- the seat of a cell that is let in, j being what was found of it
abbrev pub likely_spot : Way → Judged → List ℕ → List ℕ → Option Spot
likely_spot w j calendar bits = spot_of j.vci j.d (seat_now (slot_record w) j.d calendar bits)

-- Rotation's connection and the cell's are in range; the lists are regular where no cell is let in, and where one is with its seat. A cell
-- that the likely ways can't take, by its size or its header, is never in range.
pub record Keeps (w : Way) (cells links calendar words bits arrivals : List ℕ) (size i : ℕ) : Type 0 where
  pub rotates : brought_of w.n w.v w.t words w.rotation ≢ None
  pub judges : likely_judged w words arrivals size i ≢ None
  pub quiet : (j : Judged) → likely_judged w words arrivals size i ≡ Some j → lets_in j.verdict ≡ false
      → Regular (slot_record w) cells links words bits (entry_at calendar w.turn)
  pub seated : (j : Judged) → likely_judged w words arrivals size i ≡ Some j → lets_in j.verdict ≡ true
      → MatchOption (likely_spot w j calendar bits) ⊥ (λ p. RegularThen (slot_record w) p cells links calendar words bits)

-- ---- the same of lent memories and buffers, for contracts: w is the policer in slot i, cell what is lent to it
abbrev pub CleanIn : Way → List ℕ → ℕ → ℕ → Type 0
CleanIn w arrivals size i = (w.raw ≡ 0) ⊎ ((size ≡ 0) ⊎ Clean (take size (drop (cell_start i) arrivals)))

abbrev pub cell_before : Lent → ℕ → List ℕ
cell_before arrivals i = take octets (drop (cell_start i) arrivals.entry.now)

abbrev pub ReadyIn : Way → List ℕ → List ℕ → List ℕ → List ℕ → List ℕ → List ℕ → Type 0
ReadyIn w cells links calendar words bits arrived = Ready w cells links calendar words bits arrived

abbrev pub SpottedIn : Way → Judged → Spot → SliceMut → SliceMut → SliceMut → Slice → ℕ → Type 0
SpottedIn w j p calendar words bits arrivals i =
    Spotted (slot_record w) j calendar.now words.now bits.now (take octets (drop (cell_start i) arrivals.now)) p

-- what the writes of a departure ask for, once the cell is stored
abbrev pub MayLeave : Way → Leave → Slice → SliceMut → SliceMut → SliceMut → SliceMut → Type 0
MayLeave w o cells links calendar words bits =
    (HasConnection o.vci words.now) × (o.vci < connections_in most_v) × (1 ≤ get_or words.now (waiting_place o.vci) 0)
    × (w.turn < most_n) × (2 * w.turn + 2 ≤ length calendar.now)
    × IfSome o.follows (λ head. (w.outtail < length links.now) × (w.outtail ≤ empty) × (head ≤ empty))
    × (o.space < most_n) × (length bits.now ≡ bit_words) × (is_free_space bits.now o.space ≡ false) × (cell_start o.space + octets ≤ length cells.now)

-- steps 2 to 5 of the memories as they came
abbrev pub from_here : Way → List ℕ → LentMut → LentMut → LentMut → LentMut → LentMut → LentMut → Out Work
from_here w cell cells links calendar words bits arrived =
    from2 (slot_record w) cell cells.entry.now links.entry.now calendar.entry.now words.entry.now bits.entry.now arrived.entry.now

-- steps 4 and 5 once b and j were found: where no cell is let in, and where one is, with its seat
abbrev pub quiet_from : Way → Option Fall → Judged → Lent → LentMut → LentMut → LentMut → LentMut → LentMut → Out Work
quiet_from w b j cells links calendar words bits arrived =
    last_steps (quiet_of (state_of (slot_record w) cells.entry.now links.entry.now calendar.entry.now words.entry.now bits.entry.now arrived.entry.now) b j)

abbrev pub accept_from : Way → Option Fall → Judged → Spot → List ℕ → LentMut → LentMut → LentMut → LentMut → LentMut → LentMut → Out Work
accept_from w b j p cell cells links calendar words bits arrived =
    last_steps (accept_of (state_of (slot_record w) cells.entry.now links.entry.now calendar.entry.now words.entry.now bits.entry.now arrived.entry.now) b j (seat_at p) cell)

-- served: g is what is handed on
abbrev pub ServedBy : Way → Out Work → Went → Lent → LentMut → LentMut → LentMut → LentMut → LentMut → LentMut → LentMut → ℕ → Type 0
ServedBy w target g cells links calendar words bits arrived departures answers i =
    Done (slot_record w) target (went_way w g)
    cells.exit.now links.exit.now calendar.exit.now words.exit.now bits.exit.now arrived.exit.now
    departures.entry.now departures.exit.now answers.entry.now answers.exit.now i

abbrev pub ServedOrLeft : Way → Out Work → Option Went → LentMut → LentMut → LentMut → LentMut → LentMut → LentMut → LentMut → LentMut → ℕ → Type 0
ServedOrLeft w target found cells links calendar words bits arrived departures answers i =
    Either w target found
    cells.entry.now links.entry.now calendar.entry.now words.entry.now bits.entry.now arrived.entry.now departures.entry.now answers.entry.now
    cells.exit.now links.exit.now calendar.exit.now words.exit.now bits.exit.now arrived.exit.now departures.exit.now answers.exit.now i

-- the same where no cell is accepted, so that the cells are only read
abbrev pub QuietServedOrLeft : Way → Out Work → Option Went → Lent → LentMut → LentMut → LentMut → LentMut → LentMut → LentMut → LentMut → ℕ → Type 0
QuietServedOrLeft w target found cells links calendar words bits arrived departures answers i =
    Either w target found
    cells.entry.now links.entry.now calendar.entry.now words.entry.now bits.entry.now arrived.entry.now departures.entry.now answers.entry.now
    cells.exit.now links.exit.now calendar.exit.now words.exit.now bits.exit.now arrived.exit.now departures.exit.now answers.exit.now i

-- the words once steps 2 and 3 have written what they found: where no cell is let in, and where one is
abbrev pub words_fallen : Way → Option Fall → Judged → List ℕ → List ℕ
words_fallen w b j words = fallen (j.verdict =? excess) j.vci j.s j.second w.t (rotated (slot_record w) b words)

abbrev pub words_filled : Way → Option Fall → Judged → List ℕ → List ℕ
words_filled w b j words = filled j.vci j.s j.second w.t j.waiting (rotated (slot_record w) b words)
