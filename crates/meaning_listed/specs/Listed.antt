-- THE OLD FORM: document 01's slot with a Free List, as it stood before request (vii) of document 02. It is kept as the definition
-- that the bits are held against: whatever is called, both say the same, but for the space that a cell has.
--
--   Listed      == a state of the old form: record, cells, links, calendar and words as in a state, and the Free List's head and tail;
--                  of the number and the bits of free spaces it knows nothing, nor of the bits of entries, (ix). It writes the
--                  arrival slot of (x) beside the cell, and reads none
--   takes, gives   == the head of the Free List is taken; a space goes to its tail
--   slot_listed  == the slot; fresh_listed the state after setup
use Rattle.std.specs.Prelude.{ℕ, zero, suc, ◌+◌, ◌-◌, ◌*◌, ◌%◌, Bool, not, ◌&&◌, ◌||◌, List, [], ◌∷◌, ◌++◌, length, set}
use Rattle.base_hec.specs.Modes.{arriving, arriving_fits}
use Rattle.meaning.specs.Plain.{when◌then◌else◌, ◌<?◌, ◌≤?◌, ◌=?◌, Out, refused, next, needs, ◌and_then◌}
use Rattle.meaning.specs.Numbers.{ranges_hold, octets, per_entry, cell_start, connections_in, words_in, unused, kind_in_range, excess, unknown}
use Rattle.meaning.specs.State.{State, Ends, ends_of, output_list, with_cells, with_links, with_calendar, with_output_list, with_arrived, with_mode, write_cell}
use Rattle.meaning.specs.Header.{header_at, clp_in, no_user_cell, connection, names_connection, names_open}
use Rattle.meaning.specs.Bucket.{delay, fill}
use Rattle.meaning.specs.Words.{Connection, connection_at, with_waiting, with_buckets, open_word_fits, up_to_date}
use Rattle.meaning.specs.Lists.{empty_list, is_empty, ends_fit, entry_at, write_entry, Taken, take_head, Grown, join_head, join_tail}
use Rattle.meaning.specs.Calls.{Options, fresh_state}
use Rattle.meaning.specs.Work.{Work, work_of, bare_answer, with_state, with_connection, with_arrival, with_departure}
use Rattle.meaning.specs.Arrival.{verdict_on, second_after, sent_as}
use Rattle.meaning.specs.Slot.{step1, step2, told}

pub record Listed : Type 0 where
  pub state : State
  pub free : Ends

abbrev pub listed_of : State → Ends → Listed
listed_of s free = record { state = s; free = free }

-- what one step hands to the next
pub record ListedWork : Type 0 where
  pub work : Work
  pub free : Ends

abbrev pub work_with : Work → Ends → ListedWork
work_with w free = record { work = w; free = free }

-- steps 1 and 2 leave the Free List as it is
abbrev pub beside : (Work → Out Work) → ListedWork → Out ListedWork
beside step w = step w.work and_then λ v. next (work_with v w.free)

-- 3, once a space is taken: "The cell is written into its own 53 octets .. It joins calendar entry (T+D) modulo N at the head"
unfoldable pub place_listed : List ℕ → ℕ → Work → Taken → Out ListedWork
place_listed cell D w taken =
    let s = w.state in
    let x = taken.space in
    let e = (s.ctl.turn + D) % s.ctl.n in
    let entry = entry_at s.calendar e in
    let grown = join_head s.links entry x in
    let s1 = with_cells s (write_cell s.cells x cell) in
    let s2 = with_links s1 grown.links in
    let s3 = with_calendar s2 (write_entry s.calendar e grown.ends) in
    let s4 = with_arrived s3 (set s.arrived x s.ctl.t) in
    needs (ends_fit s.ctl.n entry) (next (work_with (with_state w s4) taken.left))

-- 3, not excess: "D = floor(S/L), S grows by F, waiting by one. The head of the Free List is taken." "the Free List isn't empty when a
-- space is taken"
unfoldable pub accept_listed : List ℕ → ℕ → ℕ → ListedWork → Connection → Out ListedWork
accept_listed cell verdict c w conn =
    let s = w.work.state in
    let N = s.ctl.n in
    let D = delay conn.bucket in
    let second = second_after (clp_in cell) verdict conn.second in
    let filled = with_waiting (with_buckets conn (fill conn.bucket) second) (conn.waiting + 1) in
    let w1 = with_arrival (with_connection w.work c filled) verdict c D in
    needs (conn.waiting <? N)
    (needs (ends_fit N w.free && not (is_empty w.free))
    (take_head N s.links w.free and_then place_listed (sent_as verdict cell) D w1))

unfoldable pub judge_listed : List ℕ → ℕ → ListedWork → Connection → Out ListedWork
judge_listed cell c w conn =
    let verdict = verdict_on (clp_in cell) conn in
    when verdict =? excess then next (work_with (with_arrival (with_connection w.work c conn) excess c 0) w.free)
    else accept_listed cell verdict c w conn

unfoldable pub step3_listed : List ℕ → ListedWork → Out ListedWork
step3_listed cell w =
    let s = w.work.state in
    let h = header_at s.ctl.kind cell 0 in
    let c = connection s.ctl.v h in
    let conn = connection_at s.words c in
    let is_unknown = next (work_with (with_arrival w.work unknown h.vci 0) w.free) in
    when length cell =? 0 then next w
    else needs (kind_in_range s.ctl.kind)
    (when no_user_cell h then next w
    else when not (names_connection s.ctl.v h) then is_unknown
    else needs (open_word_fits conn)
    (when conn.opened =? 0 then is_unknown
    else (up_to_date s.ctl.n s.ctl.t conn and_then judge_listed cell c w)))

-- 4, which has no bit to clear
unfoldable pub step4_listed : ListedWork → Out ListedWork
step4_listed w =
    let s = w.work.state in
    let N = s.ctl.n in
    let T = s.ctl.turn in
    let entry = entry_at s.calendar T in
    let grown = join_tail s.links (output_list s) entry in
    let s1 = with_links (with_output_list s grown.ends) grown.links in
    let s2 = with_calendar s1 (write_entry s.calendar T empty_list) in
    needs (ends_fit N entry && ends_fit N (output_list s))
    (when is_empty entry then next w else next (work_with (with_state w.work s2) w.free))

-- 5, once the head is taken: "Its VC's waiting falls by one. Its space goes to the tail of the Free List."
unfoldable pub depart_listed : ListedWork → Taken → Out ListedWork
depart_listed w head =
    let s = w.work.state in
    let N = s.ctl.n in
    let x = head.space in
    let h = header_at s.ctl.kind s.cells (cell_start x) in
    let c = connection s.ctl.v h in
    let conn = connection_at s.words c in
    let grown = join_tail s.links w.free (ends_of x x) in
    let s1 = with_links (with_output_list s head.left) grown.links in
    let w1 = with_connection (with_state w.work s1) c (with_waiting conn (conn.waiting - 1)) in
    needs (kind_in_range s.ctl.kind && names_open s.ctl.v s.words h)
    (needs (1 ≤? conn.waiting && conn.waiting ≤? N)
    (needs (ends_fit N w.free) (next (work_with (with_departure w1 x c) grown.ends))))

unfoldable pub step5_listed : ListedWork → Out ListedWork
step5_listed w =
    let s = w.work.state in
    when is_empty (output_list s) then next w
    else (take_head s.ctl.n s.links (output_list s) and_then depart_listed w)

unfoldable pub five_listed : List ℕ → ListedWork → Out ListedWork
five_listed cell w = beside step1 w and_then beside step2 and_then step3_listed cell and_then step4_listed and_then step5_listed

-- "Each leaves everything as it came."
abbrev pub refuse : Listed → ℕ → ListedWork
refuse l number = work_with (work_of l.state (bare_answer number)) l.free

unfoldable pub finish_listed : Listed → Out ListedWork → ListedWork
finish_listed l refused = refuse l 3
finish_listed l (next w) = w

-- refusal 2 as it was: four memories
unfoldable pub four_hold : ℕ → ℕ → State → Bool
four_hold N z s =
    length s.cells =? octets * N && length s.links =? N && length s.calendar =? per_entry * N && length s.words =? words_in z

abbrev pub told_listed : Bool → ListedWork → ListedWork
told_listed drop w = work_with (told drop w.work) w.free

unfoldable pub slot_listed : Listed → List ℕ → ListedWork
slot_listed l cell =
    let s = l.state in
    let N = s.ctl.n in
    let z = s.ctl.v in
    let a = arriving s.ctl.raw s.ctl.mode cell in
    when not (ranges_hold N z) then refuse l 1
    else when not (four_hold N z s) then refuse l 2
    else when not (length cell =? 0 || length cell =? octets) then refuse l 9
    else finish_listed l (needs (arriving_fits s.ctl.raw s.ctl.mode cell)
    (five_listed a.cell (work_with (work_of (with_mode s a.mode) (bare_answer 0)) l.free)
    and_then λ w. next (told_listed a.dropped w)))

-- k numbers, from first on
unfoldable pub count_up : ℕ → ℕ → List ℕ
count_up zero first = []
count_up (suc k) first = first ∷ count_up k (first + 1)

-- "Setup clears all lent memory, then chains spaces 0 to N-1 into the Free List in that order and empties the calendar"
unfoldable pub fresh_listed : ℕ → ℕ → Options → Listed
fresh_listed N z o = listed_of (with_links (fresh_state N z o) (count_up (N - 1) 1 ++ (0 ∷ []))) (ends_of 0 (N - 1))
