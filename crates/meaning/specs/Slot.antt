-- Document 01, "One slot, in this order". "A slot reads what its five steps name, as earlier steps changed it, and no
-- other number." A step that would read a number outside its range is refused, with 3.
use Rattle.std.specs.Prelude.{ℕ, ◌+◌, ◌-◌, ◌%◌, Bool, not, ◌&&◌, ◌||◌, List, length}
use Rattle.base_hec.specs.Modes.{arriving, arriving_fits}
use Rattle.meaning.specs.Plain.{when◌then◌else◌, ◌<?◌, ◌≤?◌, ◌=?◌, Out, refused, next, needs, ◌and_then◌}
use Rattle.meaning.specs.Numbers.{ranges_hold, octets, cell_start, slot_numbers, connections_in, unused, kind_in_range, unknown, dropped}
use Rattle.meaning.specs.State.{State, output_list, sizes_hold}
use Rattle.meaning.specs.State.{with_links, with_calendar, with_clock, with_free, with_bits, with_output_list, with_mode}
use Rattle.meaning.specs.Bits.{is_free_space, spaces_fit, lowest_free, given, unmarked}
use Rattle.meaning.specs.Header.{header_at, no_user_cell, names_connection, names_open, connection}
use Rattle.meaning.specs.Words.{connection_at, with_waiting, open_word_fits, up_to_date}
use Rattle.meaning.specs.Lists.{empty_list, is_empty, ends_fit, entry_at, write_entry, Taken, take_head, join_tail}
use Rattle.meaning.specs.Work.{Work, work_of, bare_answer, with_state, with_connection, with_arrival, with_departure}
use Rattle.meaning.specs.Arrival.{judge}

-- "1. t grows by one modulo 2^32, T by one modulo N, rotation by one modulo V."; document 02 (vi): "rotation goes over all"
unfoldable pub step1 : Work → Out Work
step1 w =
    let s = w.state in
    let r = s.ctl in
    let t = (r.t + 1) % slot_numbers in
    let T = (r.turn + 1) % r.n in
    let rotation = (r.rotation + 1) % connections_in r.v in
    needs (r.turn <? r.n && r.rotation <? connections_in r.v) (next (with_state w (with_clock s t T rotation)))

-- "2. If the VC that rotation names is open, it is brought up to date .. VC 0 is never open, and its words are not read.", nor
-- are those of path 0
unfoldable pub step2 : Work → Out Work
step2 w =
    let s = w.state in
    let c = s.ctl.rotation in
    let conn = connection_at s.words c in
    when unused s.ctl.v c then next w
    else needs (open_word_fits conn)
    (when conn.opened =? 0 then next w
    else (up_to_date s.ctl.n s.ctl.t conn and_then λ now. next (with_connection w c now)))

-- "3. Arrival at an open VC: it is brought up to date in the same way." "VPI not 0, VCI of V or more, or a VC not
-- open: unknown."; document 02 (vi) has a path for VPI 1 to 255. The line kind is read where a header is: of a cell that the
-- header check let through, here, and of a departing one. x is the space that the cell takes, if it is let in.
unfoldable pub step3 : ℕ → List ℕ → Work → Out Work
step3 x cell w =
    let s = w.state in
    let h = header_at s.ctl.kind cell 0 in
    let c = connection s.ctl.v h in
    let conn = connection_at s.words c in
    let is_unknown = next (with_arrival w unknown h.vci 0) in
    when length cell =? 0 then next w
    else needs (kind_in_range s.ctl.kind)
    (when no_user_cell h then next w
    else when not (names_connection s.ctl.v h) then is_unknown
    else needs (open_word_fits conn)
    (when conn.opened =? 0 then is_unknown
    else (up_to_date s.ctl.n s.ctl.t conn and_then judge x cell c w)))

-- "4. Entry T, if marked, is joined to the end of the Output List .. The entry is emptied." Steps 4 and 5 read both heads
-- and tails in every slot; what step 4 leaves of the Output List fits again, so step 5 need not judge it. Document 02 (ix): the
-- bit of an entry that is emptied is cleared.
unfoldable pub step4 : Work → Out Work
step4 w =
    let s = w.state in
    let N = s.ctl.n in
    let T = s.ctl.turn in
    let entry = entry_at s.calendar T in
    let grown = join_tail s.links (output_list s) entry in
    let s1 = with_links (with_output_list s grown.ends) grown.links in
    let s2 = with_calendar s1 (write_entry s.calendar T empty_list) in
    let s3 = with_bits s2 (unmarked s.bits T) in
    needs (ends_fit N entry && ends_fit N (output_list s))
    (when is_empty entry then next w else next (with_state w s3))

-- 5, once the head is taken: "Its VC's waiting falls by one." "the departing header names an open VC"; "waiting at most N .. above
-- 0 when one departs". Document 02 (vii): its space is free again; 3 for "a bit at or above N, a number other than the ones .. or a
-- freed space already free", as step 3 left them
unfoldable pub depart : Work → Taken → Out Work
depart w head =
    let s = w.state in
    let N = s.ctl.n in
    let x = head.space in
    let h = header_at s.ctl.kind s.cells (cell_start x) in
    let c = connection s.ctl.v h in
    let conn = connection_at s.words c in
    let s1 = with_output_list s head.left in
    let s2 = with_free s1 (s.ctl.free + 1) (given s.bits x) in
    let w1 = with_connection (with_state w s2) c (with_waiting conn (conn.waiting - 1)) in
    needs (kind_in_range s.ctl.kind && names_open s.ctl.v s.words h)
    (needs (1 ≤? conn.waiting && conn.waiting ≤? N)
    (needs (spaces_fit N s.ctl.free s.bits && not (is_free_space s.bits x)) (next (with_departure w1 x c))))

-- "5. The head of the Output List, if any, departs."
unfoldable pub step5 : Work → Out Work
step5 w =
    let s = w.state in
    when is_empty (output_list s) then next w
    else (take_head s.ctl.n s.links (output_list s) and_then depart w)

unfoldable pub five_steps : ℕ → List ℕ → Work → Out Work
five_steps x cell w = step1 w and_then step2 and_then step3 x cell and_then step4 and_then step5

-- "Each leaves everything as it came."
unfoldable pub finish : State → Out Work → Work
finish s refused = work_of s (bare_answer 3)
finish s (next w) = w

-- "slot 1, 2, 9, 3", as document 01 has it: the state and the answer after one slot; cell is none or 53 octets. A cell that is let
-- in takes space x.
unfoldable pub unchecked_slot_at : ℕ → State → List ℕ → Work
unchecked_slot_at x s cell =
    let N = s.ctl.n in
    let z = s.ctl.v in
    when not (ranges_hold N z) then work_of s (bare_answer 1)
    else when not (sizes_hold s) then work_of s (bare_answer 2)
    else when not (length cell =? 0 || length cell =? octets) then work_of s (bare_answer 9)
    else finish s (five_steps x cell (work_of s (bare_answer 0)))

-- document 02 (vii): "take the lowest free space"
unfoldable pub unchecked_slot : State → List ℕ → Work
unchecked_slot s cell = unchecked_slot_at (lowest_free s.bits) s cell

-- Document 02 (i): "A dropped cell (verdict 4, H) makes its slot empty for steps 1 to 5; its answer has VCI 0".
abbrev pub told : Bool → Work → Work
told drop w = when drop then with_arrival w dropped 0 0 else w

-- Document 02 (i): the header check comes in front of the five steps, which go on with what it lets through. The mode
-- moves with the slot; "Each leaves everything as it came" covers it too.
unfoldable pub slot_at : ℕ → State → List ℕ → Work
slot_at x s cell =
    let N = s.ctl.n in
    let z = s.ctl.v in
    let a = arriving s.ctl.raw s.ctl.mode cell in
    when not (ranges_hold N z) then work_of s (bare_answer 1)
    else when not (sizes_hold s) then work_of s (bare_answer 2)
    else when not (length cell =? 0 || length cell =? octets) then work_of s (bare_answer 9)
    else finish s (needs (arriving_fits s.ctl.raw s.ctl.mode cell)
    (five_steps x a.cell (work_of (with_mode s a.mode) (bare_answer 0)) and_then λ w. next (told a.dropped w)))

unfoldable pub slot : State → List ℕ → Work
slot s cell = slot_at (lowest_free s.bits) s cell
