-- Close and slot over any clock: how it moves in a slot, and how many slots have elapsed since `last`, are parameters. With
-- t and elapsed modulo 2^32 they are those of document 01 (proofs/Instances.antt), so a policer with another clock differs
-- from it in the clock alone. Each step takes the part before it as a parameter too, under the name that it has there.
use Rattle.std.specs.Prelude.{ℕ, ◌+◌, ◌%◌, not, ◌&&◌, ◌||◌, List, length}
use Rattle.base_hec.specs.Modes.{arriving_fits}
use Rattle.meaning.specs.declared.Record.{Record}
use Rattle.meaning.specs.Plain.{when◌then◌else◌, ◌<?◌, ◌=?◌, Out, next, needs, ◌and_then◌}
use Rattle.meaning.specs.Numbers.{ranges_hold, octets, connections_in, unused, kind_in_range, unknown}
use Rattle.meaning.specs.State.{State, sizes_hold, with_clock, with_mode}
use Rattle.meaning.specs.Header.{header_at, no_user_cell, Name, number_in, connection, names_connection}
use Rattle.meaning.specs.Bucket.{fall}
use Rattle.meaning.specs.Words.{Connection, connection_at, write_connection, closed_connection, open_word_fits, buckets_fit, fallen_to}
use Rattle.meaning.specs.Calls.{Called, called_of, shared_refusal}
use Rattle.meaning.specs.Work.{Work, work_of, bare_answer, with_state, with_connection, with_arrival}
use Rattle.meaning.specs.Arrival.{judge}
use Rattle.meaning.specs.Slot.{step4, step5, finish, told}
use Rattle.meaning_runs.specs.Run.{let_in}

-- "it is brought up to date: S falls by elapsed × L .. last becomes t", and both buckets do
abbrev pub up_to_date_by : (ℕ → ℕ → ℕ) → ℕ → ℕ → Connection → Out Connection
up_to_date_by elapsed_by N t vc = needs (buckets_fit N vc) (next (fallen_to (elapsed_by t vc.last) t vc))

-- 1: the clock moves; "T by one modulo N, rotation by one modulo V", by document 02 (vi) V + 256
abbrev pub step1_by : (ℕ → ℕ) → Work → Out Work
step1_by later w =
    let s = w.state in
    let r = s.ctl in
    let T = (r.turn + 1) % r.n in
    let rotation = (r.rotation + 1) % connections_in r.v in
    needs (r.turn <? r.n && r.rotation <? connections_in r.v) (next (with_state w (with_clock s (later r.t) T rotation)))

-- 2: the connection that rotation names
abbrev pub step2_by : (ℕ → ℕ → Connection → Out Connection) → Work → Out Work
step2_by up_to_date w =
    let s = w.state in
    let c = s.ctl.rotation in
    let vc = connection_at s.words c in
    when unused s.ctl.v c then next w
    else needs (open_word_fits vc)
    (when vc.opened =? 0 then next w
    else (up_to_date s.ctl.n s.ctl.t vc and_then λ now. next (with_connection w c now)))

-- 3: the connection of the arriving cell, which takes space x, if it is let in
abbrev pub step3_by : (ℕ → ℕ → Connection → Out Connection) → ℕ → List ℕ → Work → Out Work
step3_by up_to_date x cell w =
    let s = w.state in
    let h = header_at s.ctl.kind cell 0 in
    let c = connection s.ctl.v h in
    let vc = connection_at s.words c in
    let is_unknown = next (with_arrival w unknown h.vci 0) in
    when length cell =? 0 then next w
    else needs (kind_in_range s.ctl.kind)
    (when no_user_cell h then next w
    else when not (names_connection s.ctl.v h) then is_unknown
    else needs (open_word_fits vc)
    (when vc.opened =? 0 then is_unknown
    else (up_to_date s.ctl.n s.ctl.t vc and_then judge x cell c w)))

-- 4 and 5 touch neither t nor elapsed, and keep every `last`
abbrev pub five_steps_by : (Work → Out Work) → (Work → Out Work) → (List ℕ → Work → Out Work) → List ℕ → Work → Out Work
five_steps_by step1 step2 step3 cell w = step1 w and_then step2 and_then step3 cell and_then step4 and_then step5

-- "slot 1, 2, 9, 3", with the header check of document 02 (i) in front
abbrev pub slot_by : (List ℕ → Work → Out Work) → State → List ℕ → Work
slot_by five_steps s cell =
    let N = s.ctl.n in
    let z = s.ctl.v in
    let a = let_in s cell in
    when not (ranges_hold N z) then work_of s (bare_answer 1)
    else when not (sizes_hold s) then work_of s (bare_answer 2)
    else when not (length cell =? 0 || length cell =? octets) then work_of s (bare_answer 9)
    else finish s (needs (arriving_fits s.ctl.raw s.ctl.mode cell)
    (five_steps a.cell (work_of (with_mode s a.mode) (bare_answer 0)) and_then λ w. next (told a.dropped w)))

-- document 02 (ii): "bring the VC up to date as of t": what is then left in its bucket
abbrev pub debt_by : (ℕ → ℕ → ℕ) → ℕ → Connection → ℕ
debt_by elapsed_by t vc = (fall (elapsed_by t vc.last) vc.bucket).S

-- "8 is given when waiting or the updated S isn't 0"; "Closing clears all seven words.", and the five of document 02 (iv)
abbrev pub close_by : (ℕ → Connection → ℕ) → Record → List ℕ → ℕ → Name → Called
close_by debt r words who name =
    let c = number_in r.v name in
    let k = shared_refusal r words who name in
    when not (k =? 0) then called_of k words
    else when (connection_at words c).opened =? 0 then called_of 7 words
    else when not ((connection_at words c).waiting =? 0 && debt r.t (connection_at words c) =? 0) then called_of 8 words
    else called_of 0 (write_connection words c closed_connection)
