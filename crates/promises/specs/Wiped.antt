-- Why request (ii) was made: close as document 01 had it before, kept for this one statement. With it a VC that is closed
-- and reopened at once sends twice its peak.
--
--   close_wiping       == close that looks at waiting alone
--   call_wiping        == a call of a run, with that close
--   reopened_at_once    == a cell in slot 0 (before_close), then close and open, at F 10 and L 1
--   closed_every_five   == the same again every 5 slots, 20 slots in all
use Rattle.std.specs.Prelude.{ℕ, not, List, [], ◌∷◌, ◌++◌, replicate}
use Rattle.meaning.specs.declared.Record.{Record}
use Rattle.meaning.specs.Plain.{when◌then◌else◌, ◌=?◌}
use Rattle.meaning.specs.State.{with_words}
use Rattle.meaning.specs.Header.{Name, by_vci, number_in}
use Rattle.meaning.specs.Words.{connection_at, write_connection, closed_connection}
use Rattle.meaning.specs.Calls.{Called, called_of, shared_refusal}
use Rattle.meaning_runs.specs.Run.{Call, on_open_with, on_open, on_close, on_slot, closed, Run, run_of, call}
use Rattle.meaning_runs.specs.Eight.{cell_for}

unfoldable pub close_wiping : Record → List ℕ → ℕ → Name → Called
close_wiping r words who name =
    let c = number_in r.v name in
    let k = shared_refusal r words who name in
    when not (k =? 0) then called_of k words
    else when (connection_at words c).opened =? 0 then called_of 7 words
    else when not ((connection_at words c).waiting =? 0) then called_of 8 words
    else called_of 0 (write_connection words c closed_connection)

unfoldable pub call_wiping : Run → Call → Run
call_wiping r (on_open_with who name m F C x) = call r (on_open_with who name m F C x)
call_wiping r (on_close who name) =
    let s = r.state in
    let c = close_wiping s.ctl s.words who name in
    run_of (with_words s c.words) (closed who (number_in s.ctl.v name) c.number ∷ r.events)
call_wiping r (on_slot cell) = call r (on_slot cell)

unfoldable pub calls_wiping : Run → List Call → Run
calls_wiping r [] = r
calls_wiping r (c ∷ cs) = calls_wiping (call_wiping r c) cs

abbrev pub before_close : List Call
before_close = on_open 1 0 10 10 ∷ on_slot (cell_for 1) ∷ []

abbrev pub reopened_at_once : List Call
reopened_at_once = before_close ++ (on_close 1 (by_vci 1) ∷ on_open 1 0 10 10 ∷ [])

-- open, a cell and four empty slots, close
abbrev five_slots : List Call
five_slots = on_open 1 0 10 10 ∷ on_slot (cell_for 1) ∷ (replicate 4 (on_slot []) ++ (on_close 1 (by_vci 1) ∷ []))

abbrev pub closed_every_five : List Call
closed_every_five = five_slots ++ (five_slots ++ (five_slots ++ five_slots))
