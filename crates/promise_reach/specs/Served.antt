-- A refused slot has a line of its own (`refused_line`), and no trace reaches it.
--
--   Serves s c      == the call c in state s is no slot that is refused
--   AllServe s cs   == nor is any of the calls cs, from state s on, up to where the run ends
use Rattle.std.specs.Prelude.{ℕ, ◌≤◌, ◌≡◌, false, List}
use Rattle.meaning.specs.State.{State}
use Rattle.meaning.specs.Slot.{slot}
use Rattle.list_meaning.specs.Trace.{Call, set_up, open_connection, close_connection, serve, Calls, finished, stopped, call, calls_of}
use Rattle.list_meaning.specs.Listing.{state_after, ends_run, lent_for}

abbrev pub Serves : State → Call → Type 0
Serves s (set_up N z o) = 0 ≤ 0
Serves s (open_connection name m F C x) = 0 ≤ 0
Serves s (close_connection name) = 0 ≤ 0
Serves s (serve cell) = (slot s cell).answer.number ≡ 0

abbrev pub AllServe : State → Calls → Type 0
AllServe s finished = 0 ≤ 0
AllServe s (stopped place) = 0 ≤ 0
AllServe s (call c rest) = Serves s c × (ends_run s c ≡ false → AllServe (state_after s c) rest)

-- of every input, however long
abbrev pub EverySlotServed : Type 0
EverySlotServed = (input : List ℕ) → AllServe (lent_for (calls_of input)) (calls_of input)
