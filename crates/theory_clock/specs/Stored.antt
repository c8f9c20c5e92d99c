-- What 32 bits keep of the clock that never wraps: the record and memories of the policer, from those of its unwrapped
-- fellow. Only the numbers t and last and the arrival slots differ.
use Rattle.std.specs.Prelude.{ℕ, zero, suc, ◌+◌, ◌-◌, ◌%◌, List, map}
use Rattle.meaning.specs.Plain.{when◌then◌else◌, ◌=?◌}
use Rattle.meaning.specs.Numbers.{slot_numbers, connections_in}
use Rattle.meaning.specs.State.{State, with_clock, with_words, with_arrived}
use Rattle.meaning.specs.Words.{Connection, connection_at, write_connection}
use Rattle.meaning.specs.Calls.{Called, called_of}
use Rattle.meaning.specs.Work.{Work, work_of}

-- "The slot number is 32 bits wide and wraps. The first slot after setup is slot 0." After k slots t is k - 1 modulo 2^32.
unfoldable pub stored : ℕ → ℕ
stored k = (k + slot_numbers - 1) % slot_numbers

-- a connection's words; those of a closed one hold no slot number
unfoldable pub stored_connection : Connection → Connection
stored_connection vc =
    record {
      opened = vc.opened;
      bucket = vc.bucket;
      last = (when vc.opened =? 0 then vc.last else stored vc.last);
      waiting = vc.waiting;
      second = vc.second;
      tag = vc.tag;
    }

-- the words of the connections below R
unfoldable pub stored_words : ℕ → List ℕ → List ℕ
stored_words zero words = words
stored_words (suc R) words = write_connection (stored_words R words) R (stored_connection (connection_at words R))

-- document 02 (x): an arrival slot. Where the unwrapped fellow counts the slots served up to the cell's own, from 1 on, the policer
-- has its number, from 0 on; both hold 0 where no cell has come since setup
unfoldable pub stored_arrival : ℕ → ℕ
stored_arrival k = (k - 1) % slot_numbers

unfoldable pub stored_arrivals : List ℕ → List ℕ
stored_arrivals arrived = map stored_arrival arrived

unfoldable pub stored_state : State → State
stored_state u =
    let r = u.ctl in
    let s1 = with_clock u (stored r.t) r.turn r.rotation in
    with_arrived (with_words s1 (stored_words (connections_in r.v) u.words)) (stored_arrivals u.arrived)

-- the answer is the same
unfoldable pub stored_work : Work → Work
stored_work w = work_of (stored_state w.state) w.answer

-- so is the number that open and close give
unfoldable pub stored_called : ℕ → Called → Called
stored_called z c = called_of c.number (stored_words (connections_in z) c.words)
