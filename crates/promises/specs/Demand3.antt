-- DEMAND 3. A setup of a policer with N spaces has answered 0, whatever the memory held before. Then any calls follow:
-- open, close and slot, with any arguments, refused ones among them. After every such run the clauses below hold, where h
-- is what was called and said, the newest first, s the record and memory that the next call gets, z is V, and kind the line kind.
-- Document 02 (vi): "Demands 2 and 3 read "VC" as VC or path": v is the number of a connection, a VC's VCI or V + VPI of a path.
--
-- They speak of the calls and answers alone (crate meaning_runs, specs/):
--   served h             how many slots were served: slot numbers that don't wrap
--   cell_at v k h         the k-th accepted cell of the connection v, from 0: its arrival slot, the D answered, its octets, and,
--                        by the leak rule in exact parts of 1/L slot, its due slot. There are `length (cells_of v h)`
--   departure_at v k h    the k-th departure of the connection v: its slot, and the octets of the line cell, which are the same
--                        whatever idle cell is lent. There are `length (departures_of v h)`
--   opening_of v h        the m, F, C and last due time of the connection v, if it is open, and those of its second bucket
--   leak_accepts o t      the leak rule's verdict on a cell that arrives in slot t; sustains o t, the second bucket's
--   let_in s cell         what the header check of document 02 (i) lets through of the octets lent: all of them, where the
--                        policer is not raw; of a raw one the cell as it came or mended, or none where it is dropped
--   header_let_in kind s cell  the header of those octets, on a line of this kind
--   judged_as kind z h a  verdict, VCI and D by the header let through and the exact leak rules; of a dropped cell 4, 0, 0
-- Document 02 (iv): "Demand 3 and the end line count tagged cells as accepted, with the two octets changed as said." An accepted
-- cell's octets are those let through, the mended ones; a tagged cell's are those too, but for octet 4, whose CLP is 1, and
-- octet 5, which is recomputed. Such cells are the accepted ones below.
-- Signs: (v k : ℕ) → .. for all v and k; A → B where A holds, B; × and; ↔ exactly when; ≡ equals; x.due, the due of x.
use Rattle.std.specs.Prelude.{ℕ, ◌+◌, ◌-◌, ◌≤◌, ◌<◌, ◌≡◌, Bool, true, not, ◌&&◌, ◌||◌, List, [], ◌≢◌, ◌↔◌, length}
use Rattle.std.proofs.Math.Option.{some}
use Rattle.meaning.specs.Plain.{◌=?◌}
use Rattle.meaning.specs.Numbers.{octets, lets_in}
use Rattle.meaning.specs.State.{State}
use Rattle.meaning.specs.Bits.{is_free_space, lowest_free}
use Rattle.meaning.specs.Header.{Header, header_at, clp_in, connection, names_connection}
use Rattle.meaning.specs.Calls.{Asked, setup}
use Rattle.meaning.specs.Slot.{slot}
use Rattle.meaning_runs.specs.Run.{Call, Event, run_of, let_in, calls, served}
use Rattle.meaning_runs.specs.Leak.{Opening, leak_accepts, sustains, opening_of}
use Rattle.meaning_runs.specs.Seen.{cells_of, departures_of, cell_at, departure_at}
use Rattle.meaning_runs.specs.Judged.{judged_of, judged_as}

-- "A cell above the peak is excess. A CLP 0 cell within the peak but above the sustainable rate is tagged if the flag is set ..
-- and otherwise excess": so the leak rules let in a cell with this CLP
unfoldable pub admits : Opening → ℕ → ℕ → Bool
admits o clp t = leak_accepts o t && (not (clp =? 0) || sustains o t || not (o.second.tag =? 0))

abbrev pub header_let_in : ℕ → State → List ℕ → Header
header_let_in kind s cell = header_at kind (let_in s cell).cell 0

pub record Demand3 (N z kind : ℕ) (h : List Event) (s : State) : Type 0 where
  -- 6, 1 and 4: the k-th departure of a connection is its k-th accepted cell. So nothing leaves that was not accepted, no cell
  -- leaves twice, and one connection's cells leave in arrival order, also across a close and a reopening.
  pub was_accepted : (v k : ℕ) → k < length (departures_of v h) → k < length (cells_of v h)
  pub in_order : (v j k : ℕ) → j < k → k < length (departures_of v h)
      → ((cell_at v j h).arrival < (cell_at v k h).arrival)
      × ((departure_at v j h).slot < (departure_at v k h).slot)
  -- 3: with its octets unchanged, as mended and tagged, as the line cell shows them in that slot
  pub unchanged : (v k : ℕ) → k < length (departures_of v h)
      → (departure_at v k h).octets ≡ (cell_at v k h).octets
  -- 2: not before its due slot, and at most N-1 slots after it
  pub not_early : (v k : ℕ) → k < length (departures_of v h)
      → (cell_at v k h).due ≤ (departure_at v k h).slot
  pub not_late : (v k : ℕ) → k < length (departures_of v h)
      → (departure_at v k h).slot ≤ (cell_at v k h).due + (N - 1)
  -- 1: it leaves by the run's end, if the run lasts at least to its due slot plus N-1
  pub leaves : (v k : ℕ) → k < length (cells_of v h) → (cell_at v k h).due + (N - 1) < served h
      → k < length (departures_of v h)
  -- 5: a space is free, before each slot, and so whenever a cell is accepted: the number isn't 0, and the lowest, which is taken,
  -- is one of the N whose bit is set
  pub space_free : (s.ctl.free ≢ 0) × (is_free_space s.bits (lowest_free s.bits) ≡ true) × (lowest_free s.bits < N)
  -- 7: the answer's D is the due slot less the arrival slot; it is at most N-1
  pub delay : (v k : ℕ) → k < length (cells_of v h)
      → ((cell_at v k h).due ≡ (cell_at v k h).arrival + (cell_at v k h).D)
      × ((cell_at v k h).D ≤ N - 1)
  -- 8: the next slot accepts or tags a cell that is let through with the header of an open connection exactly when the leak rules let it in
  pub accepts_exactly : (cell : List ℕ) (o : Opening) → length cell ≡ octets
      → names_connection z (header_let_in kind s cell) ≡ true
      → opening_of (connection z (header_let_in kind s cell)) h ≡ some o
      → (lets_in (slot s cell).answer.verdict ≡ true) ↔ (admits o (clp_in (let_in s cell).cell) (served h) ≡ true)
  -- and whatever arrives, verdict, VCI and D follow from the header let through, read by the line kind, and from exact fractions
  -- alone: no S, no wrapped clock. Of a dropped cell they are 4, 0 and 0
  pub judges : (cell : List ℕ) → length cell =? 0 || length cell =? octets ≡ true
      → judged_of (slot s cell).answer.verdict (slot s cell).answer.vci (slot s cell).answer.d
      ≡ judged_as kind z h (let_in s cell)

-- of every run from a fresh state
abbrev pub Demand3Holds : Type 0
Demand3Holds = (N z : ℕ) (a : Asked) (lent : State)
    → (setup N z a lent).number ≡ 0
    → (cs : List Call)
    → let r = calls (run_of (setup N z a lent).state []) cs in
    Demand3 N z a.kind r.events r.state
