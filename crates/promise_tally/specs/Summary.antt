-- REQUEST (x) of document 02, over runs. "For a named VC tally the slots between arrival and departure over a run of at most 2^32 slots ..
-- Each bin equals the recount over the run's listing, the bins add up to the number of cells sent, and the reported percentile is the
-- lowest bin at which 1,000 times the running sum is at least the asked share times the cells sent."
--
-- A setup of a policer with N spaces has answered 0, whatever the memory held before, and any calls followed. Then a card begins to keep
-- a summary of the connection v, a VC or a path, where none of its cells waits. It goes on over any calls cs, opens, closes and refused
-- ones among them. Slots of a listing are counted from its beginning, without wrapping.
--
--   listing s cs        == what the calls cs said from the state s on, the newest first: the run's own listing
--   delays_in v h        == THE RECOUNT over a listing h: the slot of v's k-th departure less that of its k-th accepted cell, of each k.
--                          Tagged cells count as accepted
--   NoneWaits v h       == after h as many of v's cells have left as were accepted
--   Summary             == what the card has: the tally, and what each call of the tally answered, the newest first
--   summary_of v s cs    == the summary after the calls cs from the state s on: it begins with the empty tally, and after each slot
--                          `tally_slot` is called with the record and the arrival slots as the slot left them, v, and the slot's answer
-- Of crate call_tally: tally_all no_cells ds, the tally of the delays ds; how_many, counting in a list; ByCount and rank, a percentile by
-- counting; LowestAt, a percentile in document 02's words; bin_of d, a delay's bin.
use Rattle.std.specs.Prelude.{ℕ, ◌+◌, ◌-◌, ◌≤◌, ◌<◌, ◌≡◌, true, List, [], ◌∷◌, length, get_or}
use Rattle.std.proofs.Math.Option.{none}
use Rattle.meaning.specs.Numbers.{slot_numbers}
use Rattle.meaning.specs.State.{State}
use Rattle.meaning.specs.Calls.{Asked, setup}
use Rattle.meaning.specs.Work.{Work}
use Rattle.meaning.specs.Slot.{slot}
use Rattle.meaning_runs.specs.Run.{Call, on_open_with, on_close, on_slot, Event, run_of, call, calls, served}
use Rattle.meaning_runs.specs.Leak.{opening_of}
use Rattle.meaning_runs.specs.Seen.{Cell, Departure, cells_of, departures_of, cell_at, departure_at}
use Rattle.call_tally.specs.declared.Tally.{Tally}
use Rattle.call_tally.specs.Tally.{last_bin, bin_of, sum, is_connection, tally_slot, percentile_of}
use Rattle.call_tally.specs.Delays.{no_cells, tally_all, how_many, is_it, at_least, Ascending, SameNumbers, rank}
use Rattle.call_tally.specs.Laws.{ByCount, LowestAt}

-- ── the recount ──
abbrev pub listing : State → List Call → List Event
listing s cs = (calls (run_of s []) cs).events

-- the k-th cell with the k-th departure, as far as there are both
unfoldable pub delays_of : List Cell → List Departure → List ℕ
delays_of [] ds = []
delays_of (c ∷ cs) [] = []
delays_of (c ∷ cs) (d ∷ ds) = (d.slot - c.arrival) ∷ delays_of cs ds

abbrev pub delays_in : ℕ → List Event → List ℕ
delays_in v h = delays_of (cells_of v h) (departures_of v h)

abbrev pub NoneWaits : ℕ → List Event → Type 0
NoneWaits v h = length (cells_of v h) ≡ length (departures_of v h)

-- ── what the card keeps ──
pub record Summary : Type 0 where
  pub tally : Tally
  pub numbers : List ℕ

abbrev pub no_summary : Summary
no_summary = record { tally = no_cells; numbers = [] }

-- after a slot that left w
unfoldable pub tallied : ℕ → Work → Summary → Summary
tallied v w k =
    let a = tally_slot k.tally w.state.ctl w.state.arrived v w.answer.space w.answer.departing in
    record { tally = a.tally; numbers = a.number ∷ k.numbers }

-- opens and closes have no answer to tally
unfoldable pub tallying : ℕ → Summary → State → List Call → Summary
tallying v k s [] = k
tallying v k s (on_open_with who name m F C x ∷ cs) = tallying v k (call (run_of s []) (on_open_with who name m F C x)).state cs
tallying v k s (on_close who name ∷ cs) = tallying v k (call (run_of s []) (on_close who name)).state cs
tallying v k s (on_slot cell ∷ cs) = tallying v (tallied v (slot s cell) k) (call (run_of s []) (on_slot cell)).state cs

abbrev pub summary_of : ℕ → State → List Call → Summary
summary_of v s cs = tallying v no_summary s cs

abbrev pub AllZero : List ℕ → Type 0
AllZero [] = Unit {0}
AllZero (n ∷ ns) = (n ≡ 0) × AllZero ns

-- ── the promises ──
-- of the recount itself: each departure has its delay, at most the D that was answered to the cell's arrival, and N-1
pub record Delays (N v : ℕ) (h : List Event) : Type 0 where
  pub as_many : length (delays_in v h) ≡ length (departures_of v h)
  pub was_accepted : (k : ℕ) → k < length (departures_of v h) → k < length (cells_of v h)
  pub not_before : (k : ℕ) → k < length (departures_of v h) → (cell_at v k h).arrival ≤ (departure_at v k h).slot
  pub each_is : (k : ℕ) → k < length (departures_of v h)
      → get_or (delays_in v h) k 0 ≡ (departure_at v k h).slot - (cell_at v k h).arrival
  pub at_most : (k : ℕ) → k < length (departures_of v h) → get_or (delays_in v h) k 0 ≤ (cell_at v k h).D + (N - 1)

-- however many slots: 3 is never given, and the tally is that of the recounted delays, on a 32-bit clock that wraps
pub record Tallies (N v : ℕ) (h : List Event) (k : Summary) : Type 0 where
  pub delays : Delays N v h
  pub answers_0 : AllZero k.numbers
  pub tally_is : k.tally ≡ tally_all no_cells (delays_in v h)

-- over at most 2^32 slots: document 02's sentences, t being the tally, and the percentile as support staff can check it by hand
pub record Counts (v : ℕ) (h : List Event) (t : Tally) : Type 0 where
  -- "the number of cells sent"
  pub cells_sent : t.cells ≡ length (departures_of v h)
  -- "Each bin equals the recount over the run's listing", "bin 63 holds all from 63 up"
  pub bins_are : (b : ℕ) → b < last_bin → get_or t.bins b 0 ≡ how_many (is_it b) (delays_in v h)
  pub last_is : get_or t.bins last_bin 0 ≡ how_many (at_least last_bin) (delays_in v h)
  -- "the bins add up to the number of cells sent"
  pub adds_up : sum t.bins ≡ length (departures_of v h)
  -- a percentile is reported, where a cell was sent and the share is in its range
  pub reports : (share : ℕ) → 1 ≤ length (departures_of v h) → 1 ≤ share → share ≤ 1000 → (percentile_of t share).number ≡ 0
  -- "the lowest bin at which 1,000 times the running sum is at least the asked share times the cells sent"
  pub lowest : (share : ℕ) → 1 ≤ length (departures_of v h) → 1 ≤ share → share ≤ 1000 → LowestAt t share (percentile_of t share).bin
  -- by counting: at least share × n / 1,000 of the n delays, rounded up, are at most that bin, and fewer are below it
  pub by_count : (share : ℕ) → 1 ≤ length (departures_of v h) → 1 ≤ share → share ≤ 1000
      → ByCount (delays_in v h) share (percentile_of t share).bin
  -- by sorting: it is the delay that stands in that place of the sorted delays, counted from 1, or 63 where that is longer
  pub by_sorting : (share : ℕ) → 1 ≤ length (departures_of v h) → 1 ≤ share → share ≤ 1000
      → (sorted : List ℕ) → Ascending sorted → SameNumbers sorted (delays_in v h)
      → (percentile_of t share).bin ≡ bin_of (get_or sorted (rank share (length (departures_of v h)) - 1) 0)

pub record Summed (N v : ℕ) (s : State) (cs : List Call) : Type 0 where
  pub tallies : Tallies N v (listing s cs) (summary_of v s cs)
  pub counts : served (listing s cs) ≤ slot_numbers → Counts v (listing s cs) (summary_of v s cs).tally

-- of every run from a fresh state: `before` are the calls up to the card's beginning, none for a summary of the whole run
abbrev pub SummaryHolds : Type 0
SummaryHolds = (N z : ℕ) (a : Asked) (lent : State)
    → (setup N z a lent).number ≡ 0
    → (before : List Call)
    → let r = calls (run_of (setup N z a lent).state []) before in
    (v : ℕ) → is_connection z v ≡ true → NoneWaits v r.events
    → (cs : List Call) → Summed N v r.state cs

-- none of its cells waits before a connection is opened, and after it was closed
abbrev pub ClosedNoneWaits : Type 0
ClosedNoneWaits = (N z : ℕ) (a : Asked) (lent : State)
    → (setup N z a lent).number ≡ 0
    → (cs : List Call) (v : ℕ)
    → let h = (calls (run_of (setup N z a lent).state []) cs).events in
    opening_of v h ≡ none → NoneWaits v h
