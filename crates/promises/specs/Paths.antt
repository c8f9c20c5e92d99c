-- REQUEST (vi) of document 02: paths at the network side, over runs. A setup has answered 0, with N, V (here z), raw or not, and a
-- line kind (0 UNI, 1 NNI), whatever the memory held before. Then any calls followed, refused ones among them. r is the run: its
-- events are what was called and said, the newest first; its state is what the next call gets.
--
--   Name                    == how a call or a header names a connection: by_vci vci a VC, by_vpi vpi a path. named z name: there is
--                              such a connection; number_in z name: its number, the VCI or V + VPI
--   header_let_in kind s cell == the header of what the header check lets through, on a line of this kind
--   opening_of v h           == what the leak rules know of the connection v, if it is open: m, F, C, its last due time, and the same
--                              of its second bucket
--
--   Apart                   == VCs and paths never share a bucket: a call moves no opening but that of the connection it names
--   path_cells kind p h      == the accepted cells whose header has the VPI p, whatever its VCI, in order of arrival
--   path_departures kind p h == the departures whose line cell's header has the VPI p, in order
--   PathOrder               == they are the cells of the connection V + p, and leave in arrival order
--   judged_before z h cell   == verdict, VCI and D by document 01's own words, where VPI not 0 is unknown
--   NoPaths                 == while no path is open, the UNI has these answers
use Rattle.std.specs.Prelude.{ℕ, ◌+◌, ◌-◌, ◌*◌, ◌/◌, ◌%◌, ◌≤◌, ◌<◌, ◌≡◌, ◌≢◌, Bool, true, false, not, ◌&&◌, ◌||◌, List, [], ◌∷◌, length, get_or}
use Rattle.std.proofs.Math.Option.{none}
use Rattle.meaning.specs.Plain.{when◌then◌else◌, ◌≤?◌, ◌=?◌}
use Rattle.meaning.specs.Numbers.{uni, nothing, unknown, dropped, empty}
use Rattle.meaning.specs.State.{State}
use Rattle.meaning.specs.Header.{header_at, clp_in, Name, named, number_in, name_in}
use Rattle.meaning.specs.Words.{Second, connection_at}
use Rattle.meaning.specs.Calls.{Asked, setup}
use Rattle.meaning.specs.Slot.{slot}
use Rattle.meaning_runs.specs.Run.{Call, on_open_with, on_close, on_slot, Event, opened, closed, ran, Run, run_of, let_in, call, calls, served}
use Rattle.meaning_runs.specs.Leak.{opening_of}
use Rattle.meaning_runs.specs.Seen.{Cell, Departure, cells_in, departures_in, of_connection, cells_of, departures_of, absent_cell, no_departure}
use Rattle.meaning_runs.specs.Judged.{Judged, judged_of, judged_under}
use Rattle.promises.specs.Demand3.{header_let_in}
use Rattle.promises.specs.Checked.{Lent}

-- ── VCs and paths never share a bucket ──
pub record Apart (z kind : ℕ) (r : Run) : Type 0 where
  -- V and the line kind stay as setup was handed them
  pub v_is : r.state.ctl.v ≡ z
  pub kind_is : r.state.ctl.kind ≡ kind
  -- no two connections have the same number, so none the same words
  pub one_number : (a b : Name) → named z a ≡ true → named z b ≡ true → number_in z a ≡ number_in z b → a ≡ b
  -- an open or a close that names a, as whichever operator, refused or not, leaves the opening and the words of every other connection b
  pub open_apart : (who : ℕ) (a b : Name) (m F C : ℕ) (x : Second) → named z b ≡ true → a ≢ b
      → let after = call r (on_open_with who a m F C x) in
      (opening_of (number_in z b) after.events ≡ opening_of (number_in z b) r.events)
      × (connection_at after.state.words (number_in z b) ≡ connection_at r.state.words (number_in z b))
  pub close_apart : (who : ℕ) (a b : Name) → named z b ≡ true → a ≢ b
      → let after = call r (on_close who a) in
      (opening_of (number_in z b) after.events ≡ opening_of (number_in z b) r.events)
      × (connection_at after.state.words (number_in z b) ≡ connection_at r.state.words (number_in z b))
  -- a slot leaves the opening of every connection b that the header let through does not name
  pub slot_apart : (cell : List ℕ) (b : Name) → named z b ≡ true → name_in (header_let_in kind r.state cell) ≢ b
      → opening_of (number_in z b) (call r (on_slot cell)).events ≡ opening_of (number_in z b) r.events

-- ── a path's cells leave in arrival order, whatever their VCIs ──
abbrev pub vpi_of : ℕ → List ℕ → ℕ
vpi_of kind octets = (header_at kind octets 0).vpi

abbrev pub path_cells : ℕ → ℕ → List Event → List Cell
path_cells kind p h = of_connection (λ c. vpi_of kind c.octets) p (cells_in h)

abbrev pub path_departures : ℕ → ℕ → List Event → List Departure
path_departures kind p h = of_connection (λ d. vpi_of kind d.octets) p (departures_in h)

-- the k-th of these, from 0
abbrev pub path_cell_at : ℕ → ℕ → ℕ → List Event → Cell
path_cell_at kind p k h = get_or (path_cells kind p h) k absent_cell

abbrev pub path_departure_at : ℕ → ℕ → ℕ → List Event → Departure
path_departure_at kind p k h = get_or (path_departures kind p h) k no_departure

pub record PathOrder (N z kind : ℕ) (h : List Event) : Type 0 where
  -- "on VPI 1 to 255 all cells with that VPI share one bucket, whatever their VCI"; "A cell of an open path has V + VPI for its VCI"
  pub cells_are : (p : ℕ) → 1 ≤ p → p ≤ 255 → cells_of (z + p) h ≡ path_cells kind p h
  pub departures_are : (p : ℕ) → 1 ≤ p → p ≤ 255 → departures_of (z + p) h ≡ path_departures kind p h
  -- the k-th cell of the path that leaves is the k-th that was accepted, with its octets unchanged
  pub unchanged : (p k : ℕ) → 1 ≤ p → p ≤ 255 → k < length (path_departures kind p h)
      → (k < length (path_cells kind p h)) × ((path_departure_at kind p k h).octets ≡ (path_cell_at kind p k h).octets)
  pub in_order : (p j k : ℕ) → 1 ≤ p → p ≤ 255 → j < k → k < length (path_departures kind p h)
      → ((path_cell_at kind p j h).arrival < (path_cell_at kind p k h).arrival)
      × ((path_departure_at kind p j h).slot < (path_departure_at kind p k h).slot)
  -- not before its due slot, and at most N-1 slots after it
  pub in_time : (p k : ℕ) → 1 ≤ p → p ≤ 255 → k < length (path_departures kind p h)
      → ((path_cell_at kind p k h).due ≤ (path_departure_at kind p k h).slot)
      × ((path_departure_at kind p k h).slot ≤ (path_cell_at kind p k h).due + (N - 1))
  -- "Any other VPI above 0 is unknown."
  pub none_above : (p : ℕ) → 255 < p → path_cells kind p h ≡ []

abbrev pub PathsHold : Type 0
PathsHold = (N z : ℕ) (a : Asked) (lent : State)
    → (setup N z a lent).number ≡ 0
    → (cs : List Call)
    → let r = calls (run_of (setup N z a lent).state []) cs in
    Apart z a.kind r × PathOrder N z a.kind r.events

-- ── no path open: as before ──
-- "octet 1 GFC (high four bits) and VPI; octet 2 VPI, VCI; octet 3 VCI; octet 4 VCI (high four bits), PTI, CLP"
abbrev pub vpi_before : List ℕ → ℕ
vpi_before cell = get_or cell 0 0 % 16 * 16 + get_or cell 1 0 / 16

abbrev pub vci_before : List ℕ → ℕ
vci_before cell = get_or cell 1 0 % 16 * 4096 + get_or cell 2 0 * 16 + get_or cell 3 0 / 16

-- "VPI 0 with VCI 0 is no user cell: the slot counts as empty. VPI not 0, VCI of V or more, or a VC not open: unknown." Of an open
-- VC what its leak rules say.
abbrev pub judged_before : ℕ → List Event → List ℕ → Judged
judged_before z h cell =
    let vpi = vpi_before cell in
    let vci = vci_before cell in
    when length cell =? 0 || (vpi =? 0 && vci =? 0) then judged_of nothing 0 0
    else when not (vpi =? 0) || z ≤? vci then judged_of unknown vci 0
    else judged_under (served h) vci vci (clp_in cell) (opening_of vci h)

abbrev pub NoPathOpen : ℕ → List Event → Type 0
NoPathOpen z h = (p : ℕ) → 1 ≤ p → p ≤ 255 → opening_of (z + p) h ≡ none

-- every open that answered 0 was a VC's
abbrev pub NoPathOpened : ℕ → List Event → Type 0
NoPathOpened z [] = Unit {0}
NoPathOpened z (opened who c m F C x number ∷ h) = (number ≡ 0 → c < z) × NoPathOpened z h
NoPathOpened z (closed who c number ∷ h) = NoPathOpened z h
NoPathOpened z (ran cell a out ∷ h) = NoPathOpened z h

-- every slot that was served answered so, of each cell that the header check did not drop; and the departing VCI is the one in
-- the header of the line cell
abbrev pub AnsweredBefore : ℕ → List Event → Type 0
AnsweredBefore z [] = Unit {0}
AnsweredBefore z (opened who c m F C x number ∷ h) = AnsweredBefore z h
AnsweredBefore z (closed who c number ∷ h) = AnsweredBefore z h
AnsweredBefore z (ran cell a out ∷ h) =
    (a.number ≡ 0 → a.verdict ≢ dropped → judged_of a.verdict a.vci a.d ≡ judged_before z h cell)
    × (a.space ≢ empty → (vpi_before out ≡ 0) × (a.departing ≡ vci_before out))
    × AnsweredBefore z h

pub record NoPaths (z : ℕ) (r : Run) : Type 0 where
  -- the next slot, while no path is open
  pub next_slot : NoPathOpen z r.events → (cell : List ℕ) → Lent cell → (let_in r.state cell).dropped ≡ false
      → let a = (slot r.state cell).answer in
      judged_of a.verdict a.vci a.d ≡ judged_before z r.events (let_in r.state cell).cell
  -- and all slots so far, if none was ever opened
  pub all_slots : NoPathOpened z r.events → AnsweredBefore z r.events

abbrev pub NoPathsHold : Type 0
NoPathsHold = (N z : ℕ) (a : Asked) (lent : State) → a.kind ≡ uni
    → (setup N z a lent).number ≡ 0
    → (cs : List Call) → NoPaths z (calls (run_of (setup N z a lent).state []) cs)
