-- THE INVARIANT: what holds after every call from a fresh state. It is stronger than the audit, since it ties S to due
-- times: the words are those of the exact leak rule, each queued cell stands in the entry of its due slot, and each rest
-- of the calendar holds at most as many cells as it has entries. So no test of refusal 3 fails, and a space is free,
-- whichever free spaces the cells were given.
--
--   Left           == an accepted cell that left, and the slot in which it did
--   waits v o r    == how many cells of the connection v are queued
--   Sits           == a queued cell's header names its connection, whose next cell is due at least F after it
--   Stage          == the record and memories, at a stage of a slot: k slots begun, connections as after j slots
--   Inv N z kind h s  == after the events h the state is s, on a line of this kind
--   Waiting, waiting i  == the cells that wait, without their spaces
use Rattle.std.specs.Prelude.{ℕ, ◌+◌, ◌-◌, ◌/◌, ◌%◌, ◌≤◌, ◌<◌, ◌≡◌, true, false, List, ◌++◌, map, length}
use Rattle.std.proofs.Math.Option.{Option, none, some}
use Rattle.meaning.specs.Numbers.{splits_hold, connections_in, unused, kind_in_range, words_in}
use Rattle.meaning.specs.State.{State, output_list}
use Rattle.meaning.specs.Header.{header_at, connection, names_connection}
use Rattle.meaning.specs.Words.{connection_at}
use Rattle.meaning_runs.specs.Run.{Event, served}
use Rattle.meaning_runs.specs.Leak.{Opening, parts, opening_of}
use Rattle.meaning_runs.specs.Seen.{Cell, Departure, of_connection, cells_in, departures_in}
use Rattle.theory_queues.specs.Queue.{sum, sums, All, Alls, flat, turn, Rising, Good}
use Rattle.theory_chains.specs.Strung.{is}
use Rattle.theory_table.specs.Stored.{earliest, clock, ConnectionIs}
use Rattle.theory_memory.specs.Held.{Queued, due_of, vci_of, Has, Dates}

pub record Left : Type 0 where
  pub slot : ℕ
  pub cell : Cell

abbrev pub seen_as : Left → Departure
seen_as p = record { slot = p.slot; vci = p.cell.vci; octets = p.cell.octets }

abbrev pub cell_left : Left → Cell
cell_left p = p.cell

abbrev pub cell_in : Queued → Cell
cell_in c = c.cell

abbrev pub connection_in : Cell → ℕ
connection_in c = c.vci

abbrev pub is_of : ℕ → Queued → ℕ
is_of v c = is v (vci_of c)

abbrev pub waits : ℕ → List Queued → List (List Queued) → ℕ
waits v o r = sums (is_of v) r + sum (is_of v) o

abbrev pub Under : Option Opening → Cell → Type 0
Under none c = ⊥
Under (some o) c = (c.due ≡ c.time / parts o) × (c.time + o.F ≤ earliest o) × (parts o ≤ o.F)

abbrev pub Sits : ℕ → ℕ → (ℕ → Option Opening) → Queued → Type 0
Sits kind z openings c =
    (names_connection z (header_at kind c.cell.octets 0) ≡ true)
    × (connection z (header_at kind c.cell.octets 0) ≡ vci_of c)
    × Under (openings (vci_of c)) c.cell

pub record Ranges (N z : ℕ) : Type 0 where
  pub N_low : 1 ≤ N
  pub N_high : N ≤ 1_024
  pub z_low : 2 ≤ z
  pub z_high : z ≤ 1_024

-- b: the entry of the first queue of r, before it is taken modulo N
pub record Stage (N z kind k j b : ℕ) (s : State) (openings : ℕ → Option Opening) (o : List Queued)
    (r : List (List Queued)) : Type 0 where
  pub ranges : Ranges N z
  pub n_is : s.ctl.n ≡ N
  pub v_is : s.ctl.v ≡ z
  pub t_is : s.ctl.t ≡ clock k
  pub turn_low : s.ctl.turn < N
  -- document 02 (vi): "rotation goes over all, from V + 255 at setup"
  pub rotation_is : s.ctl.rotation ≡ (k + (connections_in z - 1)) % connections_in z
  -- 0 or 1, and it stays
  pub kind_is : s.ctl.kind ≡ kind
  pub kind_fits : kind_in_range kind ≡ true
  pub has : Has N b s.cells s.links s.calendar (output_list s) s.ctl.free s.bits o r
  pub dates : Dates N s.arrived o r
  pub words_long : length s.words ≡ words_in z
  pub table : (v : ℕ) → unused z v ≡ false → v < connections_in z → ConnectionIs N (connections_in z) j v (connection_at s.words v) (waits v o r) (openings v)

-- not before its due slot, and at most w slots after it
abbrev pub InTime : ℕ → Left → Type 0
InTime w p = (p.cell.due ≤ p.slot) × (p.slot ≤ p.cell.due + w)

-- the D answered is the due slot less the arrival slot, and below N
abbrev pub Delayed : ℕ → Cell → Type 0
Delayed N c = (c.due ≡ c.arrival + c.D) × (c.D < N)

-- its header names the connection whose number was answered
abbrev pub Named : ℕ → ℕ → Cell → Type 0
Named kind z c =
    (names_connection z (header_at kind c.octets 0) ≡ true)
    × (connection z (header_at kind c.octets 0) ≡ c.vci)

pub record Inv (N z kind : ℕ) (h : List Event) (s : State) : Type 0 where
  -- the Output List; the calendar from the next slot on; what left, in order
  pub out : List Queued
  pub cal : List (List Queued)
  pub left : List Left
  pub stage : Stage N z kind (served h) (served h) (s.ctl.turn + 1) s (λ v. opening_of v h) out (turn cal)
  -- document 02 (i): raw and mode are each 0 or 1
  pub raw_low : s.ctl.raw ≤ 1
  pub mode_low : s.ctl.mode ≤ 1
  -- document 02 (xi): the splits are in their ranges
  pub splits : splits_hold z s.ctl.splitvci s.ctl.splitpath ≡ true
  pub good : Good due_of (N - 1) (served h) cal out
  pub sits_out : All (Sits kind z (λ v. opening_of v h)) out
  pub sits_cal : Alls (Sits kind z (λ v. opening_of v h)) cal
  -- what the answers and line cells said of departures is what left, in time
  pub seen : departures_in h ≡ map seen_as left
  pub in_time : All (InTime (N - 1)) left
  -- of each connection: the accepted cells, in order, are those that left, and then those that wait, in the order they leave in
  pub order : (v : ℕ) → of_connection connection_in v (cells_in h) ≡ of_connection connection_in v (map cell_left left ++ map cell_in (out ++ flat cal))
  pub delays : All (Delayed N) (cells_in h)
  -- each accepted cell's header, and each departed one's, names its connection
  pub named : All (Named kind z) (cells_in h)
  pub named_left : All (λ p. Named kind z p.cell) left
  -- both in order of their slots
  pub left_rise : Rising (λ p. p.slot) 0 (served h) left
  pub cells_rise : Rising (λ c. c.arrival) 0 (served h) (cells_in h)

-- the Output List and the calendar from the next slot on
pub record Waiting : Type 0 where
  pub out : List Cell
  pub cal : List (List Cell)

abbrev pub waiting : {N z kind : ℕ} {h : List Event} {s : State} → Inv N z kind h s → Waiting
waiting i = record { out = map cell_in i.out; cal = map (map cell_in) i.cal }
