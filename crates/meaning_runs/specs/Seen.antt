-- What the calls and answers of a run say of its cells: which were accepted, when each is due, and what left.
--
--   Cell            == an accepted cell: VCI, arrival slot, the D answered, due time, due slot, octets. Document 02 (iv): tagged
--                      ones count as accepted, and their octets are those with CLP 1
--   Departure       == slot, VCI answered, and the octets of the line cell
--   cells_in h       == the accepted cells of the events h, in order of arrival
--   departures_in h  == the departures, in order
--   cells_of v h, departures_of v h  == those of the connection v
--   cell_at v k h, departure_at v k h  == the k-th of these, from 0; past the end one of zeros, of which nothing is said
-- Slots are counted from the first after setup, without wrapping.
use Rattle.std.specs.Prelude.{ℕ, List, [], ◌∷◌, ◌++◌, get_or}
use Rattle.std.proofs.Math.Option.{Option, none, some}
use Rattle.meaning.specs.declared.Answer.{Answer}
use Rattle.meaning.specs.Plain.{when◌then◌else◌, ◌=?◌}
use Rattle.meaning.specs.Numbers.{empty, lets_in}
use Rattle.meaning.specs.Arrival.{sent_as}
use Rattle.meaning_runs.specs.Run.{Event, opened, closed, ran, served}
use Rattle.meaning_runs.specs.Leak.{Opening, due_time, due_slot, opening_of}

pub record Cell : Type 0 where
  pub vci : ℕ
  pub arrival : ℕ
  pub D : ℕ
  pub time : ℕ
  pub due : ℕ
  pub octets : List ℕ

pub record Departure : Type 0 where
  pub slot : ℕ
  pub vci : ℕ
  pub octets : List ℕ

-- a cell with these octets, accepted with answer a in slot t, under the opening o; a connection that isn't open has no due time
abbrev pub cell_with : ℕ → Answer → List ℕ → ℕ → ℕ → Cell
cell_with t a octets time due =
    record { vci = a.vci; arrival = t; D = a.d; time = time; due = due; octets = octets }

abbrev pub cell_under : ℕ → Answer → List ℕ → Option Opening → Cell
cell_under t a octets none = cell_with t a octets 0 0
cell_under t a octets (some o) = cell_with t a octets (due_time o t) (due_slot o t)

unfoldable pub cells_in : List Event → List Cell
cells_in [] = []
cells_in (opened who c m F C x number ∷ h) = cells_in h
cells_in (closed who c number ∷ h) = cells_in h
cells_in (ran octets a out ∷ h) =
    when lets_in a.verdict then cells_in h ++ (cell_under (served h) a (sent_as a.verdict octets) (opening_of a.vci h) ∷ [])
    else cells_in h

-- "departing space (65,535 for none)"
unfoldable pub departures_in : List Event → List Departure
departures_in [] = []
departures_in (opened who c m F C x number ∷ h) = departures_in h
departures_in (closed who c number ∷ h) = departures_in h
departures_in (ran octets a out ∷ h) =
    when a.space =? empty then departures_in h
    else departures_in h ++ (record { slot = served h; vci = a.departing; octets = out } ∷ [])

-- those whose VCI, in answers the number of the connection, is v, in the same order
abbrev pub of_connection : {A : Type 0} → (A → ℕ) → ℕ → List A → List A
of_connection vci_of v [] = []
of_connection vci_of v (x ∷ xs) = when vci_of x =? v then x ∷ of_connection vci_of v xs else of_connection vci_of v xs

unfoldable pub cells_of : ℕ → List Event → List Cell
cells_of v h = of_connection (λ c. c.vci) v (cells_in h)

unfoldable pub departures_of : ℕ → List Event → List Departure
departures_of v h = of_connection (λ d. d.vci) v (departures_in h)

abbrev pub absent_cell : Cell
absent_cell = record { vci = 0; arrival = 0; D = 0; time = 0; due = 0; octets = [] }

abbrev pub no_departure : Departure
no_departure = record { slot = 0; vci = 0; octets = [] }

abbrev pub cell_at : ℕ → ℕ → List Event → Cell
cell_at v k h = get_or (cells_of v h) k absent_cell

abbrev pub departure_at : ℕ → ℕ → List Event → Departure
departure_at v k h = get_or (departures_of v h) k no_departure
