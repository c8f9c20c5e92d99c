-- What is known where the slot's cases write: each is shown by the tests that came before, and asked of the caller.
--
--   Sized s          == refusals 1 and 2 are not given, and the clock has moved
--   SizedWith k ..   == the same where the arrival slots are not lent: they are some list
--   Accepted k j ..  == of an accepted cell: its connection, its D and its waiting
--   Seated k a bits  == of an accepted cell: its space, which is free, and its entry; the words of free spaces and their number fit
--   OffStored k ..   == what departs once the cell is stored and counted, from memory as it came
use Rattle.std.specs.Prelude.{ℕ, ◌*◌, ◌≤◌, ◌<◌, ◌≡◌, Bool, true, not, Option, List, length}
use Rattle.meaning.specs.declared.Record.{Record}
use Rattle.meaning.specs.Plain.{◌=?◌}
use Rattle.meaning.specs.Numbers.{most_n, least_v, most_v, octets, per_entry, connections_in, words_in, bit_words, empty, lets_in}
use Rattle.meaning.specs.Bits.{is_free_space, spaces_fit}
use Rattle.meaning.specs.State.{State, state_of, Ends}
use Rattle.meaning.specs.Header.{header_at}
use Rattle.meaning.specs.Words.{connection_at}
use Rattle.meaning.specs.Lists.{ends_fit}
use Rattle.leaf_header.specs.Name.{numbered}
use Rattle.slot_arrive.specs.declared.Judged.{Judged}
use Rattle.mem_lists.specs.declared.Seat.{Seat}
use Rattle.mem_lists.specs.declared.Off.{Off}
use Rattle.mem_lists.specs.Spaces.{ends_of, linked}
use Rattle.mem_lists.specs.Leaver.{off_after}
use Rattle.slot_plan.specs.Plan.{joined_head}

pub record Sized (s : State) : Type 0 where
  pub n_low : 1 ≤ s.ctl.n
  pub n_high : s.ctl.n ≤ most_n
  pub v_low : least_v ≤ s.ctl.v
  pub v_high : s.ctl.v ≤ most_v
  pub cells_long_lem : length s.cells ≡ octets * s.ctl.n
  pub links_long : length s.links ≡ s.ctl.n
  pub calendar_long : length s.calendar ≡ per_entry * s.ctl.n
  pub words_long : length s.words ≡ words_in s.ctl.v
  pub bits_long : length s.bits ≡ bit_words
  pub arrived_long : length s.arrived ≡ s.ctl.n
  pub turn_low : s.ctl.turn < s.ctl.n
  pub rotation_low : s.ctl.rotation < connections_in s.ctl.v

abbrev pub SizedWith : Record → List ℕ → List ℕ → List ℕ → List ℕ → List ℕ → Type 0
SizedWith k cells links calendar words bits =
    (arrived : List ℕ) × Sized (state_of k cells links calendar words bits arrived)

pub record Accepted (k : Record) (j : Judged) (cell words : List ℕ) : Type 0 where
  pub let_in_lem : lets_in j.verdict ≡ true
  pub vci_low : 1 ≤ j.vci
  pub vci_high : j.vci < connections_in k.v
  pub near : j.d < k.n
  pub waiting_low : 1 ≤ j.waiting
  pub waiting_high : j.waiting ≤ k.n
  pub is_open : (connection_at words j.vci).opened ≡ 1
  pub cell_long : length cell ≡ octets
  pub names : numbered k.kind k.v (header_at k.kind cell 0) ≡ j.vci

pub record Seated (k : Record) (a : Seat) (bits : List ℕ) : Type 0 where
  pub x_low : a.x < k.n
  pub e_low : a.e < k.n
  pub entry_fits : ends_fit k.n (ends_of a.head a.tail) ≡ true
  pub spaces_fit_lem : spaces_fit k.n k.free bits ≡ true
  pub some_free : 1 ≤ k.free
  pub is_free : is_free_space bits a.x ≡ true

-- entry is what has joined the Output List, where joins: the cell's header and its connection's words need no second reading
abbrev pub OffStored : Record → Judged → Seat → List ℕ → List ℕ → List ℕ → Bool → Ends → Option Off → Type 0
OffStored k j a cells links words joins entry o =
    o
    ≡ off_after k.n k.v k.kind cells (linked joins k.outtail entry.head (linked (not (a.head =? empty)) a.x a.head links)) words
    j.vci a.x (joined_head k entry) entry.tail
