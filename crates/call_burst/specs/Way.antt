-- A burst on the likely ways: what is known of a policer there, and how far the burst has come.
--
--   Shaped r ..       == refusals 1 and 2 are not given
--   RawFits raw mode  == the policer is not raw, or is raw in correction, where a clean header changes nothing
--   Tries r bits      == the likely ways may be tried from this record on
--   Held w ..         == what every slot keeps; T and rotation may stand at N and V + 256, where a run has ended
--   Room w words k    == a run of k slots: neither T nor rotation steps round before it ends, nor does rotation come from the VCs to
--                        the paths; and a record that is no connection's, its first at most, is not open
use Rattle.std.specs.Prelude.{ℕ, ◌+◌, ◌*◌, ◌≤◌, ◌<◌, ◌≡◌, ◌⊎◌, true, List, length, get_or, drop}
use Rattle.meaning.specs.declared.Record.{Record}
use Rattle.meaning.specs.Numbers.{most_n, least_v, most_v, octets, per_entry, connection_place, connections_in, unused, words_in, bit_words, kind_in_range, slot_numbers}
use Rattle.meaning.specs.Bits.{spaces_fit}
use Rattle.meaning.specs.State.{State, state_of}
use Rattle.meaning.specs.Lent.{SliceMut, Lent, LentMut}
use Rattle.meaning.specs.Lists.{ends_fit}
use Rattle.slot_plan.specs.Plan.{output_ends}
use Rattle.burst_way.specs.declared.Way.{Way}
use Rattle.burst_way.specs.Way.{slot_record, last_record, NamesBy}
use Rattle.call_burst.specs.Burst.{Stretch, stretch_of, slots}

pub record Shaped (r : Record) (cells links calendar words bits arrived : List ℕ) : Type 0 where
  pub n_low : 1 ≤ r.n
  pub n_high : r.n ≤ most_n
  pub v_low : least_v ≤ r.v
  pub v_high : r.v ≤ most_v
  pub cells_long_lem : length cells ≡ octets * r.n
  pub links_long : length links ≡ r.n
  pub calendar_long : length calendar ≡ per_entry * r.n
  pub words_long : length words ≡ words_in r.v
  pub bits_long : length bits ≡ bit_words
  pub arrived_long : length arrived ≡ r.n

abbrev pub RawFits : ℕ → ℕ → Type 0
RawFits raw mode = (raw ≡ 0) ⊎ ((raw ≡ 1) × (mode ≡ 0))

pub record Tries (r : Record) (bits : List ℕ) : Type 0 where
  pub raw_fits : RawFits r.raw r.mode
  pub kind_fits : kind_in_range r.kind ≡ true
  pub turn_low : r.turn < r.n
  pub rotation_low : r.rotation < connections_in r.v
  pub spaces_fit_lem : spaces_fit r.n r.free bits ≡ true
  pub output_fits : ends_fit r.n (output_ends r) ≡ true

pub record Held (w : Way) (cells links calendar words bits arrived : List ℕ) : Type 0 where
  pub shaped : Shaped (slot_record w) cells links calendar words bits arrived
  pub t_low : w.t < slot_numbers
  pub turn_most : w.turn ≤ w.n
  pub rotation_most : w.rotation ≤ connections_in w.v
  pub spaces_fit_lem : spaces_fit w.n w.free bits ≡ true
  pub output_fits : ends_fit w.n (output_ends (slot_record w)) ≡ true
  pub raw_fits : RawFits w.raw w.mode
  pub names : NamesBy w

pub record Room (w : Way) (words : List ℕ) (k : ℕ) : Type 0 where
  pub turn_room : w.turn + k ≤ w.n
  pub rotation_room : w.rotation + k ≤ connections_in w.v
  pub part_room : w.rotation < w.v → w.rotation + k ≤ w.v
  pub unused_closed : 0 < k → unused w.v w.rotation ≡ true → get_or words (connection_place w.rotation) 0 ≡ 0

-- how far a burst has come, before slot i
abbrev pub way_stretch : Way → List ℕ → List ℕ → List ℕ → List ℕ → List ℕ → List ℕ → List ℕ → List ℕ → ℕ → Stretch
way_stretch w cells links calendar words bits arrived departures answers i =
    stretch_of (state_of (last_record w) cells links calendar words bits arrived) departures answers 0 i

-- ---- the same of lent memories and buffers, for contracts
abbrev pub HeldIn : Way → SliceMut → SliceMut → SliceMut → SliceMut → SliceMut → SliceMut → Type 0
HeldIn w cells links calendar words bits arrived = Held w cells.now links.now calendar.now words.now bits.now arrived.now

abbrev pub HeldAfter : Way → LentMut → LentMut → LentMut → LentMut → LentMut → LentMut → Type 0
HeldAfter w cells links calendar words bits arrived =
    Held w cells.exit.now links.exit.now calendar.exit.now words.exit.now bits.exit.now arrived.exit.now

-- how far a burst has come before slot i, s being its policer: as a function is handed it, and as it leaves it
abbrev pub stretch_before : State → LentMut → LentMut → ℕ → Stretch
stretch_before s departures answers i = stretch_of s departures.entry.now answers.entry.now 0 i

abbrev pub stretch_after : State → LentMut → LentMut → ℕ → ℕ → Stretch
stretch_after s departures answers number i = stretch_of s departures.exit.now answers.exit.now number i

-- the slots from slot i on
abbrev pub slots_from : Lent → Lent → ℕ → Stretch → Stretch
slots_from arrivals sizes i = slots arrivals.entry.now (drop i sizes.entry.now)
