-- Document 01: setup, open and close. "Order: setup 1, 2; open 1, 2, 4, 3, 5, 6; close 1, 2, 4, 3, 7, 8. Each leaves
-- everything as it came." Close as request (ii) of document 02 has it; open with a second bucket, or none, as (iv) has it; the
-- line kind at setup and paths as (vi) has them; the splits at setup and the operator of an open or close as (xi) has them.
use Rattle.std.specs.Prelude.{ℕ, ◌-◌, ◌*◌, ◌≡◌, Bool, true, false, not, ◌&&◌, List, replicate}
use Rattle.base_hec.specs.Modes.{correction}
use Rattle.meaning.specs.declared.Record.{Record}
use Rattle.meaning.specs.Plain.{when◌then◌else◌, ◌=?◌}
use Rattle.meaning.specs.Numbers.{ranges_hold, splits_hold, octets, per_entry, connections_in, words_in, uni, nni, kind_in_range, empty, slot_numbers}
use Rattle.meaning.specs.Bits.{all_free}
use Rattle.meaning.specs.State.{State, words_length, lengths_hold, with_record}
use Rattle.meaning.specs.Header.{Name, named, number_in}
use Rattle.meaning.specs.Operators.{owns}
use Rattle.meaning.specs.Bucket.{bucket_of, obeys_rules}
use Rattle.meaning.specs.Words.{Second, connection_at, write_connection, connection_fits, second_obeys, opened_connection, closed_connection, debt}

-- what setup gives back: the refusal number, and the record and memories afterwards
pub record SetUp : Type 0 where
  pub number : ℕ
  pub state : State

abbrev pub set_up_of : ℕ → State → SetUp
set_up_of number s = record { number = number; state = s }

-- "a refused one gives back a record of zeros"
unfoldable pub zeros : Record
zeros =
    record {
      n = 0;
      v = 0;
      t = 0;
      turn = 0;
      rotation = 0;
      free = 0;
      outhead = 0;
      outtail = 0;
      raw = 0;
      mode = 0;
      kind = 0;
      splitvci = 0;
      splitpath = 0;
    }

-- document 02 (i): "Raw is a yes or no at setup"; the record holds 1 or 0
abbrev pub raw_number : Bool → ℕ
raw_number raw = when raw then 1 else 0

-- document 02 (vi): "a line kind chosen at setup"; the record holds its number
pub data Kind : Type 0 where
  UNI NNI : Kind

abbrev pub kind_number : Kind → ℕ
kind_number UNI = uni
kind_number NNI = nni

abbrev pub kind_of : ℕ → Kind
kind_of kind = when kind =? uni then UNI else NNI

-- what a caller of setup chooses beside N and V, as it is handed over: the line kind and the splits may be any numbers
pub record Asked : Type 0 where
  pub raw : Bool
  pub kind : ℕ
  pub splitvci : ℕ
  pub splitpath : ℕ

abbrev pub asked_of : Bool → ℕ → ℕ → ℕ → Asked
asked_of raw kind splitvci splitpath = record { raw = raw; kind = kind; splitvci = splitvci; splitpath = splitpath }

-- the same of a setup that isn't refused: what a fresh policer has
pub record Options : Type 0 where
  pub raw : Bool
  pub kind : Kind
  pub splitvci : ℕ
  pub splitpath : ℕ

abbrev pub options_with : Bool → Kind → ℕ → ℕ → Options
options_with raw kind splitvci splitpath = record { raw = raw; kind = kind; splitvci = splitvci; splitpath = splitpath }

abbrev pub chosen : Asked → Options
chosen a = options_with a.raw (kind_of a.kind) a.splitvci a.splitpath

abbrev pub asked_for : Options → Asked
asked_for o = asked_of o.raw (kind_number o.kind) o.splitvci o.splitpath

-- A card with one operator, who is the second: with both splits 1 every connection is the second's. So the programs set up,
-- since a trace has no split and no operator.
abbrev pub options_of : Bool → Kind → Options
options_of raw kind = options_with raw kind 1 1

-- what a fresh policer may have: then a setup over memory of the right lengths answers 0
abbrev pub Allowed : ℕ → ℕ → Options → Type 0
Allowed N z o = (ranges_hold N z ≡ true) × (splits_hold z o.splitvci o.splitpath ≡ true)

-- document 01 has cells that are not raw, at the UNI
abbrev pub plain : Options
plain = options_of false UNI

-- "t is 2^32-1, T is N-1, rotation is V-1", by document 02 (vi) "from V + 255"; all spaces free,
-- the Output List empty; "correction mode, the first"
unfoldable pub fresh_record : ℕ → ℕ → Options → Record
fresh_record N z o =
    record {
      n = N;
      v = z;
      t = slot_numbers - 1;
      turn = N - 1;
      rotation = connections_in z - 1;
      free = N;
      outhead = empty;
      outtail = empty;
      raw = raw_number o.raw;
      mode = correction;
      kind = kind_number o.kind;
      splitvci = o.splitvci;
      splitpath = o.splitpath;
    }

-- "Setup clears all lent memory, then chains spaces 0 to N-1 into the Free List in that order and empties the calendar"; by document
-- 02 (vii) they are free by their bits, and all links are 0; so are the arrival slots of (x)
unfoldable pub fresh_state : ℕ → ℕ → Options → State
fresh_state N z o =
    record {
      ctl = fresh_record N z o;
      cells = replicate (octets * N) 0;
      links = replicate N 0;
      calendar = replicate (per_entry * N) empty;
      words = replicate (words_in z) 0;
      bits = all_free N;
      arrived = replicate N 0;
    }

-- "Setup is handed no record": N, V, what is chosen, and the memories; of what is lent the record doesn't matter. Document 02
-- (vi): "13, line kind unknown, after 1 at setup"; (xi): a split out of its range "is 1"
unfoldable pub setup : ℕ → ℕ → Asked → State → SetUp
setup N z a lent =
    let as_it_came = with_record lent zeros in
    when not (ranges_hold N z) then set_up_of 1 as_it_came
    else when not (splits_hold z a.splitvci a.splitpath) then set_up_of 1 as_it_came
    else when not (kind_in_range a.kind) then set_up_of 13 as_it_came
    else when not (lengths_hold N z lent.cells lent.links lent.calendar lent.words lent.bits lent.arrived) then set_up_of 2 as_it_came
    else set_up_of 0 (fresh_state N z (chosen a))

-- what open and close give back: the refusal number, and the VC words afterwards. They are lent no other memory,
-- and the record stays as it is.
pub record Called : Type 0 where
  pub number : ℕ
  pub words : List ℕ

abbrev pub called_of : ℕ → List ℕ → Called
called_of number words = record { number = number; words = words }

-- refusals 1, 2, 4, 16 and 3, which open and close share, in this order; 0 where none is given. Document 02 (xi): "16, not this
-- operator's connection, after 4", so before any word is read; 1 also for a stored split out of its range
unfoldable pub shared_refusal : Record → List ℕ → ℕ → Name → ℕ
shared_refusal r words who name =
    when not (ranges_hold r.n r.v) then 1
    else when not (splits_hold r.v r.splitvci r.splitpath) then 1
    else when not (words_length r.v words) then 2
    else when not (named r.v name) then 4
    else when not (owns r who name) then 16
    else when not (connection_fits r.n (connection_at words (number_in r.v name))) then 3
    else 0

-- open: then "5 already open", "6 m, F or C against the rules above", and document 02 (iv): "11, second bucket against its
-- limits, after 6"
unfoldable pub open_call : Record → List ℕ → ℕ → Name → ℕ → ℕ → ℕ → Second → Called
open_call r words who name m F C x =
    let b = bucket_of m F C 0 in
    let c = number_in r.v name in
    let k = shared_refusal r words who name in
    when not (k =? 0) then called_of k words
    else when (connection_at words c).opened =? 1 then called_of 5 words
    else when not (obeys_rules r.n b) then called_of 6 words
    else when not (second_obeys (bucket_of x.m x.F x.C 0) x.tag) then called_of 11 words
    else called_of 0 (write_connection words c (opened_connection r.t b x))

-- close: then "7 not open", and document 02 (ii): "8 is given when waiting or the updated S isn't 0". S is brought up to
-- date in thought alone: nothing is stored where close is refused.
unfoldable pub close_call : Record → List ℕ → ℕ → Name → Called
close_call r words who name =
    let c = number_in r.v name in
    let k = shared_refusal r words who name in
    when not (k =? 0) then called_of k words
    else when (connection_at words c).opened =? 0 then called_of 7 words
    else when not ((connection_at words c).waiting =? 0 && debt r.t (connection_at words c) =? 0) then called_of 8 words
    else called_of 0 (write_connection words c closed_connection)
