-- A policer on its way through a burst, and the records that it stands for.
--
--   slot_record w   == the record in the slot to come, its clock moved
--   last_record w   == the record before it: what a burst that ends here gives back
--   NamesBy w      == its kind is one, and its mask is that kind's: headers can be cut by it
use Rattle.std.specs.Prelude.{◌≡◌, ℕ, ◌+◌, ◌-◌, ◌%◌, ◌≤◌, true}
use Rattle.meaning.specs.declared.Record.{Record}
use Rattle.meaning.specs.Plain.{when◌then◌else◌, ◌=?◌}
use Rattle.meaning.specs.Numbers.{most_n, most_v, connections_in, slot_numbers, empty, kind_in_range}
use Rattle.leaf_header.specs.Name.{mask_for}
use Rattle.burst_way.specs.declared.Way.{Way}

abbrev pub way_with : Way → ℕ → ℕ → ℕ → ℕ → ℕ → ℕ → Way
way_with w t turn rotation free outhead outtail =
    record {
      n = w.n;
      v = w.v;
      t = t;
      turn = turn;
      rotation = rotation;
      free = free;
      outhead = outhead;
      outtail = outtail;
      raw = w.raw;
      mode = w.mode;
      kind = w.kind;
      mask = w.mask;
      splitvci = w.splitvci;
      splitpath = w.splitpath;
    }

abbrev record_at : Way → ℕ → ℕ → ℕ → Record
record_at w t turn rotation =
    record {
      n = w.n;
      v = w.v;
      t = t;
      turn = turn;
      rotation = rotation;
      free = w.free;
      outhead = w.outhead;
      outtail = w.outtail;
      raw = w.raw;
      mode = w.mode;
      kind = w.kind;
      splitvci = w.splitvci;
      splitpath = w.splitpath;
    }

abbrev pub slot_record : Way → Record
slot_record w = record_at w w.t w.turn w.rotation

-- one less, modulo n
abbrev pub one_back : ℕ → ℕ → ℕ
one_back x n = when x =? 0 then n - 1 else x - 1

unfoldable pub last_record : Way → Record
last_record w =
    record_at w ((w.t + (slot_numbers - 1)) % slot_numbers) (one_back w.turn w.n) (one_back w.rotation (connections_in w.v))

-- a slot is over; T and rotation may then stand at N and V + 256
abbrev pub stepped_way : Way → Way
stepped_way w =
    way_with w ((w.t + 1) % slot_numbers) (w.turn + 1) (w.rotation + 1) w.free w.outhead w.outtail

-- T and rotation step round
abbrev pub rounded_way : Way → Way
rounded_way w =
    way_with w w.t (when w.turn =? w.n then 0 else w.turn) (when w.rotation =? connections_in w.v then 0 else w.rotation) w.free w.outhead w.outtail

-- what fits into a record's narrower numbers
pub record Fits (w : Way) : Type 0 where
  pub n_low : 1 ≤ w.n
  pub n_high : w.n ≤ most_n
  pub v_high : w.v ≤ most_v
  pub turn_low : w.turn ≤ w.n
  pub rotation_low : w.rotation ≤ connections_in w.v
  pub free_low : w.free ≤ empty
  pub outhead_low : w.outhead ≤ empty
  pub outtail_low : w.outtail ≤ empty

abbrev pub NamesBy : Way → Type 0
NamesBy w = (kind_in_range w.kind ≡ true) × (w.mask ≡ mask_for w.kind)
