-- The tests of ranges and lengths as plain facts, and that the clauses give the tests' yes.
use Prim.Native.Nat.{ℕ, ◌*◌, ◌≤◌, ◌<◌}
use mathlib.Core.Path.{◌≡◌, sym, ◌∙◌}
use mathlib.Core.Bool.{Bool, true, ◌&&◌}
use mathlib.Core.List.{List}
use lib.ListN.{length}
use borrow.Author.Tests.{lt-ltb, le-leb}
use Rattle.meaning.specs.declared.Record.{Record}
use Rattle.meaning.specs.Numbers.{most_n, least_v, most_v, ranges_hold, per_entry, connections_in, kind_in_range, words_in, bit_words, splits_hold}
use Rattle.meaning.specs.State.{state_of, words_length, lengths_hold}
use Rattle.meaning.specs.Audit.{AuditHolds}
use Rattle.call_audit.specs.Shape.{record_fits, shape_holds}
use native.Mathlib.Omega.{arith}
use Rattle.std.proofs.lemmas.Bool.{and_parts}
use Rattle.std.proofs.lemmas.Bool.Decides.{nat_tests}
use Rattle.leaf_refusal.proofs.Ranges.{ranges_facts}

-- The six lengths

module _ (N z : ℕ) (cells links calendar words bits arrived : List ℕ) where
  lengths_facts : lengths_hold N z cells links calendar words bits arrived ≡ true
      → (length calendar ≡ per_entry * N) × (length words ≡ words_in z) × (length bits ≡ bit_words)
  unfolding lengths_hold words_length
  lengths_facts h = (grind (arith, nat_tests), grind (arith, nat_tests), grind (arith, nat_tests))

-- The record's other numbers

module _ (r : Record) where
  fits_facts : record_fits r ≡ true
      → (r.turn < r.n) × (r.rotation < connections_in r.v) × (r.raw ≤ 1) × (r.mode ≤ 1) × (r.kind ≤ 1)
      × (splits_hold r.v r.splitvci r.splitpath ≡ true)
  unfolding record_fits kind_in_range
  fits_facts h =
      (grind (arith, nat_tests), grind (arith, nat_tests), grind (arith, nat_tests), grind (arith, nat_tests), grind (arith, nat_tests), grind (arith, nat_tests))

-- What a yes means, and that it is given

-- "lengths and ranges hold", but for the connections' words
pub record Shaped (r : Record) (cells links calendar words bits arrived : List ℕ) : Type 0 where
  pub ranges : ranges_hold r.n r.v ≡ true
  pub lengths : lengths_hold r.n r.v cells links calendar words bits arrived ≡ true
  pub turn_low : r.turn < r.n
  pub rotation_low : r.rotation < connections_in r.v
  pub raw_low : r.raw ≤ 1
  pub mode_low : r.mode ≤ 1
  pub kind_low : r.kind ≤ 1
  pub splits : splits_hold r.v r.splitvci r.splitpath ≡ true
  -- what the two tests say in plain numbers, as far as the code needs it
  pub n_most : r.n ≤ most_n
  pub v_least : least_v ≤ r.v
  pub v_most : r.v ≤ most_v
  pub calendar_long : length calendar ≡ per_entry * r.n
  pub words_long : length words ≡ words_in r.v
  pub bits_long : length bits ≡ bit_words

module _ (r : Record) (cells links calendar words bits arrived : List ℕ) where
  pub shape_of : (a : Bool) → a ≡ shape_holds (state_of r cells links calendar words bits arrived) → a ≡ true
      → Shaped r cells links calendar words bits arrived
  unfolding shape_holds
  shape_of found e h =
      let ranges = ranges_hold r.n r.v in
      let lengths = lengths_hold r.n r.v cells links calendar words bits arrived in
      let a = and_parts (ranges && lengths) (record_fits r) (sym e ∙ h) in
      let d = and_parts ranges lengths a.0 in
      let k = fits_facts r a.1 in
      let f = ranges_facts r.n r.v d.0 in
      let g = lengths_facts r.n r.v cells links calendar words bits arrived d.1 in
      record {
        ranges = d.0;
        lengths = d.1;
        turn_low = k.0;
        rotation_low = k.1;
        raw_low = k.2;
        mode_low = k.3;
        kind_low = k.4;
        splits = k.5;
        n_most = f.N_most;
        v_least = f.V_least;
        v_most = f.V_most;
        calendar_long = g.0;
        words_long = g.1;
        bits_long = g.2;
      }

  pub clauses_shape : AuditHolds (state_of r cells links calendar words bits arrived)
      → shape_holds (state_of r cells links calendar words bits arrived) ≡ true
  unfolding shape_holds record_fits kind_in_range
  clauses_shape s =
      rw (
        s.ranges,
        s.lengths,
        lt-ltb r.turn r.n s.turn_low,
        lt-ltb r.rotation (connections_in r.v) s.rotation_low,
        le-leb r.raw 1 s.raw_low,
        le-leb r.mode 1 s.mode_low,
        le-leb r.kind 1 s.kind_low,
        s.splits,
      )
