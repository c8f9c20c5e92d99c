-- Step 2 by the tests of a likely way. A record that is no connection's has an open word of 0: so where the open word is 0 step 2
-- writes nothing, and where it is not the record is a connection's. Where nothing is in its bucket and it has no second one, nothing
-- falls.
use Prim.Native.Nat.{ℕ, ◌+◌, ◌-◌, ◌*◌, ◌^◌, ◌≤◌, ◌<◌}
use mathlib.Core.Path.{◌≡◌, refl, sym, ◌∙◌, ap}
use mathlib.Core.Logic.{◌≢◌}
use mathlib.Core.Bool.{Bool, true, false}
use mathlib.Core.List.{List}
use Rattle.std.specs.Prelude.{Some, None}
use Rattle.std.specs.Option.{option_map}
use native.Mathlib.Omega.{arith}
use borrow.Author.Tests.{eq-eqb, le-leb, lt-leb}
use lib.Bits.{bit_or, or_add_and, and_le_l, and_le_r}
use lib.ListN.{get_or}
use Rattle.meaning.specs.Numbers.{unused, connection_place}
use Rattle.meaning.specs.Bucket.{bucket_of, obeys_rules, elapsed, fall}
use Rattle.meaning.specs.Words.{Connection, connection_at, bucket_fits, fallen_to}
use Rattle.mem_words.specs.Connections.{has_none}
use Rattle.mem_words.proofs.Fits.{bucket_breaks, bucket_obeys}
use Rattle.mem_words.proofs.NoneLaws.{no_rate}
use Rattle.slot_arrive.specs.Arrival.{fall_of, connection_now, brought_of}
use Rattle.slot_arrive.proofs.BroughtLaws.{brought_unused, brought_closed, brought_both_lem, brought_none, brought_unfit}

pub turned_closed : (N z t : ℕ) (words : List ℕ) (vci : ℕ) → get_or words (connection_place vci) 0 ≡ 0 → Some None ≡ brought_of N z t words vci
turned_closed N z t words vci o = go (unused z vci) refl
  where
    go : (b : Bool) → unused z vci ≡ b → Some None ≡ brought_of N z t words vci
    go true e = brought_unused N z t words vci e
    go false e = brought_closed N z t words vci e o

pub used : (z vci : ℕ) (words : List ℕ) → (unused z vci ≡ true → get_or words (connection_place vci) 0 ≡ 0) → get_or words (connection_place vci) 0 ≢ 0
    → unused z vci ≡ false
used z vci words none some = go (unused z vci) refl
  where
    go : (b : Bool) → unused z vci ≡ b → unused z vci ≡ false
    go true e = absurd (some (none e))
    go false e = e

-- the words of a connection that stand from place b on
abbrev pub connection_from : List ℕ → ℕ → Connection
connection_from words b =
    record {
      opened = get_or words (b + 0) 0;
      bucket = bucket_of (get_or words (b + 1) 0) (get_or words (b + 2) 0) (get_or words (b + 3) 0) (get_or words (b + 4) 0);
      last = get_or words (b + 5) 0;
      waiting = get_or words (b + 6) 0;
      second = bucket_of (get_or words (b + 7) 0) (get_or words (b + 8) 0) (get_or words (b + 9) 0) (get_or words (b + 10) 0);
      tag = get_or words (b + 11) 0;
    }

pub from_place : (words : List ℕ) (vci b : ℕ) → b ≡ connection_place vci → connection_from words b ≡ connection_at words vci
unfolding connection_at
from_place words vci b e = ap (connection_from words) e

-- S as the update leaves it
pub fallen_is : (t : ℕ) (vc : Connection) → vc.bucket.S - elapsed t vc.last * 2 ^ vc.bucket.m ≡ (connection_now t vc).bucket.S
unfolding connection_now fallen_to fall
fallen_is t vc = refl

-- no second bucket, told by its words in two groups
pub none_told : (vc : Connection) → bit_or (bit_or vc.second.m vc.second.F) vc.second.C ≡ 0 → bit_or vc.second.S vc.tag ≡ 0
    → has_none vc ≡ true
none_told vc rates rest = sym (no_rate vc rates) ∙ eq-eqb _ _ rest

-- words told to be 0 together are 0 each
or_left : (a b : ℕ) → bit_or a b ≡ 0 → a ≡ 0
or_left a b e = omega (arith, or_add_and a b, and_le_r a b, e)

or_right : (a b : ℕ) → bit_or a b ≡ 0 → b ≡ 0
or_right a b e = omega (arith, or_add_and a b, and_le_l a b, e)

each : (a b c : ℕ) → bit_or (bit_or a b) c ≡ 0 → (a ≡ 0) × (b ≡ 0) × (c ≡ 0)
each a b c e =
    let two = or_left (bit_or a b) c e in
    (or_left a b two, or_right a b two, or_right (bit_or a b) c e)

-- ---- an open connection, the rules on its m, F and C being tested first
module _ (N z t : ℕ) (words : List ℕ) (vci : ℕ) where
  abbrev vc : Connection
  vc = connection_at words vci

  abbrev ruled : Bool
  ruled = obeys_rules N (bucket_of vc.bucket.m vc.bucket.F vc.bucket.C 0)

  pub turned_fits : ruled ≡ true → vc.bucket.S ≤ vc.bucket.C → bucket_fits N vc.bucket ≡ true
  turned_fits obeys most = sym (bucket_obeys N vc.bucket obeys) ∙ le-leb _ _ most

  -- nothing in its bucket, and no second one
  pub turned_bare : unused z vci ≡ false → get_or words (connection_place vci) 0 ≡ 1 → ruled ≡ true
      → bit_or (bit_or vc.bucket.S vc.second.m) vc.second.F ≡ 0
      → bit_or (bit_or vc.second.C vc.second.S) vc.tag ≡ 0
      → Some (Some (fall_of 0 0)) ≡ brought_of N z t words vci
  unfolding connection_now fallen_to fall
  turned_bare ne o obeys first rest =
      let zero = each vc.bucket.S vc.second.m vc.second.F first in
      let zero2 = each vc.second.C vc.second.S vc.tag rest in
      ap (option_map Some) (brought_none N z t words vci 0 (none_told vc (rw (zero.1, zero.2, zero2.0)) (rw (zero2.1, zero2.2))))
      ∙ brought_both_lem N z t words vci 0 ne o (turned_fits obeys (omega (arith, zero.0))) (omega (arith, zero.0))

  pub turned_broken : unused z vci ≡ false → get_or words (connection_place vci) 0 ≡ 1 → ruled ≡ false
      → None ≡ brought_of N z t words vci
  turned_broken ne o breaks = brought_unfit N z t words vci ne o (sym (bucket_breaks N vc.bucket breaks))

  pub turned_above : unused z vci ≡ false → get_or words (connection_place vci) 0 ≡ 1 → ruled ≡ true → vc.bucket.C < vc.bucket.S
      → None ≡ brought_of N z t words vci
  turned_above ne o obeys above = brought_unfit N z t words vci ne o (sym (bucket_obeys N vc.bucket obeys) ∙ lt-leb _ _ above)
