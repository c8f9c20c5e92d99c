-- Step 3 at an open connection, test after test, is its verdict and what that writes; without a second bucket the peak alone decides.
use Prim.Native.Nat.{ℕ, ◌-◌}
use mathlib.Core.Path.{◌≡◌, refl, ap}
use mathlib.Core.Bool.{Bool, true, false}
use Rattle.std.specs.Prelude.{Option, Some, None}
use native.Mathlib.Omega.{arith}
use borrow.Author.Tests.{le-ltb}
use Rattle.meaning.specs.Plain.{when◌then◌else◌, ◌=?◌}
use Rattle.meaning.specs.Numbers.{accepted, excess, tagged}
use Rattle.meaning.specs.Bucket.{with_s, is_excess, fall, fill}
use Rattle.meaning.specs.Words.{Connection, second_in_range, fallen_to}
use Rattle.meaning.specs.Arrival.{verdict_on, second_after}
use Rattle.mem_words.specs.Connections.{has_none}
use Rattle.mem_words.proofs.NoneLaws.{None as NoSecond, none_facts, none_fits}
use Rattle.slot_arrive.specs.declared.Judged.{Judged}
use Rattle.slot_arrive.specs.Arrival.{connection_now, judged_as, judged_buckets}
use Rattle.slot_arrive.specs.Both.{let_in_as, judged_peak, judged_second, judged_both}
use Rattle.slot_arrive.proofs.BroughtLaws.{now_none}

-- the tests one after the other, of a connection with its buckets at this slot
abbrev by_tests : ℕ → ℕ → Connection → Bool → Bool → Bool → Bool → Option Judged
by_tests N vci vc over zero above untagged =
    when over then Some (judged_as excess vci 0 vc.bucket.S 0 vc.second.S)
    else when zero
    then (when above
    then (when untagged then Some (judged_as excess vci 0 vc.bucket.S 0 vc.second.S)
    else let_in_as N tagged vci vc.bucket vc.waiting vc.second.S)
    else let_in_as N accepted vci vc.bucket vc.waiting (fill vc.second).S)
    else let_in_as N accepted vci vc.bucket vc.waiting vc.second.S

tests_are : (N vci clp : ℕ) (vc : Connection) (over zero above untagged : Bool) → is_excess vc.bucket ≡ over → (clp =? 0) ≡ zero
    → is_excess vc.second ≡ above
    → (vc.tag =? 0) ≡ untagged
    → by_tests N vci vc over zero above untagged ≡ judged_buckets N vci clp vc
unfolding judged_buckets verdict_on second_after let_in_as
tests_are N vci clp vc true zero above untagged p q x g = rw p
tests_are N vci clp vc false true true true p q x g = rw (p, q, x, g)
tests_are N vci clp vc false true true false p q x g = rw (p, q, x, g)
tests_are N vci clp vc false true false untagged p q x g = rw (p, q, x)
tests_are N vci clp vc false false above untagged p q x g = rw (p, q)

-- nothing is above a second bucket that is none, and nothing fills it
never : (vc : Connection) → NoSecond vc → is_excess (with_s vc.second 0) ≡ false
unfolding is_excess
never vc n = le-ltb (vc.second.C - vc.second.F) 0 (omega arith)

nothing : (vc : Connection) → NoSecond vc → (fill (with_s vc.second 0)).S ≡ 0
unfolding fill
nothing vc n = omega (arith, n.F_is)

-- the same of the connection's words and s, as the peak bucket has fallen
pub both_is : (N t vci clp s : ℕ) (vc : Connection) → s ≡ (connection_now t vc).bucket.S
    → judged_both N t vci clp s vc
    ≡ (when second_in_range vc.second vc.tag then judged_buckets N vci clp (connection_now t vc) else None)
unfolding judged_both judged_second connection_now fallen_to fall
both_is N t vci clp s vc e =
    rw e
    (ap (λ (j : Option Judged). when second_in_range vc.second vc.tag then j else None)
    (tests_are N vci clp (connection_now t vc) (is_excess (connection_now t vc).bucket) (clp =? 0) (is_excess (connection_now t vc).second) ((connection_now t vc).tag =? 0)
    refl refl refl refl))

-- without a second bucket, whatever the CLP
pub none_is : (N t vci clp s : ℕ) (vc : Connection) → has_none vc ≡ true
    → judged_peak N vci (with_s vc.bucket s) vc.waiting ≡ judged_both N t vci clp s vc
unfolding judged_both judged_second judged_peak
none_is N t vci clp s vc e =
    let n = none_facts vc e in
    rw (none_fits vc n, now_none t vc e, never vc n, nothing vc n) (go (is_excess (with_s vc.bucket s)) (clp =? 0))
  where
    go : (over zero : Bool)
        → (when over then Some (judged_as excess vci 0 s 0 0) else let_in_as N accepted vci (with_s vc.bucket s) vc.waiting 0)
        ≡ (when over then Some (judged_as excess vci 0 s 0 0)
        else when zero then let_in_as N accepted vci (with_s vc.bucket s) vc.waiting 0
        else let_in_as N accepted vci (with_s vc.bucket s) vc.waiting 0)
    go true zero = refl
    go false true = refl
    go false false = refl
