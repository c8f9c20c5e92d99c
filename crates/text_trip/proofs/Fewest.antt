-- As few as possible: k records hold at most 65,535 × k slots, and a pause of n slots is written in n / 65,535 records,
-- rounded up.
use Prim.Native.Nat.{ℕ, zero, suc, ◌+◌, ◌*◌, ◌/◌, ◌%◌, ◌≤◌}
use mathlib.Core.Path.{◌≡◌, refl, sym, ap, ◌∙◌}
use mathlib.Core.Bool.{Bool, true, false}
use mathlib.Core.List.{List, [], ◌∷◌, ◌++◌}
use native.Mathlib.Omega.{arith}
use borrow.Author.Tests.{eqb-true, eqb-false}
use lib.Dec.{eqb}
use lib.ListN.{length, length-append}
use Rattle.meaning.specs.Plain.{when◌then◌else◌}
use Rattle.text_meaning.specs.Events.{pause, full, sl_of, fulls, rest_of, octets_of}
use Rattle.text_trip.specs.Fewest.{sum_of, Held, records}

fulls_long : (k : ℕ) → length (fulls k) ≡ 4 * k
unfolding fulls
fulls_long zero = refl
fulls_long (suc k) = let h = fulls_long k in omega arith

rest_long_lem : (r : ℕ) (b : Bool) → length (when b then [] else sl_of r) ≡ 4 * (when b then 0 else 1)
rest_long_lem r true = refl
rest_long_lem r false = refl

-- a record has four octets
pub pause_long : (n : ℕ) → length (octets_of (pause n)) ≡ 4 * records n
unfolding octets_of rest_of records
pause_long n =
    let a = fulls_long (n / full) in
    let b = rest_long_lem (n % full) (eqb (n % full) 0) in
    length-append (fulls (n / full)) _ ∙ omega arith

held : (ns : List ℕ) → Held ns → sum_of ns ≤ full * length ns
held [] h = omega arith
held (n ∷ ns) h = let e = held ns h.1 in let l : n ≤ 65_535 = h.0 in omega arith

rounded : (n k : ℕ) (b : Bool) → eqb (n % full) 0 ≡ b → n ≤ full * k → n / full + (when b then 0 else 1) ≤ k
rounded n k true e h = omega arith
rounded n k false e h = let z = eqb-false (n % full) 0 e in omega arith

-- whatever SL records hold the slots of a pause, it is written in no more of them
pub fewest : (ns : List ℕ) → Held ns → records (sum_of ns) ≤ length ns
unfolding records
fewest ns h = rounded (sum_of ns) (length ns) (eqb (sum_of ns % full) 0) refl (held ns h)
