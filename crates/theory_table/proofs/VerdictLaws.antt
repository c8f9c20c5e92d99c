-- The verdict that the stored buckets give is the leak rules' own; and what it says of them.
use Prim.Native.Nat.{ℕ, suc}
use mathlib.Core.Path.{◌≡◌, refl, sym}
use mathlib.Core.Bool.{Bool, true, false, not, ◌&&◌}
use native.Mathlib.Omega.{arith}
use Rattle.meaning.specs.Plain.{when◌then◌else◌, ◌=?◌}
use Rattle.meaning.specs.Numbers.{accepted, excess, tagged, lets_in}
use Rattle.meaning.specs.Arrival.{verdict_on}
use Rattle.meaning_runs.specs.Leak.{Opening, leak_accepts, sustains, verdict_by}
use Rattle.theory_table.specs.Stored.{stored}
use Rattle.theory_table.proofs.BucketLaws.{excess_after}

-- a CLP 0 cell above the peak, above the sustainable rate; the flag
abbrev of : Bool → Bool → Bool → Bool → ℕ
of peak zero-clp above unset = when peak then excess else when zero-clp && above then (when unset then excess else tagged) else accepted

pub verdict_is : (o : Opening) (clp now q : ℕ) → verdict_on clp (stored o (suc now) q) ≡ verdict_by o clp now
unfolding verdict_on verdict_by leak_accepts sustains
verdict_is o clp now q =
    rw (
      excess_after o.m o.F o.C o.previous now,
      excess_after o.second.m o.second.F o.second.C o.sustained now,
    )

abbrev Says : Bool → Bool → Bool → ℕ → Type 0
Says leak zero-clp sustained verdict =
    (lets_in verdict ≡ true → leak ≡ true)
    × (zero-clp && verdict =? accepted ≡ true → sustained ≡ true)
    × (lets_in verdict ≡ false → verdict ≡ excess)

-- accepted or tagged: within the peak; accepted with CLP 0: within the sustainable rate; not let in: excess
pub verdict_says : (o : Opening) (clp now : ℕ) → Says (leak_accepts o now) (clp =? 0) (sustains o now) (verdict_by o clp now)
unfolding verdict_by lets_in
verdict_says o clp now = go (leak_accepts o now) (clp =? 0) (sustains o now) (o.second.tag =? 0)
  where
    not_so : {A : Type 0} → false ≡ true → A
    not_so e = absurd (let z : ◌≡◌ {A = ℕ} 0 1 = cc in omega arith)

    go : (a b c d : Bool) → Says a b c (of (not a) b (not c) d)
    go false b c d = (not_so, go1 b, λ e. refl)
      where
        go1 : (b : Bool) → b && false ≡ true → c ≡ true
        go1 true e = not_so e
        go1 false e = not_so e
    go true false c d = (λ e. refl, λ e. not_so e, λ e. not_so (sym e))
    go true true true d = (λ e. refl, λ e. refl, λ e. not_so (sym e))
    go true true false true = (λ e. refl, λ e. not_so e, λ e. refl)
    go true true false false = (λ e. refl, λ e. not_so e, λ e. not_so (sym e))
