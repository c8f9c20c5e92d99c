-- No refusal has number 0, which says that nothing is refused; and what held where a call's line for a refusal was passed.
use Rattle.std.proofs.Common.{arith, ◌≡◌, refl, sym, ap, Bool, true, false}
use Rattle.std.specs.Prelude.{Result, Ok, Err, IsErrAnd}
use Rattle.meaning.specs.Plain.{when◌then◌else◌}
use Rattle.leaf_refusal.specs.declared.Refusal.{Refusal}
use Rattle.leaf_refusal.specs.declared.Refusal.TheVariants.{Ranges, Lengths, Stored, Name, AlreadyOpen, Rules, NotOpen, NotYet}
use Rattle.leaf_refusal.specs.declared.Refusal.TheVariants.{CellSize, SecondBucket, OutOfOrder, LineKind, Share, Operator}
use Rattle.leaf_refusal.specs.Refusals.{number_of, given_number}

pub never_0 : (why : Refusal) → number_of why ≡ 0 → ⊥
never_0 Ranges h = omega arith
never_0 Lengths h = omega arith
never_0 Stored h = omega arith
never_0 Name h = omega arith
never_0 AlreadyOpen h = omega arith
never_0 Rules h = omega arith
never_0 NotOpen h = omega arith
never_0 NotYet h = omega arith
never_0 CellSize h = omega arith
never_0 SecondBucket h = omega arith
never_0 OutOfOrder h = omega arith
never_0 LineKind h = omega arith
never_0 Share h = omega arith
never_0 Operator h = omega arith

pub held : (b : Bool) (why : Refusal) {u : Unit} → ◌≡◌ {A = Result Unit Refusal} (Ok u) (when b then Ok tt else Err why) → b ≡ true
held true why e = refl
held false why e = absurd (never_0 why (sym (ap given_number e)))

-- what a `?` answers with
pub err_is : {A : Type 0} (r : Result A Refusal) (why : Refusal) → IsErrAnd r (λ e. e ≡ why) → r ≡ Err why
err_is (Ok u) why h = absurd h
err_is (Err e) why h = ap Err h

pub passed_on : (r : Result Unit Refusal) (why : Refusal) → IsErrAnd r (λ e. e ≡ why) → given_number r ≡ number_of why
passed_on r why h = ap given_number (err_is r why h)

-- what a line for a refusal says where it was not passed
pub not_held : (b : Bool) (why e : Refusal) → ◌≡◌ {A = Result Unit Refusal} (Err e) (when b then Ok tt else Err why)
    → (b ≡ false) × (number_of e ≡ number_of why)
not_held true why e h = absurd (never_0 e (ap given_number h))
not_held false why e h = (refl, ap given_number h)
