-- The connection that the header in a space names is read by the mask of the line kind, and its number decides whether its cell departs:
-- 0 is none.
use Prim.Native.Nat.{ℕ, ◌*◌, ◌/◌, ◌≤◌, ◌<◌}
use mathlib.Core.Path.{◌≡◌, refl, sym, ◌∙◌, ap, subst}
use mathlib.Core.Logic.{◌≢◌}
use mathlib.Core.Bool.{Bool, true, false, ◌&&◌}
use borrow.Author.Tests.{eq-eqb, eqb-true, eqb-false, ne_eqb}
use Rattle.std.specs.Prelude.{Some, None}
use Rattle.std.specs.declared.ops.RangeInclusive.{RangeInclusive}
use Rattle.std.specs.Ordering.{nat_cmp, is_le}
use Rattle.std.specs.Range.{range_inclusive_start, range_inclusive_end, range_inclusive_exhausted, range_inclusive_contains}
use Rattle.std.proofs.lemmas.Option.{none-some, same_Some}
use borrow.Author.Rules.{rules}
use native.Mathlib.Omega.{arith}
use mathlib.Core.List.{List}
use lib.Bits.{bit_and}
use lib.ListN.{get_or}
use Rattle.meaning.specs.Plain.{when◌then◌else◌, ◌≤?◌, ◌=?◌}
use Rattle.meaning.specs.Numbers.{most_v, kind_in_range, connection_place, waiting_place}
use Rattle.meaning.specs.Header.{header_at}
use Rattle.leaf_header.specs.Name.{name_at, name_in, number_for, Reads}
use Rattle.leaf_header.proofs.NameLaws.{name_by, numbered_is}
use Rattle.mem_lists.specs.Leaver.{may_go, goes_as, leaver_of}
use Rattle.mem_lists.proofs.LeaverLaws.{leaver_is}
use Rattle.meaning.proofs.WordsLaws.{opened_at, waiting_at}
use Rattle.burst_way.specs.declared.Way.{Way}
use Rattle.burst_way.specs.Way.{NamesBy}
use Rattle.burst_depart.specs.Leaving.{unless_zero}

pub goes : (w : Way) (cells words : List ℕ) (x head name u : ℕ) → NamesBy w → w.v ≤ most_v → head < 4294967296
    → ((kind : ℕ) → kind_in_range kind ≡ true → name_in kind head ≡ name_at kind cells (53 * x))
    → ((kind : ℕ) → Reads kind (header_at kind cells (53 * x)) (name_in kind head))
    → name ≡ bit_and (head / 16) w.mask
    → u ≡ number_for w.v name
    → goes_as w.n words u ≡ leaver_of w.n w.v w.kind cells words x
goes w cells words x head name u by few low names reads name_is number =
    let named = name_is ∙ name_by w.kind w.mask head by.0 by.1 low in
    ap (goes_as w.n words)
    (number
    ∙ numbered_is w.kind w.v few cells (53 * x) name (named ∙ names w.kind by.0)
    (subst (Reads w.kind (header_at w.kind cells (53 * x))) (sym named) (reads w.kind)))
    ∙ leaver_is w.n w.v w.kind cells words x

-- ---- the test of its waiting cells
at_most : (x y : ℕ) → is_le (nat_cmp x y) ≡ (x ≤? y)
at_most x y = search (rules, arith)

pub in_range : (r : RangeInclusive ℕ) (a b x : ℕ)
    → range_inclusive_start r ≡ a
    → range_inclusive_end r ≡ b
    → range_inclusive_exhausted r ≡ false
    → range_inclusive_contains (λ n k. Some (nat_cmp n k)) r x ≡ (a ≤? x && x ≤? b)
in_range r a b x s e ex = rw (s, e, ex, at_most a x, at_most x b)

pub go_within : (N : ℕ) (words : List ℕ) (u : ℕ) → get_or words (connection_place u) 0 ≡ 1
    → (1 ≤? get_or words (waiting_place u) 0 && get_or words (waiting_place u) 0 ≤? N) ≡ may_go N words u
unfolding may_go
go_within N words u e = simp (eq-eqb _ _ (opened_at words u ∙ e), waiting_at words u)

-- ---- the number as an Option
pub some_number : (u : ℕ) → u ≢ 0 → Some u ≡ unless_zero u
some_number u ne = rw (ne_eqb u 0 ne) refl

pub none_is : (x : ℕ) → None ≡ unless_zero x → x ≡ 0
none_is x = go (x =? 0) refl
  where
    go : (b : Bool) → x =? 0 ≡ b → None ≡ (when b then None else Some x) → x ≡ 0
    go true e q = eqb-true x 0 e
    go false e q = absurd (none-some x q)

pub some_is : (x u : ℕ) → Some u ≡ unless_zero x → (x ≡ u) × (u ≢ 0)
some_is x u = go (x =? 0) refl
  where
    go : (b : Bool) → x =? 0 ≡ b → Some u ≡ (when b then None else Some x) → (x ≡ u) × (u ≢ 0)
    go true e q = absurd (none-some u (sym q))
    go false e q = let same = same_Some u x q in (sym same, λ z. eqb-false x 0 e (sym same ∙ z))
