-- What departs: what its tests have shown, of it and of the words of free spaces; and that it depends on the words only by open words and waiting.
use Prim.Native.Nat.{ℕ, ◌≤◌, ◌<◌}
use mathlib.Core.Path.{◌≡◌, refl, sym, ap, subst}
use mathlib.Core.Bool.{Bool, true, false, not, ◌&&◌}
use mathlib.Core.List.{List}
use Rattle.std.specs.Prelude.{Option, Some, None}
use Rattle.std.proofs.lemmas.Option.{none-some, same_Some}
use native.Mathlib.Omega.{arith}
use borrow.Author.Tests.{leb-true, not-true}
use lib.ListN.{get_or}
use Rattle.meaning.specs.Plain.{when◌then◌else◌, ◌<?◌, ◌≤?◌, ◌=?◌}
use Rattle.meaning.specs.Numbers.{empty, most_n, connections_in, kind_in_range, open_place, waiting_place, cell_start}
use Rattle.meaning.specs.Bits.{is_free_space, spaces_fit}
use Rattle.meaning.specs.Header.{Header, header_at, connection, names_connection, names_open}
use Rattle.meaning.specs.Words.{connection_at}
use Rattle.meaning.proofs.NamesLaws.{names_low}
use Rattle.meaning.proofs.BitsLaws.{free_most}
use Rattle.mem_lists.specs.declared.Off.{Off}
use Rattle.mem_lists.specs.Spaces.{ends_of, off_as, may_leave, off_of}
use Rattle.mem_lists.proofs.After.{Kept}
use Rattle.slot_plan.specs.Plan.{may_be_freed}
use Rattle.slot_plan.proofs.Found.{and}

module _ (N z kind : ℕ) (cells links words : List ℕ) (x tail : ℕ) where
  abbrev h : Header
  h = header_at kind cells (cell_start x)

  abbrev at : ℕ
  at = connection z h

  abbrev off : Option Off
  off = off_of N z kind cells links words x tail

  may_shows : may_leave N z kind cells words x ≡ true → (at < connections_in z) × (1 ≤ get_or words (waiting_place at) 0)
  unfolding may_leave names_open connection_at
  may_shows e =
      let names = kind_in_range kind && (names_connection z h && get_or words (open_place at) 0 =? 1) in
      let p = and (names && 1 ≤? get_or words (waiting_place at) 0) (get_or words (waiting_place at) 0 ≤? N) e in
      let q = and names (1 ≤? get_or words (waiting_place at) 0) p.0 in
      let r = and (kind_in_range kind) (names_connection z h && get_or words (open_place at) 0 =? 1) q.0 in
      (names_low z h (and (names_connection z h) (get_or words (open_place at) 0 =? 1) r.1).0, leb-true _ _ q.1)

  -- the tests, one after the other
  abbrev by_tests : Bool → Bool → Bool → Option Off
  by_tests m a f =
      when m then (when a then Some (off_as x at (ends_of empty empty)) else when f then Some (off_as x at (ends_of (get_or links x 0) tail)) else None) else None

  none_off : {A : Type 0} {o : Off} → None ≡ Some o → A
  none_off {o = o} e = absurd (none-some o e)

  pub off_shows : (o : Off) → off ≡ Some o → (o.vci < connections_in z) × (1 ≤ get_or words (waiting_place o.vci) 0)
  unfolding off_of
  off_shows o = go (may_leave N z kind cells words x) (x =? tail) (get_or links x 0 <? N) refl
    where
      go : (m a f : Bool) → may_leave N z kind cells words x ≡ m → by_tests m a f ≡ Some o → (o.vci < connections_in z) × (1 ≤ get_or words (waiting_place o.vci) 0)
      go true true f e is = let P : Off → Type 0 = λ y. (y.vci < connections_in z) × (1 ≤ get_or words (waiting_place y.vci) 0) in subst P (same_Some _ _ is) (may_shows e)
      go true false true e is = let P : Off → Type 0 = λ y. (y.vci < connections_in z) × (1 ≤ get_or words (waiting_place y.vci) 0) in subst P (same_Some _ _ is) (may_shows e)
      go true false false e is = none_off is
      go false a f e is = none_off is

  -- what departs is the head
  pub off_space : (o : Off) → off ≡ Some o → o.space ≡ x
  unfolding off_of
  off_space o = go (may_leave N z kind cells words x) (x =? tail) (get_or links x 0 <? N)
    where
      go : (m a f : Bool) → by_tests m a f ≡ Some o → o.space ≡ x
      go true true f is = ap (λ (y : Off). y.space) (sym (same_Some _ _ is))
      go true false true is = ap (λ (y : Off). y.space) (sym (same_Some _ _ is))
      go true false false is = none_off is
      go false a f is = none_off is

  pub off_low : (o : Off) → off ≡ Some o → x < N → o.space < N
  off_low o e h = rw (off_space o e) h

  pub off_kept : (words' : List ℕ) → Kept words words' → off_of N z kind cells links words' x tail ≡ off
  unfolding off_of may_leave names_open connection_at
  off_kept words' kept = rw (kept.opened at, kept.waiting at)

-- a space that may be freed is not free, and there is room in the number
pub may_free_shows : (N free : ℕ) (bits : List ℕ) (x : ℕ) → N ≤ most_n → may_be_freed N free bits x ≡ true → (free ≤ most_n) × (is_free_space bits x ≡ false)
unfolding may_be_freed
may_free_shows N free bits x small e =
    let p = and (spaces_fit N free bits) (not (is_free_space bits x)) e in
    let most = free_most N free bits p.0 in
    (omega (arith, most, small), not-true (is_free_space bits x) p.1)
