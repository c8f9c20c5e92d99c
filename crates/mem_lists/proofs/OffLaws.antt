-- What departs: the definition with the header's connection in it, and with a connection's number, 0 for none.
use Prim.Native.Nat.{ℕ}
use mathlib.Core.Path.{◌≡◌, refl, ◌∙◌, ap}
use mathlib.Core.Logic.{◌≢◌}
use mathlib.Core.Bool.{Bool, true, false}
use mathlib.Core.List.{List}
use borrow.Author.Tests.{ne_eqb, eqb-false}
use Rattle.meaning.specs.Plain.{◌=?◌}
use lib.ListN.{get_or}
use Rattle.meaning.specs.Numbers.{cell_start}
use Rattle.meaning.specs.Header.{header_at, connection}
use Rattle.mem_lists.specs.Spaces.{may_leave, off_of, Stored, Counted}
use Rattle.mem_lists.specs.Leaver.{leaver_of, off_from, off_after}
use Rattle.mem_lists.proofs.LeaverLaws.{leave_some, leaver_after_is}

module _ (N z kind : ℕ) (cells links words : List ℕ) (x tail : ℕ) where
  -- the follower matters only where x is not the tail
  pub off_is : (follower : ℕ) → (x ≢ tail → follower ≡ get_or links x 0)
      → off_from N (leaver_of N z kind cells words x) x follower tail ≡ off_of N z kind cells links words x tail
  unfolding off_from leaver_of off_of
  off_is follower next = go (may_leave N z kind cells words x) (x =? tail) refl refl
    where
      some : may_leave N z kind cells words x ≡ true → connection z (header_at kind cells (cell_start x)) ≢ 0
      some = leave_some N z kind cells words x

      go : (d e : Bool) → may_leave N z kind cells words x ≡ d → (x =? tail) ≡ e
          → off_from N (leaver_of N z kind cells words x) x follower tail ≡ off_of N z kind cells links words x tail
      go true true p q = simp (p, ne_eqb _ _ (some p), q)
      go true false p q = simp (p, ne_eqb _ _ (some p), q, next (eqb-false x tail q))
      go false e p q = simp p

-- the same, of any connection's number
pub from_same : (N c x follower next tail : ℕ) → (x ≢ tail → follower ≡ next) → off_from N c x follower tail ≡ off_from N c x next tail
unfolding off_from
from_same N c x follower next tail same = go (x =? tail) refl
  where
    go : (e : Bool) → (x =? tail) ≡ e → off_from N c x follower tail ≡ off_from N c x next tail
    go true q = simp q
    go false q = rw (same (eqb-false x tail q))

-- once a cell has been accepted, what departs is what memory then shows
pub off_after_is : (N z kind own s : ℕ) (cells links words cells' words' : List ℕ) (x tail : ℕ) → own ≢ 0
    → Stored z kind own s cells cells'
    → Counted N own words words'
    → off_after N z kind cells links words own s x tail ≡ off_of N z kind cells' links words' x tail
unfolding off_after
off_after_is N z kind own s cells links words cells' words' x tail some stored counted =
    ap (λ (g : ℕ). off_from N g x (get_or links x 0) tail)
    (leaver_after_is N z kind own s cells words cells' words' x some stored counted)
    ∙ off_is N z kind cells' links words' x tail (get_or links x 0) (λ _. refl)
