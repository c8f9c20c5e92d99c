-- Heads and tails: what their test says of them; an entry of the calendar, read and written.
use Prim.Native.Nat.{ℕ, ◌+◌, ◌*◌, ◌≤◌, ◌<◌}
use mathlib.Core.Path.{◌≡◌, refl, ◌∙◌}
use mathlib.Core.Logic.{◌≢◌}
use mathlib.Core.Bool.{Bool, true, false, ◌&&◌, ◌||◌}
use mathlib.Core.List.{List}
use native.Mathlib.Omega.{arith}
use borrow.Author.Tests.{ltb-true, lt-ltb, ne_eqb}
use lib.ListN.{length, get_or, set, length-set}
use lib.Seq.{get_or-set_same, get_or-set_other}
use Rattle.meaning.specs.Plain.{◌<?◌, ◌=?◌}
use Rattle.meaning.specs.Numbers.{empty, head_place, tail_place}
use Rattle.meaning.specs.State.{Ends}
use Rattle.meaning.specs.Lists.{empty_list, ends_fit, entry_at, write_entry}

-- "a head and tail are both below N or both 65,535"
marked : (a b c d : Bool) → (a && b) || (c && d) ≡ true → c ≡ false → (a ≡ true) × (b ≡ true)
marked true true c d p n = (refl, refl)
marked true false true d p n = absurd (let z : ◌≡◌ {A = Bool} true false = n in let y : ◌≡◌ {A = ℕ} 0 1 = cc in omega arith)
marked true false false d p n = absurd (let y : ◌≡◌ {A = ℕ} 0 1 = cc in omega arith)
marked false b true d p n = absurd (let y : ◌≡◌ {A = ℕ} 0 1 = cc in omega arith)
marked false b false d p n = absurd (let y : ◌≡◌ {A = ℕ} 0 1 = cc in omega arith)

-- of a list that is not empty both are below N
pub fit_head : (N : ℕ) (e : Ends) → ends_fit N e ≡ true → e.head ≢ empty → e.head < N
unfolding ends_fit
fit_head N e p ne =
    ltb-true e.head N (marked (e.head <? N) (e.tail <? N) (e.head =? empty) (e.tail =? empty) p (ne_eqb e.head empty ne)).0

pub fit_tail : (N : ℕ) (e : Ends) → ends_fit N e ≡ true → e.head ≢ empty → e.tail < N
unfolding ends_fit
fit_tail N e p ne =
    ltb-true e.tail N (marked (e.head <? N) (e.tail <? N) (e.head =? empty) (e.tail =? empty) p (ne_eqb e.head empty ne)).1

pub fit_marked : (N h t : ℕ) → h < N → t < N → ends_fit N (record { head = h; tail = t }) ≡ true
unfolding ends_fit
fit_marked N h t p q = simp (lt-ltb h N p, lt-ltb t N q)

pub fit_empty : (N : ℕ) → ends_fit N empty_list ≡ true
unfolding ends_fit
fit_empty N = go (empty <? N && empty <? N)
  where
    go : (b : Bool) → b || true ≡ true
    go true = refl
    go false = refl

-- an entry of the calendar
module _ (calendar : List ℕ) (e : ℕ) (ends : Ends) where
  pub entry_length : length (write_entry calendar e ends) ≡ length calendar
  unfolding write_entry
  entry_length = simp length-set

  pub entry_read : 2 * e + 2 ≤ length calendar → entry_at (write_entry calendar e ends) e ≡ ends
  unfolding entry_at write_entry
  entry_read h = λ i. record { head = head i; tail = tail i }
    where
      head : get_or (set (set calendar (head_place e) ends.head) (tail_place e) ends.tail) (head_place e) 0 ≡ ends.head
      head =
          get_or-set_other (set calendar (head_place e) ends.head) (tail_place e) (head_place e) ends.tail 0 (λ q. omega arith)
          ∙ get_or-set_same calendar (head_place e) ends.head 0 (omega arith)

      tail : get_or (set (set calendar (head_place e) ends.head) (tail_place e) ends.tail) (tail_place e) 0 ≡ ends.tail
      tail = get_or-set_same (set calendar (head_place e) ends.head) (tail_place e) ends.tail 0 (simp length-set (omega arith))

  pub entry_other : (u : ℕ) → u ≢ e → entry_at (write_entry calendar e ends) u ≡ entry_at calendar u
  unfolding entry_at write_entry
  entry_other u ne = λ i. record { head = head i; tail = tail i }
    where
      head : get_or (set (set calendar (head_place e) ends.head) (tail_place e) ends.tail) (head_place u) 0 ≡ get_or calendar (head_place u) 0
      head =
          get_or-set_other (set calendar (head_place e) ends.head) (tail_place e) (head_place u) ends.tail 0 (λ q. omega arith)
          ∙ get_or-set_other calendar (head_place e) (head_place u) ends.head 0 (λ q. ne (omega arith))

      tail : get_or (set (set calendar (head_place e) ends.head) (tail_place e) ends.tail) (tail_place u) 0 ≡ get_or calendar (tail_place u) 0
      tail =
          get_or-set_other (set calendar (head_place e) ends.head) (tail_place e) (tail_place u) ends.tail 0 (λ q. ne (omega arith))
          ∙ get_or-set_other calendar (head_place e) (tail_place u) ends.head 0 (λ q. omega arith)
