-- What a served slot leaves to be shown, and how many octets of a cell are lent to it.
use Prim.Native.Nat.{ℕ, ◌*◌, ◌≤◌}
use mathlib.Core.Path.{◌≡◌, refl, ◌∙◌}
use mathlib.Core.Bool.{Bool, true, false, ◌&&◌, ◌||◌}
use mathlib.Core.List.{List}
use native.Mathlib.Omega.{arith}
use borrow.Author.Tests.{eqb-true, leb-true}
use lib.ListN.{length}
use Rattle.meaning.specs.Plain.{◌≤?◌, ◌=?◌}
use Rattle.meaning.specs.Numbers.{ranges_hold, octets, per_entry, bit_words, most_n, least_v, most_v}
use Rattle.meaning.specs.State.{State, lengths_hold, words_length}
use Rattle.meaning.specs.Work.{Work}
use Rattle.burst_out.specs.Handout.{Shows}
use Rattle.burst_likely.proofs.EitherLaws.{allowed_long}
use Rattle.call_burst.specs.Burst.{size_fits}
use Rattle.slot_steps.proofs.EndLaws.{both_true, Answered}

pub ranges_n : (N z : ℕ) → ranges_hold N z ≡ true → (1 ≤ N) × (N ≤ 1024)
unfolding ranges_hold
ranges_n N z r =
    let a = (both_true (1 ≤? N && N ≤? most_n && least_v ≤? z) (z ≤? most_v) r).0 in
    let b = (both_true (1 ≤? N && N ≤? most_n) (least_v ≤? z) a).0 in
    let d = both_true (1 ≤? N) (N ≤? most_n) b in
    (leb-true 1 N d.0, leb-true N 1024 d.1)

cells_long_lem : (N z : ℕ) (cells links calendar words bits arrived : List ℕ) → lengths_hold N z cells links calendar words bits arrived ≡ true
    → length cells ≡ 53 * N
unfolding lengths_hold
cells_long_lem N z cells links calendar words bits arrived l =
    let f = (both_true (length cells =? octets * N && length links =? N && length calendar =? per_entry * N && words_length z words && length bits =? bit_words) (length arrived =? N) l).0 in
    let w = (both_true (length cells =? octets * N && length links =? N && length calendar =? per_entry * N && words_length z words) (length bits =? bit_words) f).0 in
    let a = (both_true (length cells =? octets * N && length links =? N && length calendar =? per_entry * N) (words_length z words) w).0 in
    let b = (both_true (length cells =? octets * N && length links =? N) (length calendar =? per_entry * N) a).0 in
    eqb-true (length cells) (53 * N) (both_true (length cells =? octets * N) (length links =? N) b).0

-- the cell memory keeps its length
pub slot_shows : (s : State) (w : Work) (cells : List ℕ) → Answered s w → w.answer.number ≡ 0 → length cells ≡ length s.cells
    → Shows cells w.answer.space
slot_shows s w cells h done same =
    let n = ranges_n s.ctl.n s.ctl.v (h.ranges done) in
    let long : length cells ≡ 53 * s.ctl.n = same ∙ cells_long_lem s.ctl.n s.ctl.v s.cells s.links s.calendar s.words s.bits s.arrived (h.lengths done) in
    record {
      allowed = allowed_long s.ctl.n (length cells) n.0 n.1 long;
      low = λ ne. omega (arith, long, h.low ne);
    }

-- no more than a cell is lent
pub size_most : (size : ℕ) → size_fits size ≡ true → size ≤ 53
unfolding size_fits
size_most size = go (size =? 0) (size =? 53) refl refl
  where
    go : (a b : Bool) → (size =? 0) ≡ a → (size =? 53) ≡ b → a || b ≡ true → size ≤ 53
    go true b e h t = omega (arith, eqb-true size 0 e)
    go false true e h t = omega (arith, eqb-true size 53 h)
    go false false e h t = absurd (let y : ◌≡◌ {A = ℕ} 0 1 = cc in omega arith)
