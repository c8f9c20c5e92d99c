-- The arrival slots through a slot: a cell that is let in has its own written beside it, and every other cell keeps its own, since no two
-- share a space; a transfer and a departure write none.
use Prim.Native.Nat.{ℕ, ◌+◌, ◌%◌, ◌<◌}
use mathlib.Core.Path.{◌≡◌, sym, ap, ◌∙◌}
use mathlib.Core.Bool.{true}
use mathlib.Core.List.{List, [], ◌∷◌, ◌++◌}
use native.Mathlib.Omega.{arith}
use lib.ListN.{get_or, set, length-set}
use lib.Seq.{get_or-set_same, get_or-set_other}
use Rattle.meaning.specs.Numbers.{slot_numbers}
use Rattle.meaning.specs.State.{Ends}
use Rattle.meaning.specs.Bits.{is_free_space}
use Rattle.meaning.proofs.BitsLaws.{free_low}
use Rattle.theory_queues.specs.Queue.{All, Alls, turn, put}
use Rattle.theory_queues.proofs.QueueLaws.{all_append, alls_turn, alls_put}
use Rattle.theory_chains.specs.Strung.{cnt}
use Rattle.theory_chains.proofs.CountLaws.{is_yes, inside_le}
use Rattle.theory_memory.specs.Held.{Queued, space_of, Dated, cnts, Has, Dates}
use Rattle.theory_memory.proofs.FreeLaws.{free_yes}

-- another space is written
module _ (arrived : List ℕ) (x t : ℕ) where
  all_dated : (q : List Queued) → cnt space_of x q ≡ 0 → All (Dated arrived) q → All (Dated (set arrived x t)) q
  all_dated [] z a = tt
  all_dated (c ∷ q) z a = (
    get_or-set_other arrived x c.space t 0 (λ e. omega (arith, is_yes x c.space (sym e))) ∙ a.0,
    all_dated q (omega arith) a.1,
  )

  alls_dated : (r : List (List Queued)) → cnts x r ≡ 0 → Alls (Dated arrived) r → Alls (Dated (set arrived x t)) r
  alls_dated [] z a = tt
  alls_dated (q ∷ r) z a = (all_dated q (omega arith) a.0, alls_dated r (omega arith) a.1)

module _ {N : ℕ} {arrived : List ℕ} where
  -- the cell c takes the free space x in slot t, and joins the queue D
  pub dates_placed : {b : ℕ} {cells links calendar : List ℕ} {out : Ends} {number : ℕ} {bits : List ℕ} {o : List Queued}
      {r : List (List Queued)} → Has N b cells links calendar out number bits o r → Dates N arrived o r
      → (x : ℕ) → is_free_space bits x ≡ true → (D : ℕ) (c : Queued) → c.space ≡ x → (t : ℕ) → t ≡ c.cell.arrival % slot_numbers
      → Dates N (set arrived x t) o (put D c r)
  dates_placed {number = number} {bits = bits} {o = o} {r = r} h d x free D c e t is =
      record {
        long = length-set arrived x t ∙ d.long;
        dated_out = all_dated arrived x t o (omega (arith, alone)) d.dated_out;
        dated_cal = alls_put (Dated (set arrived x t)) D c r
            (ap (λ (k : ℕ). get_or (set arrived x t) k 0) e
            ∙ get_or-set_same arrived x t 0 (omega (arith, low, d.long))
            ∙ is)
            (alls_dated arrived x t r (omega (arith, alone)) d.dated_cal);
      }
    where
      low : x < N
      low = free_low N number bits h.spaces_fit_lem x free

      alone : cnt space_of x o + cnts x r ≡ 0
      alone = omega (arith, h.parted x, free_yes bits x free, inside_le x N)

  -- nothing is due, or the first queue joins the Output List
  pub dates_turned : {o q : List Queued} {r : List (List Queued)} → Dates N arrived o (q ∷ r) → Dates N arrived (o ++ q) (turn r)
  dates_turned {o = o} {q = q} {r = r} d =
      record {
        long = d.long;
        dated_out = all_append (Dated arrived) o q d.dated_out d.dated_cal.0;
        dated_cal = alls_turn (Dated arrived) r d.dated_cal.1;
      }

  -- the head of the Output List departs
  pub dates_departed : {c : Queued} {o : List Queued} {r : List (List Queued)} → Dates N arrived (c ∷ o) r → Dates N arrived o r
  dates_departed d = record { long = d.long; dated_out = d.dated_out.1; dated_cal = d.dated_cal }
