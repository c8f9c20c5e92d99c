-- The cell that leaves is its connection's oldest: where k of the connection's cells had left, it is the k-th accepted, from 0. Before and
-- after the slot the arrival slots of the connection's accepted cells add up to the same, but for the cell let in; so do those of the
-- cells that wait, but for the cell let in and the one that left.
use Prim.Native.Nat.{ℕ, suc, ◌+◌, ◌<◌}
use mathlib.Core.Path.{◌≡◌, refl, sym, ap, ◌∙◌}
use mathlib.Core.Bool.{Bool, true, false}
use mathlib.Core.List.{List, [], ◌∷◌, ◌++◌, map, tail, append_assoc}
use native.Mathlib.Decide.{ℕ_discrete}
use native.Mathlib.Omega.{arith}
use borrow.Author.Tests.{eq-eqb, ne_eqb}
use lib.ListN.{length, get_or, length-append}
use Rattle.base_hec.specs.Modes.{Arriving}
use Rattle.meaning.specs.Plain.{when◌then◌else◌, ◌=?◌}
use Rattle.meaning.specs.Numbers.{lets_in}
use Rattle.meaning.specs.State.{State}
use Rattle.meaning.specs.Work.{Work, answer_of}
use Rattle.meaning_runs.specs.Run.{Event, ran, shown}
use Rattle.meaning_runs.specs.Seen.{Cell, of_connection, cells_in, cells_of, departures_of, absent_cell, cell_at}
use Rattle.theory_queues.specs.Queue.{sum, sums, All, flat, first, turn}
use Rattle.theory_queues.proofs.QueueLaws.{map_append, map_length, sum_map, sums_map, sum_append, sums_flat, sums_first, turn_length, turn_sums, put_sums}
use Rattle.theory_queues.proofs.OrderLaws.{of_connection_yes, of_connection_no, of_connection_append}
use Rattle.theory_invariant.specs.Invariant.{cell_left, cell_in, connection_in, Delayed, Inv, Waiting, waiting}
use Rattle.theory_invariant.specs.Came.{entered}
use Rattle.theory_invariant.specs.Gone.{new_in, ready, onwards}
use Rattle.theory_invariant.proofs.EndLaws.{event_of}
use Rattle.theory_invariant.proofs.KeptLaws.{cells_ran}
use Rattle.theory_invariant.proofs.CheckLaws.{Checked}
use Rattle.promises.proofs.Demand3Laws.{gone, cells_are, many_left}

-- two ways to part a list, the one a place further on
peel : (a b x w : List Cell) → b ++ w ≡ a ++ x → length b ≡ suc (length a) → x ≡ get_or (b ++ w) (length a) absent_cell ∷ w
peel [] [] x w e l = absurd (omega (arith, l))
peel [] (y ∷ []) x w e l = sym e
peel [] (y ∷ z ∷ b) x w e l = absurd (omega (arith, l))
peel (c ∷ a) [] x w e l = absurd (omega (arith, l))
peel (c ∷ a) (y ∷ b) x w e l = peel a b x w (ap tail e) (omega (arith, l))

all_right : (P : Cell → Type 0) (a b : List Cell) → All P (a ++ b) → All P b
all_right P [] b h = h
all_right P (c ∷ a) b h = all_right P a b h.1

module _ (v : ℕ) where
  -- the arrival slots of v's cells, added up
  abbrev own : Cell → ℕ
  own c = when c.vci =? v then c.arrival else 0

  sum_own : (l : List Cell) → sum (λ c. c.arrival) (of_connection connection_in v l) ≡ sum own l
  sum_own [] = refl
  sum_own (c ∷ l) = go (ℕ_discrete c.vci v) (sum_own l)
    where
      go : Dec (c.vci ≡ v) → sum (λ c. c.arrival) (of_connection connection_in v l) ≡ sum own l
          → sum (λ c. c.arrival) (of_connection connection_in v (c ∷ l)) ≡ own c + sum own l
      go (yes e) r =
          ap (sum (λ c. c.arrival)) (of_connection_yes connection_in v c l e)
          ∙ rw (eq-eqb c.vci v e) (ap (λ (n : ℕ). c.arrival + n) r)
      go (no e) r = ap (sum (λ c. c.arrival)) (of_connection_no connection_in v c l e) ∙ rw (ne_eqb c.vci v e) (omega (arith, r))

  -- of all that wait
  abbrev total : Waiting → ℕ
  total b = sum own b.out + sums own b.cal

  waits_total : (N z kind : ℕ) (h : List Event) (s : State) (i : Inv N z kind h s)
      → sum (λ c. c.arrival) (Rattle.promises.proofs.Demand3Laws.waiting N z kind h s i v) ≡ total (waiting i)
  waits_total N z kind h s i =
      sum_own (map cell_in (i.out ++ flat i.cal))
      ∙ ap (sum own) (map_append cell_in i.out (flat i.cal))
      ∙ sum_append own (map cell_in i.out) (map cell_in (flat i.cal))
      ∙ ap (λ (n : ℕ). sum own (map cell_in i.out) + n)
      (sum_map cell_in own (flat i.cal) ∙ sums_flat (λ c. own (cell_in c)) i.cal ∙ sym (sums_map cell_in own i.cal))

  -- the cell c leaves, and the new one, if there is one, is there
  onwards_total : (new : List Cell) (b : Waiting) (c : Cell) (o : List Cell) → ready new b ≡ c ∷ o
      → sums own (entered new (turn b.cal)) ≡ sum own new + sums own b.cal
      → own c + total (onwards new b) ≡ sum own new + total b
  onwards_total new b c o e s =
      omega (
        arith,
        ap (sum own) e,
        ap (λ (l : List Cell). sum own (tail l)) e,
        sum_append own b.out (first (entered new (turn b.cal))),
        sums_first own (entered new (turn b.cal)),
        s,
      )

  entered_total : (N : ℕ) (b : Bool) (n : Cell) (cal : List (List Cell)) → length (turn cal) ≡ N
      → All (Delayed N) (when b then n ∷ [] else [])
      → sums own (entered (when b then n ∷ [] else []) (turn cal)) ≡ sum own (when b then n ∷ [] else []) + sums own cal
  entered_total N true n cal l d =
      omega (arith, put_sums own n.D n (turn cal) (omega (arith, l, d.0.1)), turn_sums own cal)
  entered_total N false n cal l d = omega (arith, turn_sums own cal)

  module _ (N z kind : ℕ) (h : List Event) (s : State) (i : Inv N z kind h s) (a : Arriving) (w : Work)
      (g : Checked N z kind h (waiting i) a w) where
    abbrev h' : List Event
    h' = event_of a.cell w ∷ h

    abbrev new : List Cell
    new = new_in h a.cell w.answer

    abbrev k : ℕ
    k = length (departures_of v h)

    -- what the slot adds
    cells_in_lem : cells_in h' ≡ cells_in h ++ new
    cells_in_lem =
        let y = w.answer in
        ap (λ (n : ℕ). cells_in (ran a.cell (answer_of n y.verdict y.vci y.d y.space y.departing) (shown w) ∷ h)) g.number
        ∙ cells_ran h a.cell y.verdict y.vci y.d y.space y.departing (shown w)

    cells_added : cells_of v h' ≡ cells_of v h ++ of_connection connection_in v new
    unfolding cells_of
    cells_added = ap (of_connection connection_in v) cells_in_lem ∙ of_connection_append connection_in v (cells_in h) new

    joins : sums own (entered new (turn (waiting i).cal)) ≡ sum own new + sums own (waiting i).cal
    joins =
        entered_total N (lets_in w.answer.verdict) _ (waiting i).cal wide
        (all_right (Delayed N) (cells_in h) new (rw cells_in_lem at g.inv.delays))
      where
        wide : length (turn (waiting i).cal) ≡ N
        wide = turn_length (waiting i).cal ∙ omega (arith, map_length (map cell_in) i.cal, i.good.long, i.stage.ranges.N_low)

    module _ (c : Cell) (o : List Cell) (is : ready new (waiting i) ≡ c ∷ o) (of-v : c.vci ≡ v)
        (one_more : length (departures_of v h') ≡ suc k) where
      abbrev before : List Cell
      before = Rattle.promises.proofs.Demand3Laws.waiting N z kind h s i v

      abbrev after : List Cell
      after = Rattle.promises.proofs.Demand3Laws.waiting N z kind h' w.state g.inv v

      abbrev had : List Cell
      had = map cell_left (gone N z kind h s i v)

      abbrev had' : List Cell
      had' = map cell_left (gone N z kind h' w.state g.inv v)

      had_long : length had ≡ k
      had_long = map_length cell_left (gone N z kind h s i v) ∙ sym (many_left N z kind h s i v)

      had_long' : length had' ≡ suc k
      had_long' =
          map_length cell_left (gone N z kind h' w.state g.inv v)
          ∙ sym (many_left N z kind h' w.state g.inv v)
          ∙ one_more

      parted : had' ++ after ≡ had ++ (before ++ of_connection connection_in v new)
      parted =
          sym (cells_are N z kind h' w.state g.inv v)
          ∙ cells_added
          ∙ ap (λ l. l ++ of_connection connection_in v new) (cells_are N z kind h s i v)
          ∙ append_assoc had before (of_connection connection_in v new)

      next_is : before ++ of_connection connection_in v new ≡ cell_at v k h' ∷ after
      next_is =
          peel had had' (before ++ of_connection connection_in v new) after parted (omega (arith, had_long, had_long'))
          ∙ ap (λ (j : ℕ). get_or (had' ++ after) j absent_cell ∷ after) had_long
          ∙ ap (λ (l : List Cell). get_or l k absent_cell ∷ after) (sym (cells_are N z kind h' w.state g.inv v))

      pub oldest_leaves : (cell_at v (length (departures_of v h)) (event_of a.cell w ∷ h)).arrival ≡ c.arrival
      oldest_leaves =
          omega (
            arith,
            ap (sum (λ c. c.arrival)) next_is,
            sum_append (λ c. c.arrival) before (of_connection connection_in v new),
            sum_own new,
            waits_total N z kind h s i,
            waits_total N z kind h' w.state g.inv,
            ap total g.waits_on_lem,
            onwards_total new (waiting i) c o is joins,
            own_is,
          )
        where
          own_is : own c ≡ c.arrival
          own_is = rw (eq-eqb c.vci v of-v)

      pub one_waits : length (departures_of v h) < length (cells_of v (event_of a.cell w ∷ h))
      one_waits =
          omega (
            arith,
            ap length (cells_are N z kind h' w.state g.inv v),
            length-append had' after,
            had_long',
          )
