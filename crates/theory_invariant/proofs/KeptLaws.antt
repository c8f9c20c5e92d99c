-- The order of one connection's cells through a slot: those that left, then the Output List, then the calendar, always in order
-- of arrival; and what the events of a slot add to the cells let in and the departures.
use Prim.Native.Nat.{ℕ, suc}
use mathlib.Core.Path.{◌≡◌, refl, sym, ap, ◌∙◌}
use mathlib.Core.Logic.{◌≢◌}
use mathlib.Core.Bool.{Bool, true, false}
use mathlib.Core.List.{List, [], ◌∷◌, ◌++◌, map, tail, append_assoc, append-nil}
use mathlib.Core.Option.{Option, none, some}
use native.Mathlib.Omega.{arith}
use borrow.Author.Tests.{eq-eqb, ne_eqb}
use Rattle.meaning.specs.declared.Answer.{Answer}
use Rattle.meaning.specs.Plain.{when◌then◌else◌}
use Rattle.meaning.specs.Numbers.{empty, lets_in}
use Rattle.meaning.specs.Work.{answer_of}
use Rattle.meaning.specs.Arrival.{sent_as}
use Rattle.meaning_runs.specs.Run.{Event, ran, served}
use Rattle.meaning_runs.specs.Leak.{Opening, accepts, opening_of}
use Rattle.meaning_runs.specs.Seen.{Cell, cell_under, cells_in, departures_in, of_connection}
use Rattle.theory_queues.specs.Queue.{flat, first, Rising}
use Rattle.theory_queues.proofs.QueueLaws.{map_append}
use Rattle.theory_queues.proofs.RisingLaws.{rising_up, rising_add}
use Rattle.theory_queues.proofs.OrderLaws.{of_connection_append, of_connection_map}
use Rattle.theory_memory.specs.Held.{Queued, vci_of}
use Rattle.theory_invariant.specs.Invariant.{Left, cell_left, cell_in, connection_in}
use Rattle.theory_invariant.specs.Came.{onward, half, noted}

-- the departure of slot n, if any
abbrev pub leaving : ℕ → List Queued → List Left
leaving n [] = []
leaving n (c ∷ o) = record { slot = n; cell = c.cell } ∷ []

pub left_rises : (n : ℕ) (l : List Left) (o : List Queued) → Rising (λ p. p.slot) 0 n l
    → Rising (λ p. p.slot) 0 (suc n) (l ++ leaving n o)
left_rises n l [] r = rw (append-nil l) (rising_up (λ p. p.slot) 0 n (suc n) l (omega arith) r)
left_rises n l (c ∷ o) r = rising_add (λ p. p.slot) 0 n l (record { slot = n; cell = c.cell }) (omega arith) r

head_gone : (n : ℕ) (o x : List Queued) → map cell_left (leaving n o) ++ map cell_in (tail o ++ x) ≡ map cell_in (o ++ x)
head_gone n [] x = refl
head_gone n (c ∷ o) x = refl

first_flat : (o : List Queued) (r : List (List Queued)) → (o ++ first r) ++ flat (tail r) ≡ o ++ flat r
first_flat o [] = append_assoc o [] []
first_flat o (q ∷ r) = append_assoc o q (flat r)

pub order_kept : (n v : ℕ) (left : List Left) (out : List Queued) (cal r : List (List Queued)) (new : List Queued)
    → of_connection vci_of v (flat r) ≡ of_connection vci_of v (flat cal) ++ of_connection vci_of v new
    → of_connection connection_in v ((map cell_left left ++ map cell_in (out ++ flat cal)) ++ map cell_in new)
    ≡ of_connection connection_in v (map cell_left (left ++ leaving n (out ++ first r)) ++ map cell_in
    (tail (out ++ first r) ++ flat (tail r)))
order_kept n v left out cal r new e =
    ap (of_connection connection_in v) (append_assoc L (map cell_in (out ++ flat cal)) (map cell_in new)
    ∙ ap (λ l. L ++ l) (sym (map_append cell_in (out ++ flat cal) new)))
    ∙ of_connection_append connection_in v L (map cell_in ((out ++ flat cal) ++ new))
    ∙ ap (λ l. of_connection connection_in v L ++ l)
    (of_connection_map connection_in cell_in v ((out ++ flat cal) ++ new) ∙ ap (map cell_in) joins
    ∙ sym (of_connection_map connection_in cell_in v (out ++ flat r)))
    ∙ sym (of_connection_append connection_in v L (map cell_in (out ++ flat r)))
    ∙ ap (of_connection connection_in v) (ap (λ l. L ++ map cell_in l) (sym (first_flat out r))
    ∙ ap (λ l. L ++ l) (sym (head_gone n o1 (flat (tail r))))
    ∙ sym (append_assoc L (map cell_left (leaving n o1)) (map cell_in (tail o1 ++ flat (tail r))))
    ∙ ap (λ l. l ++ map cell_in (tail o1 ++ flat (tail r))) (sym (map_append cell_left left (leaving n o1))))
  where
    L : List Cell
    L = map cell_left left

    o1 : List Queued
    o1 = out ++ first r

    joins : of_connection vci_of v ((out ++ flat cal) ++ new) ≡ of_connection vci_of v (out ++ flat r)
    joins =
        of_connection_append vci_of v (out ++ flat cal) new
        ∙ ap (λ l. l ++ of_connection vci_of v new) (of_connection_append vci_of v out (flat cal))
        ∙ append_assoc (of_connection vci_of v out) (of_connection vci_of v (flat cal)) (of_connection vci_of v new)
        ∙ ap (λ l. of_connection vci_of v out ++ l) (sym e)
        ∙ sym (of_connection_append vci_of v out (flat r))

-- ── what a served slot adds ──
module _ (h : List Event) (cell : List ℕ) (verdict vci D x out : ℕ) (seen : List ℕ) where
  abbrev a : Answer
  a = answer_of 0 verdict vci D x out

  pub served_ran : served (ran cell a seen ∷ h) ≡ suc (served h)
  unfolding served
  served_ran = omega arith

  pub opening_ran : (v : ℕ) → opening_of v (ran cell a seen ∷ h) ≡ onward (served h) cell verdict vci (λ u. opening_of u h) v
  unfolding opening_of accepts
  opening_ran v = refl

  abbrev sent : List ℕ
  sent = sent_as verdict cell

  under_same : (o : Option Opening) → cell_under (served h) a sent o ≡ cell_under (served h) (half verdict vci D) sent o
  under_same none = refl
  under_same (some o) = refl

  pub cells_ran : cells_in (ran cell a seen ∷ h) ≡ cells_in h ++ noted (served h) (half verdict vci D) cell
      (λ u. opening_of u h)
  unfolding cells_in
  cells_ran = go (lets_in verdict)
    where
      go : (b : Bool) → (when b then cells_in h ++ (cell_under (served h) a sent (opening_of vci h) ∷ []) else cells_in h)
          ≡ cells_in h ++ (when b then cell_under (served h) (half verdict vci D) sent (opening_of vci h) ∷ [] else [])
      go true = ap (λ c. cells_in h ++ (c ∷ [])) (under_same (opening_of vci h))
      go false = sym (append-nil (cells_in h))

  pub departures_none : x ≡ empty → departures_in (ran cell a seen ∷ h) ≡ departures_in h
  unfolding departures_in
  departures_none e = rw (eq-eqb x empty e)

  pub departures_some : x ≢ empty → departures_in (ran cell a seen ∷ h) ≡ departures_in
      h ++ (record { slot = served h; vci = out; octets = seen } ∷ [])
  unfolding departures_in
  departures_some e = rw (ne_eqb x empty e)
