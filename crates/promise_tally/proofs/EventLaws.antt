-- What a slot's event adds to a listing: the departure that it tells of, the cell that it let in, and the slot itself.
use Prim.Native.Nat.{ℕ, suc, ◌+◌, ◌≤◌}
use mathlib.Core.Path.{◌≡◌, refl, sym, ap, ◌∙◌}
use mathlib.Core.Logic.{◌≢◌}
use mathlib.Core.Bool.{Bool, true, false}
use mathlib.Core.List.{List, [], ◌∷◌, ◌++◌, append-nil}
use native.Mathlib.Omega.{arith}
use borrow.Author.Tests.{eq-eqb, ne_eqb}
use Rattle.meaning.specs.declared.Answer.{Answer}
use Rattle.meaning.specs.Plain.{when◌then◌else◌, ◌=?◌}
use Rattle.meaning.specs.Numbers.{empty, lets_in}
use Rattle.meaning.specs.Arrival.{sent_as}
use Rattle.meaning.specs.Slot.{slot}
use Rattle.meaning_runs.specs.Run.{Event, ran, served}
use Rattle.meaning_runs.specs.Leak.{opening_of}
use Rattle.meaning_runs.specs.Seen.{Cell, Departure, cell_under, of_connection, cells_in, departures_in, cells_of, departures_of}
use Rattle.theory_queues.proofs.OrderLaws.{of_connection_yes, of_connection_no, of_connection_append}

module _ (v : ℕ) (h : List Event) (octets : List ℕ) (a : Answer) (out : List ℕ) where
  pub departures_other : a.departing ≢ v → departures_of v (ran octets a out ∷ h) ≡ departures_of v h
  unfolding departures_of departures_in
  departures_other n = go (a.space =? empty)
    where
      left : Departure
      left = record { slot = served h; vci = a.departing; octets = out }

      go : (b : Bool) → of_connection (λ d. d.vci) v (when b then departures_in h else (departures_in h ++ (left ∷ [])))
          ≡ of_connection (λ d. d.vci) v (departures_in h)
      go true = refl
      go false =
          of_connection_append (λ d. d.vci) v (departures_in h) (left ∷ [])
          ∙ ap (λ l. of_connection (λ d. d.vci) v (departures_in h) ++ l) (of_connection_no (λ d. d.vci) v left [] n)
          ∙ append-nil (of_connection (λ d. d.vci) v (departures_in h))

  pub departures_own : a.departing ≡ v → a.space ≢ empty
      → departures_of v (ran octets a out ∷ h)
      ≡ departures_of v h ++ (record { slot = served h; vci = a.departing; octets = out } ∷ [])
  unfolding departures_of departures_in
  departures_own e ne =
      rw (ne_eqb a.space empty ne)
      (of_connection_append (λ d. d.vci) v (departures_in h) _
      ∙ ap (λ l. of_connection (λ d. d.vci) v (departures_in h) ++ l) (of_connection_yes (λ d. d.vci) v _ [] e))

module _ (h : List Event) (octets : List ℕ) (a : Answer) (out : List ℕ) where
  pub served_one : a.number ≡ 0 → served (ran octets a out ∷ h) ≡ suc (served h)
  unfolding served
  served_one e = rw (eq-eqb a.number 0 e) (omega arith)

  pub served_more : 0 + served h ≤ served (ran octets a out ∷ h)
  unfolding served
  served_more = omega arith

-- later cells are behind those that were there
pub record More (l m : List Cell) : Type 0 where
  pub rest : List Cell
  pub is : m ≡ l ++ rest

pub cells_more : (v : ℕ) (h : List Event) (octets : List ℕ) (a : Answer) (out : List ℕ) → More (cells_of v h) (cells_of v (ran octets a out ∷ h))
unfolding cells_of cells_in
cells_more v h octets a out = go (lets_in a.verdict)
  where
    new : Cell
    new = cell_under (served h) a (sent_as a.verdict octets) (opening_of a.vci h)

    go : (b : Bool) → More (of_connection (λ c. c.vci) v (cells_in h)) (of_connection (λ c. c.vci) v (when b then cells_in h ++ (new ∷ []) else cells_in h))
    go true =
        record {
          rest = of_connection (λ c. c.vci) v (new ∷ []);
          is = of_connection_append (λ c. c.vci) v (cells_in h) (new ∷ []);
        }
    go false = record { rest = []; is = sym (append-nil (of_connection (λ c. c.vci) v (cells_in h))) }
