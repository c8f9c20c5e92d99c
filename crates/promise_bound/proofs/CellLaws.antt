-- What an event adds to the accepted cells of a connection: a slot that let one of it in that cell, any other event none. So
-- later events leave the cells that were there as they are.
use Prim.Native.Nat.{ℕ}
use mathlib.Core.Path.{◌≡◌, refl, sym, ap, ◌∙◌}
use mathlib.Core.Logic.{◌≢◌}
use mathlib.Core.Bool.{Bool, true, false}
use mathlib.Core.List.{List, [], ◌∷◌, ◌++◌, append_assoc, append-nil}
use mathlib.Core.Option.{Option, none, some}
use borrow.Author.Tests.{eqb-true, eqb-false}
use Rattle.meaning.specs.declared.Answer.{Answer}
use Rattle.meaning.specs.Plain.{when◌then◌else◌, ◌=?◌}
use Rattle.meaning.specs.Numbers.{lets_in}
use Rattle.meaning.specs.Words.{Second}
use Rattle.meaning.specs.Arrival.{sent_as}
use Rattle.meaning_runs.specs.Run.{Event, opened, closed, ran, served}
use Rattle.meaning_runs.specs.Leak.{Opening, accepts, opening_of}
use Rattle.meaning_runs.specs.Seen.{Cell, cell_under, of_connection, cells_in, cells_of}
use Rattle.theory_queues.proofs.OrderLaws.{of_connection_yes, of_connection_no, of_connection_append}
use Rattle.theory_table.proofs.LeakLaws.{and_left, and_right}

-- ── what an event adds to the cells of a connection ──
module _ (v : ℕ) where
  pub cells_new : (h : List Event) (octets : List ℕ) (a : Answer) (out : List ℕ) → accepts v a ≡ true
      → cells_of v (ran octets a out ∷ h) ≡ cells_of v h ++ (cell_under (served h) a (sent_as a.verdict octets) (opening_of v h) ∷ [])
  unfolding cells_of cells_in accepts
  cells_new h octets a out e =
      rw lets
      (of_connection_append vci_of v (cells_in h) (under a.vci ∷ [])
      ∙ ap (λ l. of_connection vci_of v (cells_in h) ++ l) (of_connection_yes vci_of v (under a.vci) [] (named (opening_of a.vci h))
      ∙ ap (λ (u : ℕ). under u ∷ []) vci))
    where
      vci_of : Cell → ℕ
      vci_of c = c.vci

      under : ℕ → Cell
      under u = cell_under (served h) a (sent_as a.verdict octets) (opening_of u h)

      lets : lets_in a.verdict ≡ true
      lets = and_left (lets_in a.verdict) (a.vci =? v) e

      vci : a.vci ≡ v
      vci = eqb-true a.vci v (and_right (lets_in a.verdict) (a.vci =? v) e)

      named : (o : Option Opening) → (cell_under (served h) a (sent_as a.verdict octets) o).vci ≡ v
      named none = vci
      named (some o) = vci

  pub cells_not : (h : List Event) (octets : List ℕ) (a : Answer) (out : List ℕ) → accepts v a ≡ false
      → cells_of v (ran octets a out ∷ h) ≡ cells_of v h
  unfolding cells_of cells_in accepts
  cells_not h octets a out e = go (lets_in a.verdict) refl
    where
      vci_of : Cell → ℕ
      vci_of c = c.vci

      new : Cell
      new = cell_under (served h) a (sent_as a.verdict octets) (opening_of a.vci h)

      other : lets_in a.verdict ≡ true → a.vci ≢ v
      other y = eqb-false a.vci v (rw y at e)

      named : (o : Option Opening) → a.vci ≢ v → (cell_under (served h) a (sent_as a.verdict octets) o).vci ≡ v → ⊥
      named none ne = ne
      named (some o) ne = ne

      go : (b : Bool) → lets_in a.verdict ≡ b
          → of_connection vci_of v (when b then cells_in h ++ (new ∷ []) else cells_in h) ≡ of_connection vci_of v (cells_in h)
      go true y =
          of_connection_append vci_of v (cells_in h) (new ∷ [])
          ∙ ap (λ l. of_connection vci_of v (cells_in h) ++ l) (of_connection_no vci_of v new [] (named (opening_of a.vci h) (other y)))
          ∙ append-nil (of_connection vci_of v (cells_in h))
      go false y = refl

  pub cells_open : (h : List Event) (who u m F C : ℕ) (x : Second) (number : ℕ) → cells_of v (opened who u m F C x number ∷ h) ≡ cells_of v h
  unfolding cells_of cells_in
  cells_open h who u m F C x number = refl

  pub cells_close : (h : List Event) (who u number : ℕ) → cells_of v (closed who u number ∷ h) ≡ cells_of v h
  unfolding cells_of cells_in
  cells_close h who u number = refl

  -- ── later events only add cells ──
  pub record Grown (l m : List Cell) : Type 0 where
    pub rest : List Cell
    pub is : m ≡ l ++ rest

  same : (l m : List Cell) → m ≡ l → Grown l m
  same l m e = record { rest = []; is = e ∙ sym (append-nil l) }

  grown_by : (l m n : List Cell) → Grown l m → Grown m n → Grown l n
  grown_by l m n g k =
      record {
        rest = g.rest ++ k.rest;
        is = k.is ∙ ap (λ x. x ++ k.rest) g.is ∙ append_assoc l g.rest k.rest;
      }

  grown_once : (e : Event) (h : List Event) → Grown (cells_of v h) (cells_of v (e ∷ h))
  grown_once (opened who u m F C x number) h =
      same (cells_of v h) (cells_of v (opened who u m F C x number ∷ h)) (cells_open h who u m F C x number)
  grown_once (closed who u number) h = same (cells_of v h) (cells_of v (closed who u number ∷ h)) (cells_close h who u number)
  grown_once (ran octets a out) h = go (accepts v a) refl
    where
      go : (b : Bool) → accepts v a ≡ b → Grown (cells_of v h) (cells_of v (ran octets a out ∷ h))
      go true e =
          record { rest = cell_under (served h) a (sent_as a.verdict octets) (opening_of v h) ∷ []; is = cells_new h octets a out e }
      go false e = same (cells_of v h) (cells_of v (ran octets a out ∷ h)) (cells_not h octets a out e)

  pub grown : (later h : List Event) → Grown (cells_of v h) (cells_of v (later ++ h))
  grown [] h = same (cells_of v h) (cells_of v h) refl
  grown (e ∷ later) h =
      grown_by (cells_of v h) (cells_of v (later ++ h)) (cells_of v (e ∷ (later ++ h))) (grown later h) (grown_once e (later ++ h))
