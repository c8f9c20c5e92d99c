-- A path's cells: the header of every accepted cell, and of every departed one, names its connection (the invariant), so those of the
-- connection V + p are those with VPI p; demand 3 says the rest of them.
use Prim.Native.Nat.{ℕ, ◌+◌, ◌-◌, ◌≤◌, ◌<◌}
use mathlib.Core.Path.{◌≡◌, refl, sym, ◌∙◌, subst, subst₂}
use mathlib.Core.Bool.{true}
use mathlib.Core.List.{List, [], ◌∷◌}
use native.Mathlib.Decide.{ℕ_discrete}
use native.Mathlib.Omega.{arith}
use borrow.Author.Tests.{eq-eqb, ne_eqb, ltb-true}
use lib.ListN.{length, get_or}
use Rattle.meaning.specs.Plain.{◌<?◌, ◌≤?◌, ◌=?◌}
use Rattle.meaning.specs.Numbers.{paths}
use Rattle.meaning.specs.State.{State}
use Rattle.meaning.specs.Header.{Header, header_at, connection, names_connection}
use Rattle.meaning.proofs.NamesLaws.{vc_number, vc_named, path_number, path_named}
use Rattle.meaning_runs.specs.Run.{Event}
use Rattle.meaning_runs.specs.Seen.{Cell, Departure, of_connection, cells_in, departures_in, cells_of, departures_of, absent_cell, no_departure}
use Rattle.theory_queues.specs.Queue.{All}
use Rattle.theory_queues.proofs.QueueLaws.{all_map}
use Rattle.theory_queues.proofs.OrderLaws.{of_connection_none}
use Rattle.theory_table.proofs.LeakLaws.{and_right}
use Rattle.theory_invariant.specs.Invariant.{seen_as, Named, Inv}
use Rattle.promises.specs.Demand3.{Demand3}
use Rattle.promises.specs.Paths.{vpi_of, path_cells, path_departures, PathOrder}
use Rattle.promises.proofs.Demand3Laws.{all_image, demanded}

-- ── by number, and by VPI ──
-- a header that names a connection: a VC's number is below V, a path's is V + VPI, and that is below V + 256
pub vc_low : (z : ℕ) (hd : Header) → names_connection z hd ≡ true → hd.vpi ≡ 0 → hd.vci < z
vc_low z hd n e = ltb-true hd.vci z (and_right (1 ≤? hd.vci) (hd.vci <? z) (sym (vc_named z hd e) ∙ n))

pub path_low : (z : ℕ) (hd : Header) → names_connection z hd ≡ true → hd.vpi < paths
path_low z hd n = go (ℕ_discrete hd.vpi 0)
  where
    go : Dec (hd.vpi ≡ 0) → hd.vpi < paths
    go (yes e) = omega (arith, e)
    go (no ne) = ltb-true hd.vpi paths (and_right (1 ≤? hd.vpi) (hd.vpi <? paths) (sym (path_named z hd ne) ∙ n))

-- so the number is V + p exactly where the VPI is p
number_test : (z p c : ℕ) (hd : Header) → 1 ≤ p → names_connection z hd ≡ true → connection z hd ≡ c → c =? (z + p) ≡ hd.vpi =? p
number_test z p c hd low n e = go (ℕ_discrete hd.vpi 0)
  where
    among : c ≡ z + hd.vpi → Dec (hd.vpi ≡ p) → c =? (z + p) ≡ hd.vpi =? p
    among is (yes y) = rw (eq-eqb c (z + p) (omega (arith, is, y)), eq-eqb hd.vpi p y)
    among is (no y) = rw (ne_eqb c (z + p) (λ q. y (omega (arith, is, q))), ne_eqb hd.vpi p y)

    go : Dec (hd.vpi ≡ 0) → c =? (z + p) ≡ hd.vpi =? p
    go (yes y) =
        rw (
          ne_eqb c (z + p) (λ q. omega (arith, q, sym e ∙ vc_number z hd y, vc_low z hd n y)),
          ne_eqb hd.vpi p (λ q. omega (arith, q, y, low)),
        )
    go (no y) = among (sym e ∙ path_number z hd y) (ℕ_discrete hd.vpi p)

filter_same : {A : Type 0} (f g : A → ℕ) (v w : ℕ) (P : A → Type 0) → ((x : A) → P x → f x =? v ≡ g x =? w) → (l : List A)
    → All P l → of_connection f v l ≡ of_connection g w l
filter_same f g v w P same [] a = refl
filter_same f g v w P same (x ∷ l) a = rw (same x a.0, filter_same f g v w P same l a.1)

-- ── of a run ──
abbrev pub NamedDeparture : ℕ → ℕ → Departure → Type 0
NamedDeparture kind z d =
    (names_connection z (header_at kind d.octets 0) ≡ true)
    × (connection z (header_at kind d.octets 0) ≡ d.vci)

module _ (N z kind : ℕ) (h : List Event) (s : State) (i : Inv N z kind h s) where
  pub departures_named : All (NamedDeparture kind z) (departures_in h)
  departures_named =
      subst (All (NamedDeparture kind z)) (sym i.seen) (all_image (NamedDeparture kind z) seen_as i.left i.named_left)

  module _ (p : ℕ) (low : 1 ≤ p) where
    cells_are : cells_of (z + p) h ≡ path_cells kind p h
    unfolding cells_of
    cells_are =
        filter_same (λ c. c.vci) (λ c. vpi_of kind c.octets) (z + p) p (Named kind z)
        (λ c n. number_test z p c.vci (header_at kind c.octets 0) low n.0 n.1) (cells_in h) i.named

    departures_are : departures_of (z + p) h ≡ path_departures kind p h
    unfolding departures_of
    departures_are =
        filter_same (λ d. d.vci) (λ d. vpi_of kind d.octets) (z + p) p (NamedDeparture kind z)
        (λ d n. number_test z p d.vci (header_at kind d.octets 0) low n.0 n.1) (departures_in h) departures_named

    -- what holds of the cells and departures of the connection V + p
    moved : (P : List Cell → List Departure → Type 0) → P (cells_of (z + p) h) (departures_of (z + p) h)
        → P (path_cells kind p h) (path_departures kind p h)
    moved P x = subst₂ P cells_are departures_are x

  none_above : (p : ℕ) → 255 < p → path_cells kind p h ≡ []
  none_above p high =
      of_connection_none (λ c. vpi_of kind c.octets) p (cells_in h)
      (all_map (Named kind z) (λ c. vpi_of kind c.octets ≡ p → ⊥)
      (λ c n e. omega (arith, e, path_low z (header_at kind c.octets 0) n.0)) (cells_in h) i.named)

  abbrev d : Demand3 N z kind h s
  d = demanded N z kind h s i

  pub path_order : PathOrder N z kind h
  path_order =
      record {
        cells_are = λ p low high. cells_are p low;
        departures_are = λ p low high. departures_are p low;
        unchanged = λ p k low high.
            moved p low (λ cs ds. k < length ds → (k < length cs) × ((get_or ds k no_departure).octets ≡ (get_or cs k absent_cell).octets))
            (λ there. (d.was_accepted (z + p) k there, d.unchanged (z + p) k there));
        in_order = λ p j k low high less.
            moved p low (λ cs ds. k < length ds
            → ((get_or cs j absent_cell).arrival < (get_or cs k absent_cell).arrival)
            × ((get_or ds j no_departure).slot < (get_or ds k no_departure).slot))
            (d.in_order (z + p) j k less);
        in_time = λ p k low high.
            moved p low (λ cs ds. k < length ds
            → ((get_or cs k absent_cell).due ≤ (get_or ds k no_departure).slot)
            × ((get_or ds k no_departure).slot ≤ (get_or cs k absent_cell).due + (N - 1)))
            (λ there. (d.not_early (z + p) k there, d.not_late (z + p) k there));
        none_above = none_above;
      }
