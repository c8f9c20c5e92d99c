-- Demand 3, clause by clause, from the invariant: of each connection the accepted cells are those that left and then those that
-- wait, so the k-th that left is the k-th accepted; one that waits can still be in time.
use Prim.Native.Nat.{ℕ, zero, suc, ◌+◌, ◌-◌, ◌≤◌, ◌<◌}
use mathlib.Core.Path.{◌≡◌, refl, sym, ap, ◌∙◌}
use mathlib.Core.Logic.{◌≢◌}
use mathlib.Core.Bool.{true}
use mathlib.Core.List.{List, [], ◌∷◌, ◌++◌, map}
use native.Mathlib.Decide.{dec_lt}
use native.Mathlib.Nat.{not-suc-le-zero, le_of_suc-le-suc}
use native.Mathlib.Omega.{arith}
use lib.ListN.{length, get_or, length-append, get_or-append}
use lib.Seq.{get_or-append-add}
use Rattle.meaning.specs.State.{State}
use Rattle.meaning.specs.Bits.{is_free_space, lowest_free}
use Rattle.meaning.proofs.BitsLaws.{lowest_below}
use Rattle.meaning.specs.Slot.{slot}
use Rattle.meaning_runs.specs.Run.{Event, served}
use Rattle.meaning_runs.specs.Seen.{Cell, Departure, of_connection, cells_in, cells_of, departures_of, absent_cell, no_departure, cell_at, departure_at}
use Rattle.theory_queues.specs.Queue.{All, flat}
use Rattle.theory_queues.proofs.QueueLaws.{map_length}
use Rattle.theory_queues.proofs.LineLaws.{still_in_time}
use Rattle.theory_queues.proofs.OrderLaws.{of_connection_append, of_connection_map, of_connection_all}
use Rattle.theory_queues.proofs.RisingLaws.{rising_of, rising_at}
use Rattle.theory_memory.specs.Held.{due_of}
use Rattle.theory_invariant.proofs.SlotLaws.{some_space, lowest_space}
use Rattle.theory_invariant.specs.Invariant.{Left, seen_as, cell_left, cell_in, connection_in, InTime, Delayed, Inv}
use Rattle.promises.specs.Demand3.{Demand3}
use Rattle.promises.proofs.VerdictLaws.{says, accepts}

-- the k-th of a list
map_at : {A B : Type 0} (f : A → B) (l : List A) (k : ℕ) (a : A) (b : B) → k < length l
    → get_or (map f l) k b ≡ f (get_or l k a)
map_at f [] k a b h = absurd (not-suc-le-zero h)
map_at f (x ∷ l) zero a b h = refl
map_at f (x ∷ l) (suc k) a b h = map_at f l k a b (le_of_suc-le-suc h)

all_at : {A : Type 0} (P : A → Type 0) (l : List A) (k : ℕ) (d : A) → All P l → k < length l → P (get_or l k d)
all_at P [] k d a h = absurd (not-suc-le-zero h)
all_at P (x ∷ l) zero d a h = a.0
all_at P (x ∷ l) (suc k) d a h = all_at P l k d a.1 (le_of_suc-le-suc h)

pub all_image : {A B : Type 0} (P : B → Type 0) (f : A → B) (l : List A) → All (λ x. P (f x)) l → All P (map f l)
all_image P f [] a = tt
all_image P f (x ∷ l) a = (a.0, all_image P f l a.1)

abbrev no_left : Left
no_left = record { slot = 0; cell = absent_cell }

module _ (N z kind : ℕ) (h : List Event) (s : State) (i : Inv N z kind h s) where
  -- those of the connection v that left, and the cells of it that wait
  abbrev pub gone : ℕ → List Left
  gone v = of_connection (λ p. p.cell.vci) v i.left

  abbrev pub waiting : ℕ → List Cell
  waiting v = of_connection connection_in v (map cell_in (i.out ++ flat i.cal))

  departures_are : (v : ℕ) → departures_of v h ≡ map seen_as (gone v)
  unfolding departures_of
  departures_are v = ap (of_connection (λ d. d.vci) v) i.seen ∙ of_connection_map (λ d. d.vci) seen_as v i.left

  pub cells_are : (v : ℕ) → cells_of v h ≡ map cell_left (gone v) ++ waiting v
  unfolding cells_of
  cells_are v =
      i.order v
      ∙ of_connection_append connection_in v (map cell_left i.left) (map cell_in (i.out ++ flat i.cal))
      ∙ ap (λ l. l ++ waiting v) (of_connection_map connection_in cell_left v i.left)

  pub many_left : (v : ℕ) → length (departures_of v h) ≡ length (gone v)
  many_left v = ap length (departures_are v) ∙ map_length seen_as (gone v)

  pub many_cells : (v : ℕ) → length (cells_of v h) ≡ length (gone v) + length (waiting v)
  many_cells v =
      ap length (cells_are v) ∙ length-append (map cell_left (gone v)) (waiting v)
      ∙ ap (λ (n : ℕ). n + length (waiting v)) (map_length cell_left (gone v))

  module _ (v k : ℕ) (low : k < length (departures_of v h)) where
    here : k < length (gone v)
    here = omega (arith, many_left v)

    departure_is : departure_at v k h ≡ seen_as (get_or (gone v) k no_left)
    departure_is = ap (λ l. get_or l k no_departure) (departures_are v) ∙ map_at seen_as (gone v) k no_left no_departure here

    cell_is : cell_at v k h ≡ cell_left (get_or (gone v) k no_left)
    cell_is =
        ap (λ l. get_or l k absent_cell) (cells_are v)
        ∙ get_or-append (map cell_left (gone v)) (waiting v) absent_cell k (omega (arith, here, map_length cell_left (gone v)))
        ∙ map_at cell_left (gone v) k no_left absent_cell here

    timely : InTime (N - 1) (get_or (gone v) k no_left)
    timely =
        all_at (InTime (N - 1)) (gone v) k no_left (of_connection_all (λ p. p.cell.vci) v (InTime (N - 1)) i.left i.in_time)
        here

  waiting_in_time : (v : ℕ) → All (λ c. served h ≤ c.due + (N - 1)) (waiting v)
  waiting_in_time v = of_connection_all connection_in v (λ c. served h ≤ c.due + (N - 1)) (map cell_in (i.out ++ flat i.cal))
      (all_image (λ (c : Cell). served h ≤ c.due + (N - 1)) cell_in (i.out ++ flat i.cal)
      (still_in_time due_of (N - 1) (served h) i.cal i.out i.good))

  pub leaves_in_time : (v k : ℕ) → k < length (cells_of v h) → (cell_at v k h).due + (N - 1) < served h
      → k < length (departures_of v h)
  leaves_in_time v k low lasts = go (dec_lt k (length (departures_of v h)))
    where
      go : Dec (k < length (departures_of v h)) → k < length (departures_of v h)
      go (yes p) = p
      go (no p) =
          absurd (omega (
            arith,
            all_at (λ c. served h ≤ c.due + (N - 1)) (waiting v) j absent_cell (waiting_in_time v)
                (omega (arith, many_left v, many_cells v)),
            ap (λ (c : Cell). c.due) same,
          ))
        where
          j : ℕ
          j = k - length (gone v)

          same : cell_at v k h ≡ get_or (waiting v) j absent_cell
          same =
              ap (λ l. get_or l k absent_cell) (cells_are v)
              ∙ ap (λ (n : ℕ). get_or (map cell_left (gone v) ++ waiting v) n absent_cell) place
              ∙ get_or-append-add (map cell_left (gone v)) (waiting v) j absent_cell
            where
              place : k ≡ length (map cell_left (gone v)) + j
              place = omega (arith, map_length cell_left (gone v), many_left v)

  one_free : (s.ctl.free ≢ 0) × (is_free_space s.bits (lowest_free s.bits) ≡ true) × (lowest_free s.bits < N)
  one_free = (
    some_space N z kind h s i,
    lowest_space N z kind h s i,
    lowest_below N s.ctl.free s.bits i.stage.has.spaces_fit_lem (some_space N z kind h s i),
  )

  delays : (v : ℕ) → All (Delayed N) (cells_of v h)
  unfolding cells_of
  delays v = of_connection_all connection_in v (Delayed N) (cells_in h) i.delays

  arrivals_rise : (v j k : ℕ) → j < k → k < length (cells_of v h) → (cell_at v j h).arrival < (cell_at v k h).arrival
  unfolding cells_of
  arrivals_rise v j k less low =
      rising_at (λ c. c.arrival) 0 (served h) (cells_of v h) j k absent_cell less low
      (rising_of (λ c. c.arrival) connection_in v 0 (served h) (cells_in h) i.cells_rise)

  departures_rise : (v j k : ℕ) → j < k → k < length (departures_of v h) → (departure_at v j h).slot < (departure_at v k h).slot
  departures_rise v j k less low =
      omega (
        arith,
        ap (λ (d : Departure). d.slot) (departure_is v k low),
        ap (λ (d : Departure). d.slot) (departure_is v j (omega arith)),
        rising_at (λ p. p.slot) 0 (served h) (gone v) j k no_left less (omega (arith, many_left v))
            (rising_of (λ p. p.slot) (λ p. p.cell.vci) v 0 (served h) i.left i.left_rise),
      )

  pub demanded : Demand3 N z kind h s
  demanded =
      record {
        was_accepted = λ v k low. omega (arith, many_left v, many_cells v);
        unchanged = λ v k low. ap (λ (d : Departure). d.octets) (departure_is v k low)
            ∙ sym (ap (λ (c : Cell). c.octets) (cell_is v k low));
        not_early = λ v k low. omega (
          arith,
          (timely v k low).0,
          ap (λ (d : Departure). d.slot) (departure_is v k low),
          ap (λ (c : Cell). c.due) (cell_is v k low),
        );
        not_late = λ v k low. omega (
          arith,
          (timely v k low).1,
          ap (λ (d : Departure). d.slot) (departure_is v k low),
          ap (λ (c : Cell). c.due) (cell_is v k low),
        );
        leaves = leaves_in_time;
        space_free = one_free;
        in_order = λ v j k less low.
            (arrivals_rise v j k less (omega (arith, many_left v, many_cells v)), departures_rise v j k less low);
        delay = λ v k low. let d = all_at (Delayed N) (cells_of v h) k absent_cell (delays v) low in (d.0, omega (arith, d.1));
        accepts_exactly = accepts N z kind h s i;
        judges = says N z kind h s i;
      }
