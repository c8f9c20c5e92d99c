-- REQUEST (x), of every run from a fresh state: the whole run's listing counts the stretch's delays behind those before it, and by the
-- laws of the tally the rest follows.
use Prim.Native.Nat.{ℕ, ◌+◌, ◌-◌, ◌≤◌, ◌<◌}
use mathlib.Core.Path.{◌≡◌, refl, sym, ap, ◌∙◌, subst}
use mathlib.Core.Bool.{true}
use mathlib.Core.List.{List, [], ◌++◌, map}
use mathlib.Core.Option.{Option, none, some}
use native.Mathlib.Omega.{arith}
use lib.ListN.{length, get_or, drop}
use lib.Seq.{drop_at}
use Rattle.meaning.specs.Numbers.{slot_numbers}
use Rattle.meaning.specs.State.{State}
use Rattle.meaning_runs.specs.Run.{Call, Event, Run, calls, served}
use Rattle.meaning_runs.specs.Leak.{Opening, opening_of}
use Rattle.meaning_runs.specs.Seen.{Departure, of_connection, cells_of, departures_of, cell_at, departure_at}
use Rattle.theory_queues.specs.Queue.{flat}
use Rattle.theory_queues.proofs.QueueLaws.{all_map, all_append, alls_flat}
use Rattle.theory_queues.proofs.OrderLaws.{of_connection_none, of_connection_map}
use Rattle.theory_memory.specs.Held.{Queued, vci_of}
use Rattle.theory_invariant.specs.Invariant.{cell_in, connection_in, Under, Sits, Inv}
use Rattle.theory_invariant.proofs.RunLaws.{Kept, calls_kept}
use Rattle.promises.specs.Demand3.{Demand3}
use Rattle.promises.proofs.Demand3Laws.{demanded, many_left, many_cells}
use Rattle.promises.proofs.Top.{from_setup}
use Rattle.call_tally.specs.Tally.{bin_of, most_cells, is_connection, percentile_of}
use Rattle.call_tally.specs.Delays.{no_cells, tally_all, cut, rank}
use Rattle.call_tally.specs.Laws.{AddsUp, Counted}
use Rattle.call_tally.proofs.TallyLaws.{bins_count}
use Rattle.call_tally.proofs.PercentileLaws.{lowest_law, order_law, sorted_law}
use Rattle.promise_tally.specs.Summary.{listing, delays_in, NoneWaits, no_summary, summary_of, Delays, Tallies, Counts, Summed, SummaryHolds, ClosedNoneWaits}
use Rattle.promise_tally.proofs.DelayLaws.{Stamp, stamp_of, later, delays_length, delays_at, delays_apart}
use Rattle.promise_tally.proofs.ApartLaws.{calls_apart, served_apart, cells_apart, departures_apart, cells_many, departures_many, cell_apart, departure_apart}
use Rattle.promise_tally.proofs.RunLaws.{Went, calls_went}
use Rattle.promise_tally.proofs.SortLaws.{cut_numbers, cut_at, cut_ascending}

none_adds_up : AddsUp no_cells
unfolding tally_all
none_adds_up = (bins_count [] (omega arith)).adds_up

many_enough : slot_numbers ≡ most_cells
unfolding slot_numbers most_cells
many_enough = refl

module _ (N z kind v : ℕ) (is : is_connection z v ≡ true) (r : Run) (q : Kept N z kind r) (none_waits : NoneWaits v r.events) (cs : List Call)
  where
    abbrev h : List Event
    h = r.events

    abbrev own : List Event
    own = listing r.state cs

    all_are : (calls r cs).events ≡ own ++ h
    all_are = ap (λ (x : Run). x.events) (calls_apart r.state [] h cs)

    inv : Inv N z kind (own ++ h) (calls r cs).state
    inv = subst (λ (l : List Event). Inv N z kind l (calls r cs).state) all_are (calls_kept N z kind r cs q).inv

    went : Went v h no_summary (calls r cs).events (summary_of v r.state cs)
    went = calls_went v N z kind is r q cs no_summary none_adds_up tt

    -- the stretch's delays are those that the whole run has more
    new_is : went.new ≡ delays_in v own
    new_is =
        sym (drop_at (delays_in v h) went.new (length (delays_in v h)) refl)
        ∙ ap (drop (length (delays_in v h))) (sym went.delays_are ∙ ap (delays_in v) all_are ∙ parted)
        ∙ drop_at (delays_in v h) (delays_in v own) (length (delays_in v h)) refl
      where
        parted : delays_in v (own ++ h) ≡ delays_in v h ++ delays_in v own
        parted =
            delays_apart (served h) (cells_of v (own ++ h)) (cells_of v h) (cells_of v own) (departures_of v (own ++ h)) (departures_of v h)
            (departures_of v own) (cells_apart v own h) (departures_apart v own h) none_waits

    -- ── each delay ──
    few : length (departures_of v own) ≤ length (cells_of v own)
    few =
        omega (
          arith,
          cells_many v own h,
          departures_many v own h,
          many_left N z kind (own ++ h) (calls r cs).state inv v,
          many_cells N z kind (own ++ h) (calls r cs).state inv v,
          none_waits,
        )

    module _ (k : ℕ) (low : k < length (departures_of v own)) where
      abbrev at : ℕ
      at = length (departures_of v h) + k

      d : Demand3 N z kind (own ++ h) (calls r cs).state
      d = demanded N z kind (own ++ h) (calls r cs).state inv

      low_all : at < length (departures_of v (own ++ h))
      low_all = omega (arith, departures_many v own h, low)

      stamp_is : stamp_of (cell_at v at (own ++ h)) ≡ later (served h) (stamp_of (cell_at v k own))
      stamp_is =
          ap (λ (n : ℕ). stamp_of (cell_at v (n + k) (own ++ h))) (sym none_waits)
          ∙ cell_apart v own h k (omega (arith, few, low))

      arrival_is : (cell_at v at (own ++ h)).arrival ≡ (cell_at v k own).arrival + served h
      arrival_is = ap (λ (s : Stamp). s.arrival) stamp_is

      D_is : (cell_at v at (own ++ h)).D ≡ (cell_at v k own).D
      D_is = ap (λ (s : Stamp). s.D) stamp_is

      slot_is : (departure_at v at (own ++ h)).slot ≡ (departure_at v k own).slot + served h
      slot_is = ap (λ (x : Departure). x.slot) (departure_apart v own h k low)

      due_is : (cell_at v at (own ++ h)).due ≡ (cell_at v at (own ++ h)).arrival + (cell_at v at (own ++ h)).D
      due_is = (d.delay v at (d.was_accepted v at low_all)).0

      not_before : (cell_at v k own).arrival ≤ (departure_at v k own).slot
      not_before = omega (arith, d.not_early v at low_all, due_is, arrival_is, slot_is)

      not_after : (departure_at v k own).slot - (cell_at v k own).arrival ≤ (cell_at v k own).D + (N - 1)
      not_after = omega (arith, d.not_late v at low_all, due_is, arrival_is, D_is, slot_is)

    delays : Delays N v own
    delays =
        record {
          as_many = delays_length (cells_of v own) (departures_of v own) few;
          was_accepted = λ k low. omega (arith, few, low);
          not_before = not_before;
          each_is = λ k low. delays_at (cells_of v own) (departures_of v own) k few low;
          at_most = λ k low. omega (arith, delays_at (cells_of v own) (departures_of v own) k few low, not_after k low);
        }

    -- ── the tally ──
    tallies : Tallies N v own (summary_of v r.state cs)
    tallies =
        record {
          delays = delays;
          answers_0 = went.zeros;
          tally_is = went.tally_is ∙ ap (tally_all no_cells) new_is;
        }

    module _ (short : served own ≤ slot_numbers) where
      abbrev ds : List ℕ
      ds = delays_in v own

      sent : length ds ≡ length (departures_of v own)
      sent = delays.as_many

      few_cells : length ds ≤ most_cells
      few_cells = omega (arith, went.few, ap length new_is, ap served all_are, served_apart own h, short, many_enough)

      counted : Counted ds (tally_all no_cells ds)
      counted = bins_count ds few_cells

      module _ (share : ℕ) (some : 1 ≤ length (departures_of v own)) (low : 1 ≤ share) (high : share ≤ 1000) where
        some_cells : 1 ≤ length ds
        some_cells = omega (arith, sent, some)

        reports : (percentile_of (tally_all no_cells ds) share).number ≡ 0
        reports = (order_law ds share some_cells few_cells low high).0

      counts_all : Counts v own (tally_all no_cells ds)
      counts_all =
          record {
            cells_sent = counted.cells_are ∙ sent;
            bins_are = counted.bins_are;
            last_is = counted.last_is;
            adds_up = counted.adds_up.0 ∙ counted.cells_are ∙ sent;
            reports = reports;
            lowest = λ share some low high. lowest_law (tally_all no_cells ds) share counted.adds_up.2 (reports share some low high);
            by_count = λ share some low high. (order_law ds share (some_cells share some low high) few_cells low high).1;
            by_sorting = λ share some low high sorted up same.
                sorted_law ds (cut sorted) share (some_cells share some low high) few_cells low high (cut_ascending sorted up)
                (cut_numbers sorted ds same)
                ∙ cut_at sorted (rank share (length ds) - 1)
                ∙ ap (λ (n : ℕ). bin_of (get_or sorted (rank share n - 1) 0)) sent;
          }

    pub summed : Summed N v r.state cs
    summed =
        record {
          tallies = tallies;
          counts = λ short. subst (Counts v own) (sym tallies.tally_is) (counts_all short);
        }

-- the delay summary
pub summary_holds : SummaryHolds
summary_holds N z a lent e before v is none_waits cs =
    from_setup (λ N z kind r. is_connection z v ≡ true → NoneWaits v r.events → Summed N v r.state cs)
    (λ N z kind r q is none_waits. summed N z kind v is r q none_waits cs)
    N z a lent e before is none_waits

-- a closed connection has no cell that waits
module _ (N z kind v : ℕ) (h : List Event) (s : State) (i : Inv N z kind h s) (shut : opening_of v h ≡ none) where
  not_of_v : (c : Queued) → Sits kind z (λ u. opening_of u h) c → vci_of c ≡ v → ⊥
  not_of_v c p e = go (opening_of (vci_of c) h) (ap (λ (u : ℕ). opening_of u h) e ∙ shut) p.2
    where
      go : (o : Option Opening) → o ≡ none → Under o c.cell → ⊥
      go o y u = subst (λ (x : Option Opening). Under x c.cell) y u

  none_of_v : of_connection connection_in v (map cell_in (i.out ++ flat i.cal)) ≡ []
  none_of_v =
      of_connection_map connection_in cell_in v (i.out ++ flat i.cal)
      ∙ ap (map cell_in) (of_connection_none vci_of v (i.out ++ flat i.cal)
      (all_map (Sits kind z (λ u. opening_of u h)) (λ c. vci_of c ≡ v → ⊥) not_of_v (i.out ++ flat i.cal)
      (all_append (Sits kind z (λ u. opening_of u h)) i.out (flat i.cal) i.sits_out
      (alls_flat (Sits kind z (λ u. opening_of u h)) i.cal i.sits_cal))))

  none_left : NoneWaits v h
  none_left = omega (arith, many_left N z kind h s i v, many_cells N z kind h s i v, ap length none_of_v)

pub closed_none_waits : ClosedNoneWaits
closed_none_waits N z a lent e cs v shut =
    from_setup (λ N z kind r. opening_of v r.events ≡ none → NoneWaits v r.events)
    (λ N z kind r q shut. none_left N z kind v r.events r.state q.inv shut)
    N z a lent e cs shut
