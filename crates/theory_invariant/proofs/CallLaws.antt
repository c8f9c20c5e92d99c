-- A call that serves no slot: refused it changes nothing; else one connection, of which no cell is queued, gets another opening or
-- none. Refusals 1, 2 and 3 are not given.
use Prim.Native.Nat.{ℕ, ◌<◌}
use mathlib.Core.Path.{◌≡◌, refl, sym, ap, ◌∙◌, subst}
use mathlib.Core.Logic.{◌≢◌}
use mathlib.Core.Bool.{true, false}
use mathlib.Core.List.{List, [], ◌∷◌}
use mathlib.Core.Option.{Option}
use native.Mathlib.Decide.{ℕ_discrete}
use native.Mathlib.Omega.{arith}
use Rattle.meaning.specs.Numbers.{ranges_hold, splits_hold, connections_in, unused}
use Rattle.meaning.specs.State.{State, words_length, with_words}
use Rattle.meaning.specs.Header.{Name, named, number_in}
use Rattle.meaning.specs.Operators.{owns}
use Rattle.meaning.specs.Words.{Connection, connection_at, write_connection, connection_fits}
use Rattle.meaning.specs.Calls.{shared_refusal}
use Rattle.meaning.proofs.NamesLaws.{number_low, number_used}
use Rattle.meaning.proofs.OperatorsLaws.{shared_sixteen}
use Rattle.meaning.proofs.WordsLaws.{write_length, write_read, write_read_other}
use Rattle.meaning_runs.specs.Run.{Event, served}
use Rattle.meaning_runs.specs.Leak.{Opening, opening_of}
use Rattle.meaning_runs.specs.Seen.{cells_in, departures_in}
use Rattle.theory_queues.specs.Queue.{sum, sums, one, All, Alls, turn}
use Rattle.theory_queues.proofs.QueueLaws.{turn_sums, all_map, alls_map, all_both, alls_both}
use Rattle.theory_chains.proofs.CountLaws.{is_no, is_yes}
use Rattle.theory_table.specs.Stored.{clock, ConnectionIs}
use Rattle.theory_table.proofs.ConnectionLaws.{connection_fits_lem}
use Rattle.theory_memory.specs.Held.{Queued, vci_of}
use Rattle.theory_invariant.specs.Invariant.{is_of, waits, Sits, Inv}
use Rattle.theory_invariant.proofs.AfterLaws.{waits_low}
use Rattle.theory_invariant.proofs.LengthLaws.{connections_few, ranges_hold_lem, words_hold}

-- a cell of another connection
abbrev pub Away : ℕ → Queued → Type 0
Away u c = vci_of c ≢ u

away_sum : (u : ℕ) (q : List Queued) → All (Away u) q → sum (is_of u) q ≡ 0
away_sum u [] a = refl
away_sum u (c ∷ q) a = omega (arith, is_no u (vci_of c) (λ e. a.0 (sym e)), away_sum u q a.1)

away_sums : (u : ℕ) (r : List (List Queued)) → Alls (Away u) r → sums (is_of u) r ≡ 0
away_sums u [] a = refl
away_sums u (q ∷ r) a = omega (arith, away_sum u q a.0, away_sums u r a.1)

pub sum_away : (u : ℕ) (q : List Queued) → sum (is_of u) q ≡ 0 → All (Away u) q
sum_away u [] e = tt
sum_away u (c ∷ q) e = (λ f. omega (arith, is_yes u (vci_of c) (sym f)), sum_away u q (omega arith))

pub sums_away : (u : ℕ) (r : List (List Queued)) → sums (is_of u) r ≡ 0 → Alls (Away u) r
sums_away u [] e = tt
sums_away u (q ∷ r) e = (sum_away u q (omega arith), sums_away u r (omega arith))

-- events that serve no slot more, accept no cell more and send none more
pub record Still (h h' : List Event) : Type 0 where
  pub slots : served h' ≡ served h
  pub cells : cells_in h' ≡ cells_in h
  pub departures : departures_in h' ≡ departures_in h

module _ (N z kind : ℕ) (h : List Event) (s : State) (i : Inv N z kind h s) where
  abbrev now : ℕ
  now = served h

  abbrev op : ℕ → Option Opening
  op v = opening_of v h

  -- a refused call changes nothing; nor does another verdict that accepts no cell
  unfoldable pub unchanged : (h' : List Event) → Still h h' → ((v : ℕ) → opening_of v h' ≡ opening_of v h) → Inv N z kind h' s
  unchanged h' same e =
      record {
        out = i.out;
        cal = i.cal;
        left = i.left;
        stage = record {
          ranges = i.stage.ranges;
          n_is = i.stage.n_is;
          v_is = i.stage.v_is;
          t_is = i.stage.t_is ∙ ap clock (sym same.slots);
          turn_low = i.stage.turn_low;
          rotation_is = rw same.slots i.stage.rotation_is;
          kind_is = i.stage.kind_is;
          kind_fits = i.stage.kind_fits;
          has = i.stage.has;
          dates = i.stage.dates;
          words_long = i.stage.words_long;
          table = λ v h1 h2. rw (same.slots, e v) (i.stage.table v h1 h2);
        };
        raw_low = i.raw_low;
        mode_low = i.mode_low;
        splits = i.splits;
        good = rw same.slots i.good;
        sits_out = all_map (Sits kind z op) (Sits kind z (λ v. opening_of v h')) sits i.out i.sits_out;
        sits_cal = alls_map (Sits kind z op) (Sits kind z (λ v. opening_of v h')) sits i.cal i.sits_cal;
        seen = same.departures ∙ i.seen;
        in_time = i.in_time;
        order = λ v. rw same.cells (i.order v);
        delays = rw same.cells i.delays;
        named = rw same.cells i.named;
        named_left = i.named_left;
        left_rise = rw same.slots i.left_rise;
        cells_rise = rw (same.slots, same.cells) i.cells_rise;
      }
    where
      sits : (c : Queued) → Sits kind z op c → Sits kind z (λ v. opening_of v h') c
      sits c p = (p.0, p.1, rw (e (vci_of c)) p.2)

  -- another opening, or none, for a connection of which no cell is queued
  module _ (u : ℕ) (u-high : u < connections_in z) (away-out : All (Away u) i.out) (away-cal : Alls (Away u) i.cal) (vc' : Connection)
      (new : Option Opening)
      (is : ConnectionIs N (connections_in z) now u vc' 0 new) (h' : List Event) (same : Still h h') (own : opening_of u h' ≡ new)
      (other : (v : ℕ) → v ≢ u → opening_of v h' ≡ opening_of v h) where
    nobody : waits u i.out (turn i.cal) ≡ 0
    nobody = omega (arith, turn_sums (is_of u) i.cal, away_sum u i.out away-out, away_sums u i.cal away-cal)

    pub each : (v : ℕ) → unused z v ≡ false → v < connections_in z → Dec (v ≡ u) → ConnectionIs N (connections_in z) (served h') v (connection_at (write_connection s.words u vc') v)
        (waits v i.out (turn i.cal)) (opening_of v h')
    each v h1 h2 (yes p) =
        subst (λ (k : ℕ). ConnectionIs N (connections_in z) (served h') k (connection_at (write_connection s.words u vc') k) (waits k i.out (turn i.cal))
        (opening_of k h')) (sym p)
        (rw (same.slots, write_read s.words u vc' (omega (arith, i.stage.words_long)), nobody, own) is)
    each v h1 h2 (no p) = rw (same.slots, write_read_other s.words u vc' v p, other v p) (i.stage.table v h1 h2)

    pub sits_on : (c : Queued) → Sits kind z op c × Away u c → Sits kind z (λ v. opening_of v h') c
    sits_on c p = (p.0.0, p.0.1, rw (other (vci_of c) p.1) p.0.2)

    unfoldable pub renewed : Inv N z kind h' (with_words s (write_connection s.words u vc'))
    unfolding with_words
    renewed =
        record {
          out = i.out;
          cal = i.cal;
          left = i.left;
          stage = record {
            ranges = i.stage.ranges;
            n_is = i.stage.n_is;
            v_is = i.stage.v_is;
            t_is = i.stage.t_is ∙ ap clock (sym same.slots);
            turn_low = i.stage.turn_low;
            rotation_is = rw same.slots i.stage.rotation_is;
            kind_is = i.stage.kind_is;
            kind_fits = i.stage.kind_fits;
            has = i.stage.has;
            dates = i.stage.dates;
            words_long = write_length s.words u vc' ∙ i.stage.words_long;
            table = λ v h1 h2. each v h1 h2 (ℕ_discrete v u);
          };
          raw_low = i.raw_low;
          mode_low = i.mode_low;
          splits = i.splits;
          good = rw same.slots i.good;
          sits_out = all_map (λ c. Sits kind z op c × Away u c) (Sits kind z (λ v. opening_of v h')) sits_on i.out
              (all_both (Sits kind z op) (Away u) i.out i.sits_out away-out);
          sits_cal = alls_map (λ c. Sits kind z op c × Away u c) (Sits kind z (λ v. opening_of v h')) sits_on i.cal
              (alls_both (Sits kind z op) (Away u) i.cal i.sits_cal away-cal);
          seen = same.departures ∙ i.seen;
          in_time = i.in_time;
          order = λ v. rw same.cells (i.order v);
          delays = rw same.cells i.delays;
          named = rw same.cells i.named;
          named_left = i.named_left;
          left_rise = rw same.slots i.left_rise;
          cells_rise = rw (same.slots, same.cells) i.cells_rise;
        }

  -- ── the refusals that open and close share ──
  ranges_at : ranges_hold s.ctl.n s.ctl.v ≡ true
  ranges_at = rw (i.stage.n_is, i.stage.v_is) (ranges_hold_lem N z i.stage.ranges)

  splits_at : splits_hold s.ctl.v s.ctl.splitvci s.ctl.splitpath ≡ true
  splits_at = ap (λ (v : ℕ). splits_hold v s.ctl.splitvci s.ctl.splitpath) i.stage.v_is ∙ i.splits

  words_at : words_length s.ctl.v s.words ≡ true
  words_at = rw i.stage.v_is (words_hold z s.words i.stage.words_long)

  pub fits : (v : ℕ) → unused z v ≡ false → v < connections_in z → connection_fits N (connection_at s.words v) ≡ true
  fits v h1 h2 =
      connection_fits_lem N (connections_in z) (connections_few N z i.stage.ranges) now v (connection_at s.words v) (waits v i.out (turn i.cal)) (op v)
      (waits_low v N i.out (turn i.cal)
      (omega (arith, turn_sums one i.cal, i.good.room, i.stage.ranges.N_low))) (i.stage.table v h1 h2)

  -- who owns the connection
  pub shared_in : (who : ℕ) (name : Name) → named s.ctl.v name ≡ true → owns s.ctl who name ≡ true
      → shared_refusal s.ctl s.words who name ≡ 0
  unfolding shared_refusal
  shared_in who name e o =
      rw (
        ranges_at,
        splits_at,
        words_at,
        e,
        o,
        ap (λ (n : ℕ). connection_fits n (connection_at s.words (number_in s.ctl.v name))) i.stage.n_is,
        fits (number_in s.ctl.v name)
            (ap (λ (v : ℕ). unused v (number_in s.ctl.v name)) (sym i.stage.v_is) ∙ number_used s.ctl.v name e)
            (omega (arith, number_low s.ctl.v name e, i.stage.v_is)),
      )

  -- and who doesn't
  pub shared_foreign : (who : ℕ) (name : Name) → named s.ctl.v name ≡ true → owns s.ctl who name ≡ false
      → shared_refusal s.ctl s.words who name ≡ 16
  shared_foreign who name e o = shared_sixteen s.ctl s.words who name ranges_at splits_at words_at e o

  pub shared_out : (who : ℕ) (name : Name) → named s.ctl.v name ≡ false → shared_refusal s.ctl s.words who name ≡ 4
  unfolding shared_refusal
  shared_out who name e = rw (ranges_at, splits_at, words_at, e)
