-- Step 5 of a slot, from the invariant: the head of the Output List names an open connection with a cell waiting, so that no test
-- of refusal 3 fails; it departs with the octets that were accepted.
use Prim.Native.Nat.{ℕ, suc, ◌+◌, ◌-◌, ◌≤◌, ◌<◌}
use mathlib.Core.Path.{◌≡◌, refl, sym, ap, ◌∙◌, subst, subst₂}
use mathlib.Core.Bool.{true, false}
use mathlib.Core.List.{List, [], ◌∷◌}
use mathlib.Core.Option.{Option, none, some}
use native.Mathlib.Decide.{ℕ_discrete}
use native.Mathlib.Omega.{arith}
use borrow.Author.Tests.{eq-eqb, le-leb}
use lib.ListN.{get_or}
use Rattle.meaning.specs.Plain.{next}
use Rattle.meaning.specs.Numbers.{connections_in, unused, empty, cell_start, open_place}
use Rattle.meaning.specs.State.{State, output_list, with_record, record_with, with_words, with_bits, with_free, with_output_list}
use Rattle.meaning.specs.Header.{Header, header_at, connection, names_open}
use Rattle.meaning.specs.Words.{Connection, connection_at, write_connection, with_waiting}
use Rattle.meaning.specs.Bits.{given}
use Rattle.meaning.specs.Work.{Work, answer_of, with_state, with_connection, with_departure}
use Rattle.meaning.specs.Slot.{step5, depart}
use Rattle.meaning.proofs.NamesLaws.{names_low, names_used}
use Rattle.meaning.proofs.WordsLaws.{write_length, write_read, write_read_other}
use Rattle.meaning_runs.specs.Run.{idle}
use Rattle.meaning_runs.specs.Leak.{Opening}
use Rattle.theory_queues.specs.Queue.{sum, sums, one, All}
use Rattle.theory_chains.proofs.CountLaws.{is_no, is_yes}
use Rattle.theory_chains.proofs.StrungLaws.{TakenOff}
use Rattle.theory_table.specs.Stored.{ConnectionIs, OpenConnection}
use Rattle.theory_table.proofs.ConnectionLaws.{left_open}
use Rattle.theory_memory.specs.Held.{Queued, space_of, vci_of, octets_in}
use Rattle.theory_memory.proofs.ShownLaws.{header_in_lem, line_cell_lem}
use Rattle.theory_memory.proofs.DatesLaws.{dates_departed}
use Rattle.theory_memory.proofs.MoveLaws.{out_bare, out_marked, out_low, out_taken, head_not_free, departed}
use Rattle.theory_invariant.specs.Invariant.{is_of, waits, Under, Sits, Stage}
use Rattle.theory_invariant.specs.Gone.{Gone}
use Rattle.theory_invariant.proofs.StepLaws.{Goes}
use Rattle.theory_invariant.proofs.LengthLaws.{connections_few}
use Rattle.theory_invariant.proofs.AfterLaws.{waits_low}

module _ (now : ℕ) (op : ℕ → Option Opening) (r : List (List Queued)) where
  module _ (w : Work) where
    abbrev s : State
    s = w.state

    abbrev N : ℕ
    N = s.ctl.n

    abbrev z : ℕ
    z = s.ctl.v

    abbrev kind : ℕ
    kind = s.ctl.kind

    abbrev b : ℕ
    b = s.ctl.turn + 1

    -- nothing departs
    idles : Stage N z kind (suc now) (suc now) b s op [] r → Goes (step5 w) (Gone N z kind now op [] r w)
    unfolding step5
    idles st =
        record {
          work = w;
          goes = rw (out_bare (omega (arith, st.ranges.N_high)) st.has);
          holds = record { stage = st; departs = refl };
        }

    module _ (c : Queued) (o : List Queued) (st : Stage N z kind (suc now) (suc now) b s op (c ∷ o) r) (sits : Sits kind z op c)
        (few : sums one r + sum one (c ∷ o) ≤ N) where
      abbrev h : Header
      h = header_at kind c.cell.octets 0

      abbrev u : ℕ
      u = connection z h

      abbrev x : ℕ
      x = s.ctl.outhead

      low : N ≤ empty
      low = omega (arith, st.ranges.N_high)

      octets_are : octets_in s.cells x ≡ c.cell.octets
      octets_are = ap (octets_in s.cells) st.has.out_is.0 ∙ st.has.held_out.0

      header_is : header_at kind s.cells (cell_start x) ≡ h
      header_is = header_in_lem kind s.cells x ∙ ap (λ l. header_at kind l 0) octets_are

      names : u < connections_in z
      names = names_low z h sits.0

      abbrev vc : Connection
      vc = connection_at s.words u

      abbrev q : ℕ
      q = sums (is_of u) r + sum (is_of u) o

      one_more : waits u (c ∷ o) r ≡ suc q
      one_more = omega (arith, is_yes u (vci_of c) sits.1)

      -- its connection is open, and has a cell waiting
      pub record Opened : Type 0 where
        pub opening : Opening
        pub is : op u ≡ some opening
        pub connection_open : OpenConnection N (connections_in z) (suc now) u vc (suc q) opening

      opened : Opened
      opened =
          go (op u) refl (subst (λ (i : ℕ). Under (op i) c.cell) (sym sits.1) sits.2)
          (st.table u (names_used z h sits.0) names)
        where
          go : (a : Option Opening) → op u ≡ a → Under a c.cell → ConnectionIs N (connections_in z) (suc now) u vc (waits u (c ∷ o) r) a → Opened
          go none e p k = absurd p
          go (some a) e p k =
              record { opening = a; is = e; connection_open = subst (λ (i : ℕ). OpenConnection N (connections_in z) (suc now) u vc i a) one_more k }

      is_open : vc.opened ≡ 1
      is_open = ap (λ (y : Connection). y.opened) opened.connection_open.is

      waiting_is : vc.waiting ≡ suc q
      waiting_is = ap (λ (y : Connection). y.waiting) opened.connection_open.is

      names_open_lem : names_open z s.words h ≡ true
      unfolding names_open connection_at
      names_open_lem = rw (sits.0, eq-eqb (get_or s.words (open_place u) 0) 1 is_open)

      few_wait : vc.waiting ≤ N
      few_wait = omega (arith, waiting_is, one_more, waits_low u N (c ∷ o) r few)

      taken : TakenOff space_of N low s.links (output_list s) o
      taken = out_taken low st.has

      abbrev less : Connection
      less = with_waiting vc (vc.waiting - 1)

      abbrev work : Work
      work =
          let s1 = with_output_list s taken.left in
          let s2 = with_free s1 (s.ctl.free + 1) (given s.bits x) in
          with_departure (with_connection (with_state w s2) u less) x u

      goes : step5 w ≡ next work
      unfolding step5 depart with_output_list with_free with_bits with_words with_record record_with
      goes =
          rw (
            out_marked low st.has,
            taken.goes,
            header_is,
            st.kind_fits,
            names_open_lem,
            le-leb 1 vc.waiting (omega (arith, waiting_is)),
            le-leb vc.waiting N few_wait,
            st.has.spaces_fit_lem,
            head_not_free low st.has,
          )

      each : (v : ℕ) → unused z v ≡ false → v < connections_in z → Dec (v ≡ u) → ConnectionIs N (connections_in z) (suc now) v (connection_at (write_connection s.words u less) v) (waits v o r)
          (op v)
      each v h1 h2 (yes p) =
          subst (λ (i : ℕ). ConnectionIs N (connections_in z) (suc now) i (connection_at (write_connection s.words u less) i) (waits i o r) (op i)) (sym p)
          (rw (write_read s.words u less (omega (arith, st.words_long, names)), opened.is)
          (left_open N (connections_in z) (connections_few N z st.ranges) (suc now) u vc q opened.opening opened.connection_open))
      each v h1 h2 (no p) =
          rw (write_read_other s.words u less v p)
          (subst (λ (i : ℕ). ConnectionIs N (connections_in z) (suc now) v (connection_at s.words v) i (op v)) same (st.table v h1 h2))
        where
          same : waits v (c ∷ o) r ≡ waits v o r
          same = omega (arith, is_no v (vci_of c) (λ e. p (e ∙ sym sits.1)))

      leaves : Goes (step5 w) (Gone N z kind now op (c ∷ o) r w)
      unfolding with_output_list with_free with_bits with_words with_record record_with
      leaves =
          record {
            work = work;
            goes = goes;
            holds = record {
              stage = record {
                ranges = st.ranges;
                n_is = st.n_is;
                v_is = st.v_is;
                t_is = st.t_is;
                turn_low = st.turn_low;
                rotation_is = st.rotation_is;
                kind_is = st.kind_is;
                kind_fits = st.kind_fits;
                has = departed low st.has taken.left taken.rest;
                dates = dates_departed st.dates;
                words_long = write_length s.words u less ∙ st.words_long;
                table = λ v h1 h2. each v h1 h2 (ℕ_discrete v u);
              };
              departs = (
                x,
                ap (answer_of w.answer.number w.answer.verdict w.answer.vci w.answer.d x) sits.1,
                out_low low st.has,
                line_cell_lem N st.ranges.N_low st.ranges.N_high s.cells idle st.has.cells_long_lem refl x
                    (out_low low st.has)
                    ∙ octets_are,
                omega (arith, out_low low st.has, st.dates.long),
                ap (λ (k : ℕ). get_or s.arrived k 0) st.has.out_is.0 ∙ st.dates.dated_out.0,
              );
            };
          }

    step5_at : (o : List Queued) → Stage N z kind (suc now) (suc now) b s op o r → All (Sits kind z op) o
        → sums one r + sum one o ≤ N → Goes (step5 w) (Gone N z kind now op o r w)
    step5_at [] st a few = idles st
    step5_at (c ∷ o) st a few = leaves c o st a.0 few

  pub step5_goes : (N z kind : ℕ) (w : Work) (o : List Queued)
      → Stage N z kind (suc now) (suc now) (w.state.ctl.turn + 1) w.state op o r → All (Sits kind z op) o
      → sums one r + sum one o ≤ N → Goes (step5 w) (Gone N z kind now op o r w)
  step5_goes N z kind w o st =
      subst (λ (k : ℕ). Stage N z k (suc now) (suc now) (w.state.ctl.turn + 1) w.state op o r
      → All (Sits k z op) o
      → sums one r + sum one o ≤ N → Goes (step5 w) (Gone N z k now op o r w))
      st.kind_is
      (subst₂ (λ (n v : ℕ). Stage n v w.state.ctl.kind (suc now) (suc now) (w.state.ctl.turn + 1) w.state op o r
      → All (Sits w.state.ctl.kind v op) o
      → sums one r + sum one o ≤ n → Goes (step5 w) (Gone n v w.state.ctl.kind now op o r w))
      st.n_is st.v_is (step5_at w o)) st
