-- Steps 1 and 2 of a slot, from the invariant: no test of refusal 3 fails, the clock moves on, and the connection that rotation
-- names is brought up to date.
use Prim.Native.Nat.{ℕ, suc, ◌+◌, ◌-◌, ◌%◌, ◌<◌}
use mathlib.Core.Path.{◌≡◌, refl, sym, ap, ◌∙◌, subst₂}
use mathlib.Core.Logic.{◌≢◌}
use mathlib.Core.Bool.{Bool, true, false}
use mathlib.Core.List.{List}
use mathlib.Core.Option.{Option, none, some}
use native.Mathlib.Nat.{mod-lt}
use native.Mathlib.Decide.{ℕ_discrete}
use native.Mathlib.Omega.{arith}
use borrow.Author.Tests.{eq-eqb, ne_eqb, lt-ltb}
use lib.ListN.{length}
use Rattle.meaning.specs.Plain.{Out, next}
use Rattle.meaning.specs.Numbers.{slot_numbers, words_in, connections_in, unused}
use Rattle.meaning.specs.State.{State, with_record, record_with, with_clock, with_words}
use Rattle.meaning.specs.Words.{Connection, connection_at, write_connection, up_to_date}
use Rattle.meaning.specs.Work.{Work, with_state, with_connection}
use Rattle.meaning.specs.Slot.{step1, step2}
use Rattle.meaning.proofs.WordsLaws.{write_length, write_read, write_read_other}
use Rattle.meaning_runs.specs.Leak.{Opening}
use Rattle.theory_table.specs.Stored.{stored, ConnectionIs}
use Rattle.theory_table.proofs.ClockLaws.{slots_many, clock_next, count_next, count_now}
use Rattle.theory_table.proofs.ConnectionLaws.{pass, word_fits, up_to_date_lem, now_open}
use Rattle.theory_memory.specs.Held.{Queued}
use Rattle.theory_memory.proofs.HasLaws.{tick}
use Rattle.theory_invariant.specs.Invariant.{waits, Stage}
use Rattle.theory_invariant.proofs.LengthLaws.{connections_few}

-- a step that is not refused, and what holds then
pub record Goes (f : Out Work) (P : Work → Type 0) : Type 0 where
  pub work : Work
  pub goes : f ≡ next work
  pub holds : P work

module _ (kind : ℕ) (openings : ℕ → Option Opening) (o : List Queued) (r : List (List Queued)) (now : ℕ) where
  -- after step 1 the clock is that of the slot; after step 2 the words are too
  pub record Ticked (N z j : ℕ) (w w' : Work) : Type 0 where
    pub answer_kept : w'.answer ≡ w.answer
    pub bits_kept : w'.state.bits ≡ w.state.bits
    pub stage : Stage N z kind (suc now) j w'.state.ctl.turn w'.state openings o r

  step1_at : (w : Work) → Stage w.state.ctl.n w.state.ctl.v kind now now (w.state.ctl.turn + 1) w.state openings o r
      → Goes (step1 w) (Ticked w.state.ctl.n w.state.ctl.v now w)
  unfolding step1 with_clock with_record record_with
  step1_at w st =
      record {
        work = with_state w (with_clock s ((s.ctl.t + 1) % slot_numbers) ((s.ctl.turn + 1) % N)
            ((s.ctl.rotation + 1) % connections_in z));
        goes = rw (lt-ltb s.ctl.turn N st.turn_low, lt-ltb s.ctl.rotation (connections_in z) low);
        holds = record {
          answer_kept = refl;
          bits_kept = refl;
          stage = record {
            ranges = st.ranges;
            n_is = refl;
            v_is = refl;
            t_is = count_next slot_numbers now s.ctl.t (omega (arith, slots_many)) st.t_is ∙ sym (clock_next now);
            turn_low = mod-lt (s.ctl.turn + 1) st.ranges.N_low;
            rotation_is = count_next (connections_in z) now s.ctl.rotation (omega arith) st.rotation_is
                ∙ count_now (connections_in z) now (omega arith);
            kind_is = st.kind_is;
            kind_fits = st.kind_fits;
            has = tick (omega (arith, st.ranges.N_high)) st.has;
            dates = st.dates;
            words_long = st.words_long;
            table = st.table;
          };
        };
      }
    where
      s : State
      s = w.state

      N : ℕ
      N = s.ctl.n

      z : ℕ
      z = s.ctl.v

      low : s.ctl.rotation < connections_in z
      low = omega (arith, st.rotation_is, mod-lt (now + (connections_in z - 1)) {m = connections_in z} (omega arith))

  pub step1_goes : (N z : ℕ) (w : Work) → Stage N z kind now now (w.state.ctl.turn + 1) w.state openings o r
      → Goes (step1 w) (Ticked N z now w)
  step1_goes N z w st =
      subst₂ (λ (n v : ℕ). Stage n v kind now now (w.state.ctl.turn + 1) w.state openings o r
      → Goes (step1 w) (Ticked n v now w))
      st.n_is st.v_is (step1_at w) st

  -- ── step 2 ──
  module _ (w : Work) (st : Stage w.state.ctl.n w.state.ctl.v kind (suc now) now w.state.ctl.turn w.state
      openings o r) where
    abbrev s : State
    s = w.state

    abbrev N : ℕ
    N = s.ctl.n

    abbrev z : ℕ
    z = s.ctl.v

    abbrev rot : ℕ
    rot = s.ctl.rotation

    at_now : rot ≡ now % connections_in z
    at_now = st.rotation_is ∙ sym (count_now (connections_in z) now (omega arith))

    rot_low : rot < connections_in z
    rot_low = omega (arith, at_now, mod-lt now {m = connections_in z} (omega arith))

    -- the words after step 2
    again : (words : List ℕ) → length words ≡ words_in z
        → ((v : ℕ) → unused z v ≡ false → v < connections_in z → ConnectionIs N (connections_in z) (suc now) v (connection_at words v) (waits v o r) (openings v))
        → Stage N z kind (suc now) (suc now) s.ctl.turn (with_words s words) openings o r
    unfolding with_words
    again words len t =
        record {
          ranges = st.ranges;
          n_is = st.n_is;
          v_is = st.v_is;
          t_is = st.t_is;
          turn_low = st.turn_low;
          rotation_is = st.rotation_is;
          kind_is = st.kind_is;
          kind_fits = st.kind_fits;
          has = st.has;
          dates = st.dates;
          words_long = len;
          table = t;
        }

    passing : (v : ℕ) → unused z v ≡ false → v < connections_in z → v ≢ rot → ConnectionIs N (connections_in z) (suc now) v (connection_at s.words v) (waits v o r) (openings v)
    passing v h1 h2 ne =
        pass N (connections_in z) (connections_few N z st.ranges) now v (connection_at s.words v) (waits v o r) (openings v) h2 (λ e. ne (sym e ∙ sym at_now))
        (st.table v h1 h2)

    kept : ((v : ℕ) → unused z v ≡ false → v < connections_in z → ConnectionIs N (connections_in z) (suc now) v (connection_at s.words v) (waits v o r) (openings v))
        → Ticked N z (suc now) w w
    unfolding with_words
    kept t = record { answer_kept = refl; bits_kept = refl; stage = again s.words st.words_long t }

    closed_kept : (v : ℕ) (q : ℕ) (a : Option Opening) → a ≡ none → ConnectionIs N (connections_in z) now v (connection_at s.words v) q a
        → ConnectionIs N (connections_in z) (suc now) v (connection_at s.words v) q a
    closed_kept v q none e k = k
    closed_kept v q (some a) e k = absurd (let y : ◌≡◌ {A = ℕ} 0 1 = cc in omega arith)

    module _ (is-used : unused z rot ≡ false) where
      visit : (a : Option Opening) → openings rot ≡ a → ConnectionIs N (connections_in z) now rot (connection_at s.words rot) (waits rot o r) a
          → Goes (step2 w) (Ticked N z (suc now) w)
      unfolding step2 with_words
      visit none e k =
          record {
            work = w;
            goes = rw (
              is-used,
              word_fits N (connections_in z) (connections_few N z st.ranges) now rot (connection_at s.words rot) (waits rot o r)
                  none k,
              eq-eqb (connection_at s.words rot).opened 0 k,
            );
            holds = kept (λ v h1 h2. each v h1 h2 (ℕ_discrete v rot));
          }
        where
          each : (v : ℕ) → unused z v ≡ false → v < connections_in z → Dec (v ≡ rot)
              → ConnectionIs N (connections_in z) (suc now) v (connection_at s.words v) (waits v o r) (openings v)
          each v h1 h2 (yes p) = closed_kept v (waits v o r) (openings v) (ap openings p ∙ e) (st.table v h1 h2)
          each v h1 h2 (no p) = passing v h1 h2 p
      visit (some a) e k =
          record {
            work = with_connection w rot (stored a (suc now) (waits rot o r));
            goes = rw (
              is-used,
              word_fits N (connections_in z) (connections_few N z st.ranges) now rot (connection_at s.words rot) (waits rot o r)
                  (some a) k,
              ne_eqb (connection_at s.words rot).opened 0 is_open,
              brought,
            );
            holds = record {
              answer_kept = refl;
              bits_kept = refl;
              stage = again (write_connection s.words rot new) (write_length s.words rot new ∙ st.words_long)
                  (λ v h1 h2. each v h1 h2 (ℕ_discrete v rot));
            };
          }
        where
          new : Connection
          new = stored a (suc now) (waits rot o r)

          brought : up_to_date N s.ctl.t (connection_at s.words rot) ≡ next new
          brought =
              ap (λ (t : ℕ). up_to_date N t (connection_at s.words rot)) (st.t_is ∙ clock_next now)
              ∙ up_to_date_lem N (connections_in z) (connections_few N z st.ranges) now now rot (connection_at s.words rot) (waits rot o r) a rot_low
              (omega arith) (omega arith) k

          is_open : (connection_at s.words rot).opened ≢ 0
          is_open y = omega (arith, ap (λ (c : Connection). c.opened) k.is)

          each : (v : ℕ) → unused z v ≡ false → v < connections_in z → Dec (v ≡ rot)
              → ConnectionIs N (connections_in z) (suc now) v (connection_at (write_connection s.words rot new) v) (waits v o r) (openings v)
          each v h1 h2 (yes p) =
              rw (p, write_read s.words rot new (omega (arith, st.words_long, rot_low)), e)
              (now_open N (connections_in z) (connections_few N z st.ranges) now now rot (connection_at s.words rot) (waits rot o r) a (omega arith)
              (omega arith) k)
          each v h1 h2 (no p) = rw (write_read_other s.words rot new v p) (passing v h1 h2 p)

    stays : unused z rot ≡ true → Goes (step2 w) (Ticked N z (suc now) w)
    unfolding step2
    stays e = record { work = w; goes = rw e; holds = kept (λ v h1 h2. passing v h1 h2 (λ p. another v h1 p)) }
      where
        another : (v : ℕ) → unused z v ≡ false → v ≡ rot → ⊥
        another v h p = absurd (let f : unused z rot ≡ false = rw (sym p) h in let k : ◌≡◌ {A = ℕ} 0 1 = cc in omega arith)

    step2_at : Goes (step2 w) (Ticked N z (suc now) w)
    step2_at = go (unused z rot) refl
      where
        go : (b : Bool) → unused z rot ≡ b → Goes (step2 w) (Ticked N z (suc now) w)
        go true e = stays e
        go false e = visit e (openings rot) refl (st.table rot e rot_low)

  pub step2_goes : (N z : ℕ) (w : Work) → Stage N z kind (suc now) now w.state.ctl.turn w.state openings o r
      → Goes (step2 w) (Ticked N z (suc now) w)
  step2_goes N z w st =
      subst₂ (λ (n v : ℕ). Stage n v kind (suc now) now w.state.ctl.turn w.state openings o r
      → Goes (step2 w) (Ticked n v (suc now) w))
      st.n_is st.v_is (step2_at w) st
