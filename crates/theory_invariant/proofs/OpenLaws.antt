-- Open and close keep the invariant, refused or not, and are never refused with 3. At an opening no cell of the connection is
-- queued, since each queued cell's connection is open; at a close none is, since waiting is 0.
use Prim.Native.Nat.{ℕ, ◌<◌}
use mathlib.Core.Path.{◌≡◌, refl, sym, ap, ◌∙◌, subst}
use mathlib.Core.Logic.{◌≢◌}
use mathlib.Core.Bool.{Bool, true, false}
use mathlib.Core.List.{List, ◌∷◌}
use mathlib.Core.Option.{Option, none, some}
use native.Mathlib.Omega.{arith}
use borrow.Author.Tests.{eq-eqb, ne_eqb, eqb-true, eqb-false}
use Rattle.meaning.specs.Plain.{◌=?◌}
use Rattle.meaning.specs.Numbers.{connections_in, unused}
use Rattle.meaning.specs.Header.{Name, named, number_in}
use Rattle.meaning.specs.State.{State, with_words}
use Rattle.meaning.specs.Bucket.{bucket_of, obeys_rules}
use Rattle.meaning.specs.Operators.{owns}
use Rattle.meaning.specs.Words.{Connection, Second, connection_at, write_connection, second_obeys, opened_connection, closed_connection, debt}
use Rattle.meaning.specs.Calls.{Called, called_of, open_call, close_call}
use Rattle.meaning.proofs.NamesLaws.{number_low, number_used}
use Rattle.meaning_runs.specs.Run.{Event, opened, closed, served}
use Rattle.meaning_runs.specs.Leak.{Opening, new_opening, opening_of}
use Rattle.meaning_runs.specs.Seen.{cells_in, departures_in}
use Rattle.theory_queues.specs.Queue.{turn}
use Rattle.theory_queues.proofs.QueueLaws.{turn_sums, all_map, alls_map}
use Rattle.theory_table.specs.Stored.{ConnectionIs}
use Rattle.theory_table.proofs.ConnectionLaws.{opened_open}
use Rattle.theory_memory.specs.Held.{Queued}
use Rattle.theory_invariant.specs.Invariant.{is_of, waits, Under, Sits, Inv, waiting}
use Rattle.theory_invariant.proofs.LengthLaws.{connections_few}
use Rattle.theory_invariant.proofs.CallLaws.{Away, sum_away, sums_away, Still, unchanged, renewed, shared_in, shared_foreign, shared_out}

module _ (N z kind : ℕ) (h : List Event) (s : State) (i : Inv N z kind h s) where
  abbrev now : ℕ
  now = served h

  abbrev op : ℕ → Option Opening
  op v = opening_of v h

  -- the connection that a call names
  used : (name : Name) → named s.ctl.v name ≡ true → unused z (number_in s.ctl.v name) ≡ false
  used name e = ap (λ (v : ℕ). unused v (number_in s.ctl.v name)) (sym i.stage.v_is) ∙ number_used s.ctl.v name e

  below : (name : Name) → named s.ctl.v name ≡ true → number_in s.ctl.v name < connections_in z
  below name e = omega (arith, number_low s.ctl.v name e, i.stage.v_is)

  -- ── open ──
  module _ (who u m F C : ℕ) (x : Second) where
    abbrev second_in_range : Bool
    second_in_range = second_obeys (bucket_of x.m x.F x.C 0) x.tag

    still_open : (number : ℕ) → Still h (opened who u m F C x number ∷ h)
    unfolding served cells_in departures_in
    still_open number = record { slots = refl; cells = refl; departures = refl }

    refused_open : (number : ℕ) → number ≢ 0 → Inv N z kind (opened who u m F C x number ∷ h) s
    unfolding opening_of
    refused_open number ne =
        unchanged N z kind h s i (opened who u m F C x number ∷ h) (still_open number) (λ v. rw (ne_eqb number 0 ne))

    own_open : opening_of u (opened who u m F C x 0 ∷ h) ≡ some (new_opening m F C x)
    unfolding opening_of
    own_open = rw (eq-eqb u u refl)

    other_open : (v : ℕ) → v ≢ u → opening_of v (opened who u m F C x 0 ∷ h) ≡ opening_of v h
    unfolding opening_of
    other_open v ne = rw (ne_eqb u v (λ e. ne (sym e)))

    shut : (a : Option Opening) → op u ≡ a → ConnectionIs N (connections_in z) now u (connection_at s.words u) (waits u i.out (turn i.cal)) a
        → (connection_at s.words u).opened ≢ 1 → op u ≡ none
    shut none e k ne = e
    shut (some a) e k ne = absurd (ne (ap (λ (c : Connection). c.opened) k.is))

    away : op u ≡ none → (c : Queued) → Sits kind z op c → Away u c
    away e c p f = subst (λ (a : Option Opening). Under a c.cell) (ap op f ∙ e) p.2

    pub opens : unused z u ≡ false → u < connections_in z → (connection_at s.words u).opened ≢ 1 → obeys_rules N (bucket_of m F C 0) ≡ true → second_in_range ≡ true
        → Inv N z kind (opened who u m F C x 0 ∷ h) (with_words s (write_connection s.words u (opened_connection s.ctl.t (bucket_of m F C 0) x)))
    opens h1 h2 ne rules rules2 =
        renewed N z kind h s i u h2 (all_map (Sits kind z op) (Away u) (away none_is) i.out i.sits_out)
        (alls_map (Sits kind z op) (Away u) (away none_is) i.cal i.sits_cal)
        (opened_connection s.ctl.t (bucket_of m F C 0) x) (some (new_opening m F C x))
        (rw i.stage.t_is (opened_open N (connections_in z) (connections_few N z i.stage.ranges) now u m F C x rules rules2)) (opened who u m F C x 0 ∷ h)
        (still_open 0) own_open other_open
      where
        none_is : op u ≡ none
        none_is = shut (op u) refl (i.stage.table u h1 h2) ne

    -- the number, and the invariant
    pub record Opens (c : Called) : Type 0 where
      pub inv : Inv N z kind (opened who u m F C x c.number ∷ h) (with_words s c.words)
      pub waits_on_lem : waiting inv ≡ waiting i
      pub not_three : c.number ≢ 3

    given : (number : ℕ) → number ≢ 0 → number ≢ 3 → Opens (called_of number s.words)
    unfolding with_words refused_open unchanged
    given number ne three = record { inv = refused_open number ne; waits_on_lem = refl; not_three = three }

  module _ (who : ℕ) (name : Name) (m F C : ℕ) (x : Second) where
    abbrev which : ℕ
    which = number_in s.ctl.v name

    pub open_kept : Opens who (number_in s.ctl.v name) m F C x (open_call s.ctl s.words who name m F C x)
    unfolding open_call opens renewed
    open_kept =
        go (named s.ctl.v name) (owns s.ctl who name) ((connection_at s.words which).opened =? 1) (obeys_rules N (bucket_of m F C 0))
        (second_in_range who which m F C x) refl refl refl refl refl
      where
        go : (a o b c d : Bool) → named s.ctl.v name ≡ a → owns s.ctl who name ≡ o → (connection_at s.words which).opened =? 1 ≡ b
            → obeys_rules N (bucket_of m F C 0) ≡ c → second_in_range who which m F C x ≡ d
            → Opens who which m F C x (open_call s.ctl s.words who name m F C x)
        go false o b c d e p f g k =
            rw (shared_out N z kind h s i who name e) (given who which m F C x 4 (λ y. omega arith) (λ y. omega arith))
        go true false b c d e p f g k =
            rw (shared_foreign N z kind h s i who name e p) (given who which m F C x 16 (λ y. omega arith) (λ y. omega arith))
        go true true true c d e p f g k =
            rw (shared_in N z kind h s i who name e p, f) (given who which m F C x 5 (λ y. omega arith) (λ y. omega arith))
        go true true false false d e p f g k =
            rw (
              shared_in N z kind h s i who name e p,
              f,
              ap (λ (n : ℕ). obeys_rules n (bucket_of m F C 0)) i.stage.n_is ∙ g,
            ) (given who which m F C x 6 (λ y. omega arith) (λ y. omega arith))
        go true true false true false e p f g k =
            rw (
              shared_in N z kind h s i who name e p,
              f,
              ap (λ (n : ℕ). obeys_rules n (bucket_of m F C 0)) i.stage.n_is ∙ g,
              k,
            ) (given who which m F C x 11 (λ y. omega arith) (λ y. omega arith))
        go true true false true true e p f g k =
            rw (
              shared_in N z kind h s i who name e p,
              f,
              ap (λ (n : ℕ). obeys_rules n (bucket_of m F C 0)) i.stage.n_is ∙ g,
              k,
            )
            (record {
              inv = opens who which m F C x (used name e) (below name e) (eqb-false (connection_at s.words which).opened 1 f) g k;
              waits_on_lem = refl;
              not_three = λ y. omega arith;
            })

  -- ── close ──
  module _ (who u : ℕ) where
    still_close : (number : ℕ) → Still h (closed who u number ∷ h)
    unfolding served cells_in departures_in
    still_close number = record { slots = refl; cells = refl; departures = refl }

    refused_close : (number : ℕ) → number ≢ 0 → Inv N z kind (closed who u number ∷ h) s
    unfolding opening_of
    refused_close number ne = unchanged N z kind h s i (closed who u number ∷ h) (still_close number) (λ v. rw (ne_eqb number 0 ne))

    own_close : opening_of u (closed who u 0 ∷ h) ≡ none
    unfolding opening_of
    own_close = rw (eq-eqb u u refl)

    other_close : (v : ℕ) → v ≢ u → opening_of v (closed who u 0 ∷ h) ≡ opening_of v h
    unfolding opening_of
    other_close v ne = rw (ne_eqb u v (λ e. ne (sym e)))

    none_wait : (a : Option Opening) (q : ℕ) → ConnectionIs N (connections_in z) now u (connection_at s.words u) q a → (connection_at s.words u).opened ≢ 0
        → (connection_at s.words u).waiting ≡ 0 → q ≡ 0
    none_wait none q k ne e = absurd (ne k)
    none_wait (some a) q k ne e = sym (ap (λ (c : Connection). c.waiting) k.is) ∙ e

    pub closes : unused z u ≡ false → u < connections_in z → (connection_at s.words u).opened ≢ 0 → (connection_at s.words u).waiting ≡ 0
        → Inv N z kind (closed who u 0 ∷ h) (with_words s (write_connection s.words u closed_connection))
    unfolding closed_connection
    closes h1 h2 ne e =
        renewed N z kind h s i u h2 (sum_away u i.out (omega (arith, nobody_waits)))
        (sums_away u i.cal (omega (arith, nobody_waits, turn_sums (is_of u) i.cal)))
        closed_connection none refl (closed who u 0 ∷ h) (still_close 0) own_close other_close
      where
        nobody_waits : waits u i.out (turn i.cal) ≡ 0
        nobody_waits = none_wait (op u) (waits u i.out (turn i.cal)) (i.stage.table u h1 h2) ne e

    pub record Closes (c : Called) : Type 0 where
      pub inv : Inv N z kind (closed who u c.number ∷ h) (with_words s c.words)
      pub waits_on_lem : waiting inv ≡ waiting i
      pub not_three : c.number ≢ 3

    ended : (number : ℕ) → number ≢ 0 → number ≢ 3 → Closes (called_of number s.words)
    unfolding with_words refused_close unchanged
    ended number ne three = record { inv = refused_close number ne; waits_on_lem = refl; not_three = three }

  module _ (who : ℕ) (name : Name) where
    abbrev whose : ℕ
    whose = number_in s.ctl.v name

    pub close_kept : Closes who (number_in s.ctl.v name) (close_call s.ctl s.words who name)
    unfolding close_call closes renewed
    close_kept =
        go (named s.ctl.v name) (owns s.ctl who name) ((connection_at s.words whose).opened =? 0) none_waits paid refl refl refl refl refl
      where
        none_waits : Bool
        none_waits = (connection_at s.words whose).waiting =? 0

        paid : Bool
        paid = debt s.ctl.t (connection_at s.words whose) =? 0

        go : (a o b c d : Bool) → named s.ctl.v name ≡ a → owns s.ctl who name ≡ o → (connection_at s.words whose).opened =? 0 ≡ b
            → none_waits ≡ c → paid ≡ d
            → Closes who whose (close_call s.ctl s.words who name)
        go false o b c d e q f g p = rw (shared_out N z kind h s i who name e) (ended who whose 4 (λ y. omega arith) (λ y. omega arith))
        go true false b c d e q f g p =
            rw (shared_foreign N z kind h s i who name e q) (ended who whose 16 (λ y. omega arith) (λ y. omega arith))
        go true true true c d e q f g p =
            rw (shared_in N z kind h s i who name e q, f) (ended who whose 7 (λ y. omega arith) (λ y. omega arith))
        go true true false false d e q f g p =
            rw (shared_in N z kind h s i who name e q, f, g) (ended who whose 8 (λ y. omega arith) (λ y. omega arith))
        go true true false true false e q f g p =
            rw (shared_in N z kind h s i who name e q, f, g, p) (ended who whose 8 (λ y. omega arith) (λ y. omega arith))
        go true true false true true e q f g p =
            rw (shared_in N z kind h s i who name e q, f, g, p)
            (record {
              inv = closes who whose (used name e) (below name e) (eqb-false (connection_at s.words whose).opened 0 f)
                  (eqb-true (connection_at s.words whose).waiting 0 g);
              waits_on_lem = refl;
              not_three = λ y. omega arith;
            })
