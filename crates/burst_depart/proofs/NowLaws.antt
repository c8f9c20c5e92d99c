-- What departs where the accepted cell joined entry T: the cell itself, where the Output List is empty, or that list's head;
-- and entry T once a cell has joined its own entry.
use Prim.Native.Nat.{ℕ, ◌+◌, ◌-◌, ◌*◌, ◌≤◌, ◌<◌}
use mathlib.Core.Path.{◌≡◌, refl, sym, ◌∙◌, ap}
use mathlib.Core.Logic.{◌≢◌, ◌⊎◌, inl, inr}
use mathlib.Core.Bool.{Bool, true, false, not}
use mathlib.Core.List.{List}
use native.Mathlib.Omega.{arith}
use native.Mathlib.Decide.{ℕ_discrete}
use Rattle.std.specs.Prelude.{Some, None}
use borrow.Author.Tests.{ltb-false, lt-ltb, eqb-true, eq-eqb, ne_eqb}
use lib.ListN.{length, set}
use Rattle.meaning.specs.declared.Record.{Record}
use Rattle.meaning.specs.Plain.{when◌then◌else◌, ◌<?◌, ◌=?◌}
use Rattle.meaning.specs.Numbers.{empty}
use Rattle.meaning.specs.Bits.{is_free_space, taken}
use Rattle.meaning.specs.State.{Ends}
use Rattle.meaning.specs.Lists.{ends_fit, entry_at, write_entry}
use Rattle.meaning.proofs.BitsLaws.{taken_own}
use Rattle.meaning.proofs.ListsLaws.{fit_head, fit_tail, fit_marked, entry_read, entry_other}
use Rattle.mem_lists.specs.Spaces.{ends_of, linked, off_as, entry_of}
use Rattle.mem_lists.specs.Leaver.{leaver_of, off_after}
use Rattle.mem_lists.proofs.LinkLaws.{linked_off, linked_own}
use Rattle.mem_lists.proofs.PairLaws.{pair_empty}
use Rattle.slot_plan.specs.Plan.{seat_ends}
use Rattle.slot_plan.proofs.Found as found
use Rattle.burst_arrive.specs.declared.Spot.{Spot}
use Rattle.burst_arrive.specs.Arriving.{seat_at}
use Rattle.burst_depart.specs.declared.Leave.{Leave}
use Rattle.burst_depart.specs.Leaving.{Left, Planned, Leaves, OffThen}
use Rattle.burst_depart.proofs.LeaveLaws.{left_after, left_fit, leaver_own, later_leaves}
use Rattle.burst_depart.proofs.PlanLaws.{joined_alone, joined_some, rest_joins}

fit_none : (N h t : ℕ) → N ≤ 1024 → ends_fit N (ends_of h t) ≡ true → h ≡ empty → t ≡ empty
fit_none N h t few f e = eqb-true t empty (pair_empty N h t (omega arith) e ∙ f)

module _ (k : Record) (p : Spot) (cells links words bits : List ℕ)
    (n_high : k.n ≤ 1024) (long : length links ≡ k.n)
    (fits : ends_fit k.n (ends_of p.head p.tail) ≡ true) (x_low : p.x < k.n)
    (one : 1 ≤ p.vci) (free : is_free_space bits p.x ≡ true)
  where
    abbrev entry : Ends
    entry = seat_ends (seat_at p)

    tail_new : p.head ≡ empty → entry.tail ≡ p.x
    unfolding seat_ends
    tail_new e = rw (eq-eqb p.head empty e) refl

    tail_more : p.head ≢ empty → entry.tail ≡ p.tail
    unfolding seat_ends
    tail_more ne = rw (ne_eqb p.head empty ne) refl

    head_is : entry.head ≡ p.x
    unfolding seat_ends
    head_is = refl

    pub tail_is : (t : ℕ) → ((p.head ≡ empty) × (t ≡ p.x)) ⊎ ((p.head ≢ empty) × (t ≡ p.tail)) → t ≡ entry.tail
    tail_is t (inl w) = w.1 ∙ sym (tail_new w.0)
    tail_is t (inr w) = w.1 ∙ sym (tail_more w.0)

    tail_low : entry.tail < k.n
    tail_low = go (ℕ_discrete p.head empty)
      where
        go : Dec (p.head ≡ empty) → entry.tail < k.n
        go (yes e) = rw (tail_new e) x_low
        go (no ne) = rw (tail_more ne) (fit_tail k.n (ends_of p.head p.tail) fits ne)

    entry_fit : ends_fit k.n entry ≡ true
    entry_fit = fit_marked k.n entry.head entry.tail (rw head_is x_low) tail_low

    entry_some : entry.head ≢ empty
    entry_some e = omega (arith, sym head_is ∙ e, x_low, n_high)

    -- the cell's own link, where it has one
    left_own : (joins : Bool) (i y : ℕ) → joins ≡ false → p.tail ≢ p.x
        → Left k.n (linked joins i y (linked (not (p.head =? empty)) p.x p.head links)) p.x entry.tail p.head p.tail
    left_own joins i y off ok = go (ℕ_discrete p.head empty)
      where
        far : p.x ≡ p.tail → ⊥
        far q = ok (sym q)

        go : Dec (p.head ≡ empty) → Left k.n (linked joins i y (linked (not (p.head =? empty)) p.x p.head links)) p.x entry.tail p.head p.tail
        go (yes e) =
            record {
              one = λ q. (e, fit_none k.n p.head p.tail n_high fits e);
              more = λ ne. absurd (ne (sym (tail_new e)));
            }
        go (no ne) =
            record {
              one = λ q. absurd (far (q ∙ tail_more ne));
              more = λ q. (
                sym
                    (linked_off joins i y (linked (not (p.head =? empty)) p.x p.head links) p.x off
                    ∙ linked_own (not (p.head =? empty)) p.x p.head links p.x (ap not (ne_eqb p.head empty ne)) refl (omega (arith, long, x_low))),
                fit_head k.n (ends_of p.head p.tail) fits ne,
                sym (tail_more ne),
              );
            }

    abbrev alone : Leave
    alone = record { space = p.x; vci = p.vci; next = p.head; tail = p.tail; marked = true; follows = None }

    alone_off : k.outhead ≡ empty → p.tail ≢ p.x
        → OffThen k p cells links words (not (k.outhead =? empty)) entry (off_as p.x p.vci (ends_of p.head p.tail))
    alone_off q ok =
        let joins = not (k.outhead =? empty) in
        let stored = linked joins k.outtail entry.head (linked (not (p.head =? empty)) p.x p.head links) in
        left_after k.n stored p.x entry.tail p.head p.tail
        (left_own joins k.outtail entry.head (ap not (eq-eqb k.outhead empty q)) ok)
        k.v k.kind cells words p.vci p.x p.vci (leaver_own k.n k.v k.kind p.vci p.x cells words p.x refl) (λ z. omega arith)
        ∙ ap (λ (y : ℕ). off_after k.n k.v k.kind cells stored words p.vci p.x y entry.tail) (sym head_is ∙ joined_alone k entry q)

    pub alone_leaves : k.outhead ≡ empty → p.tail ≢ p.x → Leaves k (taken bits p.x) entry (Some alone) (OffThen k p cells links words)
    alone_leaves q ok =
        record {
          entry_fits = entry_fit;
          departs =
              record {
                marked = λ m. (entry_some, rw (eq-eqb k.outhead empty q) refl, alone_off q ok);
                unmarked = λ m. found.no (sym m);
                space_low = x_low;
                not_free = taken_own bits p.x free;
                left_fits = fits;
              };
        }

    module _ (some : k.outhead ≢ empty) (output : ends_fit k.n (ends_of k.outhead k.outtail) ≡ true) (held : is_free_space bits k.outhead ≡ false)
        (t next tail' u : ℕ) (is-tail : t ≡ entry.tail)
        (l : Left k.n (set links k.outtail p.x) k.outhead t next tail')
        (is : leaver_of k.n k.v k.kind cells words k.outhead ≡ u)
      where
        abbrev behind : Leave
        behind = record { space = k.outhead; vci = u; next = next; tail = tail'; marked = true; follows = Some p.x }

        out_low : k.outhead < k.n
        out_low = fit_head k.n (ends_of k.outhead k.outtail) output some

        left : Left k.n (set links k.outtail entry.head) k.outhead entry.tail next tail'
        left = rw (head_is, ← is-tail) l

        planned : Planned k links entry (Some behind)
        planned =
            record {
              entry_fits = entry_fit;
              unmarked = λ e. absurd (entry_some e);
              marked = λ ne.
                  record {
                    marked = refl;
                    follows = rw (ne_eqb k.outhead empty some, head_is) refl;
                    space = joined_some k entry some;
                    rest = rest_joins k entry links k.outhead entry.tail next tail' some left;
                    space_low = out_low;
                    left_fits = left_fit k.n (set links k.outtail entry.head) k.outhead entry.tail next tail' left tail_low;
                  };
            }

        pub behind_leaves : u ≢ 0 → Leaves k (taken bits p.x) entry (Some behind) (OffThen k p cells links words)
        behind_leaves ok =
            later_leaves k cells links words bits entry behind u planned held is ok p free (omega (arith, long, out_low))

-- ---- entry T once a cell has joined entry (T+D) modulo N
module _ (N T D : ℕ) (low : T < N) where
  entry_now_lem : D ≡ 0 → entry_of N T D ≡ T
  unfolding entry_of
  entry_now_lem e = rw (lt-ltb (T + D) N (omega arith)) (omega arith)

  entry_later : D < N → D ≢ 0 → entry_of N T D ≢ T
  unfolding entry_of
  entry_later near ne = go (T + D <? N) refl
    where
      go : (b : Bool) → T + D <? N ≡ b → (when b then T + D else T + D - N) ≢ T
      go true e q = ne (omega arith)
      go false e q = omega (arith, ltb-false (T + D) N e)

  pub written_now : (calendar : List ℕ) (e : ℕ) (ends : Ends) → e ≡ entry_of N T D → D ≡ 0 → length calendar ≡ 2 * N
      → entry_at (write_entry calendar e ends) T ≡ ends
  written_now calendar e ends is zero long =
      rw (is ∙ entry_now_lem zero) (entry_read calendar T ends (omega arith))

  pub written_later : (calendar : List ℕ) (e : ℕ) (ends : Ends) → e ≡ entry_of N T D → D < N → D ≢ 0
      → entry_at (write_entry calendar e ends) T ≡ entry_at calendar T
  written_later calendar e ends is near ne =
      entry_other calendar e ends T (λ q. entry_later near ne (sym (q ∙ is)))
