-- Along one opening of a connection its m, F and C stay, and each accepted cell is due at least F after the one before: document
-- 01's due time, event by event.
use Prim.Native.Nat.{ℕ, ◌+◌, ◌/◌, ◌^◌}
use mathlib.Core.Path.{◌≡◌, refl, sym, ap, ◌∙◌, subst}
use mathlib.Core.Bool.{Bool, true, false, ◌&&◌}
use mathlib.Core.List.{List, [], ◌∷◌, ◌++◌}
use mathlib.Core.Option.{Option, none, some}
use native.Mathlib.Decide.{ℕ_discrete}
use native.Mathlib.Omega.{arith}
use borrow.Author.Tests.{eq-eqb, ne_eqb}
use lib.ListN.{length}
use Rattle.meaning.specs.declared.Answer.{Answer}
use Rattle.meaning.specs.Plain.{◌=?◌}
use Rattle.meaning.specs.Header.{clp_in}
use Rattle.meaning.specs.Words.{Second}
use Rattle.meaning.specs.Arrival.{sent_as}
use Rattle.meaning_runs.specs.Run.{Event, opened, closed, ran, served}
use Rattle.meaning_runs.specs.Leak.{Opening, opening_with, parts, due_time, due_slot, accepts, sustained_after, opening_of}
use Rattle.meaning_runs.specs.Seen.{cell_under, cells_of}
use Rattle.theory_table.specs.Stored.{earliest_after}
use Rattle.theory_table.proofs.LeakLaws.{due_time_lem}
use Rattle.promise_bound.specs.Bound.{Stays, Lasts}
use Rattle.promise_bound.proofs.SpacedLaws.{Spaced, spaced_none, spaced_more}
use Rattle.promise_bound.proofs.CellLaws.{cells_new, cells_not, cells_open, cells_close}

module _ (v : ℕ) where
  not_both : (number w : ℕ) → Stays v w number → number =? 0 && w =? v ≡ false
  not_both number w ne = go (ℕ_discrete w v)
    where
      fails : (b : Bool) → b && false ≡ false
      fails true = refl
      fails false = refl

      go : Dec (w ≡ v) → number =? 0 && w =? v ≡ false
      go (yes e) = rw (ne_eqb number 0 (λ y. omega (arith, ne e, y)))
      go (no e) = rw (ne_eqb w v e) (fails (number =? 0))

  pub still_open : (h : List Event) (who w m F C : ℕ) (x : Second) (number : ℕ) → Stays v w number
      → opening_of v (opened who w m F C x number ∷ h) ≡ opening_of v h
  unfolding opening_of
  still_open h who w m F C x number ne = rw (not_both number w ne)

  pub still_closed : (h : List Event) (who w number : ℕ) → Stays v w number
      → opening_of v (closed who w number ∷ h) ≡ opening_of v h
  unfolding opening_of
  still_closed h who w number ne = rw (not_both number w ne)

  slot_of : (o : Opening) (t : ℕ) → due_slot o t ≡ due_time o t / parts o
  unfolding due_slot
  slot_of o t = refl

  pub record Under (m F C : ℕ) (x : Second) (a : ℕ) (h : List Event) : Type 0 where
    pub previous : Option ℕ
    pub sustained : Option ℕ
    pub is : opening_of v h ≡ some (opening_with m F C previous x sustained)
    pub spaced : Spaced F (2 ^ m) a (earliest_after F previous) (cells_of v h)

  module _ (m F C : ℕ) (x : Second) where
    under_start : (who : ℕ) (h : List Event) → Under m F C x (length (cells_of v h)) (opened who v m F C x 0 ∷ h)
    unfolding opening_of
    under_start who h =
        record {
          previous = none;
          sustained = none;
          is = rw (eq-eqb v v refl);
          spaced = rw (cells_open v h who v m F C x 0) (spaced_none F (2 ^ m) 0 (cells_of v h));
        }

    module _ (a : ℕ) where
      under_same : (h k : List Event) → Under m F C x a h → opening_of v k ≡ opening_of v h → cells_of v k ≡ cells_of v h
          → Under m F C x a k
      under_same h k u o c =
          record {
            previous = u.previous;
            sustained = u.sustained;
            is = o ∙ u.is;
            spaced = subst (λ l. Spaced F (2 ^ m) a (earliest_after F u.previous) l) (sym c) u.spaced;
          }

      under_new : (h : List Event) (octets : List ℕ) (b : Answer) (out : List ℕ) → accepts v b ≡ true → Under m F C x a h
          → Under m F C x a (ran octets b out ∷ h)
      unfolding opening_of
      under_new h octets b out e u =
          record {
            previous = some (due_time o (served h));
            sustained = sustained_after (served h) (clp_in octets) b.verdict o;
            is = rw (e, u.is);
            spaced = subst (λ l. Spaced F (2 ^ m) a (due_time o (served h) + F) l)
                (sym (cells_new v h octets b out e ∙ ap (λ (q : Option Opening). cells_of v h ++ (cell_under (served h) b sent q ∷ [])) u.is))
                (spaced_more F (2 ^ m) a (earliest_after F u.previous) (cells_of v h)
                (cell_under (served h) b sent (some o)) u.spaced (omega (arith, due_time_lem o (served h))) (slot_of o (served h)));
          }
        where
          o : Opening
          o = opening_with m F C u.previous x u.sustained

          sent : List ℕ
          sent = sent_as b.verdict octets

      under_ran : (h : List Event) (octets : List ℕ) (b : Answer) (out : List ℕ) → Under m F C x a h
          → Under m F C x a (ran octets b out ∷ h)
      unfolding opening_of
      under_ran h octets b out u = go (accepts v b) refl
        where
          go : (c : Bool) → accepts v b ≡ c → Under m F C x a (ran octets b out ∷ h)
          go true e = under_new h octets b out e u
          go false e = under_same h (ran octets b out ∷ h) u (rw e) (cells_not v h octets b out e)

      pub under : (during h : List Event) → Lasts v during → Under m F C x a h → Under m F C x a (during ++ h)
      under [] h l u = u
      under (opened who w n G D y number ∷ during) h l u =
          under_same (during ++ h) (opened who w n G D y number ∷ (during ++ h)) (under during h l.1 u)
          (still_open (during ++ h) who w n G D y number l.0) (cells_open v (during ++ h) who w n G D y number)
      under (closed who w number ∷ during) h l u =
          under_same (during ++ h) (closed who w number ∷ (during ++ h)) (under during h l.1 u)
          (still_closed (during ++ h) who w number l.0) (cells_close v (during ++ h) who w number)
      under (ran octets b out ∷ during) h l u = under_ran (during ++ h) octets b out (under during h l u)

    -- of the whole of an opening
    pub of_opening : (who : ℕ) (during before : List Event) → Lasts v during
        → Under m F C x (length (cells_of v before)) (during ++ (opened who v m F C x 0 ∷ before))
    of_opening who during before l =
        under (length (cells_of v before)) during (opened who v m F C x 0 ∷ before) l (under_start who before)
