-- A source that keeps to both rules is let alone: each of its cells is within both, so each fills both, CLP 0 cells the second
-- bucket, and the rules are reckoned from all its cells. By induction over what came while the opening lasted.
use Prim.Native.Nat.{ℕ, zero, suc, ◌+◌, ◌^◌, ◌≤◌, ◌<◌}
use mathlib.Core.Path.{◌≡◌, refl, ◌∙◌}
use mathlib.Core.Logic.{◌≢◌}
use mathlib.Core.Bool.{Bool, true, false, not, ◌&&◌}
use mathlib.Core.List.{List, [], ◌∷◌, ◌++◌}
use mathlib.Core.Option.{Option, none, some}
use native.Mathlib.Decide.{ℕ_discrete}
use native.Mathlib.Nat.{not-suc-le-zero, le_of_suc-le-suc}
use native.Mathlib.Omega.{arith}
use borrow.Author.Tests.{eq-eqb, ne_eqb}
use lib.ListN.{length, get_or}
use Rattle.meaning.specs.declared.Answer.{Answer}
use Rattle.meaning.specs.Plain.{when◌then◌else◌, ◌=?◌}
use Rattle.meaning.specs.Numbers.{accepted, excess, tagged, lets_in}
use Rattle.meaning.specs.Header.{clp_in}
use Rattle.meaning.specs.Words.{Second}
use Rattle.meaning_runs.specs.Run.{Event, opened, closed, ran, served}
use Rattle.meaning_runs.specs.Leak.{Opening, opening_with, due_time, leak_accepts, sustains, verdict_by, accepts, sustained_after, opening_of}
use Rattle.promise_bound.specs.Bound.{Lasts}
use Rattle.promise_bound.proofs.OpeningLaws.{still_open, still_closed}
use Rattle.promise_sustained.specs.Sustained.{Keeps, comes, comes_zero, slots_of, Untouched}
use Rattle.promise_sustained.proofs.RuleLaws.{Reckoned, reckoned_none, reckoned_more, keeps_rest, keeps_takes}
use Rattle.promise_sustained.proofs.SaidLaws.{not_so, Said, SaidAll}

-- no slot that was noted is after those served
slots_low : (p : List ℕ → Answer → Bool) (before during : List Event) (j : ℕ) → j < length (slots_of p before during)
    → get_or (slots_of p before during) j 0 ≤ served (during ++ before)
unfolding served
slots_low p before [] j low = absurd (not-suc-le-zero low)
slots_low p before (opened who u m F C x number ∷ during) j low = slots_low p before during j low
slots_low p before (closed who u number ∷ during) j low = slots_low p before during j low
slots_low p before (ran cell a out ∷ during) j low = go (p cell a) (λ i. slots_low p before during i) j low
  where
    go : (b : Bool)
        → ((i : ℕ) → i < length (slots_of p before during) → get_or (slots_of p before during) i 0 ≤ served (during ++ before))
        → (j : ℕ)
        → j < length (when b then served (during ++ before) ∷ slots_of p before during else slots_of p before during)
        → get_or (when b then served (during ++ before) ∷ slots_of p before during else slots_of p before during) j 0
        ≤ (when a.number =? 0 then 1 else 0) + served (during ++ before)
    go true f zero low = omega arith
    go true f (suc j) low = omega (arith, f j (le_of_suc-le-suc low))
    go false f j low = omega (arith, f j low)

-- where neither rule stops it, a cell is accepted
accepted_by : (o : Opening) (clp t : ℕ) → leak_accepts o t ≡ true → (clp =? 0 ≡ true → sustains o t ≡ true)
    → verdict_by o clp t ≡ accepted
unfolding verdict_by
accepted_by o clp t e f = rw e (go (clp =? 0) f)
  where
    go : (b : Bool) → (b ≡ true → sustains o t ≡ true)
        → (when b && not (sustains o t) then (when o.second.tag =? 0 then excess else tagged) else accepted) ≡ accepted
    go true f = rw (f refl)
    go false f = refl

module _ (kind z v m F C : ℕ) (x : Second) (before : List Event) where
  abbrev came : List Event → List ℕ
  came during = slots_of (comes kind z v) before during

  abbrev came_zero : List Event → List ℕ
  came_zero during = slots_of (comes_zero kind z v) before during

  -- both rules are reckoned from all cells so far, and none was touched
  pub record Alone (during : List Event) : Type 0 where
    pub p : Option ℕ
    pub q : Option ℕ
    pub is : opening_of v (during ++ before) ≡ some (opening_with m F C p x q)
    pub peak : Reckoned (2 ^ m) F (slots_of (comes kind z v) before during) p
    pub second : Reckoned (2 ^ x.m) x.F (slots_of (comes_zero kind z v) before during) q
    pub untouched : Untouched v during

  -- one slot more
  module _ (during : List Event) (k : Alone during) (cell : List ℕ) (a : Answer) (out : List ℕ)
      (s : Said kind z (during ++ before) cell a)
      (keeps : Keeps m F C (slots_of (comes kind z v) before (ran cell a out ∷ during)))
      (keeps-second : Keeps x.m x.F x.C (slots_of (comes_zero kind z v) before (ran cell a out ∷ during))) where
    abbrev t : ℕ
    t = served (during ++ before)

    abbrev o : Opening
    o = opening_with m F C k.p x k.q

    abbrev clp : ℕ
    clp = clp_in cell

    -- ── a cell of the connection ──
    module _ (c : comes kind z v cell a ≡ true) where
      zero_is : comes_zero kind z v cell a ≡ (clp_in cell =? 0)
      unfolding comes_zero
      zero_is = rw c

      within_peak : leak_accepts o t ≡ true
      unfolding leak_accepts
      within_peak =
          keeps_takes m F C t (came during) k.p k.peak (rw c at keeps) (slots_low (comes kind z v) before during)

      within_rate : clp =? 0 ≡ true → sustains o t ≡ true
      unfolding sustains
      within_rate e =
          keeps_takes x.m x.F x.C t (came_zero during) k.q k.second (rw (zero_is, e) at keeps-second)
          (slots_low (comes_zero kind z v) before during)

      verdict_is : a.verdict ≡ accepted
      verdict_is = (s.own v o c k.is).1 ∙ accepted_by o clp t within_peak within_rate

      let_in_lem : accepts v a ≡ true
      unfolding accepts lets_in
      let_in_lem = rw (verdict_is, eq-eqb a.vci v (s.own v o c k.is).0)

      second_more : (b : Bool) → clp =? 0 ≡ b
          → Reckoned (2 ^ x.m) x.F (slots_of (comes_zero kind z v) before (ran cell a out ∷ during)) (sustained_after t clp accepted o)
      second_more true e = rw (zero_is, e) (reckoned_more (2 ^ x.m) x.F t (came_zero during) k.q k.second)
      second_more false e = rw (zero_is, e) k.second

      own_cell : Alone (ran cell a out ∷ during)
      unfolding opening_of due_time
      own_cell =
          record {
            p = some (due_time o t);
            q = sustained_after t clp accepted o;
            is = rw (let_in_lem, k.is, verdict_is);
            peak = rw c (reckoned_more (2 ^ m) F t (came during) k.p k.peak);
            second = second_more (clp =? 0) refl;
            untouched = (λ e. (λ f. omega (arith, f, verdict_is), λ f. omega (arith, f, verdict_is)), k.untouched);
          }

    -- ── any other ──
    module _ (c : comes kind z v cell a ≡ false) where
      not_zero : comes_zero kind z v cell a ≡ false
      unfolding comes_zero
      not_zero = rw c

      not_in : accepts v a ≡ false
      unfolding accepts
      not_in = go (ℕ_discrete a.vci v)
        where
          and_false : (b : Bool) → b && false ≡ false
          and_false true = refl
          and_false false = refl

          go : Dec (a.vci ≡ v) → lets_in a.verdict && a.vci =? v ≡ false
          go (yes e) = rw (s.other v c e).0
          go (no e) = rw (ne_eqb a.vci v e) (and_false (lets_in a.verdict))

      left_alone : a.vci ≡ v → (a.verdict ≢ excess) × (a.verdict ≢ tagged)
      unfolding lets_in
      left_alone e = ((s.other v c e).1, λ f. not_so (rw f at (s.other v c e).0))

      other_cell : Alone (ran cell a out ∷ during)
      unfolding opening_of
      other_cell =
          record {
            p = k.p;
            q = k.q;
            is = rw not_in k.is;
            peak = rw c k.peak;
            second = rw not_zero k.second;
            untouched = (left_alone, k.untouched);
          }

    one_more : Alone (ran cell a out ∷ during)
    one_more = go (comes kind z v cell a) refl
      where
        go : (b : Bool) → comes kind z v cell a ≡ b → Alone (ran cell a out ∷ during)
        go true c = own_cell c
        go false c = other_cell c

  -- a stretch less
  keeps_less : (p : List ℕ → Answer → Bool) (n G D : ℕ) (during : List Event) (cell : List ℕ) (a : Answer) (out : List ℕ)
      → Keeps n G D (slots_of p before (ran cell a out ∷ during)) → Keeps n G D (slots_of p before during)
  keeps_less p n G D during cell a out = go (p cell a)
    where
      go : (b : Bool)
          → Keeps n G D (when b then served (during ++ before) ∷ slots_of p before during else slots_of p before during)
          → Keeps n G D (slots_of p before during)
      go true k = keeps_rest n G D (served (during ++ before)) (slots_of p before during) k
      go false k = k

  pub all_alone : opening_of v before ≡ some (opening_with m F C none x none) → (during : List Event) → Lasts v during
      → SaidAll kind z (during ++ before)
      → Keeps m F C (slots_of (comes kind z v) before during) → Keeps x.m x.F x.C (slots_of (comes_zero kind z v) before during)
      → Alone during
  all_alone e [] l s f g =
      record {
        p = none;
        q = none;
        is = e;
        peak = reckoned_none (2 ^ m) F;
        second = reckoned_none (2 ^ x.m) x.F;
        untouched = tt;
      }
  all_alone e (opened who u n G D y number ∷ during) l s f g =
      let k = all_alone e during l.1 s f g in
      record {
        p = k.p;
        q = k.q;
        is = still_open v (during ++ before) who u n G D y number l.0 ∙ k.is;
        peak = k.peak;
        second = k.second;
        untouched = k.untouched;
      }
  all_alone e (closed who u number ∷ during) l s f g =
      let k = all_alone e during l.1 s f g in
      record {
        p = k.p;
        q = k.q;
        is = still_closed v (during ++ before) who u number l.0 ∙ k.is;
        peak = k.peak;
        second = k.second;
        untouched = k.untouched;
      }
  all_alone e (ran cell a out ∷ during) l s f g =
      one_more during
      (all_alone e during l s.1 (keeps_less (comes kind z v) m F C during cell a out f)
      (keeps_less (comes_zero kind z v) x.m x.F x.C during cell a out g))
      cell a out s.0 f g
