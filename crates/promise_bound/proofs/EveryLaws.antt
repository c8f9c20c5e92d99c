-- Each accepted cell is one of an opening: when it came its connection was open, and an open connection was opened, and not closed since.
use Prim.Native.Nat.{ℕ, ◌<◌}
use mathlib.Core.Path.{◌≡◌, refl, sym, ap, ◌∙◌, subst}
use mathlib.Core.Bool.{Bool, true, false, ◌&&◌}
use mathlib.Core.List.{List, [], ◌∷◌, ◌++◌}
use mathlib.Core.Option.{Option, none, some}
use native.Mathlib.Decide.{dec_lt}
use native.Mathlib.Omega.{arith}
use borrow.Author.Tests.{eqb-true, eq-eqb}
use lib.ListN.{length, length-append}
use Rattle.meaning.specs.declared.Answer.{Answer}
use Rattle.meaning.specs.Plain.{when◌then◌else◌, ◌=?◌}
use Rattle.meaning.specs.Numbers.{lets_in}
use Rattle.meaning.specs.Header.{clp_in}
use Rattle.meaning.specs.Words.{Second}
use Rattle.meaning.specs.Arrival.{sent_as}
use Rattle.meaning_runs.specs.Run.{Event, opened, closed, ran, served}
use Rattle.meaning_runs.specs.Leak.{Opening, new_opening, accepts, after_cell, opening_of}
use Rattle.meaning_runs.specs.Seen.{cell_under, cells_in, cells_of}
use Rattle.theory_table.proofs.LeakLaws.{and_left, and_right}
use Rattle.promise_bound.specs.Bound.{Stays, Lasts, OfOpening}
use Rattle.promise_bound.proofs.CellLaws.{Grown, grown, cells_new, cells_not, cells_open, cells_close}
use Rattle.promise_bound.proofs.AcceptedLaws.{IsOpen, AcceptedOpen}

-- ── an open connection was opened ──
record Found (v : ℕ) (h : List Event) : Type 0 where
  operator : ℕ
  m : ℕ
  F : ℕ
  C : ℕ
  second : Second
  before : List Event
  during : List Event
  is : h ≡ during ++ (opened operator v m F C second 0 ∷ before)
  lasts : Lasts v during

module _ (v : ℕ) where
  found_more : (e : Event) (h : List Event) → Found v h → ((during : List Event) → Lasts v during → Lasts v (e ∷ during))
      → Found v (e ∷ h)
  found_more e h f l =
      record {
        operator = f.operator;
        m = f.m;
        F = f.F;
        C = f.C;
        second = f.second;
        before = f.before;
        during = e ∷ f.during;
        is = ap (λ x. e ∷ x) f.is;
        lasts = l f.during f.lasts;
      }

  unless : (number u : ℕ) → number =? 0 && u =? v ≡ false → Stays v u number
  unless number u e w n =
      let y : ◌≡◌ {A = Bool} true false = sym (rw (eq-eqb u v w, eq-eqb number 0 n)) ∙ e in
      let x : ◌≡◌ {A = ℕ} 0 1 = cc in
      omega arith

  -- a cell that is let in moves an opening on, and begins none
  was_open : (t clp verdict : ℕ) (b : Bool) (x : Option Opening) → IsOpen (when b then after_cell t clp verdict x else x) → IsOpen x
  was_open t clp verdict true none o = o
  was_open t clp verdict true (some x) o = tt
  was_open t clp verdict false x o = o

  found : (h : List Event) → IsOpen (opening_of v h) → Found v h
  unfolding opening_of
  found [] o = absurd o
  found (opened who u m F C x number ∷ h) o = go (number =? 0 && u =? v) refl (λ y. found h y) o
    where
      go : (b : Bool) → number =? 0 && u =? v ≡ b → (IsOpen (opening_of v h) → Found v h)
          → IsOpen (when b then some (new_opening m F C x) else opening_of v h) → Found v (opened who u m F C x number ∷ h)
      go true e f y =
          record {
            operator = who;
            m = m;
            F = F;
            C = C;
            second = x;
            before = h;
            during = [];
            is = ap (λ (n : ℕ). opened who u m F C x n ∷ h) (eqb-true number 0 (and_left (number =? 0) (u =? v) e))
                ∙ ap (λ (w : ℕ). opened who w m F C x 0 ∷ h) (eqb-true u v (and_right (number =? 0) (u =? v) e));
            lasts = tt;
          }
      go false e f y = found_more (opened who u m F C x number) h (f y) (λ during l. (unless number u e, l))
  found (closed who u number ∷ h) o = go (number =? 0 && u =? v) refl (λ y. found h y) o
    where
      go : (b : Bool) → number =? 0 && u =? v ≡ b → (IsOpen (opening_of v h) → Found v h)
          → IsOpen (when b then none else opening_of v h) → Found v (closed who u number ∷ h)
      go true e f y = absurd y
      go false e f y = found_more (closed who u number) h (f y) (λ during l. (unless number u e, l))
  found (ran cell a out ∷ h) o =
      found_more (ran cell a out) h (found h (was_open (served h) (clp_in cell) a.verdict (accepts v a) (opening_of v h) o)) (λ during l. l)

  -- ── so each cell is of one ──
  of_later : (k : ℕ) (e : Event) (h : List Event) → OfOpening v k h → OfOpening v k (e ∷ h)
  of_later k e h f =
      let o = f.opening in
      record {
        m = f.m;
        F = f.F;
        C = f.C;
        opening = record {
          operator = o.operator;
          second = o.second;
          before = o.before;
          during = o.during;
          later = e ∷ o.later;
          is = ap (λ x. e ∷ x) o.is;
          lasts = o.lasts;
        };
        from = f.from;
        below = f.below;
      }

  of_found : (k : ℕ) (h : List Event) (cell : List ℕ) (a : Answer) (out : List ℕ) → k ≡ length (cells_of v h)
      → accepts v a ≡ true → Found v h → OfOpening v k (ran cell a out ∷ h)
  of_found k h cell a out e y f =
      record {
        m = f.m;
        F = f.F;
        C = f.C;
        opening = record {
          operator = f.operator;
          second = f.second;
          before = f.before;
          during = ran cell a out ∷ f.during;
          later = [];
          is = ap (λ x. ran cell a out ∷ x) f.is;
          lasts = f.lasts;
        };
        from = omega (
          arith,
          e,
          ap (λ l. length (cells_of v l)) f.is,
          ap length g.is,
          length-append (cells_of v (opened f.operator v f.m f.F f.C f.second 0 ∷ f.before)) g.rest,
          ap length (cells_open v f.before f.operator v f.m f.F f.C f.second 0),
        );
        below = omega (
          arith,
          e,
          ap (λ l. length (cells_of v (ran cell a out ∷ l))) f.is,
          ap length (cells_new v h cell a out y),
          length-append (cells_of v h) (cell_under (served h) a (sent_as a.verdict cell) (opening_of v h) ∷ []),
        );
      }
    where
      g : Grown v (cells_of v (opened f.operator v f.m f.F f.C f.second 0 ∷ f.before))
          (cells_of v (f.during ++ (opened f.operator v f.m f.F f.C f.second 0 ∷ f.before)))
      g = grown v f.during (opened f.operator v f.m f.F f.C f.second 0 ∷ f.before)

  nothing_yet : length (cells_of v []) ≡ 0
  unfolding cells_of cells_in
  nothing_yet = refl

  named : (h : List Event) (a : Answer) → accepts v a ≡ true → (lets_in a.verdict ≡ true → IsOpen (opening_of a.vci h))
      → IsOpen (opening_of v h)
  unfolding accepts
  named h a e f =
      subst (λ (u : ℕ). IsOpen (opening_of u h)) (eqb-true a.vci v (and_right (lets_in a.verdict) (a.vci =? v) e))
      (f (and_left (lets_in a.verdict) (a.vci =? v) e))

  pub every : (h : List Event) → AcceptedOpen h → (k : ℕ) → k < length (cells_of v h) → OfOpening v k h
  every [] p k low = absurd (omega (arith, low, nothing_yet))
  every (opened who u m F C x number ∷ h) p k low =
      of_later k (opened who u m F C x number) h
      (every h p k (omega (arith, low, ap length (cells_open v h who u m F C x number))))
  every (closed who u number ∷ h) p k low =
      of_later k (closed who u number) h (every h p k (omega (arith, low, ap length (cells_close v h who u number))))
  every (ran cell a out ∷ h) p k low = go (accepts v a) refl (dec_lt k (length (cells_of v h))) (λ y. every h p.1 k y)
    where
      go : (b : Bool) → accepts v a ≡ b → Dec (k < length (cells_of v h)) → (k < length (cells_of v h) → OfOpening v k h)
          → OfOpening v k (ran cell a out ∷ h)
      go b e (yes y) f = of_later k (ran cell a out) h (f y)
      go true e (no y) f =
          of_found k h cell a out
          (omega (
            arith,
            low,
            y,
            ap length (cells_new v h cell a out e),
            length-append (cells_of v h) (cell_under (served h) a (sent_as a.verdict cell) (opening_of v h) ∷ []),
          ))
          e (found h (named h a e p.0))
      go false e (no y) f = absurd (omega (arith, low, y, ap length (cells_not v h cell a out e)))
