-- The CLP 0 cells of an opening that pass untagged are those that fill its second bucket, and each was within its rule: so they
-- keep to it. By induction over what came while the opening lasted.
use Prim.Native.Nat.{ℕ, ◌^◌}
use mathlib.Core.Path.{◌≡◌, refl, sym, ◌∙◌, subst}
use mathlib.Core.Bool.{Bool, true, false, ◌&&◌}
use mathlib.Core.List.{List, [], ◌∷◌, ◌++◌}
use mathlib.Core.Option.{Option, none, some}
use borrow.Author.Tests.{eqb-true}
use Rattle.meaning.specs.declared.Answer.{Answer}
use Rattle.meaning.specs.Plain.{◌=?◌}
use Rattle.meaning.specs.Numbers.{accepted, lets_in}
use Rattle.meaning.specs.Header.{clp_in}
use Rattle.meaning.specs.Words.{Second}
use Rattle.meaning_runs.specs.Run.{Event, opened, closed, ran, served}
use Rattle.meaning_runs.specs.Leak.{Opening, opening_with, due_time, leak_after, sustains, verdict_by, accepts, sustained_after, opening_of}
use Rattle.theory_table.proofs.LeakLaws.{and_left, and_right}
use Rattle.theory_table.proofs.VerdictLaws.{verdict_says}
use Rattle.promise_bound.specs.Bound.{Lasts}
use Rattle.promise_bound.proofs.OpeningLaws.{still_open, still_closed}
use Rattle.promise_sustained.specs.Sustained.{Keeps, comes, passes, slots_of}
use Rattle.promise_sustained.proofs.RuleLaws.{Reckoned, reckoned_none, reckoned_more, keeps_none, keeps_more}
use Rattle.promise_sustained.proofs.SaidLaws.{not_so, Said, SaidAll}

-- a cell that passes is let in
passes_in : (v : ℕ) (cell : List ℕ) (a : Answer) → passes v cell a ≡ true → accepts v a ≡ true
unfolding passes accepts lets_in
passes_in v cell a e = rw (verdict, and_left (a.vci =? v) (clp && untagged) e)
  where
    clp : Bool
    clp = clp_in cell =? 0

    untagged : Bool
    untagged = a.verdict =? accepted

    verdict : a.verdict ≡ accepted
    verdict = eqb-true a.verdict accepted (and_right clp untagged (and_right (a.vci =? v) (clp && untagged) e))

module _ (kind z v m F C : ℕ) (x : Second) (before : List Event) where
  abbrev passed : List Event → List ℕ
  passed during = slots_of (passes v) before during

  -- the connection is open as it was opened, with the last due times p and q; q is that of the cells which passed
  pub record Kept (during : List Event) : Type 0 where
    pub p : Option ℕ
    pub q : Option ℕ
    pub is : opening_of v (during ++ before) ≡ some (opening_with m F C p x q)
    pub reckoned : Reckoned (2 ^ x.m) x.F (slots_of (passes v) before during) q
    pub keeps : Keeps x.m x.F x.C (slots_of (passes v) before during)

  -- one slot more
  module _ (during : List Event) (k : Kept during) (cell : List ℕ) (a : Answer) (out : List ℕ)
      (s : Said kind z (during ++ before) cell a) where
    abbrev h : List Event
    h = during ++ before

    abbrev o : Opening
    o = opening_with m F C k.p x k.q

    abbrev clp : ℕ
    clp = clp_in cell

    -- a cell that was let in with the connection's number is its own, and its verdict the leak rules'
    verdict_is : accepts v a ≡ true → a.verdict ≡ verdict_by o clp (served h)
    unfolding accepts
    verdict_is y = go (comes kind z v cell a) refl
      where
        go : (b : Bool) → comes kind z v cell a ≡ b → a.verdict ≡ verdict_by o (clp_in cell) (served (during ++ before))
        go true c = (s.own v o c k.is).1
        go false c =
            not_so (sym (and_left (lets_in a.verdict) (a.vci =? v) y)
            ∙ (s.other v c (eqb-true a.vci v (and_right (lets_in a.verdict) (a.vci =? v) y))).0)

    within : accepts v a ≡ true → clp =? 0 && a.verdict =? accepted ≡ true
        → leak_after (2 ^ x.m) x.F x.C (served h) k.q ≡ true
    unfolding sustains
    within y e =
        (verdict_says o clp (served h)).1
        (subst (λ (n : ℕ). clp_in cell =? 0 && n =? accepted ≡ true) (verdict_is y) e)

    -- a cell of the connection let in, that fills the second bucket or not
    let_in_lem : accepts v a ≡ true → (b : Bool) → clp =? 0 && a.verdict =? accepted ≡ b → Kept (ran cell a out ∷ during)
    unfolding opening_of accepts passes
    let_in_lem y true e =
        record {
          p = some (due_time o (served h));
          q = sustained_after (served h) clp a.verdict o;
          is = rw (y, k.is);
          reckoned = rw (mine, e) (reckoned_more (2 ^ x.m) x.F (served h) (passed during) k.q k.reckoned);
          keeps = rw (mine, e)
              (keeps_more x.m x.F x.C (served h) (passed during) k.q k.reckoned k.keeps (within y e));
        }
      where
        mine : a.vci =? v ≡ true
        mine = and_right (lets_in a.verdict) (a.vci =? v) y
    let_in_lem y false e =
        record {
          p = some (due_time o (served h));
          q = sustained_after (served h) clp a.verdict o;
          is = rw (y, k.is);
          reckoned = rw (mine, e) k.reckoned;
          keeps = rw (mine, e) k.keeps;
        }
      where
        mine : a.vci =? v ≡ true
        mine = and_right (lets_in a.verdict) (a.vci =? v) y

    -- none of it let in
    let_none : accepts v a ≡ false → Kept (ran cell a out ∷ during)
    unfolding opening_of
    let_none y =
        record {
          p = k.p;
          q = k.q;
          is = rw y k.is;
          reckoned = rw not_passed k.reckoned;
          keeps = rw not_passed k.keeps;
        }
      where
        go : (b : Bool) → passes v cell a ≡ b → b ≡ false
        go false e = refl
        go true e = not_so (sym (passes_in v cell a e) ∙ y)

        not_passed : passes v cell a ≡ false
        not_passed = go (passes v cell a) refl

    one_more : Kept (ran cell a out ∷ during)
    one_more = go (accepts v a) refl
      where
        go : (b : Bool) → accepts v a ≡ b → Kept (ran cell a out ∷ during)
        go true y = let_in_lem y (clp =? 0 && a.verdict =? accepted) refl
        go false y = let_none y

  pub all_kept : opening_of v before ≡ some (opening_with m F C none x none) → (during : List Event) → Lasts v during
      → SaidAll kind z (during ++ before) → Kept during
  all_kept e [] l s =
      record {
        p = none;
        q = none;
        is = e;
        reckoned = reckoned_none (2 ^ x.m) x.F;
        keeps = keeps_none x.m x.F x.C;
      }
  all_kept e (opened who u n G D y number ∷ during) l s =
      let k = all_kept e during l.1 s in
      record {
        p = k.p;
        q = k.q;
        is = still_open v (during ++ before) who u n G D y number l.0 ∙ k.is;
        reckoned = k.reckoned;
        keeps = k.keeps;
      }
  all_kept e (closed who u number ∷ during) l s =
      let k = all_kept e during l.1 s in
      record {
        p = k.p;
        q = k.q;
        is = still_closed v (during ++ before) who u number l.0 ∙ k.is;
        reckoned = k.reckoned;
        keeps = k.keeps;
      }
  all_kept e (ran cell a out ∷ during) l s = one_more during (all_kept e during l s.1) cell a out s.0
