-- One event more: what it adds to the slots served, to the connection's opening and to the engine's state, and that an event which
-- moves neither of the two keeps them tied.
use Prim.Native.Nat.{ℕ, suc}
use mathlib.Core.Path.{◌≡◌, sym, ◌∙◌, subst}
use mathlib.Core.Logic.{◌≢◌}
use mathlib.Core.Bool.{true, false, ◌&&◌}
use mathlib.Core.List.{List, ◌∷◌}
use mathlib.Core.Option.{Option, some}
use native.Mathlib.Omega.{arith}
use native.Mathlib.Decide.{ℕ_discrete}
use borrow.Author.Tests.{eq-eqb, ne_eqb}
use Rattle.meaning.specs.declared.Answer.{Answer}
use Rattle.meaning.specs.Plain.{◌=?◌}
use Rattle.meaning.specs.Numbers.{accepted, lets_in}
use Rattle.meaning.specs.Header.{header_at, clp_in, connection, names_connection}
use Rattle.meaning.specs.Words.{without_second}
use Rattle.meaning_runs.specs.Run.{Event, ran, served}
use Rattle.meaning_runs.specs.Leak.{Opening, opening_with, due_time, accepts, sustained_after, opening_of}
use Rattle.call_time.specs.declared.Tat.{Tat}
use Rattle.promise_agreed.specs.Agreed.{Watched, is_for, ask, engine_after}
use Rattle.promise_agreed.proofs.StepLaws.{TiedTo, tied_later}
use Rattle.promise_agreed.proofs.HeaderLaws.{and_no}

-- the connection is open as at first, without a second bucket, and the engine's state goes with its last due time
pub record Tied (w : Watched) (h : List Event) : Type 0 where
  pub previous : Option ℕ
  pub sustained : Option ℕ
  pub is : opening_of w.conn h ≡ some (opening_with w.m w.F w.C previous without_second sustained)
  pub state : TiedTo w.F (served h) previous (engine_after w h)

pub tied_of : (w : Watched) (h h' : List Event) (p q : Option ℕ) (t : ℕ) (s : Tat)
    → opening_of w.conn h' ≡ some (opening_with w.m w.F w.C p without_second q)
    → served h' ≡ t → engine_after w h' ≡ s → TiedTo w.F t p s → Tied w h'
tied_of w h h' p q t s is n e k =
    record {
      previous = p;
      sustained = q;
      is = is;
      state = subst (λ (x : ℕ). TiedTo w.F x p (engine_after w h')) (sym n)
          (subst (λ (x : Tat). TiedTo w.F t p x) (sym e) k);
    }

module _ (w : Watched) (h : List Event) (cell : List ℕ) (a : Answer) (out : List ℕ) where
  pub served_one : a.number ≡ 0 → served (ran cell a out ∷ h) ≡ suc (served h)
  unfolding served
  served_one e = rw (eq-eqb a.number 0 e) (omega arith)

  served_none : a.number ≢ 0 → served (ran cell a out ∷ h) ≡ served h
  unfolding served
  served_none e = rw (ne_eqb a.number 0 e) (omega arith)

  pub engine_asked : is_for w cell a ≡ true → engine_after w (ran cell a out ∷ h) ≡ (ask w (engine_after w h) (served h)).tat
  unfolding engine_after
  engine_asked e = rw e

  engine_still : is_for w cell a ≡ false → engine_after w (ran cell a out ∷ h) ≡ engine_after w h
  unfolding engine_after
  engine_still e = rw e

  pub opening_moved : (o : Opening) → opening_of w.conn h ≡ some o → accepts w.conn a ≡ true
      → opening_of w.conn (ran cell a out ∷ h)
      ≡ some (opening_with o.m o.F o.C (some (due_time o (served h))) o.second
      (sustained_after (served h) (clp_in cell) a.verdict o))
  unfolding opening_of
  opening_moved o q e = rw (e, q)

  pub opening_still : accepts w.conn a ≡ false → opening_of w.conn (ran cell a out ∷ h) ≡ opening_of w.conn h
  unfolding opening_of
  opening_still e = rw e

  pub for_it : a.number ≡ 0 → (names_connection w.z (header_at w.kind cell 0) && connection w.z (header_at w.kind cell 0) =? w.conn) ≡ true → is_for w cell a ≡ true
  unfolding is_for
  for_it n e = rw (eq-eqb a.number 0 n, e)

  pub not_for_it : (names_connection w.z (header_at w.kind cell 0) && connection w.z (header_at w.kind cell 0) =? w.conn) ≡ false → is_for w cell a ≡ false
  unfolding is_for
  not_for_it e = rw e (and_no (a.number =? 0))

  pub not_served : a.number ≢ 0 → is_for w cell a ≡ false
  unfolding is_for
  not_served n = rw (ne_eqb a.number 0 n)

  pub accepts_is : a.verdict ≡ accepted → a.vci ≡ w.conn → accepts w.conn a ≡ true
  unfolding accepts lets_in
  accepts_is e f = rw (e, eq-eqb a.vci w.conn f)

  pub accepts_not : lets_in a.verdict ≡ false → accepts w.conn a ≡ false
  unfolding accepts
  accepts_not e = rw e

  -- what a slot that moved neither leaves
  pub quiet : Tied w h → is_for w cell a ≡ false → accepts w.conn a ≡ false → Tied w (ran cell a out ∷ h)
  quiet k e f = go (ℕ_discrete a.number 0)
    where
      go : Dec (a.number ≡ 0) → Tied w (ran cell a out ∷ h)
      go (yes n) =
          tied_of w h (ran cell a out ∷ h) k.previous k.sustained (suc (served h)) (engine_after w h) (opening_still f ∙ k.is)
          (served_one n) (engine_still e) (tied_later w.F (served h) k.previous (engine_after w h) k.state)
      go (no n) =
          tied_of w h (ran cell a out ∷ h) k.previous k.sustained (served h) (engine_after w h) (opening_still f ∙ k.is)
          (served_none n) (engine_still e) k.state
