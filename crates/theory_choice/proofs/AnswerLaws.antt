-- What open and close answer follows from what was said before and from what waits, so from nothing that knows a space.
use Prim.Native.Nat.{ℕ, ◌+◌, ◌<◌}
use mathlib.Core.Path.{◌≡◌, refl, sym, ap, ap₂, ◌∙◌}
use mathlib.Core.Bool.{Bool, true, false, not, ◌&&◌}
use mathlib.Core.List.{List}
use mathlib.Core.Option.{Option, none, some}
use native.Mathlib.Omega.{arith}
use Rattle.meaning.specs.Plain.{when◌then◌else◌, ◌=?◌}
use Rattle.meaning.specs.Numbers.{connections_in, unused}
use Rattle.meaning.specs.State.{State}
use Rattle.meaning.specs.Header.{Name, named, number_in}
use Rattle.meaning.specs.Operators.{owns}
use Rattle.meaning.specs.Bucket.{bucket_of, obeys_rules}
use Rattle.meaning.specs.Words.{Connection, Second, connection_at, write_connection, second_obeys, opened_connection, closed_connection, debt}
use Rattle.meaning.specs.Calls.{called_of, open_call, close_call}
use Rattle.meaning.proofs.NamesLaws.{number_low, number_used}
use Rattle.meaning_runs.specs.Run.{Event, served}
use Rattle.meaning_runs.specs.Leak.{Opening, opening_of}
use Rattle.meaning_runs.specs.Seen.{Cell}
use Rattle.theory_queues.specs.Queue.{sum, sums, turn}
use Rattle.theory_queues.proofs.QueueLaws.{sum_map, sums_map, turn_sums}
use Rattle.theory_chains.specs.Strung.{is}
use Rattle.theory_table.specs.Stored.{level, ConnectionIs}
use Rattle.theory_table.proofs.ConnectionLaws.{debt_is}
use Rattle.theory_invariant.specs.Invariant.{cell_in, is_of, waits, Inv, Waiting, waiting}
use Rattle.theory_invariant.proofs.LengthLaws.{connections_few}
use Rattle.theory_invariant.proofs.CallLaws.{shared_in, shared_foreign, shared_out}

-- ── the answers, by opening and what waits ──
abbrev is_open : Option Opening → Bool
is_open none = false
is_open (some o) = true

abbrev opens_closed : ℕ → ℕ → ℕ → ℕ → Second → Option Opening → ℕ
opens_closed N m F C x a =
    when is_open a then 5
    else when not (obeys_rules N (bucket_of m F C 0)) then 6
    else when not (second_obeys (bucket_of x.m x.F x.C 0) x.tag) then 11
    else 0

-- own: the connection is the caller's
abbrev pub open_answers : ℕ → ℕ → Bool → Name → ℕ → ℕ → ℕ → Second → Option Opening → ℕ
open_answers N z own name m F C x a = when not (named z name) then 4 else when not own then 16 else opens_closed N m F C x a

-- how many cells of the connection v wait
abbrev pub waiting_for : ℕ → Waiting → ℕ
waiting_for v b = sums (λ (c : Cell). is v c.vci) b.cal + sum (λ (c : Cell). is v c.vci) b.out

abbrev closes_open : ℕ → ℕ → Option Opening → ℕ
closes_open now q none = 7
closes_open now q (some o) = when not (q =? 0 && level o now =? 0) then 8 else 0

abbrev pub close_answers : ℕ → Bool → Name → ℕ → ℕ → Option Opening → ℕ
close_answers z own name now q a = when not (named z name) then 4 else when not own then 16 else closes_open now q a

-- the number of what is given
eight : (b : Bool) (l k : List ℕ) → (when b then called_of 8 l else called_of 0 k).number ≡ (when b then 8 else 0)
eight true l k = refl
eight false l k = refl

others : (a b c : Bool) (l k : List ℕ)
    → (when a then called_of 5 l else when not b then called_of 6 l else when not c then called_of 11 l else called_of 0 k).number
    ≡ (when a then 5 else when not b then 6 else when not c then 11 else 0)
others true b c l k = refl
others false false c l k = refl
others false true false l k = refl
others false true true l k = refl

module _ (N z kind : ℕ) (h : List Event) (s : State) (i : Inv N z kind h s) (who : ℕ) (name : Name) where
  abbrev u : ℕ
  u = number_in s.ctl.v name

  abbrev q : ℕ
  q = waits u i.out (turn i.cal)

  queued_is : q ≡ waiting_for u (waiting i)
  queued_is =
      omega (
        arith,
        turn_sums (is_of u) i.cal,
        sums_map cell_in (λ (c : Cell). is u c.vci) i.cal,
        sum_map cell_in (λ (c : Cell). is u c.vci) i.out,
      )

  module _ (e : named s.ctl.v name ≡ true) where
    low : u < connections_in z
    low = omega (arith, number_low s.ctl.v name e, i.stage.v_is)

    entry : ConnectionIs N (connections_in z) (served h) u (connection_at s.words u) q (opening_of u h)
    entry =
        i.stage.table u (ap (λ (v : ℕ). unused v u) (sym i.stage.v_is) ∙ number_used s.ctl.v name e) low

    is_one : (a : Option Opening) → ConnectionIs N (connections_in z) (served h) u (connection_at s.words u) q a
        → (connection_at s.words u).opened =? 1 ≡ is_open a
    is_one none k = ap (λ (n : ℕ). n =? 1) k
    is_one (some o) k = ap (λ (c : Connection). c.opened =? 1) k.is

    is_nought : (a : Option Opening) → ConnectionIs N (connections_in z) (served h) u (connection_at s.words u) q a
        → (connection_at s.words u).opened =? 0 ≡ not (is_open a)
    is_nought none k = ap (λ (n : ℕ). n =? 0) k
    is_nought (some o) k = ap (λ (c : Connection). c.opened =? 0) k.is

    closing : owns s.ctl who name ≡ true → (a : Option Opening) → ConnectionIs N (connections_in z) (served h) u (connection_at s.words u) q a
        → (close_call s.ctl s.words who name).number ≡ closes_open (served h) q a
    unfolding close_call
    closing own none k = rw (shared_in N z kind h s i who name e own, is_nought none k)
    closing own (some o) k =
        rw (shared_in N z kind h s i who name e own, is_nought (some o) k, owes, waits_is)
        (eight (not (q =? 0 && level o (served h) =? 0)) s.words (write_connection s.words u closed_connection))
      where
        waits_is : (connection_at s.words u).waiting ≡ q
        waits_is = ap (λ (c : Connection). c.waiting) k.is

        owes : debt s.ctl.t (connection_at s.words u) ≡ level o (served h)
        owes =
            ap (λ (t : ℕ). debt t (connection_at s.words u)) i.stage.t_is
            ∙ debt_is N (connections_in z) (connections_few N z i.stage.ranges) (served h) u (connection_at s.words u) q o low k

    opening : owns s.ctl who name ≡ true → (m F C : ℕ) (x : Second)
        → (open_call s.ctl s.words who name m F C x).number ≡ opens_closed s.ctl.n m F C x (opening_of u h)
    unfolding open_call
    opening own m F C x =
        rw (shared_in N z kind h s i who name e own, is_one (opening_of u h) entry)
        (others (is_open (opening_of u h)) (obeys_rules s.ctl.n (bucket_of m F C 0))
        (second_obeys (bucket_of x.m x.F x.C 0) x.tag) s.words
        (write_connection s.words u (opened_connection s.ctl.t (bucket_of m F C 0) x)))

  unnamed_open : (m F C : ℕ) (x : Second) → named s.ctl.v name ≡ false → (open_call s.ctl s.words who name m F C x).number ≡ 4
  unfolding open_call
  unnamed_open m F C x e = rw (shared_out N z kind h s i who name e)

  unnamed_close : named s.ctl.v name ≡ false → (close_call s.ctl s.words who name).number ≡ 4
  unfolding close_call
  unnamed_close e = rw (shared_out N z kind h s i who name e)

  foreign_open : (m F C : ℕ) (x : Second) → named s.ctl.v name ≡ true → owns s.ctl who name ≡ false
      → (open_call s.ctl s.words who name m F C x).number ≡ 16
  unfolding open_call
  foreign_open m F C x e own = rw (shared_foreign N z kind h s i who name e own)

  foreign_close : named s.ctl.v name ≡ true → owns s.ctl who name ≡ false → (close_call s.ctl s.words who name).number ≡ 16
  unfolding close_call
  foreign_close e own = rw (shared_foreign N z kind h s i who name e own)

  pub open_answers_lem : (m F C : ℕ) (x : Second)
      → (open_call s.ctl s.words who name m F C x).number ≡ open_answers N z (owns s.ctl who name) name m F C x (opening_of (number_in z name) h)
  open_answers_lem m F C x =
      go (named s.ctl.v name) (owns s.ctl who name) refl refl
      ∙ ap₂ (λ (n v : ℕ). open_answers n v (owns s.ctl who name) name m F C x (opening_of (number_in v name) h)) i.stage.n_is i.stage.v_is
    where
      go : (b own : Bool) → named s.ctl.v name ≡ b → owns s.ctl who name ≡ own
          → (open_call s.ctl s.words who name m F C x).number
          ≡ open_answers s.ctl.n s.ctl.v (owns s.ctl who name) name m F C x (opening_of u h)
      go true true e o = rw (e, o) (opening e o m F C x)
      go true false e o = rw (e, o) (foreign_open m F C x e o)
      go false own e o = rw e (unnamed_open m F C x e)

  pub close_answers_lem : (close_call s.ctl s.words who name).number
      ≡ close_answers z (owns s.ctl who name) name (served h) (waiting_for (number_in z name) (waiting i)) (opening_of (number_in z name) h)
  close_answers_lem =
      go (named s.ctl.v name) (owns s.ctl who name) refl refl
      ∙ ap (λ (n : ℕ). close_answers s.ctl.v (owns s.ctl who name) name (served h) n (opening_of u h)) queued_is
      ∙ ap (λ (v : ℕ). close_answers v (owns s.ctl who name) name (served h) (waiting_for (number_in v name) (waiting i)) (opening_of (number_in v name) h)) i.stage.v_is
    where
      go : (b own : Bool) → named s.ctl.v name ≡ b → owns s.ctl who name ≡ own
          → (close_call s.ctl s.words who name).number ≡ close_answers s.ctl.v (owns s.ctl who name) name (served h) q (opening_of u h)
      go true true e o = rw (e, o) (closing e o (opening_of u h) (entry e))
      go true false e o = rw (e, o) (foreign_close e o)
      go false own e o = rw e (unnamed_close e)
