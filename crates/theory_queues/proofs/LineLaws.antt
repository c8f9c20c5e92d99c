-- What holds of the line after every slot: a tick leaves each rest of the calendar one cell short of its queues, so that
-- one cell may arrive; what is due is transferred, and the head departs, at most w slots late.
use Prim.Native.Nat.{ℕ, zero, suc, ◌+◌, ◌≤◌, ◌<◌}
use mathlib.Core.Path.{◌≡◌, ap, ◌∙◌}
use mathlib.Core.List.{List, [], ◌∷◌, ◌++◌, tail}
use native.Mathlib.Nat.{le_of_suc-le-suc, suc_inj}
use native.Mathlib.Omega.{arith}
use lib.ListN.{length}
use Rattle.theory_queues.specs.Queue.{sum, sums, one, All, flat, first, turn, put, bare, Fits, Loose, Timed, Late, Good, Arrived, Moved}
use Rattle.theory_queues.proofs.QueueLaws.{sum_append, turn_length, turn_sums, put_length, put_sums, bare_length, bare_sums, all_map, all_append}

loose_fits : {C : Type 0} (r : List (List C)) → Loose r → Fits r
loose_fits [] h = tt
loose_fits (q ∷ r) h = (omega arith, loose_fits r h.1)

fits_turn : {C : Type 0} (r : List (List C)) → Fits r → Loose (turn r)
fits_turn [] h = (omega arith, tt)
fits_turn (q ∷ r) h = (omega (arith, turn_sums one r, turn_length r), fits_turn r h.1)

fits_put : {C : Type 0} (D : ℕ) (c : C) (r : List (List C)) → D < length r → Loose r → Fits (put D c r)
fits_put D c [] l h = tt
fits_put zero c (q ∷ r) l h = (omega arith, loose_fits r h.1)
fits_put (suc D) c (q ∷ r) l h = (
  omega (arith, put_sums one D c r (le_of_suc-le-suc l), put_length D c r),
  fits_put D c r (le_of_suc-le-suc l) h.1,
)

fits_all : {C : Type 0} (r : List (List C)) → Fits r → sums one r ≤ length r
fits_all [] h = omega arith
fits_all (q ∷ r) h = h.0

fits_bare : (C : Type 0) (w : ℕ) → Fits (bare {C = C} w)
fits_bare C zero = tt
fits_bare C (suc w) = (omega (arith, bare_sums (one {C = C}) w), fits_bare C w)

module _ {C : Type 0} (due : C → ℕ) where
  timed_bare : (n w : ℕ) → Timed due n (bare w)
  timed_bare n zero = tt
  timed_bare n (suc w) = (tt, timed_bare (suc n) w)

  pub timed_turn : (n : ℕ) (r : List (List C)) → Timed due n r → Timed due n (turn r)
  timed_turn n [] h = (tt, tt)
  timed_turn n (q ∷ r) h = (h.0, timed_turn (suc n) r h.1)

  timed_put : (n D : ℕ) (c : C) (r : List (List C)) → due c ≡ n + D → Timed due n r → Timed due n (put D c r)
  timed_put n D c [] e h = tt
  timed_put n zero c (q ∷ r) e h = ((omega arith, h.0), h.1)
  timed_put n (suc D) c (q ∷ r) e h = (h.0, timed_put (suc n) D c r (omega arith) h.1)

  late_due : (w d n : ℕ) (q : List C) → All (λ c. due c ≡ d) q → n + sum one q ≤ d + suc w → Late due w n q
  late_due w d n [] h k = tt
  late_due w d n (c ∷ cs) h k = (omega arith, late_due w d (suc n) cs h.1 (omega arith))

  late_append : (w d n : ℕ) (o q : List C) → Late due w n o → All (λ c. due c ≡ d) q → n + sum one o + sum one q ≤ d + suc w
      → Late due w n (o ++ q)
  late_append w d n [] q l h k = late_due w d n q h (omega arith)
  late_append w d n (c ∷ cs) q l h k = (l.0, late_append w d (suc n) cs q l.1 h (omega arith))

  -- before any slot
  pub fresh_good : (w : ℕ) → Good due w 0 (bare w) []
  fresh_good w =
      record {
        long = bare_length C w;
        fits = fits_bare C w;
        room = omega (arith, bare_sums (one {C = C}) w);
        timed = timed_bare 0 w;
        late = tt;
        ripe = tt;
      }

  -- no cell is accepted
  pub arrive_none : (w n : ℕ) (r : List (List C)) (o : List C) → Good due w n r o → Arrived due w n (turn r) o
  arrive_none w n r o g =
      record {
        long = turn_length r ∙ ap suc g.long;
        fits = loose_fits (turn r) (fits_turn r g.fits);
        room = omega (arith, turn_sums one r, g.room);
        timed = timed_turn n r g.timed;
        late = g.late;
        ripe = g.ripe;
      }

  -- the cell c is accepted, with delay D
  pub arrive_some : (w n : ℕ) (r : List (List C)) (o : List C) (D : ℕ) (c : C) → D ≤ w → due c ≡ n + D → Good due w n r o
      → Arrived due w n (put D c (turn r)) o
  arrive_some w n r o D c low e g =
      record {
        long = put_length D c (turn r) ∙ turn_length r ∙ ap suc g.long;
        fits = fits_put D c (turn r) h (fits_turn r g.fits);
        room = omega (arith, put_sums one D c (turn r) h, turn_sums one r, g.room);
        timed = timed_put n D c (turn r) e (timed_turn n r g.timed);
        late = g.late;
        ripe = g.ripe;
      }
    where
      h : D < length (turn r)
      h = omega (arith, turn_length r, g.long)

  -- what is due is transferred
  pub move : (w n : ℕ) (r : List (List C)) (o : List C) → Arrived due w n r o → Moved due w n (tail r) (o ++ first r)
  move w n [] o h = absurd (omega (arith, h.long))
  move w n (q ∷ r) o h =
      record {
        long = suc_inj h.long;
        fits = h.fits.1;
        room = omega (arith, sum_append one o q, h.room);
        timed = h.timed.1;
        late = late_append w n n o q h.late h.timed.0 (omega (arith, h.room));
        ripe = all_append (λ c. due c ≤ n) o q (all_map (λ c. due c < n) (λ c. due c ≤ n) (λ c k. omega arith) o h.ripe)
            (all_map (λ c. due c ≡ n) (λ c. due c ≤ n) (λ c k. omega arith) q h.timed.0);
      }

  -- the head departs
  pub leave : (w n : ℕ) (r : List (List C)) (o : List C) → Moved due w n r o → Good due w (suc n) r (tail o)
  leave w n r [] m =
      record {
        long = m.long;
        fits = m.fits;
        room = omega (arith, fits_all r m.fits, m.long);
        timed = m.timed;
        late = tt;
        ripe = tt;
      }
  leave w n r (c ∷ o) m =
      record {
        long = m.long;
        fits = m.fits;
        room = omega (arith, m.room);
        timed = m.timed;
        late = m.late.1;
        ripe = all_map (λ c. due c ≤ n) (λ c. due c < suc n) (λ c k. omega arith) o m.ripe.1;
      }

  -- not before its due slot, and at most w slots after
  pub head_in_time : (w n : ℕ) (r : List (List C)) (c : C) (o : List C) → Moved due w n r (c ∷ o)
      → (due c ≤ n) × (n ≤ due c + w)
  head_in_time w n r c o m = (m.ripe.0, m.late.0)

  late_all : (w n : ℕ) (o : List C) → Late due w n o → All (λ c. n ≤ due c + w) o
  late_all w n [] h = tt
  late_all w n (c ∷ o) h =
      (h.0, all_map (λ c. suc n ≤ due c + w) (λ c. n ≤ due c + w) (λ c k. omega arith) o (late_all w (suc n) o h.1))

  timed_all_lem : (n : ℕ) (r : List (List C)) → Timed due n r → All (λ c. n ≤ due c) (flat r)
  timed_all_lem n [] h = tt
  timed_all_lem n (q ∷ r) h =
      all_append (λ c. n ≤ due c) q (flat r) (all_map (λ c. due c ≡ n) (λ c. n ≤ due c) (λ c k. omega arith) q h.0)
      (all_map (λ c. suc n ≤ due c) (λ c. n ≤ due c) (λ c k. omega arith) (flat r) (timed_all_lem (suc n) r h.1))

  -- a cell that waits can still be in time
  pub still_in_time : (w n : ℕ) (r : List (List C)) (o : List C) → Good due w n r o → All (λ c. n ≤ due c + w) (o ++ flat r)
  still_in_time w n r o g =
      all_append (λ c. n ≤ due c + w) o (flat r) (late_all w n o g.late)
      (all_map (λ c. n ≤ due c) (λ c. n ≤ due c + w) (λ c k. omega arith) (flat r) (timed_all_lem n r g.timed))
