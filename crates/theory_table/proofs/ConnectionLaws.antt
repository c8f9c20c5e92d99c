-- A connection's words through a run: a slot that passes it by, being brought up to date, a cell let in, a cell that leaves, an opening.
-- Each bucket's S at the last update is what its exact leak rule leaves (BucketLaws), so verdict and D are the rules' own.
use Prim.Native.Nat.{ℕ, zero, suc, ◌+◌, ◌-◌, ◌*◌, ◌%◌, ◌^◌, ◌≤◌, ◌<◌}
use mathlib.Core.Path.{◌≡◌, refl, ap, ◌∙◌}
use mathlib.Core.Bool.{Bool, true, false, ◌&&◌}
use mathlib.Core.Option.{Option, none, some}
use native.Mathlib.Omega.{arith}
use lib.Pow.{pow_pos}
use borrow.Author.Tests.{le-leb, eq-eqb}
use Rattle.meaning.specs.Plain.{when◌then◌else◌, ◌=?◌, next}
use Rattle.meaning.specs.Numbers.{slot_numbers, accepted}
use Rattle.meaning.specs.Bucket.{Bucket, bucket_of, obeys_rules, fall, delay, fill}
use Rattle.meaning.specs.Words.{Connection, Second, with_waiting, with_buckets, opened_connection, open_word_fits, bucket_fits, second_obeys, second_in_range, buckets_fit, connection_fits, fallen_to, up_to_date, debt}
use Rattle.meaning.specs.Arrival.{second_after}
use Rattle.meaning_runs.specs.Leak.{Opening, opening_with, new_opening, parts, due_after, due_time, due_slot, leak_accepts, sustains, sustained_after}
use Rattle.theory_table.specs.Stored.{earliest, level_after, bucket_after, level, level_second, clock, stored, OpenConnection, ConnectionIs}
use Rattle.theory_table.proofs.ClockLaws.{clock_next, elapsed_is, gap_suc, gap_lt}
use Rattle.theory_table.proofs.LeakLaws.{due_slot_lem, div_mono, rules_are, rules_any, second_C_low, second_any}
use Rattle.theory_table.proofs.BucketLaws.{one_less, falls, falls_low, level_fresh, leak_le, fills, fills_low}

module _ (N R : ℕ) (few : R ≤ 1_280) where
  -- a slot that does not name it
  pub pass : (now v : ℕ) (vc : Connection) (q : ℕ) (o : Option Opening) → v < R → (now % R ≡ v → ⊥) → ConnectionIs N R now v vc q o
      → ConnectionIs N R (suc now) v vc q o
  pass now v vc q none hv ne k = k
  pass now v vc q (some o) hv ne k =
      record {
        seen = k.seen;
        is = k.is;
        unused = k.unused;
        unused_second = k.unused_second;
        past = omega (arith, k.past);
        near = omega (arith, k.near, gap_suc R v now hv ne);
        rules = k.rules;
        rules_second = k.rules_second;
        full = k.full;
        full_second = k.full_second;
      }

  -- the tests of refusal 3
  pub word_fits : (now v : ℕ) (vc : Connection) (q : ℕ) (o : Option Opening) → ConnectionIs N R now v vc q o → open_word_fits vc ≡ true
  unfolding open_word_fits
  word_fits now v vc q none k = le-leb vc.opened 1 (omega (arith, k))
  word_fits now v vc q (some o) k = rw k.is

  pub buckets_fit_lem : (now v : ℕ) (vc : Connection) (q : ℕ) (o : Opening) (c : OpenConnection N R now v vc q o)
      → buckets_fit N (stored o c.seen q) ≡ true
  unfolding buckets_fit bucket_fits second_in_range
  buckets_fit_lem now v vc q o c =
      rw (
        rules_any N o.m o.F o.C (level o c.seen) c.rules,
        le-leb (level o c.seen) o.C c.full,
        second_any o.second.m o.second.F o.second.C (level_second o c.seen) o.second.tag c.rules_second,
        le-leb (level_second o c.seen) o.second.C c.full_second,
      )

  pub connection_fits_lem : (now v : ℕ) (vc : Connection) (q : ℕ) (o : Option Opening) → q ≤ N → ConnectionIs N R now v vc q o → connection_fits N vc ≡ true
  unfolding connection_fits open_word_fits
  connection_fits_lem now v vc q none low k = rw (eq-eqb vc.opened 0 k)
  connection_fits_lem now v vc q (some o) low k = rw k.is (rw (buckets_fit_lem now v vc q o k, le-leb q N low) refl)

  -- brought up to date in the slot `now`: both buckets fall by the same slots
  pub up_to_date_lem : (now k v : ℕ) (vc : Connection) (q : ℕ) (o : Opening) → v < R → now ≤ k → k ≤ suc now → OpenConnection N R k v vc q o
      → up_to_date N (now % slot_numbers) vc ≡ next (stored o (suc now) q)
  unfolding up_to_date fallen_to
  up_to_date_lem now k v vc q o hv k0 k1 c =
      rw (
        c.is,
        buckets_fit_lem k v vc q o c,
        elapsed_is now c.seen (omega (arith, c.past)) (omega (arith, c.near, c.past, gap_lt R v k hv)),
        falls o.m o.F o.C o.previous now c.seen c.unused (omega (arith, c.past)),
        falls o.second.m o.second.F o.second.C o.sustained now c.seen c.unused_second (omega (arith, c.past)),
        clock_next now,
      )

  -- S as close works it out between two slots: what is left of the peak bucket at the last slot served
  pub debt_is : (now v : ℕ) (vc : Connection) (q : ℕ) (o : Opening) → v < R → OpenConnection N R now v vc q o
      → debt (clock now) vc ≡ level o now
  unfolding debt fall
  debt_is zero v vc q o hv c =
      rw c.is
      (omega (
        arith,
        c.unused (omega (arith, c.past)),
        level_fresh o.m o.F o.C o.previous c.seen (c.unused (omega (arith, c.past))),
      ))
  debt_is (suc now) v vc q o hv c =
      rw (
        c.is,
        clock_next now,
        elapsed_is now c.seen c.past (omega (arith, c.near, gap_lt R v (suc now) hv)),
      )
      (ap (λ (b : Bucket). b.S) (falls o.m o.F o.C o.previous now c.seen c.unused c.past))

  pub now_open : (now k v : ℕ) (vc : Connection) (q : ℕ) (o : Opening) → now ≤ k → k ≤ suc now → OpenConnection N R k v vc q o
      → OpenConnection N R (suc now) v (stored o (suc now) q) q o
  now_open now k v vc q o k0 k1 c =
      record {
        seen = suc now;
        is = refl;
        unused = λ e. absurd (omega arith);
        unused_second = λ e. absurd (omega arith);
        past = omega arith;
        near = omega arith;
        rules = c.rules;
        rules_second = c.rules_second;
        full = falls_low o.m o.F o.C o.previous now c.seen c.unused (omega (arith, c.past)) c.full;
        full_second = falls_low o.second.m o.second.F o.second.C o.sustained now c.seen c.unused_second
            (omega (arith, c.past)) c.full_second;
      }

  -- D is the due slot less the arrival slot, and below N
  pub delay_due : (o : Opening) (now q : ℕ) → due_slot o now ≡ now + delay (stored o (suc now) q).bucket
  unfolding delay
  delay_due o now q = rw (one_less now) (due_slot_lem o now)

  pub delay_low : (o : Opening) (now q : ℕ) → obeys_rules N (bucket_of o.m o.F o.C 0) ≡ true
      → leak_accepts o now ≡ true → delay (stored o (suc now) q).bucket < N
  unfolding delay leak_accepts
  delay_low o now q r e =
      rw (one_less now)
      (omega (
        arith,
        div_mono (earliest o - now * parts o) (o.C - o.F) (parts o) (pow_pos o.m)
            (leak_le o.m o.F o.C o.previous now e),
        (rules_are N (bucket_of o.m o.F o.C 0) r).C_high,
      ))

  abbrev pub moved : ℕ → ℕ → ℕ → Opening → Opening
  moved t clp verdict o =
      opening_with o.m o.F o.C (some (due_time o t)) o.second (sustained_after t clp verdict o)

  -- the second bucket, which is filled or not
  module _ (m F C : ℕ) (p : Option ℕ) (now : ℕ) where
    abbrev on : Bool → Option ℕ
    on b = when b then some (due_after (2 ^ m) F now p) else p

    second_filled : (b : Bool)
        → (when b then fill (bucket_after m F C p (suc now)) else bucket_after m F C p (suc now)) ≡ bucket_after m F C (on b) (suc now)
    second_filled true = fills m F C p now
    second_filled false = refl

  -- a cell let in, in the slot `now`
  pub filled : (o : Opening) (now q clp verdict : ℕ)
      → with_waiting (with_buckets (stored o (suc now) q) (fill (stored o (suc now) q).bucket)
      (second_after clp verdict (stored o (suc now) q).second)) (q + 1)
      ≡ stored (moved now clp verdict o) (suc now) (suc q)
  unfolding second_after due_time
  filled o now q clp verdict =
      λ i. record {
        opened = 1;
        bucket = fills o.m o.F o.C o.previous now i;
        last = clock (suc now);
        waiting = more i;
        second = second_filled o.second.m o.second.F o.second.C o.sustained now (clp =? 0 && verdict =? accepted) i;
        tag = o.second.tag;
      }
    where
      more : q + 1 ≡ suc q
      more = omega arith

  pub filled_open : (o : Opening) (now k v q clp verdict : ℕ) (vc : Connection) → leak_accepts o now ≡ true
      → (clp =? 0 && verdict =? accepted ≡ true → sustains o now ≡ true) → k ≤ suc now → OpenConnection N R k v vc q o
      → OpenConnection N R (suc now) v (stored (moved now clp verdict o) (suc now) (suc q)) (suc q) (moved now clp verdict o)
  unfolding leak_accepts sustains due_time
  filled_open o now k v q clp verdict vc e e2 k1 c =
      record {
        seen = suc now;
        is = refl;
        unused = λ e. absurd (omega arith);
        unused_second = λ e. absurd (omega arith);
        past = omega arith;
        near = omega arith;
        rules = c.rules;
        rules_second = c.rules_second;
        full = fills_low o.m o.F o.C o.previous now e
            (rules_are N (bucket_of o.m o.F o.C 0) c.rules).C_low;
        full_second = go (clp =? 0 && verdict =? accepted) e2;
      }
    where
      x : Second
      x = o.second

      go : (b : Bool) → (b ≡ true → sustains o now ≡ true)
          → level_after x.m x.F (on x.m x.F x.C o.sustained now b) (suc now) ≤ x.C
      go true f = fills_low x.m x.F x.C o.sustained now (f refl)
          (second_C_low (bucket_of x.m x.F x.C 0) x.tag c.rules_second)
      go false f = falls_low x.m x.F x.C o.sustained now c.seen c.unused_second (omega (arith, c.past))
          c.full_second

  -- a cell leaves
  pub left_open : (now v : ℕ) (vc : Connection) (q : ℕ) (o : Opening) → OpenConnection N R now v vc (suc q) o
      → OpenConnection N R now v (with_waiting vc (vc.waiting - 1)) q o
  left_open now v vc q o c =
      record {
        seen = c.seen;
        is = ap (λ (w : Connection). with_waiting w (w.waiting - 1)) c.is ∙ ap (stored o c.seen) (omega arith);
        unused = c.unused;
        unused_second = c.unused_second;
        past = c.past;
        near = c.near;
        rules = c.rules;
        rules_second = c.rules_second;
        full = c.full;
        full_second = c.full_second;
      }

  -- an opening
  pub opened_open : (now v m F C : ℕ) (x : Second) → obeys_rules N (bucket_of m F C 0) ≡ true
      → second_obeys (bucket_of x.m x.F x.C 0) x.tag ≡ true
      → OpenConnection N R now v (opened_connection (clock now) (bucket_of m F C 0) x) 0 (new_opening m F C x)
  unfolding opened_connection
  opened_open now v m F C x r r2 =
      record {
        seen = now;
        is = λ i. record {
          opened = 1;
          bucket = bucket_of m F C (nought m i);
          last = clock now;
          waiting = 0;
          second = bucket_of x.m x.F x.C (nought x.m i);
          tag = x.tag;
        };
        unused = λ e. refl;
        unused_second = λ e. refl;
        past = omega arith;
        near = omega arith;
        rules = r;
        rules_second = r2;
        full = omega arith;
        full_second = omega arith;
      }
    where
      nought : (m : ℕ) → 0 ≡ 0 - (now - 1) * 2 ^ m
      nought m = omega arith
