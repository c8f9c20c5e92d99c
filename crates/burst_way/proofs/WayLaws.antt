-- The clock of a policer on its way: the record before the slot to come has that slot's record as its clocked one, a slot
-- that is over becomes the record before the next, and stepping round changes neither.
use Rattle.std.proofs.Common.{◌≡◌, ℕ, ◌+◌, ◌-◌, ◌%◌, ◌<◌, ◌≤◌, Bool, true, false, sym, refl, ap, ◌∙◌, mod-eq_of_lt, arith, ne_eqb, eqb-true}
use native.Mathlib.Nat.{mod_self}
use borrow.Author.Tests.{eqb-false}
use Rattle.meaning.specs.declared.Record.{Record}
use Rattle.meaning.specs.Plain.{when◌then◌else◌, ◌=?◌}
use Rattle.meaning.specs.Numbers.{connections_in, slot_numbers}
use Rattle.slot_plan.specs.Plan.{clocked}
use Rattle.meaning.specs.State.{record_with}
use Rattle.burst_way.specs.declared.Way.{Way}
use Rattle.burst_way.specs.Way.{slot_record, last_record, one_back, stepped_way, rounded_way}

-- one less and one more again, modulo n
back_more : (x n : ℕ) → x < n → (one_back x n + 1) % n ≡ x
back_more x n low = go (x =? 0) refl
  where
    go : (b : Bool) → (x =? 0) ≡ b → ((when b then n - 1 else x - 1) + 1) % n ≡ x
    go true e =
        let z : n - 1 + 1 ≡ n = omega arith in
        ap (λ (y : ℕ). y % n) z ∙ mod_self n ∙ sym (eqb-true x 0 e)
    go false e =
        let ne = eqb-false x 0 e in
        let z : x - 1 + 1 ≡ x = omega (arith, ne) in
        ap (λ (y : ℕ). y % n) z ∙ mod-eq_of_lt low

-- one more and one less again
more_back : (x n : ℕ) → x < n → one_back ((x + 1) % n) n ≡ x
more_back x n low = go ((x + 1) =? n) refl
  where
    go : (b : Bool) → ((x + 1) =? n) ≡ b → one_back ((x + 1) % n) n ≡ x
    go true e =
        let z = eqb-true (x + 1) n e in
        ap (λ (y : ℕ). one_back y n) (ap (λ (y : ℕ). y % n) z ∙ mod_self n) ∙ omega (arith, z)
    go false e =
        let ne = eqb-false (x + 1) n e in
        ap (λ (y : ℕ). one_back y n) (mod-eq_of_lt {n = x + 1} {m = n} (omega (arith, ne)))
        ∙ simp (ne_eqb (x + 1) 0 (λ q. omega arith)) (omega arith)

-- the same of t
t_back_more : (t : ℕ) → t < 4294967296 → ((t + 4294967295) % 4294967296 + 1) % 4294967296 ≡ t
t_back_more t low = omega arith

t_more_back : (t : ℕ) → t < 4294967296 → ((t + 1) % 4294967296 + 4294967295) % 4294967296 ≡ t
t_more_back t low = omega arith

-- a record with this clock
abbrev at : Way → ℕ → ℕ → ℕ → Record
at w t turn rotation =
    record {
      n = w.n;
      v = w.v;
      t = t;
      turn = turn;
      rotation = rotation;
      free = w.free;
      outhead = w.outhead;
      outtail = w.outtail;
      raw = w.raw;
      mode = w.mode;
      kind = w.kind;
      splitvci = w.splitvci;
      splitpath = w.splitpath;
    }

same_clock : (w : Way) (t t' turn turn' rotation rotation' : ℕ) → t ≡ t' → turn ≡ turn' → rotation ≡ rotation'
    → at w t turn rotation ≡ at w t' turn' rotation'
same_clock w t t' turn turn' rotation rotation' p q r = rw (p, q, r)

-- the slot to come
pub last_clocked : (w : Way) → w.t < 4294967296 → w.turn < w.n → w.rotation < connections_in w.v → clocked (last_record w) ≡ slot_record w
unfolding clocked record_with last_record slot_numbers
last_clocked w t turn rotation =
    same_clock w _ _ _ _ _ _ (t_back_more w.t t) (back_more w.turn w.n turn) (back_more w.rotation (connections_in w.v) rotation)

-- the slot that is over
next_back : (x n : ℕ) → one_back (x + 1) n ≡ x
next_back x n = simp (ne_eqb (x + 1) 0 (λ q. omega arith)) (omega arith)

pub stepped_last : (w : Way) → w.t < 4294967296 → last_record (stepped_way w) ≡ slot_record w
unfolding last_record slot_numbers
stepped_last w t =
    same_clock w _ _ _ _ _ _ (t_more_back w.t t) (next_back w.turn w.n) (next_back w.rotation (connections_in w.v))

-- stepping round
round_back : (x n : ℕ) → 1 ≤ n → one_back (when x =? n then 0 else x) n ≡ one_back x n
round_back x n low = go (x =? n) refl
  where
    go : (b : Bool) → (x =? n) ≡ b → one_back (when b then 0 else x) n ≡ one_back x n
    go true e =
        let z = eqb-true x n e in
        sym (simp (ne_eqb x 0 (λ q. omega (arith, z))) (omega (arith, z)))
    go false e = refl

pub rounded_last : (w : Way) → 1 ≤ w.n → last_record (rounded_way w) ≡ last_record w
unfolding last_record slot_numbers
rounded_last w n =
    same_clock w _ _ _ _ _ _ refl (round_back w.turn w.n n) (round_back w.rotation (connections_in w.v) (omega arith))

-- a record's way leads back to it
pub way_last : (w : Way) (t turn rotation : ℕ) → w.t ≡ (t + 1) % 4294967296 → w.turn ≡ (turn + 1) % w.n → w.rotation ≡ (rotation + 1) % connections_in w.v
    → t < 4294967296
    → turn < w.n
    → rotation < connections_in w.v
    → last_record w ≡ at w t turn rotation
unfolding last_record slot_numbers
way_last w t turn rotation p q r low₁ low₂ low₃ =
    same_clock w _ _ _ _ _ _ (ap (λ (x : ℕ). (x + 4294967295) % 4294967296) p ∙ t_more_back t low₁)
    (ap (λ (x : ℕ). one_back x w.n) q ∙ more_back turn w.n low₂)
    (ap (λ (x : ℕ). one_back x (connections_in w.v)) r ∙ more_back rotation (connections_in w.v) low₃)

-- a record's way, its clock as step 1 moves it, whatever its mask
abbrev pub way_of : Record → ℕ → ℕ → ℕ → ℕ → ℕ → Way
way_of r n t turn rotation mask =
    record {
      n = n;
      v = r.v;
      t = t;
      turn = turn;
      rotation = rotation;
      free = r.free;
      outhead = r.outhead;
      outtail = r.outtail;
      raw = r.raw;
      mode = r.mode;
      kind = r.kind;
      mask = mask;
      splitvci = r.splitvci;
      splitpath = r.splitpath;
    }

pub way_records : (r : Record) (n t turn rotation all mask : ℕ) → n ≡ r.n → t ≡ (r.t + 1) % 4294967296 → turn ≡ (r.turn + 1) % n
    → all ≡ connections_in r.v
    → rotation ≡ (r.rotation + 1) % all
    → r.t < 4294967296
    → r.turn < r.n
    → r.rotation < connections_in r.v
    → (slot_record (way_of r n t turn rotation mask) ≡ clocked r) × (last_record (way_of r n t turn rotation mask) ≡ r)
unfolding clocked record_with slot_numbers
way_records r n t turn rotation all mask n_is t_is turn_is all-is rotation_is low₁ low₂ low₃ = (
  rw (rotation_is, all-is, turn_is, t_is, n_is),
  way_last (way_of r n t turn rotation mask) r.t r.turn r.rotation t_is turn_is
      (rotation_is ∙ ap (λ (k : ℕ). (r.rotation + 1) % k) all-is) low₁ (omega (arith, n_is, low₂)) low₃
      ∙ rw n_is,
)
