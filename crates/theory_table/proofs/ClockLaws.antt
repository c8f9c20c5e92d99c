-- The wrapped clock: elapsed as the words have it is the true count below 2^32, and rotation keeps it below V.
use Prim.Native.Nat.{ℕ, zero, suc, ◌+◌, ◌-◌, ◌*◌, ◌/◌, ◌%◌, ◌≤◌, ◌<◌}
use mathlib.Core.Path.{◌≡◌, sym, ap, ◌∙◌}
use native.Mathlib.Nat.{mod-lt, mod-eq_of_lt, mod-add-mod, add-mod_right, add-mul-mod_self_right, div-add-mod', suc-mod, suc-mul, suc-add, zero-mul}
use native.Mathlib.Decide.{dec_lt}
use native.Mathlib.Omega.{arith}
use lib.Dec.{lit≤}
use Rattle.meaning.specs.Numbers.{slot_numbers}
use Rattle.meaning.specs.Bucket.{elapsed}
use Rattle.theory_table.specs.Stored.{clock, gap}

-- all that is used of 2^32
pub slots_many : 2_048 ≤ slot_numbers
unfolding slot_numbers
slots_many = lit≤ tt

wrapped : (W t last : ℕ) → 0 < W → last ≤ t → t - last < W → (t % W + W - last % W) % W ≡ t - last
wrapped W t last h hl hd =
    ap (λ (n : ℕ). n % W) apart
    ∙ mod-add-mod t W (W - last % W)
    ∙ ap (λ (n : ℕ). n % W) regroup
    ∙ add-mul-mod_self_right (t - last) (suc (last / W)) W
    ∙ mod-eq_of_lt hd
  where
    apart : t % W + W - last % W ≡ t % W + (W - last % W)
    apart = omega (arith, mod-lt last {m = W} h)

    regroup : t + (W - last % W) ≡ (t - last) + suc (last / W) * W
    regroup = omega (arith, div-add-mod' last W, mod-lt last {m = W} h, suc-mul (last / W) W)

-- the clock of the slot to come
pub clock_next : (now : ℕ) → clock (suc now) ≡ now % slot_numbers
clock_next now = ap (λ (k : ℕ). k % slot_numbers) (omega (arith, slots_many)) ∙ add-mod_right now slot_numbers

pub elapsed_is : (now seen : ℕ) → seen ≤ suc now → suc now ≤ seen + 1_281
    → elapsed (now % slot_numbers) (clock seen) ≡ suc now - seen
unfolding elapsed
elapsed_is now seen past near =
    ap (λ (n : ℕ). (n + slot_numbers - clock seen) % slot_numbers) (sym (clock_next now))
    ∙ wrapped slot_numbers (suc now + (slot_numbers - 1)) (seen + (slot_numbers - 1)) (omega (arith, slots_many)) (omega arith)
    (omega (arith, slots_many))
    ∙ omega arith

-- a counter modulo M that begins at M - 1
pub count_next : (M now t : ℕ) → 0 < M → t ≡ (now + (M - 1)) % M → (t + 1) % M ≡ now % M
count_next M now t p e =
    ap (λ (k : ℕ). k % M) (omega arith)
    ∙ ap (λ (k : ℕ). suc k % M) e
    ∙ sym (suc-mod (now + (M - 1)) M)
    ∙ ap (λ (k : ℕ). k % M) (omega arith)
    ∙ add-mod_right now M

pub count_now : (M now : ℕ) → 0 < M → now % M ≡ (suc now + (M - 1)) % M
count_now M now p = sym (add-mod_right now M) ∙ ap (λ (k : ℕ). k % M) (omega arith)

-- a multiple of R that is reached from now by R - v: now is at v
visited : (R v now q : ℕ) → v < R → now + (R - v) ≡ q * R → now % R ≡ v
visited R v now zero hv e = absurd (omega (arith, zero-mul R))
visited R v now (suc k) hv e =
    ap (λ (n : ℕ). n % R) (omega (arith, suc-mul k R)) ∙ add-mul-mod_self_right v k R ∙ mod-eq_of_lt hv

-- a slot in which rotation does not name v
pub gap_suc : (R v now : ℕ) → v < R → (now % R ≡ v → ⊥) → gap R v (suc now) ≡ suc (gap R v now)
gap_suc R v now hv ne = ap (λ (k : ℕ). k % R) (suc-add now (R - suc v)) ∙ suc-mod n R ∙ go (dec_lt (suc (n % R)) R)
  where
    n : ℕ
    n = now + (R - suc v)

    go : Dec (suc (n % R) < R) → suc (n % R) % R ≡ suc (n % R)
    go (yes p) = mod-eq_of_lt p
    go (no p) =
        absurd (ne (visited R v now (suc (n / R)) hv
        (omega (arith, div-add-mod' n R, mod-lt n {m = R} (omega arith), suc-mul (n / R) R))))

pub gap_lt : (R v now : ℕ) → v < R → gap R v now < R
gap_lt R v now hv = mod-lt (now + (R - suc v)) (omega arith)
