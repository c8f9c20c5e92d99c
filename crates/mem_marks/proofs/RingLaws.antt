-- The nearest mark in ring order after entry T is the first one from T+1 to N-1, or else the first one from 0 to T-1.
use Prim.Native.Nat.{ℕ, zero, suc, ◌+◌, ◌-◌, ◌%◌, ◌≤◌, ◌<◌}
use mathlib.Core.Path.{◌≡◌, refl, sym, ◌∙◌, ap}
use mathlib.Core.Bool.{Bool, true, false}
use mathlib.Core.List.{List}
use native.Mathlib.Nat.{mod-eq_of_lt, mod-eq-sub-mod}
use native.Mathlib.Decide.{dec_lt, ℕ_discrete}
use native.Mathlib.Omega.{arith}
use Rattle.meaning.specs.Plain.{when◌then◌else◌}
use Rattle.meaning.specs.Bits.{is_marked}
use Rattle.meaning.specs.Next.{first_in, next_mark}
use Rattle.mem_marks.specs.First.{NoMark, First}

pub first_at : (p : ℕ → Bool) (k d x : ℕ) → d ≤ x → x < d + k → p x ≡ true → ((y : ℕ) → d ≤ y → y < x → p y ≡ false) → first_in p k d ≡ x
unfolding first_in
first_at p zero d x l h o f = absurd (omega arith)
first_at p (suc k) d x l h o f = go (λ m. first_at p k (d + 1) x m (omega arith) o (λ y a b. f y (omega arith) b)) (ℕ_discrete d x)
  where
    go : (d + 1 ≤ x → first_in p k (d + 1) ≡ x) → Dec (d ≡ x) → (when p d then d else first_in p k (d + 1)) ≡ x
    go rest (yes e) = let t : p d ≡ true = ap p e ∙ o in rw t e
    go rest (no e) = let t : p d ≡ false = f d (omega arith) (omega arith) in rw t (rest (omega arith))

pub first_no : (p : ℕ → Bool) (k d : ℕ) → ((y : ℕ) → d ≤ y → y < d + k → p y ≡ false) → first_in p k d ≡ 0
unfolding first_in
first_no p zero d f = refl
first_no p (suc k) d f =
    let t : p d ≡ false = f d (omega arith) (omega arith) in
    rw t (first_no p k (d + 1) (λ y a b. f y (omega arith) (omega arith)))

-- the ring: T + d below N, and past it
pub near : (N T d : ℕ) → T + d < N → (T + d) % N ≡ T + d
near N T d h = mod-eq_of_lt h

pub round : (N T d : ℕ) → T < N → d < N → N ≤ T + d → (T + d) % N ≡ T + d - N
round N T d t l h = mod-eq-sub-mod {n = T + d} {m = N} h ∙ mod-eq_of_lt {n = T + d - N} {m = N} (omega arith)

module _ (N T : ℕ) (bits : List ℕ) (t : T < N) where
  abbrev at : ℕ → Bool
  at d = is_marked bits ((T + d) % N)

  near_none : (e : ℕ) → NoMark bits (T + 1) e → (d : ℕ) → 1 ≤ d → T + d < e → T + d < N → at d ≡ false
  near_none e f d a b c = ap (is_marked bits) (near N T d c) ∙ f (T + d) (omega arith) b

  round_none : (e : ℕ) → NoMark bits 0 e → (d : ℕ) → d < N → N ≤ T + d → T + d - N < e → at d ≡ false
  round_none e f d a b c = ap (is_marked bits) (round N T d t a b) ∙ f (T + d - N) (omega arith) c

  -- the first of T+1 to N-1
  pub near_is : (e : ℕ) → First bits (T + 1) N e → e - T ≡ next_mark N T bits
  unfolding next_mark
  near_is e f =
      let low = f.within in
      let back : T + (e - T) ≡ e = omega (arith, low) in
      let inside : T + (e - T) < N = omega (arith, low) in
      let it : at (e - T) ≡ true = ap (is_marked bits) (near N T (e - T) inside ∙ back) ∙ f.own in
      sym (first_at at (N - 1) 1 (e - T) (omega (arith, low)) (omega (arith, low)) it
      (λ d a b. near_none e f.none d a (omega (arith, low)) (omega (arith, low))))

  -- none of those: the first of 0 to T-1
  module _ (f : NoMark bits (T + 1) N) where
    before_none : (d : ℕ) → 1 ≤ d → T + d < N → at d ≡ false
    before_none d a b = near_none N f d a b b

    pub round_is : (x : ℕ) → First bits 0 T x → N - T + x ≡ next_mark N T bits
    unfolding next_mark
    round_is x g =
        let l = g.within.1 in
        let past : N ≤ T + (N - T + x) = omega arith in
        let back : T + (N - T + x) - N ≡ x = omega arith in
        let it : at (N - T + x) ≡ true = ap (is_marked bits) (round N T (N - T + x) t (omega arith) past ∙ back) ∙ g.own in
        sym (first_at at (N - 1) 1 (N - T + x) (omega arith) (omega arith) it (λ d a b. go d a b (dec_lt (T + d) N)))
      where
        go : (d : ℕ) → 1 ≤ d → d < N - T + x → Dec (T + d < N) → at d ≡ false
        go d a b (yes c) = before_none d a c
        go d a b (no c) = round_none x g.none d (omega (arith, g.within)) (omega arith) (omega arith)

    -- none at all
    pub none_is : NoMark bits 0 T → 0 ≡ next_mark N T bits
    unfolding next_mark
    none_is g = sym (first_no at (N - 1) 1 (λ d a b. go d a b (dec_lt (T + d) N)))
      where
        go : (d : ℕ) → 1 ≤ d → d < 1 + (N - 1) → Dec (T + d < N) → at d ≡ false
        go d a b (yes c) = before_none d a c
        go d a b (no c) = round_none T g d (omega arith) (omega arith) (omega arith)
