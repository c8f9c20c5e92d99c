-- Cells in a list that are due at least F apart, in parts of 1/L slot: from one to the n-th after it it is n × F at least,
-- since each new one is due at least F after the last.
use Prim.Native.Nat.{ℕ, suc, ◌+◌, ◌-◌, ◌*◌, ◌/◌, ◌≤◌, ◌<◌}
use mathlib.Core.Path.{◌≡◌, ap, ◌∙◌}
use mathlib.Core.List.{List, [], ◌∷◌, ◌++◌}
use native.Mathlib.Decide.{dec_lt}
use native.Mathlib.Nat.{zero-mul, one-mul, suc-mul}
use native.Mathlib.Omega.{arith}
use lib.ListN.{length, get_or, length-append, get_or-append}
use lib.Seq.{get_or-append-add}
use Rattle.meaning_runs.specs.Seen.{Cell, absent_cell}

-- ── the cells of a list from the number a on, of which the next is due at `top` at the earliest ──
pub record Spaced (F L a top : ℕ) (xs : List Cell) : Type 0 where
  pub apart : (k n : ℕ) → a ≤ k → k + n < length xs → (get_or xs k absent_cell).time + n * F ≤ (get_or xs (k + n) absent_cell).time
  pub slot_is : (k : ℕ) → a ≤ k → k < length xs → (get_or xs k absent_cell).due ≡ (get_or xs k absent_cell).time / L
  pub next : (k : ℕ) → a ≤ k → k < length xs → (get_or xs k absent_cell).time + (length xs - k) * F ≤ top

pub spaced_none : (F L top : ℕ) (xs : List Cell) → Spaced F L (length xs) top xs
spaced_none F L top xs =
    record {
      apart = λ k n low high. absurd (omega (arith, low, high));
      slot_is = λ k low high. absurd (omega (arith, low, high));
      next = λ k low high. absurd (omega (arith, low, high));
    }

-- one more
module _ (F L a top : ℕ) (xs : List Cell) (c : Cell) (s : Spaced F L a top xs) (late : top ≤ c.time)
    (slot : c.due ≡ c.time / L) where
  abbrev longer : List Cell
  longer = xs ++ (c ∷ [])

  many : length longer ≡ length xs + 1
  many = length-append xs (c ∷ [])

  old : (k : ℕ) → k < length xs → get_or longer k absent_cell ≡ get_or xs k absent_cell
  old k low = get_or-append xs (c ∷ []) absent_cell k low

  new : (k : ℕ) → k ≡ length xs → get_or longer k absent_cell ≡ c
  new k e = ap (λ (n : ℕ). get_or longer n absent_cell) (omega (arith, e)) ∙ get_or-append-add xs (c ∷ []) 0 absent_cell

  time_old : (k : ℕ) → k < length xs → (get_or longer k absent_cell).time ≡ (get_or xs k absent_cell).time
  time_old k low = ap (λ (x : Cell). x.time) (old k low)

  time_new : (k : ℕ) → k ≡ length xs → (get_or longer k absent_cell).time ≡ c.time
  time_new k e = ap (λ (x : Cell). x.time) (new k e)

  apart_more : (k n : ℕ) → a ≤ k → k + n < length longer
      → (get_or longer k absent_cell).time + n * F ≤ (get_or longer (k + n) absent_cell).time
  apart_more k n low high = go (dec_lt (k + n) (length xs)) (dec_lt k (length xs))
    where
      go : Dec (k + n < length xs) → Dec (k < length xs)
          → (get_or longer k absent_cell).time + n * F ≤ (get_or longer (k + n) absent_cell).time
      go (yes p) q =
          omega (arith, s.apart k n low p, time_old k (omega (arith, p)), time_old (k + n) p)
      go (no p) (yes q) =
          omega (
            arith,
            s.next k low q,
            late,
            time_old k q,
            time_new (k + n) (omega (arith, p, high, many)),
            ap (λ (i : ℕ). i * F) from,
          )
        where
          from : length xs - k ≡ n
          from = omega (arith, p, high, many)
      go (no p) (no q) =
          omega (
            arith,
            time_new k (omega (arith, q, high, many)),
            time_new (k + n) (omega (arith, p, high, many)),
            ap (λ (i : ℕ). i * F) here,
            zero-mul F,
          )
        where
          here : n ≡ 0
          here = omega (arith, q, high, many)

  slot_more : (k : ℕ) → a ≤ k → k < length longer → (get_or longer k absent_cell).due ≡ (get_or longer k absent_cell).time / L
  slot_more k low high = go (dec_lt k (length xs))
    where
      go : Dec (k < length xs) → (get_or longer k absent_cell).due ≡ (get_or longer k absent_cell).time / L
      go (yes p) = rw (old k p) (s.slot_is k low p)
      go (no p) = rw (new k (omega (arith, p, high, many))) slot

  next_more : (k : ℕ) → a ≤ k → k < length longer
      → (get_or longer k absent_cell).time + (length longer - k) * F ≤ c.time + F
  next_more k low high = go (dec_lt k (length xs))
    where
      go : Dec (k < length xs) → (get_or longer k absent_cell).time + (length longer - k) * F ≤ c.time + F
      go (yes p) =
          omega (
            arith,
            s.next k low p,
            late,
            time_old k p,
            ap (λ (i : ℕ). i * F) one_more,
            suc-mul (length xs - k) F,
          )
        where
          one_more : length longer - k ≡ suc (length xs - k)
          one_more = omega (arith, p, many)
      go (no p) =
          omega (arith, time_new k (omega (arith, p, high, many)), ap (λ (i : ℕ). i * F) just_one, one-mul F)
        where
          just_one : length longer - k ≡ 1
          just_one = omega (arith, p, high, many)

  pub spaced_more : Spaced F L a (c.time + F) longer
  spaced_more = record { apart = apart_more; slot_is = slot_more; next = next_more }
