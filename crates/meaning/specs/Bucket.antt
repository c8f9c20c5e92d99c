-- Document 01: a VC's bucket, which counts in parts of 1/L slot; document 02 (iv) has two of them, run by the same rules.
use Rattle.std.specs.Prelude.{ℕ, ◌+◌, ◌-◌, ◌*◌, ◌/◌, ◌%◌, ◌^◌, Bool, ◌&&◌}
use Rattle.meaning.specs.Plain.{◌<?◌, ◌≤?◌, ◌=?◌}
use Rattle.meaning.specs.Numbers.{most_m, most_f, most_second_c, slot_numbers}

pub record Bucket : Type 0 where
  pub m : ℕ
  pub F : ℕ
  pub C : ℕ
  pub S : ℕ

abbrev pub bucket_of : ℕ → ℕ → ℕ → ℕ → Bucket
bucket_of m F C S = record { m = m; F = F; C = C; S = S }

-- "L = 2^m"
abbrev pub L : Bucket → ℕ
L b = 2 ^ b.m

abbrev pub with_s : Bucket → ℕ → Bucket
with_s b S = bucket_of b.m b.F b.C S

-- "m from 0 to 15, with L = 2^m; F from L to 16,777,216; C of at least F, with floor((C-F)/L) at most N-1"
-- (at most N-1 is below N; m is judged first, so that no large power is taken)
unfoldable pub obeys_rules : ℕ → Bucket → Bool
obeys_rules N b =
    b.m ≤? most_m && L b ≤? b.F && b.F ≤? most_f && b.F ≤? b.C && (b.C - b.F) / L b <? N

-- Document 02 (iv), a second bucket: "m (0 to 15), F (1 to 2^24), C (F to 2^30)": F may be below L, and N does not matter
unfoldable pub obeys_second : Bucket → Bool
obeys_second b = b.m ≤? most_m && 1 ≤? b.F && b.F ≤? most_f && b.F ≤? b.C && b.C ≤? most_second_c

-- "m, F, C and flag all 0 mean none": nothing is ever above such a bucket, and nothing fills it
unfoldable pub is_none : Bucket → Bool
is_none b = b.m =? 0 && b.F =? 0 && b.C =? 0

-- "elapsed is t minus last modulo 2^32"
unfoldable pub elapsed : ℕ → ℕ → ℕ
elapsed t last = (t + slot_numbers - last) % slot_numbers

-- "S falls by elapsed × L, not below 0" (a difference of ℕ stops at 0)
unfoldable pub fall : ℕ → Bucket → Bucket
fall slots b = with_s b (b.S - slots * L b)

-- "If S is above C-F the cell is excess"
unfoldable pub is_excess : Bucket → Bool
is_excess b = b.C - b.F <? b.S

-- "D = floor(S/L)"
unfoldable pub delay : Bucket → ℕ
delay b = b.S / L b

-- "S grows by F"
unfoldable pub fill : Bucket → Bucket
fill b = with_s b (b.S + b.F)
