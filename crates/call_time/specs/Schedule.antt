-- Document 02, request (v): the generator's own rule, virtual scheduling. Source document 003: TAT "gives the expected arrival
-- time of the next cell. Cells arriving more than τ units of time before the TAT are considered to be nonconforming." "Cells
-- arriving τ units of time before the TAT or later are considered to be conforming. For each conforming cell, the TAT is
-- updated to give the expected arrival time of the next cell in the connection." So TAT becomes the later of arrival and TAT,
-- plus F; for a nonconforming cell it stays.
--
--   Tat                   == the stored state: TAT in parts of 1/L slot, the previous arrival in slots, and whether a cell came
--   Timed                 == number, verdict, earliness, due time, and the state afterwards
--   refusal_of s N m F C a == refusals 1, 6, 3 and 12, in this order; 0 where none is given
--   scheduled F C a now e == the rule for a cell that arrives in slot a, at `now` in parts, and is expected at e
--   timed s N m F C a     == the call
-- Earliness has a sign: `sub_ℕ x y` is x - y in whole numbers, `pos n` is n; `◌-◌` of natural numbers stops at 0.
use Rattle.std.specs.Prelude.{ℕ, ◌+◌, ◌-◌, ◌*◌, ◌^◌, max, Bool, true, not, ◌&&◌, ◌||◌, ℤ, pos, negsuc}
use Rattle.std.proofs.Math.IntN.{sub_ℕ}
use Rattle.meaning.specs.Plain.{when◌then◌else◌, ◌<?◌, ◌≤?◌, ◌=?◌}
use Rattle.meaning.specs.Numbers.{most_n, slot_numbers, accepted, excess}
use Rattle.meaning.specs.Bucket.{bucket_of, obeys_rules}
use Rattle.call_time.specs.declared.Tat.{Tat}
use Rattle.call_time.specs.declared.Timed.{Timed}

abbrev pub tat_of : ℕ → ℕ → Bool → Tat
tat_of tat arrival started = record { tat = tat; arrival = arrival; started = started }

-- earliness, and 0 when late
abbrev pub ahead : ℤ → ℕ
ahead (pos n) = n
ahead (negsuc n) = 0

abbrev pub timed_of : ℕ → ℕ → ℤ → ℕ → Tat → Timed
timed_of number verdict early due s =
    record { number = number; verdict = verdict; early = early; due = due; tat = s }

-- "3, stored TAT of 2^48 or more"
unfoldable pub too_late : ℕ
too_late = 2 ^ 48

-- 3: stored TAT, or "stored arrival of 2^32 or more"; nothing stored is read before the first cell
unfoldable pub stored_fits : Tat → Bool
stored_fits s = not s.started || (s.tat <? too_late && s.arrival <? slot_numbers)

-- 12: "arrival not after the previous one, conforming or not, or outside the run"; a first cell has none before it
unfoldable pub in_order : Tat → ℕ → Bool
in_order s a = a <? slot_numbers && (not s.started || s.arrival <? a)

-- "1 and 6 for N, m, F and C as at setup and opening; 3 ..; then 12"
unfoldable pub refusal_of : Tat → ℕ → ℕ → ℕ → ℕ → ℕ → ℕ
refusal_of s N m F C a =
    when not (1 ≤? N && N ≤? most_n) then 1
    else when not (obeys_rules N (bucket_of m F C 0)) then 6
    else when not (stored_fits s) then 3
    else when not (in_order s a) then 12
    else 0

-- "a cell is early by TAT minus arrival, negative when late, 0 when on time; it is nonconforming exactly when that is
-- above the tolerance (C-F in parts of 1/L slot); a conforming cell moves TAT to the later of arrival and TAT, plus F."
-- The due time is that later one, "0 when nonconforming". (No tolerance is below 0, so a late cell is never above it.)
unfoldable pub scheduled : ℕ → ℕ → ℕ → ℕ → ℕ → Timed
scheduled F C a now e =
    when C - F <? e - now then timed_of 0 excess (sub_ℕ e now) 0 (tat_of e a true)
    else timed_of 0 accepted (sub_ℕ e now) (max now e) (tat_of (max now e + F) a true)

-- "The first cell is on time."
unfoldable pub expected_at : Tat → ℕ → ℕ
expected_at s now = when s.started then s.tat else now

unfoldable pub timed : Tat → ℕ → ℕ → ℕ → ℕ → ℕ → Timed
timed s N m F C a =
    let number = refusal_of s N m F C a in
    when not (number =? 0) then timed_of number 0 (pos 0) 0 s
    else scheduled F C a (a * 2 ^ m) (expected_at s (a * 2 ^ m))
