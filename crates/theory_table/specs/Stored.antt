-- What an opening makes of a connection's words. A proof device.
--
--   earliest_after F p    == where p is the last due time, if any, the next cell is due at this time at the earliest
--   level_after m F p k   == S of a bucket with this m and F, k slots being served: what its own leak rule leaves of it. Said once
--                           for any bucket, and cited for both of a connection
--   bucket_after m F C p k == such a bucket
--   stored o k q         == the connection's words, where it was last brought up to date when k slots were served, and q cells wait
--   gap R v now          == how many of the `now` slots were served since rotation, which goes over R connections, last named v
--   ConnectionIs                 == the words vc of the connection v are those of its opening, if it has one; now slots were served
use Rattle.std.specs.Prelude.{ℕ, suc, ◌+◌, ◌-◌, ◌*◌, ◌%◌, ◌^◌, ◌≤◌, ◌≡◌, true}
use Rattle.std.proofs.Math.Option.{Option, none, some}
use Rattle.meaning.specs.Numbers.{slot_numbers}
use Rattle.meaning.specs.Bucket.{Bucket, bucket_of, obeys_rules}
use Rattle.meaning.specs.Words.{Connection, second_obeys}
use Rattle.meaning_runs.specs.Leak.{Opening}

abbrev pub earliest_after : ℕ → Option ℕ → ℕ
earliest_after F none = 0
earliest_after F (some p) = p + F

-- what is left of the bucket at the last of the k slots
abbrev pub level_after : ℕ → ℕ → Option ℕ → ℕ → ℕ
level_after m F p k = earliest_after F p - (k - 1) * 2 ^ m

abbrev pub bucket_after : ℕ → ℕ → ℕ → Option ℕ → ℕ → Bucket
bucket_after m F C p k = bucket_of m F C (level_after m F p k)

-- of the peak bucket, in parts of 1/L slot
abbrev pub earliest : Opening → ℕ
earliest o = earliest_after o.F o.previous

abbrev pub level : Opening → ℕ → ℕ
level o k = level_after o.m o.F o.previous k

-- of the second bucket
abbrev pub earliest_second : Opening → ℕ
earliest_second o = earliest_after o.second.F o.sustained

abbrev pub level_second : Opening → ℕ → ℕ
level_second o k = level_after o.second.m o.second.F o.sustained k

-- the slot number after k slots: the first is 0, and before it 2^32-1
abbrev pub clock : ℕ → ℕ
clock k = (k + (slot_numbers - 1)) % slot_numbers

abbrev pub stored : Opening → ℕ → ℕ → Connection
stored o k q =
    record {
      opened = 1;
      bucket = bucket_after o.m o.F o.C o.previous k;
      last = clock k;
      waiting = q;
      second = bucket_after o.second.m o.second.F o.second.C o.sustained k;
      tag = o.second.tag;
    }

abbrev pub gap : ℕ → ℕ → ℕ → ℕ
gap R v now = (now + (R - suc v)) % R

pub record OpenConnection (N R now v : ℕ) (vc : Connection) (q : ℕ) (o : Opening) : Type 0 where
  pub seen : ℕ
  pub is : vc ≡ stored o seen q
  pub unused : seen ≡ 0 → earliest o ≡ 0
  pub unused_second : seen ≡ 0 → earliest_second o ≡ 0
  pub past : seen ≤ now
  -- rotation: "no VC is ever more than V slots behind", of a connection V + 256
  pub near : now ≤ seen + gap R v now
  pub rules : obeys_rules N (bucket_of o.m o.F o.C 0) ≡ true
  pub rules_second : second_obeys (bucket_of o.second.m o.second.F o.second.C 0) o.second.tag ≡ true
  pub full : level o seen ≤ o.C
  pub full_second : level_second o seen ≤ o.second.C

abbrev pub ConnectionIs : ℕ → ℕ → ℕ → ℕ → Connection → ℕ → Option Opening → Type 0
ConnectionIs N R now v vc q none = vc.opened ≡ 0
ConnectionIs N R now v vc q (some o) = OpenConnection N R now v vc q o
