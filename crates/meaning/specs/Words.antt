-- Document 01: a VC's words as one record, read and written in one place, and their ranges for refusal 3. Document 02 (iv)
-- made of its seven words twelve: its two buckets, one `last`, waiting, flag. By (vi) a path has the same twelve: what document
-- 01 says of a VC's words holds of a connection's.
use Rattle.std.specs.Prelude.{ℕ, Bool, true, ◌&&◌, ◌||◌, List, get_or, set}
use Rattle.meaning.specs.Plain.{when◌then◌else◌, ◌≤?◌, ◌=?◌, Out, next, needs}
use Rattle.meaning.specs.Numbers.{open_place, m_place, f_place, c_place, s_place, last_place, waiting_place}
use Rattle.meaning.specs.Numbers.{second_mplace, second_fplace, second_cplace, second_splace, tag_place}
use Rattle.meaning.specs.Bucket.{Bucket, bucket_of, obeys_rules, obeys_second, is_none, elapsed, fall}

-- "per VC: open 0 or 1, m, F, C, S, last, waiting"; document 02 (iv): "grows by its m .., F .., C .., S and a tagging flag"
pub record Connection : Type 0 where
  pub opened : ℕ
  pub bucket : Bucket
  pub last : ℕ
  pub waiting : ℕ
  pub second : Bucket
  pub tag : ℕ

-- what a second bucket is opened with: m, F, C and the tagging flag
pub record Second : Type 0 where
  pub m : ℕ
  pub F : ℕ
  pub C : ℕ
  pub tag : ℕ

abbrev pub second_of : ℕ → ℕ → ℕ → ℕ → Second
second_of m F C tag = record { m = m; F = F; C = C; tag = tag }

-- "m, F, C and flag all 0 mean none"
abbrev pub without_second : Second
without_second = second_of 0 0 0 0

-- the words of a connection, as they stand
unfoldable pub connection_at : List ℕ → ℕ → Connection
connection_at words c =
    record {
      opened = get_or words (open_place c) 0;
      bucket = record {
        m = get_or words (m_place c) 0;
        F = get_or words (f_place c) 0;
        C = get_or words (c_place c) 0;
        S = get_or words (s_place c) 0;
      };
      last = get_or words (last_place c) 0;
      waiting = get_or words (waiting_place c) 0;
      second = record {
        m = get_or words (second_mplace c) 0;
        F = get_or words (second_fplace c) 0;
        C = get_or words (second_cplace c) 0;
        S = get_or words (second_splace c) 0;
      };
      tag = get_or words (tag_place c) 0;
    }

-- the words of a connection set, those of every other one kept
unfoldable pub write_connection : List ℕ → ℕ → Connection → List ℕ
write_connection words c conn =
    let w1 = set words (open_place c) conn.opened in
    let w2 = set w1 (m_place c) conn.bucket.m in
    let w3 = set w2 (f_place c) conn.bucket.F in
    let w4 = set w3 (c_place c) conn.bucket.C in
    let w5 = set w4 (s_place c) conn.bucket.S in
    let w6 = set w5 (last_place c) conn.last in
    let w7 = set w6 (waiting_place c) conn.waiting in
    let w8 = set w7 (second_mplace c) conn.second.m in
    let w9 = set w8 (second_fplace c) conn.second.F in
    let w10 = set w9 (second_cplace c) conn.second.C in
    let w11 = set w10 (second_splace c) conn.second.S in
    set w11 (tag_place c) conn.tag

abbrev pub with_waiting : Connection → ℕ → Connection
with_waiting conn k =
    record {
      opened = conn.opened;
      bucket = conn.bucket;
      last = conn.last;
      waiting = k;
      second = conn.second;
      tag = conn.tag;
    }

abbrev pub with_buckets : Connection → Bucket → Bucket → Connection
with_buckets conn b second =
    record {
      opened = conn.opened;
      bucket = b;
      last = conn.last;
      waiting = conn.waiting;
      second = second;
      tag = conn.tag;
    }

-- "Opening sets open 1, the given m, F and C, S 0, last t, waiting 0.", and so for the second bucket
unfoldable pub opened_connection : ℕ → Bucket → Second → Connection
opened_connection t b x =
    record {
      opened = 1;
      bucket = b;
      last = t;
      waiting = 0;
      second = bucket_of x.m x.F x.C 0;
      tag = x.tag;
    }

-- "Closing clears all seven words.", and the five of document 02 (iv)
unfoldable pub closed_connection : Connection
closed_connection =
    record {
      opened = 0;
      bucket = bucket_of 0 0 0 0;
      last = 0;
      waiting = 0;
      second = bucket_of 0 0 0 0;
      tag = 0;
    }

-- "an open word is 0 or 1"
unfoldable pub open_word_fits : Connection → Bool
open_word_fits conn = conn.opened ≤? 1

-- "an open VC's m, F and C obey the rules, S is at most C" (the stored S, before it falls)
unfoldable pub bucket_fits : ℕ → Bucket → Bool
bucket_fits N b = obeys_rules N b && b.S ≤? b.C

-- document 02 (iv): "a tagging flag (0 or 1); m, F, C and flag all 0 mean none"
unfoldable pub second_obeys : Bucket → ℕ → Bool
second_obeys b tag = (is_none b && tag =? 0) || (obeys_second b && tag ≤? 1)

-- "3 covers the new words": as of the first bucket, the stored S is at most C
unfoldable pub second_in_range : Bucket → ℕ → Bool
second_in_range b tag = second_obeys b tag && b.S ≤? b.C

-- both buckets, which are read together
unfoldable pub buckets_fit : ℕ → Connection → Bool
buckets_fit N conn = bucket_fits N conn.bucket && second_in_range conn.second conn.tag

-- "Open and close read only that VC's words (of a closed one, only the open word)."
unfoldable pub connection_fits : ℕ → Connection → Bool
connection_fits N conn =
    when conn.opened =? 0 then true
    else (open_word_fits conn && buckets_fit N conn && conn.waiting ≤? N)

-- both buckets as they have fallen in so many slots, up to slot t: document 02 (iv), "run in lockstep with the peak bucket"
unfoldable pub fallen_to : ℕ → ℕ → Connection → Connection
fallen_to slots t conn =
    record {
      opened = conn.opened;
      bucket = fall slots conn.bucket;
      last = t;
      waiting = conn.waiting;
      second = fall slots conn.second;
      tag = conn.tag;
    }

-- "it is brought up to date: S falls by elapsed × L .. last becomes t"; "Bringing a VC up to date reads all its
-- words but waiting"
unfoldable pub up_to_date : ℕ → ℕ → Connection → Out Connection
up_to_date N t conn = needs (buckets_fit N conn) (next (fallen_to (elapsed t conn.last) t conn))

-- Document 02 (ii): "bring the VC up to date as of t": what is then left in its bucket, the stored S having been judged.
-- Document 02 (iv): "Closing looks at the peak bucket only."
unfoldable pub debt : ℕ → Connection → ℕ
debt t conn = (fall (elapsed t conn.last) conn.bucket).S
