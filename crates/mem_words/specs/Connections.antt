-- A connection whose buckets are empty, as an opening or a closing leaves it; and the common case of a connection without a second bucket.
use Rattle.std.specs.Prelude.{ℕ, Bool, ◌&&◌}
use Rattle.meaning.specs.Plain.{◌=?◌}
use Rattle.meaning.specs.Bucket.{Bucket, bucket_of}
use Rattle.meaning.specs.Words.{Connection, Second}

-- nothing in its buckets, and no cell waits
abbrev pub bare_connection : ℕ → Bucket → ℕ → Second → Connection
bare_connection opened b last x =
    record {
      opened = opened;
      bucket = b;
      last = last;
      waiting = 0;
      second = bucket_of x.m x.F x.C 0;
      tag = x.tag;
    }

-- no second bucket: all its words are 0
unfoldable pub has_none : Connection → Bool
has_none conn =
    let b = conn.second in
    b.m =? 0 && b.F =? 0 && b.C =? 0 && b.S =? 0 && conn.tag =? 0
