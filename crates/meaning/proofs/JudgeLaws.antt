-- Document 02 (iv), sentence by sentence, of every connection that is up to date: what an excess, a tagged and a CLP 1 cell do to
-- the two buckets. Assumes nothing.
use Prim.Native.Nat.{ℕ}
use mathlib.Core.Path.{◌≡◌, refl}
use mathlib.Core.Bool.{Bool, true, false, ◌&&◌}
use mathlib.Core.List.{List}
use Rattle.meaning.specs.Plain.{when◌then◌else◌, ◌=?◌, next}
use Rattle.meaning.specs.Numbers.{accepted, excess, tagged}
use Rattle.meaning.specs.Header.{clp_in}
use Rattle.meaning.specs.Bucket.{Bucket, is_excess, fill}
use Rattle.meaning.specs.Words.{Connection}
use Rattle.meaning.specs.Work.{Work, with_connection, with_arrival}
use Rattle.meaning.specs.Arrival.{verdict_on, second_after, judge}

-- "An excess cell fills neither bucket": the connection's words are those that the update left, judged as they are
pub excess_fills_none : (x : ℕ) (cell : List ℕ) (c : ℕ) (w : Work) (conn : Connection) → verdict_on (clp_in cell) conn ≡ excess
    → judge x cell c w conn ≡ next (with_arrival (with_connection w c conn) excess c 0)
unfolding judge
excess_fills_none x cell c w conn e = rw e

-- "a tagged one only the peak bucket"
pub tagged_keeps_second : (clp : ℕ) (b : Bucket) → second_after clp tagged b ≡ b
unfolding second_after
tagged_keeps_second clp b = go (clp =? 0)
  where
    go : (a : Bool) → (when a && tagged =? accepted then fill b else b) ≡ b
    go true = refl
    go false = refl

-- the second bucket is "for CLP 0 cells": a CLP 1 cell looks at and fills the peak bucket alone
pub one_looks_at_the_peak : (conn : Connection) → verdict_on 1 conn ≡ (when is_excess conn.bucket then excess else accepted)
unfolding verdict_on
one_looks_at_the_peak conn = refl

pub one_keeps_second : (verdict : ℕ) (b : Bucket) → second_after 1 verdict b ≡ b
unfolding second_after
one_keeps_second verdict b = refl
