-- Steps 2 and 3 at an open connection as the code has them: without a second bucket, and with one.
--
--   Peaked N words vci     == the connection's words stand there, and its peak bucket is in range
--   Within N words vci s   == and s in it is within the peak
--   SecondIn words vci     == its second bucket and the flag are in range
--   let_in_as ..             == a cell is let in with this verdict, unless waiting is out of range
--   judged_peak ..          == step 3 without a second bucket; judged_second of a CLP 0 cell within the peak; judged_both of any
use Rattle.std.specs.Prelude.{ℕ, ◌+◌, ◌-◌, ◌≤◌, ◌≡◌, true, Option, Some, None, List}
use Rattle.meaning.specs.Plain.{when◌then◌else◌, ◌<?◌, ◌=?◌}
use Rattle.meaning.specs.Numbers.{accepted, excess, tagged}
use Rattle.meaning.specs.State.{HasConnection}
use Rattle.meaning.specs.Bucket.{Bucket, with_s, is_excess, delay, fill}
use Rattle.meaning.specs.Words.{Connection, connection_at, bucket_fits, second_in_range}
use Rattle.slot_arrive.specs.declared.Fall.{Fall}
use Rattle.slot_arrive.specs.declared.Judged.{Judged}
use Rattle.slot_arrive.specs.Arrival.{fall_of, connection_now, judged_as}

abbrev pub Peaked : ℕ → List ℕ → ℕ → Type 0
Peaked N words vci = HasConnection vci words × (bucket_fits N (connection_at words vci).bucket ≡ true)

abbrev pub Within : ℕ → List ℕ → ℕ → ℕ → Type 0
Within N words vci s =
    HasConnection vci words × (bucket_fits N (connection_at words vci).bucket ≡ true) × (s ≤ (connection_at words vci).bucket.C - (connection_at words vci).bucket.F)

abbrev pub SecondIn : List ℕ → ℕ → Type 0
SecondIn words vci = second_in_range (connection_at words vci).second (connection_at words vci).tag ≡ true

unfoldable pub brought_both : ℕ → Connection → ℕ → Option Fall
brought_both t vc s =
    when second_in_range vc.second vc.tag then Some (fall_of s (connection_now t vc).second.S) else None

unfoldable pub let_in_as : ℕ → ℕ → ℕ → Bucket → ℕ → ℕ → Option Judged
let_in_as N verdict vci b waiting second =
    when waiting <? N then Some (judged_as verdict vci (delay b) (fill b).S (waiting + 1) second) else None

unfoldable pub judged_peak : ℕ → ℕ → Bucket → ℕ → Option Judged
judged_peak N vci b waiting =
    when is_excess b then Some (judged_as excess vci 0 b.S 0 0) else let_in_as N accepted vci b waiting 0

unfoldable pub judged_second : ℕ → ℕ → ℕ → ℕ → Connection → Option Judged
judged_second N vci s second vc =
    let b = with_s vc.bucket s in
    let x = with_s vc.second second in
    when is_excess x
    then (when vc.tag =? 0 then Some (judged_as excess vci 0 s 0 second) else let_in_as N tagged vci b vc.waiting second)
    else let_in_as N accepted vci b vc.waiting (fill x).S

unfoldable pub judged_both : ℕ → ℕ → ℕ → ℕ → ℕ → Connection → Option Judged
judged_both N t vci clp s vc =
    let b = with_s vc.bucket s in
    let second = (connection_now t vc).second.S in
    when second_in_range vc.second vc.tag
    then (when is_excess b then Some (judged_as excess vci 0 s 0 second)
    else when clp =? 0 then judged_second N vci s second vc
    else let_in_as N accepted vci b vc.waiting second)
    else None
