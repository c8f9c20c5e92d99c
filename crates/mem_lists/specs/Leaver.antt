-- What departs, decided one number after the other.
--
--   may_go N words c   == the connection c is open and has 1 to N cells waiting
--   goes_as N words c  == c, if a cell of it may depart, else 0; 0 is no connection
--   leaver_of          == the connection whose cell is in space x, if that cell may depart, else 0
--   off_from           == what departs with a cell of the connection c (0: none) in space x, before a follower unless x is the tail
--   leaver_after, off_after  == who and what departs once a cell of the connection own has been accepted into space s
use Rattle.std.specs.Prelude.{ℕ, Bool, ◌&&◌, Option, Some, None, List, get_or}
use Rattle.meaning.specs.Plain.{when◌then◌else◌, ◌<?◌, ◌≤?◌, ◌=?◌}
use Rattle.meaning.specs.Numbers.{empty, cell_start}
use Rattle.meaning.specs.Header.{header_at, connection}
use Rattle.meaning.specs.Words.{connection_at}
use Rattle.leaf_header.specs.Name.{numbered}
use Rattle.mem_lists.specs.declared.Off.{Off}
use Rattle.mem_lists.specs.Spaces.{ends_of, off_as, may_leave}

unfoldable pub may_go : ℕ → List ℕ → ℕ → Bool
may_go N words c =
    let conn = connection_at words c in
    conn.opened =? 1 && 1 ≤? conn.waiting && conn.waiting ≤? N

unfoldable pub goes_as : ℕ → List ℕ → ℕ → ℕ
goes_as N words c =
    when c =? 0 then 0
    else when may_go N words c then c
    else 0

unfoldable pub leaver_of : ℕ → ℕ → ℕ → List ℕ → List ℕ → ℕ → ℕ
leaver_of N z kind cells words x =
    when may_leave N z kind cells words x then connection z (header_at kind cells (cell_start x)) else 0

unfoldable pub off_from : ℕ → ℕ → ℕ → ℕ → ℕ → Option Off
off_from N c x follower tail =
    when c =? 0 then None
    else when x =? tail then Some (off_as x c (ends_of empty empty))
    else when follower <? N then Some (off_as x c (ends_of follower tail))
    else None

-- own's words need no reading, and neither does the header in space s
unfoldable pub leaver_after : ℕ → ℕ → ℕ → List ℕ → List ℕ → ℕ → ℕ → ℕ → ℕ
leaver_after N z kind cells words own s x =
    let c = numbered kind z (header_at kind cells (cell_start x)) in
    when x =? s then own
    else when c =? own then own
    else goes_as N words c

-- links are as the cell and the join leave them; cells and words as they came
unfoldable pub off_after : ℕ → ℕ → ℕ → List ℕ → List ℕ → List ℕ → ℕ → ℕ → ℕ → ℕ → Option Off
off_after N z kind cells links words own s x tail =
    off_from N (leaver_after N z kind cells words own s x) x (get_or links x 0) tail
