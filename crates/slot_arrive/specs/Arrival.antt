-- What steps 2 and 3 of a slot find in the words of connections, as numbers: nothing is written yet.
--
--   brought_of   == step 2: None where a word that is read is out of its range; Some None where nothing is to be written; else S of
--                  both buckets
--   judged_of    == step 3: None where a word that is read is out of its range; else verdict, VCI and D of the answer; the connection's
--                  new S and, of a cell that is let in, its new waiting; the second bucket's new S
use Rattle.std.specs.Prelude.{ℕ, ◌+◌, ◌-◌, ◌%◌, Bool, not, Option, Some, None, List, length, get_or, set}
use Rattle.meaning.specs.Plain.{when◌then◌else◌, ◌<?◌, ◌=?◌}
use Rattle.meaning.specs.Numbers.{unused, kind_in_range, nothing, excess, unknown, s_place, last_place, waiting_place, second_splace}
use Rattle.meaning.specs.Header.{header_at, clp_in, no_user_cell, connection, names_connection}
use Rattle.leaf_header.specs.Name.{no_name, name_at, number_for}
use Rattle.meaning.specs.Bucket.{elapsed, delay, fill}
use Rattle.meaning.specs.Words.{Connection, connection_at, buckets_fit, fallen_to}
use Rattle.meaning.specs.Arrival.{verdict_on, second_after}
use Rattle.slot_arrive.specs.declared.Fall.{Fall}
use Rattle.slot_arrive.specs.declared.Judged.{Judged}

abbrev pub fall_of : ℕ → ℕ → Fall
fall_of S second = record { s = S; second = second }

-- an open connection with its buckets at slot t
unfoldable pub connection_now : ℕ → Connection → Connection
connection_now t vc = fallen_to (elapsed t vc.last) t vc

unfoldable pub brought_of : ℕ → ℕ → ℕ → List ℕ → ℕ → Option (Option Fall)
brought_of N z t words vci =
    let vc = connection_at words vci in
    when unused z vci then Some None
    else when vc.opened =? 0 then Some None
    else when vc.opened =? 1
    then (when buckets_fit N vc then Some (Some (fall_of (connection_now t vc).bucket.S (connection_now t vc).second.S)) else None)
    else None

abbrev pub judged_as : ℕ → ℕ → ℕ → ℕ → ℕ → ℕ → Judged
judged_as verdict vci D S waiting second =
    record { verdict = verdict; vci = vci; d = D; s = S; waiting = waiting; second = second }

-- the connection is open, its words but waiting are in range, and its buckets are those at this slot
unfoldable pub judged_buckets : ℕ → ℕ → ℕ → Connection → Option Judged
judged_buckets N vci clp vc =
    let verdict = verdict_on clp vc in
    when verdict =? excess then Some (judged_as excess vci 0 vc.bucket.S 0 vc.second.S)
    else when vc.waiting <? N
    then Some (judged_as verdict vci (delay vc.bucket) (fill vc.bucket).S (vc.waiting + 1) (second_after clp verdict vc.second).S)
    else None

-- a cell with this VCI and this CLP, of the connection c
unfoldable pub judged_connection : ℕ → ℕ → List ℕ → ℕ → ℕ → ℕ → Option Judged
judged_connection N t words vci c clp =
    let vc = connection_at words c in
    when vc.opened =? 0 then Some (judged_as unknown vci 0 0 0 0)
    else when vc.opened =? 1
    then (when buckets_fit N vc then judged_buckets N c clp (connection_now t vc) else None)
    else None

-- the number that stands for a cell: VPI and VCI of its header, or 0 where it has no octets
unfoldable pub cell_name : ℕ → List ℕ → ℕ
cell_name kind cell = when length cell =? 0 then 0 else name_at kind cell 0

-- step 3 of a cell with this name and this CLP
unfoldable pub judged_name : ℕ → ℕ → ℕ → List ℕ → ℕ → ℕ → Option Judged
judged_name N z t words name clp =
    when name =? 0 then Some (judged_as nothing 0 0 0 0 0)
    else when number_for z name =? 0
    then (when name =? no_name then None else Some (judged_as unknown (name % 65536) 0 0 0 0))
    else judged_connection N t words (name % 65536) (number_for z name) clp

unfoldable pub judged_of : ℕ → ℕ → ℕ → ℕ → List ℕ → List ℕ → Option Judged
judged_of N z kind t words cell =
    let h = header_at kind cell 0 in
    when length cell =? 0 then Some (judged_as nothing 0 0 0 0 0)
    else when not (kind_in_range kind) then None
    else when no_user_cell h then Some (judged_as nothing 0 0 0 0 0)
    else when not (names_connection z h) then Some (judged_as unknown h.vci 0 0 0 0)
    else judged_connection N t words h.vci (connection z h) (clp_in cell)

-- both S and last of a connection written, where on
unfoldable pub fallen : Bool → ℕ → ℕ → ℕ → ℕ → List ℕ → List ℕ
fallen on vci S second t words =
    when on then set (set (set words (s_place vci) S) (last_place vci) t) (second_splace vci) second else words

-- both S, last and waiting of a connection written
unfoldable pub filled : ℕ → ℕ → ℕ → ℕ → ℕ → List ℕ → List ℕ
filled vci S second t waiting words =
    set (set (set (set words (s_place vci) S) (last_place vci) t) (waiting_place vci) waiting) (second_splace vci) second

-- waiting of a connection, one less
unfoldable pub one_less : ℕ → List ℕ → List ℕ
one_less vci words = set words (waiting_place vci) (get_or words (waiting_place vci) 0 - 1)
