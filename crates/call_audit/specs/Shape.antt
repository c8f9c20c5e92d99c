-- The clauses that need no walk: "lengths and ranges hold" but for the connections' words, as one test of the state.
--
--   record_fits r    == T, rotation, raw, mode, the line kind and the splits are in their ranges
--   shape_holds s    == they are, and so are N, V and the six lengths
use Rattle.std.specs.Prelude.{Bool, ◌&&◌}
use Rattle.meaning.specs.declared.Record.{Record}
use Rattle.meaning.specs.Plain.{◌<?◌, ◌≤?◌}
use Rattle.meaning.specs.Numbers.{ranges_hold, splits_hold, connections_in, kind_in_range}
use Rattle.meaning.specs.State.{State, sizes_hold}

-- document 02 (i): raw and mode are each 0 or 1; (vi): so is the line kind, and rotation goes over all connections; (xi): the splits
unfoldable pub record_fits : Record → Bool
record_fits r =
    r.turn <? r.n
    && r.rotation <? connections_in r.v
    && r.raw ≤? 1
    && r.mode ≤? 1
    && kind_in_range r.kind
    && splits_hold r.v r.splitvci r.splitpath

unfoldable pub shape_holds : State → Bool
shape_holds s =
    ranges_hold s.ctl.n s.ctl.v
    && sizes_hold s
    && record_fits s.ctl
