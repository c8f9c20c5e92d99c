-- Every row of the table of starred cases holds: what the calls say, by the definitions that their contracts cite, is what
-- document 01 gives. By computation.
use mathlib.Core.Path.{◌≡◌, refl}
use mathlib.Core.List.{map}
use Rattle.promise_starred.specs.Row.{says, expects}
use Rattle.promise_starred.specs.Table.{starred_table, eight_slots, one_space, openings, second16, second15, far_apart}
use Rattle.promise_starred.specs.Table.{table_i, table_ii, close_waiting}
use Rattle.meaning_runs.specs.Computed.{by_computation}

pub starred : map says starred_table ≡ map expects starred_table
unfolding by_computation starred_table eight_slots one_space openings second16 second15 far_apart table_i table_ii close_waiting
starred = refl
