-- The engine gives source 003's Tables I and II, ten verdicts each, and every earliness that they print; and three edges:
-- by computation.
use mathlib.Core.Path.{◌≡◌, refl}
use mathlib.Core.Bool.{true}
use lib.IntN.{pos, negsuc}
use Rattle.meaning.specs.Numbers.{slot_numbers}
use Rattle.meaning.specs.Bucket.{obeys_rules}
use Rattle.call_time.specs.Schedule.{tat_of, timed_of, too_late, stored_fits, in_order, refusal_of, scheduled, expected_at, timed}
use Rattle.call_time.specs.Tables.{table_i, table_ii, printed, says}

pub table_I : says 1 125 table_i ≡ printed table_i
unfolding timed refusal_of stored_fits in_order scheduled expected_at too_late slot_numbers obeys_rules table_i
table_I = refl

pub table_II : says 12 136 table_ii ≡ printed table_ii
unfolding timed refusal_of stored_fits in_order scheduled expected_at too_late slot_numbers obeys_rules table_ii
table_II = refl

-- as late as can be
late : timed (tat_of 32768 0 true) 1 15 32768 32768 4294967295
    ≡ timed_of 0 1 (negsuc 140737488289791) 140737488322560 (tat_of 140737488355328 4294967295 true)
unfolding timed refusal_of stored_fits in_order scheduled expected_at too_late slot_numbers obeys_rules
late = refl

-- early by the tolerance exactly, and by one part more
tolerance : timed (tat_of 36 0 true) 5 2 10 26 5 ≡ timed_of 0 1 (pos 16) 36 (tat_of 46 5 true)
unfolding timed refusal_of stored_fits in_order scheduled expected_at too_late slot_numbers obeys_rules
tolerance = refl

beyond : timed (tat_of 37 0 true) 5 2 10 26 5 ≡ timed_of 0 2 (pos 17) 0 (tat_of 37 5 true)
unfolding timed refusal_of stored_fits in_order scheduled expected_at too_late slot_numbers obeys_rules
beyond = refl
