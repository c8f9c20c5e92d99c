-- The engine says of the starred cases what document 01 gives the policer: by computation, so that a row that held no cell
-- would be seen (`ten`).
use mathlib.Core.Path.{◌≡◌, refl}
use lib.ListN.{length}
use Rattle.meaning.specs.Numbers.{slot_numbers}
use Rattle.meaning.specs.Bucket.{obeys_rules}
use Rattle.promise_starred.specs.Table.{eight_slots, one_space, second16, second15, table_i, table_ii}
use Rattle.call_time.specs.Schedule.{too_late, stored_fits, in_order, refusal_of, scheduled, expected_at, timed}
use Rattle.promise_agreed.specs.Beside.{noted_in, BesideStarred}

pub beside : BesideStarred
unfolding timed refusal_of stored_fits in_order scheduled expected_at too_late slot_numbers obeys_rules eight_slots one_space second16 second15 table_i table_ii
beside =
    record {
      eight_40 = refl;
      eight_41 = refl;
      one_space_lem = refl;
      second_16 = refl;
      second_15 = refl;
      table_I = refl;
      table_II = refl;
    }

-- the tables have ten cells each
ten : (length (noted_in 1 table_i) ≡ 10) × (length (noted_in 1 table_ii) ≡ 10)
unfolding table_i table_ii
ten = (refl, refl)
