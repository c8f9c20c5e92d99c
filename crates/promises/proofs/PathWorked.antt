-- The worked run of a path: an open path's cells show V + VPI, whatever their VCI; of a closed path, of a VPI above 255 and of a VC
-- outside V the VCI as read. By computation.
use mathlib.Core.Path.{◌≡◌, refl}
use Rattle.meaning_runs.specs.Computed.{by_computation}
use Rattle.promises.specs.PathWorked.{path_events, answers_in, refusals_in, path_answers, path_numbers}

pub path_answers_lem : answers_in path_events ≡ path_answers
unfolding by_computation
path_answers_lem = refl

pub path_numbers_lem : refusals_in path_events ≡ path_numbers
unfolding by_computation
path_numbers_lem = refl
