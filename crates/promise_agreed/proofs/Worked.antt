-- Document 01's eight slots: the engine was asked for the five cells of VC 40, the last accepted one due at 30 parts in slot 4.
use mathlib.Core.Path.{◌≡◌, refl}
use mathlib.Core.Bool.{true}
use Rattle.meaning_runs.specs.Computed.{by_computation}
use Rattle.meaning_runs.specs.Eight.{eight_events}
use Rattle.call_time.specs.Schedule.{tat_of, too_late, stored_fits, in_order, refusal_of, scheduled, expected_at, timed}
use Rattle.promise_agreed.specs.Agreed.{watch, is_for, engine_after}

eight : engine_after (watch 5 64 0 40 2 10 26) eight_events ≡ tat_of 40 4 true
unfolding by_computation engine_after is_for timed refusal_of stored_fits in_order scheduled expected_at too_late
eight = refl
