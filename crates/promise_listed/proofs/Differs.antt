-- Two cells, one after the other: both have space 0 by the bits, the second has space 1 by the Free List. By computation.
use mathlib.Core.Path.{refl}
use Rattle.meaning_runs.specs.Computed.{by_computation}
use Rattle.meaning_listed.specs.Listed.{place_listed, accept_listed, judge_listed, step3_listed, step4_listed, depart_listed, step5_listed, five_listed, finish_listed, four_hold, slot_listed, count_up, fresh_listed}
use Rattle.meaning_listed.specs.Runs.{call_listed, calls_listed}
use Rattle.promise_listed.specs.Same.{SpacesDiffer}

pub spaces_differ : SpacesDiffer
unfolding by_computation place_listed accept_listed judge_listed step3_listed step4_listed depart_listed step5_listed five_listed finish_listed four_hold slot_listed count_up fresh_listed call_listed calls_listed
spaces_differ = (refl, refl)
