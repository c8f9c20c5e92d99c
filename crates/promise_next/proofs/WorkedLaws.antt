-- The worked run computes to the answers that it names.
use mathlib.Core.Path.{refl}
use Rattle.meaning.specs.Next.{first_in, next_mark, wait_for}
use Rattle.meaning_runs.specs.Computed.{by_computation}
use Rattle.promise_next.specs.Worked.{answers_after, NextWorked}

pub next_worked : NextWorked
unfolding by_computation first_in next_mark wait_for answers_after
next_worked = refl
