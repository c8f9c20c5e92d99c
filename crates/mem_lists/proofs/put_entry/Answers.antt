-- `mem_lists::put_entry` meets its contract: two stores, head and tail.
use Rattle.meaning.specs.Lists.{write_entry}
use lib.ListN.{length-set}
use native.Mathlib.Omega.{arith}
use mathlib.Core.Path.{refl}
use Rattle.mem_lists.proofs.put_entry.Goals as goal

pub bounds-calendar-at-2 : goal.bounds-calendar-at-2
bounds-calendar-at-2 c = simp length-set (omega arith)

pub returns : goal.returns
unfolding write_entry
returns c = refl
