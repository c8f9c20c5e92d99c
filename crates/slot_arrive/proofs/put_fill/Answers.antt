-- `slot_arrive::put_fill` meets its contract: four stores.
use lib.ListN.{length-set}
use native.Mathlib.Omega.{arith}
use mathlib.Core.Path.{refl}
use Rattle.slot_arrive.specs.Arrival.{filled}
use Rattle.slot_arrive.proofs.put_fill.Goals as goal

pub bounds-words-b-2 : goal.bounds-words-b-2
bounds-words-b-2 c = simp length-set (omega arith)

pub bounds-words-b-3 : goal.bounds-words-b-3
bounds-words-b-3 c = simp length-set (omega arith)

pub bounds-words-b-4 : goal.bounds-words-b-4
bounds-words-b-4 c = simp length-set (omega arith)

pub returns : goal.returns
unfolding filled
returns c = refl
