-- `slot_quiet::quiet_none` meets its contract: only steps 2 and 3 write, and the answer names no space.
use mathlib.Core.Path.{refl}
use native.Mathlib.Omega.{arith}
use Rattle.slot_plan.proofs.QuietCases.{quiet_served}
use Rattle.slot_quiet.proofs.quiet_none.Goals as goal

pub words_fall-requires : goal.words_fall-requires
words_fall-requires c =
    let pre = c.requires in
    record { has_connection = omega arith; has_connection_2 = λ e. let h = pre.vci_bound e in omega (arith, h) }

pub returns : goal.returns
returns c =
    λ cells links calendar bits arrived.
    let a = c.args in
    quiet_served a.k a.b a.j cells links calendar a.words.now bits arrived _ _ refl refl c.words_fall.ensures
