-- `slot_quiet::quiet_end` meets its contract: steps 2 and 3 keep what waits, so that the departing VC has a cell waiting.
use native.Mathlib.Omega.{arith}
use mathlib.Core.List.{[]}
use Rattle.slot_plan.proofs.Cases.{quiet_kept}
use Rattle.slot_plan.proofs.Ends.{read_same, quiet_left_lem}
use Rattle.slot_quiet.proofs.quiet_end.Goals as goal

pub overflow_add-k : goal.overflow_add-k
overflow_add-k c = record { fits = omega (arith, c.requires.free_le_most_n.0) }

pub words_fall-requires : goal.words_fall-requires
words_fall-requires c =
    let pre = c.requires in
    record { has_connection = omega arith; has_connection_2 = λ e. let h = pre.vci_bound e in omega (arith, h) }

pub put_less-requires : goal.put_less-requires
put_less-requires c =
    let a = c.args in
    let pre = c.requires in (
      omega arith,
      read_same _ _ _ c.words_fall.ensures
          (rw ((quiet_kept a.k a.b a.j [] [] [] a.words.now [] []).waiting a.o.vci) pre.may_end.4),
    )

pub put_link-requires : goal.put_link-requires
put_link-requires c =
    let pre = c.requires in
    λ e. let h = pre.outtail_lt_n e in omega (arith, h)

pub shape_of-words : goal.shape_of-words
shape_of-words c =
    omega (arith, c.words_fall.auto, c.put_less.auto)

pub returns : goal.returns
returns c =
    λ cells calendar calendar' arrived.
    let a = c.args in
    quiet_left_lem a.k a.b a.j a.o cells a.links.now calendar a.words.now a.bits.now arrived c.left.result _ _ calendar' _
    _ _ _ c.left.ensures c.put_link.ensures c.words_fall.ensures
    c.put_less.ensures c.release.ensures
