-- `slot_accept::accept` meets its contract: a seat is found as step 3 finds it, and the Output List is judged before anything is written.
use native.Mathlib.Omega.{arith}
use Rattle.mem_lists.proofs.PairLaws.{head_high, tail_high, both_low, tail_left, both_empty}
use Rattle.slot_plan.specs.Plan.{rotated}
use Rattle.slot_plan.proofs.Ends.{as_came, goes_on}
use Rattle.slot_plan.proofs.Steps.{now_none, now_goes, now_shows}
use Rattle.slot_accept.proofs.PairLaws.{output_unfit}
use Rattle.slot_accept.proofs.accept.Goals as goal
use Rattle.slot_accept.proofs.accept.Goals.{then-k-eq65535+else-k-ne65535, else-k-eq65535+else-k+else-k-2}

pub seat_now-requires : goal.seat_now-requires
seat_now-requires c =
    let pre = c.requires in
    let z = pre.sized in
    record { n_le_most_n = (z.n_high, z.turn_low, pre.accepted.near); calendar_len = (omega (arith, z.calendar_long), omega (arith, z.bits_long)) }

pub returns-in_default : goal.returns-in_default
returns-in_default c =
    let a = c.args in
    let pre = c.requires in
    as_came a.r a.cells.now a.links.now a.calendar.now a.words.now a.bits.now a.arrived.now _ _ c.refuse_for.ensures
    (now_none a.k a.j a.cell.now a.cells.now a.links.now a.calendar.now
    (rotated a.k a.b a.words.now) a.bits.now a.arrived.now pre.sized.turn_low pre.accepted.near c.seat_now.result
    c.seat_now.ensures c.in_default.is)

pub returns-then-k-ne65535 : goal.returns-then-k-ne65535
returns-then-k-ne65535 c =
    let a = c.args in
    let pre = c.requires in
    output_unfit a.r a.k a.b a.j c.in-Some.a a.cell.now a.cells.now a.links.now
    a.calendar.now a.words.now a.bits.now a.arrived.now _ c.refuse_for-then-k-ne65535.ensures pre.sized pre.accepted _ c.seat_now.ensures c.in-Some.is
    (tail_left _ _ _ pre.sized.n_high c.if-k-eq65535.true c.if-k-ne65535.true)

pub returns-then-k : goal.returns-then-k
returns-then-k c =
    let a = c.args in
    let pre = c.requires in
    output_unfit a.r a.k a.b a.j c.in-Some.a a.cell.now a.cells.now a.links.now
    a.calendar.now a.words.now a.bits.now a.arrived.now _ c.refuse_for-then-k.ensures pre.sized pre.accepted _ c.seat_now.ensures c.in-Some.is
    (head_high _ _ _ c.if-k-eq65535.false c.if-k.true)

pub returns-then-k-2 : goal.returns-then-k-2
returns-then-k-2 c =
    let a = c.args in
    let pre = c.requires in
    output_unfit a.r a.k a.b a.j c.in-Some.a a.cell.now a.cells.now a.links.now
    a.calendar.now a.words.now a.bits.now a.arrived.now _ c.refuse_for-then-k-2.ensures pre.sized pre.accepted _ c.seat_now.ensures c.in-Some.is
    (tail_high _ _ _ pre.sized.n_high c.if-k.false c.if-k-2.true)

pub accept_seated-requires : goal.accept_seated-requires
accept_seated-requires c =
    let a = c.args in
    let pre = c.requires in
    record {
      sized = pre.sized;
      accepted = pre.accepted;
      seated = now_shows a.k a.j a.cell.now a.cells.now a.links.now a.calendar.now
          (rotated a.k a.b a.words.now) a.bits.now a.arrived.now pre.sized.turn_low pre.accepted.near c.seat_now.result
          c.seat_now.ensures _ c.in-Some.is;
      outtail_value = elim c.if-k-eq65535.branch [
        | then-k-eq65535+else-k-ne65535 w ↦ both_empty _ _ _ pre.sized.n_high w.if-k-eq65535.true w.if-k-ne65535.false
        | else-k-eq65535+else-k+else-k-2 w ↦ both_low _ _ _ w.if-k.false w.if-k-2.false
      ];
    }

pub returns : goal.returns
returns c =
    let a = c.args in
    let pre = c.requires in
    goes_on a.r a.cells.now a.links.now a.calendar.now a.words.now a.bits.now a.arrived.now _ _ _
    (now_goes a.k a.j a.cell.now a.cells.now a.links.now a.calendar.now
    (rotated a.k a.b a.words.now) a.bits.now a.arrived.now pre.sized.turn_low pre.accepted.near c.seat_now.result
    c.seat_now.ensures _ c.in-Some.is)
    c.accept_seated.ensures
