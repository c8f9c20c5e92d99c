-- `burst_depart::plan` meets its contract: entry T's ends are judged one after the other, and by the head it is marked or not.
use Rattle.mem_lists.specs.Spaces.{ends_of}
use Rattle.mem_lists.proofs.PairLaws.{both_low, both_empty, head_high, tail_high, tail_left}
use Rattle.burst_depart.proofs.PlanLaws.{entry_by, planned_unmarked, planned_marked}
use Rattle.slot_plan.proofs.Found.{no}
use mathlib.Core.Path.{sym, ◌∙◌}
use Rattle.burst_way.specs.Way.{slot_record}
use Rattle.burst_depart.proofs.plan.Goals as goal

pub returns-then-head-eq65535 : goal.returns-then-head-eq65535
returns-then-head-eq65535 c =
    let a = c.args in
    let h = c.from-head.result in
    let t = c.from-tail.result in
    rw (entry_by a.calendar.now a.w.turn h t c.from-head.ensures c.from-tail.ensures)
    (planned_unmarked (slot_record a.w) a.links.now (ends_of h t) (both_empty a.w.n h t c.requires.0 c.if-head-eq65535.true c.if-tail-ne65535.false)
    c.if-head-eq65535.true c.plan_unmarked.result c.plan_unmarked.ensures)

pub returns : goal.returns
returns c =
    let a = c.args in
    let h = c.from-head.result in
    let t = c.from-tail.result in
    rw (entry_by a.calendar.now a.w.turn h t c.from-head.ensures c.from-tail.ensures)
    (planned_marked (slot_record a.w) a.links.now (ends_of h t) (both_low a.w.n h t c.if-head-w.false c.if-tail-w.false)
    c.if-head-eq65535.false c.plan_marked.result c.plan_marked.ensures)

pub returns-then-tail-ne65535 : goal.returns-then-tail-ne65535
returns-then-tail-ne65535 c =
    let a = c.args in
    rw (entry_by a.calendar.now a.w.turn c.from-head.result c.from-tail.result c.from-head.ensures c.from-tail.ensures)
    (λ l. no (sym (tail_left a.w.n _ _ c.requires.0 c.if-head-eq65535.true c.if-tail-ne65535.true) ∙ l.entry_fits))

pub returns-then-head-w : goal.returns-then-head-w
returns-then-head-w c =
    let a = c.args in
    rw (entry_by a.calendar.now a.w.turn c.from-head.result c.from-tail.result c.from-head.ensures c.from-tail.ensures)
    (λ l. no (sym (head_high a.w.n _ _ c.if-head-eq65535.false c.if-head-w.true) ∙ l.entry_fits))

pub returns-then-tail-w : goal.returns-then-tail-w
returns-then-tail-w c =
    let a = c.args in
    rw (entry_by a.calendar.now a.w.turn c.from-head.result c.from-tail.result c.from-head.ensures c.from-tail.ensures)
    (λ l. no (sym (tail_high a.w.n _ _ c.requires.0 c.if-head-w.false c.if-tail-w.true) ∙ l.entry_fits))
