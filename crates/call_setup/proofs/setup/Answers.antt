-- `call_setup::setup` meets its contract: a refusal leaves all as it came, and otherwise the fills leave the fresh state.
use Rattle.std.proofs.Common.{arith, sym, ◌∙◌, ap, ℕ}
use Rattle.meaning.specs.declared.Record.{Record}
use Rattle.meaning.specs.State.{State, state_of}
use Rattle.meaning.specs.Calls.{set_up_of, zeros, asked_of, chosen}
use Rattle.leaf_refusal.proofs.Numbers.{never_0}
use Rattle.call_setup.proofs.Refusals.{setup_refused, setup_done, setup_lent, fresh_is}
use Rattle.call_setup.proofs.setup.Goals as goal

pub returns-in-Err : goal.returns-in-Err
returns-in-Err c =
    let a = c.args in
    let e = c.in-Err.ensures in
    let s = λ (k : ℕ) (r : Record). set_up_of k (state_of r a.cells.now a.links.now a.calendar.now a.words.now a.bits.now a.arrived.now) in
    ap (s c.from.result) c.no_record.ensures
    ∙ (ap (λ (k : ℕ). s k zeros) (c.from.ensures ∙ e)
    ∙ setup_refused a.n a.v a.kind a.splitvci a.splitpath a.cells.now a.links.now a.calendar.now a.words.now a.bits.now a.arrived.now a.raw
    (λ z. never_0 c.in-Err.why (e ∙ z)))

pub fresh_record-requires : goal.fresh_record-requires
fresh_record-requires c =
    let a = c.args in
    let none = sym c.in_default.ensures in
    let l = setup_lent a.n a.v a.kind a.splitvci a.splitpath a.cells.now a.links.now a.calendar.now a.words.now a.bits.now a.arrived.now none in
    omega (arith, l.ranges.N_least, l.ranges.V_most, l.kind_low)

pub returns : goal.returns
returns c =
    let a = c.args in
    let none = sym c.in_default.ensures in
    ap (λ (s : State). set_up_of 0 s)
    (fresh_is a.n a.v a.kind a.splitvci a.splitpath a.cells.now a.links.now a.calendar.now a.words.now a.bits.now a.arrived.now
    (setup_lent a.n a.v a.kind a.splitvci a.splitpath a.cells.now a.links.now a.calendar.now a.words.now a.bits.now a.arrived.now none)
    (chosen (asked_of a.raw a.kind a.splitvci a.splitpath))
    _
    _
    _
    _
    _
    _
    _
    c.fresh_record.ensures
    (c.fill.ensures.after (λ y e. e))
    (c.fill-2.ensures.after (λ y e. e))
    (c.fill-3.ensures.after (λ y e. e))
    (c.fill-4.ensures.after (λ y e. e))
    c.free_all.ensures
    (c.fill-5.ensures.after (λ y e. e)))
    ∙ setup_done a.n a.v a.kind a.splitvci a.splitpath a.cells.now a.links.now a.calendar.now a.words.now a.bits.now a.arrived.now a.raw none
