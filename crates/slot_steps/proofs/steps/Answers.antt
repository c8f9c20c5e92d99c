-- `slot_steps::steps` meets its contract: steps 2 and 3 are judged on the words as they came, then the case writes.
use Rattle.std.proofs.Common.{sym, ap, ◌∙◌, arith, eq-eqb, eqb-true}
use Rattle.meaning.specs.Bits.{lowest_free}
use Rattle.meaning.specs.State.{state_of}
use Rattle.meaning.specs.Slot.{finish}
use Rattle.slot_arrive.proofs.JudgedLaws.{judged_cell}
use Rattle.slot_plan.proofs.Found.{judged_shows}
use Rattle.slot_plan.proofs.Ends.{as_came}
use Rattle.slot_arrive.specs.Arrival.{cell_name}
use Rattle.slot_plan.proofs.Steps.{rotating_none, arriving_none, arriving_accepted, arriving_quiet}
use Rattle.slot_steps.proofs.steps.Goals as goal

pub returns-in_default : goal.returns-in_default
returns-in_default c =
    let a = c.args in
    as_came a.r a.cells.now a.links.now a.calendar.now a.words.now a.bits.now a.arrived.now _ _ c.refuse_for.ensures
    (rotating_none a.k (lowest_free a.bits.now) a.cell.now a.cells.now a.links.now a.calendar.now a.words.now a.bits.now a.arrived.now
    (sym c.in_default.is ∙ c.bring.ensures))

pub returns-in_default-judge : goal.returns-in_default-judge
returns-in_default-judge c =
    let a = c.args in
    let pre = c.requires in
    as_came a.r a.cells.now a.links.now a.calendar.now a.words.now a.bits.now a.arrived.now _ _ c.refuse_for-in_default-judge.ensures
    (arriving_none a.k (lowest_free a.bits.now) a.cell.now a.cells.now a.links.now a.calendar.now a.words.now a.bits.now a.arrived.now
    c.in-Some.b (sym c.in-Some.is ∙ c.bring.ensures) _ (c.judge.ensures
    ∙ judged_cell a.k.n a.k.v a.k.kind a.k.t a.words.now a.cell.now _ (omega (arith, pre.sized.v_high))
    c.name_of-name.ensures.name c.name_of-name.ensures.reads) (omega (arith, pre.sized.rotation_low, pre.sized.words_long))
    c.in_default-judge.is)

-- a cell that has a name has octets
pub judge-requires : goal.judge-requires
unfolding cell_name
judge-requires c =
    let pre = c.requires in
    (omega (arith, pre.sized.words_long), pre.sized.v_high, λ ne. pre.cell_len (λ z. ne (c.name_of-name.ensures.name ∙ simp (eq-eqb _ _ z))))

pub accept-requires : goal.accept-requires
accept-requires c =
    let a = c.args in
    let pre = c.requires in
    let e = c.judge.ensures
    ∙ judged_cell a.k.n a.k.v a.k.kind a.k.t a.words.now a.cell.now _ (omega (arith, pre.sized.v_high))
    c.name_of-name.ensures.name c.name_of-name.ensures.reads in
    record {
      sized = pre.sized;
      accepted = (judged_shows a.k a.cell.now a.words.now).accepted_is pre.cell_len c.in-Some-judge.j (sym e ∙ c.in-Some-judge.is)
          (sym c.lets_in.ensures ∙ c.if-lets_in.true);
    }

pub returns-then-lets_in : goal.returns-then-lets_in
returns-then-lets_in c =
    let a = c.args in
    let pre = c.requires in
    c.accept.ensures ∙ ap (finish (state_of a.r a.cells.now a.links.now a.calendar.now
    a.words.now a.bits.now a.arrived.now)) (sym (arriving_accepted a.k (lowest_free a.bits.now) a.cell.now a.cells.now a.links.now a.calendar.now
    a.words.now a.bits.now a.arrived.now c.in-Some.b (sym c.in-Some.is ∙ c.bring.ensures) _ (c.judge.ensures
    ∙ judged_cell a.k.n a.k.v a.k.kind a.k.t a.words.now a.cell.now _ (omega (arith, pre.sized.v_high))
    c.name_of-name.ensures.name c.name_of-name.ensures.reads)
    (omega (arith, pre.sized.rotation_low, pre.sized.words_long)) c.in-Some-judge.j c.in-Some-judge.is
    (sym c.lets_in.ensures ∙ c.if-lets_in.true)))

pub quiet-requires : goal.quiet-requires
quiet-requires c =
    let a = c.args in
    let pre = c.requires in
    let e = c.judge.ensures
    ∙ judged_cell a.k.n a.k.v a.k.kind a.k.t a.words.now a.cell.now _ (omega (arith, pre.sized.v_high))
    c.name_of-name.ensures.name c.name_of-name.ensures.reads in
    record {
      sized_with = (a.arrived.now, pre.sized);
      vci_bound = λ x. (judged_shows a.k a.cell.now a.words.now).excess_is c.in-Some-judge.j (sym e ∙ c.in-Some-judge.is) (eqb-true _ _ x);
    }

pub returns : goal.returns
returns c =
    let a = c.args in
    let pre = c.requires in
    c.quiet.ensures a.arrived.now ∙ ap (finish (state_of a.r a.cells.now a.links.now a.calendar.now
    a.words.now a.bits.now a.arrived.now)) (sym (arriving_quiet a.k (lowest_free a.bits.now) a.cell.now a.cells.now a.links.now a.calendar.now
    a.words.now a.bits.now a.arrived.now c.in-Some.b (sym c.in-Some.is ∙ c.bring.ensures) _ (c.judge.ensures
    ∙ judged_cell a.k.n a.k.v a.k.kind a.k.t a.words.now a.cell.now _ (omega (arith, pre.sized.v_high))
    c.name_of-name.ensures.name c.name_of-name.ensures.reads)
    (omega (arith, pre.sized.rotation_low, pre.sized.words_long)) c.in-Some-judge.j c.in-Some-judge.is
    (sym c.lets_in.ensures ∙ c.if-lets_in.false)))
