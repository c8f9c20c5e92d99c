-- `slot_accept::accept_seated` meets its contract: what departs is found before anything is written; the cell is stored, then o departs.
use Prim.Native.Nat.{ℕ}
use Rattle.std.specs.Prelude.{Some}
use mathlib.Core.Path.{◌≡◌, sym, ◌∙◌, ap, subst}
use mathlib.Core.Bool.{false}
use mathlib.Core.List.{List}
use native.Mathlib.Omega.{arith}
use Rattle.meaning.specs.Plain.{when◌then◌else◌}
use Rattle.meaning.specs.Bits.{is_free_space, taken, unmarked}
use Rattle.meaning.specs.Lists.{empty_list, write_entry}
use Rattle.meaning.proofs.MarksLaws.{marked_free}
use Rattle.mem_lists.specs.Spaces.{linked}
use Rattle.slot_plan.proofs.Ends.{read_same, accept_served, accept_left_lem, as_came, went}
use Rattle.slot_accept.proofs.GoingLaws.{going_says}
use Rattle.slot_accept.proofs.accept_seated.Goals as goal

pub going-requires : goal.going-requires
going-requires c =
    let pre = c.requires in
    let z = pre.sized in
    record { may_go = (z.n_high, z.v_high, z.cells_long_lem, z.links_long, z.words_long, z.bits_long, pre.outtail_value, pre.seated.x_low, pre.seated.is_free); turn_in_bounds = omega (arith, z.turn_low, z.calendar_long) }

pub returns-in_default : goal.returns-in_default
returns-in_default c =
    let a = c.args in
    let pre = c.requires in
    let says = going_says a.k a.b a.j a.a a.cell.now a.cells.now a.links.now a.calendar.now a.words.now a.bits.now a.arrived.now pre.sized pre.accepted pre.seated pre.outtail_value _ c.going.ensures in
    as_came a.r a.cells.now a.links.now a.calendar.now a.words.now a.bits.now a.arrived.now _ _ c.refuse_for.ensures
    (says.refuses c.in_default.is)

pub store-requires : goal.store-requires
store-requires c =
    let pre = c.requires in
    record { sized = pre.sized; accepted = pre.accepted; seated = pre.seated }

pub stay-requires : goal.stay-requires
stay-requires c =
    c.requires.seated.some_free

pub shape_of-cells-in_default-departs : goal.shape_of-cells-in_default-departs
shape_of-cells-in_default-departs c =
    omega (arith, c.store.auto)

pub shape_of-links-in_default-departs : goal.shape_of-links-in_default-departs
shape_of-links-in_default-departs c =
    omega (arith, c.store.auto)

pub shape_of-calendar-in_default-departs : goal.shape_of-calendar-in_default-departs
shape_of-calendar-in_default-departs c =
    omega (arith, c.store.auto)

pub shape_of-words-in_default-departs : goal.shape_of-words-in_default-departs
shape_of-words-in_default-departs c =
    omega (arith, c.store.auto)

pub shape_of-bits-in_default-departs : goal.shape_of-bits-in_default-departs
shape_of-bits-in_default-departs c =
    omega (arith, c.store.auto)

pub shape_of-arrived-in_default-departs : goal.shape_of-arrived-in_default-departs
shape_of-arrived-in_default-departs c =
    omega (arith, c.store.auto)

pub returns-in_default-departs : goal.returns-in_default-departs
returns-in_default-departs c =
    let a = c.args in
    let pre = c.requires in
    let says = going_says a.k a.b a.j a.a a.cell.now a.cells.now a.links.now a.calendar.now a.words.now a.bits.now a.arrived.now pre.sized pre.accepted pre.seated pre.outtail_value _ c.going.ensures in
    let stored = c.store.ensures in
    went a.r a.cells.now a.links.now a.calendar.now a.words.now a.bits.now a.arrived.now _ _ _
    (says.stays (c.in-Some.is ∙ ap Some c.in_default-departs.is))
    (accept_served a.k a.b a.j a.a a.cell.now a.cells.now a.links.now a.calendar.now a.words.now a.bits.now a.arrived.now _ _ _ _ _ _ _
    c.stay.ensures.0 c.stay.ensures.1 stored.cells stored.links stored.calendar stored.words stored.bits stored.arrived)

pub leave-requires : goal.leave-requires
leave-requires c =
    let a = c.args in
    let pre = c.requires in
    let z = pre.sized in
    let says = going_says a.k a.b a.j a.a a.cell.now a.cells.now a.links.now a.calendar.now a.words.now a.bits.now a.arrived.now pre.sized pre.accepted pre.seated pre.outtail_value _ c.going.ensures in
    let some = c.in-Some.is ∙ ap Some c.in-Some-departs.is in
    let g = c.in-Some-departs.g in
    let stored = c.store.ensures in
    let kept = c.store.auto in
    let departs = says.connection g some in (
      omega (arith, z.words_long, departs.0, kept),
      read_same _ _ _ stored.words departs.1,
      omega (arith, z.turn_low, z.calendar_long, kept),
      λ e. (let low = says.tail_low g some e in omega (arith, low, z.links_long, kept)),
      says.space_low g some,
      omega (arith, z.bits_long, kept),
      subst (λ (l : List ℕ). is_free_space l g.off.space ≡ false) (sym stored.bits)
          (marked_free (taken a.bits.now a.a.x) a.a.e g.off.space ∙ says.held g some),
      λ e. omega (arith, z.turn_low, z.n_high),
    )

pub shape_of-cells : goal.shape_of-cells
shape_of-cells c =
    omega (arith, c.store.auto, c.leave.auto)

pub shape_of-links : goal.shape_of-links
shape_of-links c =
    omega (arith, c.store.auto, c.leave.auto)

pub shape_of-calendar : goal.shape_of-calendar
shape_of-calendar c =
    omega (arith, c.store.auto, c.leave.auto)

pub shape_of-words : goal.shape_of-words
shape_of-words c =
    omega (arith, c.store.auto, c.leave.auto)

pub shape_of-bits : goal.shape_of-bits
shape_of-bits c =
    omega (arith, c.store.auto, c.leave.auto)

pub shape_of-arrived : goal.shape_of-arrived
shape_of-arrived c =
    omega (arith, c.store.auto, c.leave.auto)

pub returns : goal.returns
returns c =
    let a = c.args in
    let pre = c.requires in
    let says = going_says a.k a.b a.j a.a a.cell.now a.cells.now a.links.now a.calendar.now a.words.now a.bits.now a.arrived.now pre.sized pre.accepted pre.seated pre.outtail_value _ c.going.ensures in
    let some = c.in-Some.is ∙ ap Some c.in-Some-departs.is in
    let g = c.in-Some-departs.g in
    let stored = c.store.ensures in
    let left = c.leave.ensures in
    went a.r a.cells.now a.links.now a.calendar.now a.words.now a.bits.now a.arrived.now _ _ _
    (says.leaves g some)
    (accept_left_lem a.k a.b a.j a.a g.off a.cell.now a.cells.now a.links.now a.calendar.now a.words.now a.bits.now a.arrived.now c.leave.result _ _ _ _ _ _ _ _ _ _ _
    pre.seated.some_free left.served stored.cells
    (left.links ∙ ap (linked g.joins a.k.outtail g.from) stored.links)
    (left.calendar ∙ ap (λ (l : List ℕ). when g.clears then write_entry l a.k.turn empty_list else l) stored.calendar)
    stored.words left.words
    (ap (λ (l : List ℕ). when g.clears then unmarked l a.k.turn else l) stored.bits)
    left.bits stored.arrived)
