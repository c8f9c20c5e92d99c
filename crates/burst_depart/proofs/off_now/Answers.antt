-- `burst_depart::off_now` meets its contract: the cell itself departs, or the Output List's head, entry T having joined its end.
use Rattle.burst_depart.proofs.NowLaws.{tail_is, alone_leaves, behind_leaves}
use Rattle.burst_depart.proofs.SeenLaws.{some_is, none_is}
use Rattle.burst_depart.proofs.LeaveLaws.{not_held, not_named}
use Rattle.burst_depart.proofs.PlanLaws.{low_in, left_count, joined_some, joined_unlinked}
use Rattle.slot_plan.specs.Plan.{seat_ends}
use Rattle.burst_arrive.specs.Arriving.{seat_at}
use Rattle.burst_way.specs.Way.{slot_record}
use Rattle.mem_lists.specs.Spaces.{ends_of}
use Rattle.meaning.proofs.ListsLaws.{fit_head}
use native.Mathlib.Omega.{arith}
use lib.ListN.{length, set}
use mathlib.Core.Logic.{inl, inr}
use mathlib.Core.Path.{sym, ◌∙◌}
use Rattle.burst_depart.proofs.off_now.Goals as goal
use Rattle.burst_depart.proofs.off_now.Goals.{then-p-eq65535, else-p-eq65535}

pub returns-then-w-eq65535 : goal.returns-then-w-eq65535
returns-then-w-eq65535 c =
    let a = c.args in
    let sized = c.requires.n_le_most_n in
    let fits = c.requires.outtail_value in
    alone_leaves (slot_record a.w) a.p a.cells.now a.links.now a.words.now a.bits.now sized.0 sized.3 fits.1 fits.2 fits.3 fits.5
    c.if-w-eq65535.true c.if-p.false

pub overflow_cast-w : goal.overflow_cast-w
overflow_cast-w c =
    let w = c.args.w in
    let low = fit_head w.n (ends_of w.outhead w.outtail) c.requires.outtail_value.0 c.if-w-eq65535.false in
    omega (arith, low, c.requires.n_le_most_n.0)

pub is_free-requires : goal.is_free-requires
is_free-requires c =
    let w = c.args.w in
    let low = fit_head w.n (ends_of w.outhead w.outtail) c.requires.outtail_value.0 c.if-w-eq65535.false in
    (omega (arith, low, c.requires.n_le_most_n.0), c.requires.n_le_most_n.5)

pub rest_joined-requires : goal.rest_joined-requires
rest_joined-requires c =
    let w = c.args.w in (
      low_in _ w.n _ (fit_head w.n (ends_of w.outhead w.outtail) c.requires.outtail_value.0 c.if-w-eq65535.false) c.requires.n_le_most_n.3,
      low_in _ w.n _ c.requires.outtail_value.2 c.requires.n_le_most_n.3,
    )

pub seen-requires-clause-n_le_most_n : goal.seen-requires-clause-n_le_most_n
seen-requires-clause-n_le_most_n c =
    let w = c.args.w in
    let sized = c.requires.n_le_most_n in
    let low = fit_head w.n (ends_of w.outhead w.outtail) c.requires.outtail_value.0 c.if-w-eq65535.false in
    (sized.0, sized.1, omega (arith, low, sized.2), sized.4)

pub returns : goal.returns
returns c =
    let a = c.args in
    let k = slot_record a.w in
    let w = a.w in
    let sized = c.requires.n_le_most_n in
    let fits = c.requires.outtail_value in
    let t = c.if-p-eq65535.tail in
    let r = c.in_ok-r.r in
    let named = some_is _ _ c.in_ok-vci.ensures in
    behind_leaves k a.p a.cells.now a.links.now a.words.now a.bits.now sized.0 sized.3 fits.1 fits.2 fits.3 fits.5
    c.if-w-eq65535.false
    fits.0
    (sym c.is_free.ensures ∙ c.if-is_free.false)
    t r.next r.tail c.in_ok-vci.vci
    (tail_is k a.p a.cells.now a.links.now a.words.now a.bits.now sized.0 sized.3 fits.1 fits.2 fits.3 fits.5 t
    (elim c.if-p-eq65535.branch [ then-p-eq65535 v ↦ inl (v.if-p-eq65535.true, v.tail-is) | else-p-eq65535 v ↦ inr (v.if-p-eq65535.false, v.tail-is) ]))
    (left_count (length a.links.now) w.n (set a.links.now w.outtail a.p.x) w.outhead t r.next r.tail sized.3 c.in_ok-r.ensures)
    named.0
    named.1

pub returns-then-is_free : goal.returns-then-is_free
returns-then-is_free c =
    let a = c.args in
    let k = slot_record a.w in
    let some = c.if-w-eq65535.false in
    λ r.
    not_held k a.cells.now a.links.now a.words.now a.bits.now (seat_ends (seat_at a.p)) a.w.outhead (sym (joined_some k (seat_ends (seat_at a.p)) some)) c.requires.n_le_most_n.0
    (fit_head a.w.n (ends_of a.w.outhead a.w.outtail) c.requires.outtail_value.0 some) (r.other some)
    (sym c.is_free.ensures ∙ c.if-is_free.true)

pub returns-in_err-vci : goal.returns-in_err-vci
returns-in_err-vci c =
    let a = c.args in
    let k = slot_record a.w in
    let some = c.if-w-eq65535.false in
    rw c.from_residual-in_err-vci.ensures
    (λ r.
    not_named k a.cells.now a.links.now a.words.now a.bits.now (seat_ends (seat_at a.p)) a.w.outhead (sym (joined_some k (seat_ends (seat_at a.p)) some)) c.requires.n_le_most_n.0
    (fit_head a.w.n (ends_of a.w.outhead a.w.outtail) c.requires.outtail_value.0 some) (r.other some)
    (none_is _ c.in_err-vci.ensures))

pub returns-in_err-r : goal.returns-in_err-r
unfolding seat_ends
returns-in_err-r c =
    let a = c.args in
    let k = slot_record a.w in
    let w = a.w in
    let sized = c.requires.n_le_most_n in
    let fits = c.requires.outtail_value in
    let some = c.if-w-eq65535.false in
    let entry = seat_ends (seat_at a.p) in
    let t = c.if-p-eq65535.tail in
    let is-tail = tail_is k a.p a.cells.now a.links.now a.words.now a.bits.now sized.0 sized.3 fits.1 fits.2 fits.3 fits.5 t
    (elim c.if-p-eq65535.branch [ then-p-eq65535 v ↦ inl (v.if-p-eq65535.true, v.tail-is) | else-p-eq65535 v ↦ inr (v.if-p-eq65535.false, v.tail-is) ]) in
    rw c.from_residual.ensures
    (λ r.
    joined_unlinked k a.links.now entry some (λ e. omega (arith, e, fits.2, sized.0))
    (λ far. omega (arith, c.in_err-r.ensures (λ q. far (q ∙ is-tail)), sized.3))
    (r.other some).linked)
