-- `burst_likely::slot` meets its contract: what steps 2 and 3 find decides whether a cell is let in; the slot is served so, or left as it
-- came.
use Prim.Native.Nat.{ℕ, ◌*◌}
use mathlib.Core.Path.{refl, sym, ◌∙◌, ap, subst}
use native.Mathlib.Omega.{arith}
use lib.ListN.{take, drop}
use Rattle.std.specs.Prelude.{Option, MatchOption}
use Rattle.meaning.specs.Bits.{lowest_free}
use Rattle.slot_plan.specs.Plan.{seat_now}
use Rattle.burst_depart.specs.Leaving.{RegularThen}
use Rattle.slot_plan.proofs.Steps.{arriving_accepted, arriving_quiet, now_goes}
use Rattle.burst_way.specs.Way.{slot_record}
use Rattle.burst_arrive.specs.declared.Spot.{Spot}
use Rattle.burst_arrive.proofs.SpotLaws.{spotted, spot_shows}
use Rattle.burst_likely.proofs.EitherLaws.{either_is, if_some, if_left, if_none, from_whole}
use Rattle.burst_likely.proofs.NamedLaws.{known, judged_likely, spot_likely}
use Rattle.burst_likely.proofs.slot.Goals as goal

pub returns-in_err-b-clause-kept : goal.returns-in_err-b-clause-kept
returns-in_err-b-clause-kept c = if_left c.from_residual.result (λ k. k.rotates (sym c.in_err-b.ensures))

pub returns-in_err-j-clause-kept : goal.returns-in_err-j-clause-kept
returns-in_err-j-clause-kept c =
    let a = c.args in
    if_left c.from_residual-in_err-j.result
    (λ k. k.judges (sym (judged_likely a.w a.words.now a.arrivals.now a.size a.i _ _ c.named-name.ensures.is c.in_err-j.ensures)))

pub returns-in_err-p-clause-kept : goal.returns-in_err-p-clause-kept
returns-in_err-p-clause-kept c =
    let a = c.args in
    if_left c.from_residual-in_err-p.result
    (λ k. subst (λ (o : Option Spot). MatchOption o ⊥ (λ p. RegularThen (slot_record a.w) p a.cells.now a.links.now a.calendar.now a.words.now a.bits.now))
    (sym (c.in_err-p.ensures ∙ spot_likely a.w a.calendar.now a.bits.now c.in_ok-j.j _ _ c.from.ensures c.from-2.ensures))
    (k.seated c.in_ok-j.j (sym (judged_likely a.w a.words.now a.arrivals.now a.size a.i _ _ c.named-name.ensures.is c.in_ok-j.ensures)) (sym c.lets_in.ensures ∙ c.if-not-lets_in.false)))

pub quiet-requires : goal.quiet-requires
quiet-requires c =
    let a = c.args in
    let pre = c.requires in
    let cell = known a.w a.words.now a.arrivals.now a.i a.size _ _ pre.octets_in_bounds.0 pre.ready_in.sized.v_high c.named-name.ensures.is c.named-name.ensures.reads c.in_ok-j.ensures in
    record { ready_in = pre.ready_in; vci_bound = cell.excess_low; handed_to = pre.octets_in_bounds.1 }

pub returns-then-not-lets_in : goal.returns-then-not-lets_in
returns-then-not-lets_in c =
    let a = c.args in
    let pre = c.requires in
    let sized = pre.ready_in.sized in
    let cell = known a.w a.words.now a.arrivals.now a.i a.size _ _ pre.octets_in_bounds.0 sized.v_high c.named-name.ensures.is c.named-name.ensures.reads c.in_ok-j.ensures in
    record {
      fits = if_some c.quiet.result cell.fits;
      clean = if_some c.quiet.result cell.clean;
      is = either_is _ _ _ _ _ _ _ _ _ _ _ _ _ _ _ _ _ _ _ _ _
          (arriving_quiet (slot_record a.w) (lowest_free a.bits.now) (take a.size (drop (53 * a.i) a.arrivals.now)) a.cells.now a.links.now a.calendar.now a.words.now a.bits.now a.arrived.now _ c.in_ok-b.ensures _ cell.judged (omega (arith, sized.rotation_low, sized.words_long)) _ refl (sym c.lets_in.ensures ∙ c.if-not-lets_in.true))
          c.quiet.ensures.served;
      kept = if_none c.quiet.result
          (λ never k. never (k.quiet c.in_ok-j.j (sym (judged_likely a.w a.words.now a.arrivals.now a.size a.i _ _ c.named-name.ensures.is c.in_ok-j.ensures)) (sym c.lets_in.ensures ∙ c.if-not-lets_in.true)))
          c.quiet.ensures.kept;
    }

pub seat_of-requires : goal.seat_of-requires
seat_of-requires c =
    let a = c.args in
    let pre = c.requires in
    let sized = pre.ready_in.sized in
    let cell = known a.w a.words.now a.arrivals.now a.i a.size _ _ pre.octets_in_bounds.0 sized.v_high c.named-name.ensures.is c.named-name.ensures.reads c.in_ok-j.ensures in
    let accepted = cell.accepted (sym c.lets_in.ensures ∙ c.if-not-lets_in.false) in
    (sized.n_high, sized.calendar_long, sized.bits_long, sized.turn_low, omega (arith, accepted.near, c.from-2.ensures), pre.ready_in.spaces_fit_lem)

pub accept-requires : goal.accept-requires
accept-requires c =
    let a = c.args in
    let pre = c.requires in
    let cell = known a.w a.words.now a.arrivals.now a.i a.size _ _ pre.octets_in_bounds.0 pre.ready_in.sized.v_high c.named-name.ensures.is c.named-name.ensures.reads c.in_ok-j.ensures in
    let p = c.in_ok-p.p in
    let spot = spotted _ _ _ p c.in_ok-p.ensures in
    record {
      ready_in = pre.ready_in;
      spotted_in = record {
        is_accepted_lem = cell.accepted (sym c.lets_in.ensures ∙ c.if-not-lets_in.false);
        seats = spot_shows (slot_record a.w) _ a.calendar.now a.bits.now pre.ready_in.spaces_fit_lem _ p c.in_ok-p.ensures;
        of_connection_lem = spot.vci_is ∙ c.from.ensures;
        of_delay = spot.d_is ∙ c.from-2.ensures;
      };
      octets_in_bounds = pre.octets_in_bounds;
    }

pub returns : goal.returns
returns c =
    let a = c.args in
    let pre = c.requires in
    let sized = pre.ready_in.sized in
    let v = sym c.lets_in.ensures ∙ c.if-not-lets_in.false in
    let k = slot_record a.w in
    let found = known a.w a.words.now a.arrivals.now a.i a.size _ _ pre.octets_in_bounds.0 sized.v_high c.named-name.ensures.is c.named-name.ensures.reads c.in_ok-j.ensures in
    let cell = take 53 (drop (53 * a.i) a.arrivals.now) in
    let same = judged_likely a.w a.words.now a.arrivals.now a.size a.i _ _ c.named-name.ensures.is c.in_ok-j.ensures in
    let seat = sym (spotted _ _ _ c.in_ok-p.p c.in_ok-p.ensures).is ∙ ap (λ (d : ℕ). seat_now k d a.calendar.now a.bits.now) c.from-2.ensures in
    record {
      fits = if_some c.accept.result found.fits;
      clean = if_some c.accept.result found.clean;
      is = either_is _ _ _ _ _ _ _ _ _ _ _ _ _ _ _ _ _ _ _ _ _
          (from_whole k a.size (drop (53 * a.i) a.arrivals.now) a.cells.now a.links.now a.calendar.now a.words.now a.bits.now a.arrived.now (found.whole v)
          ∙ arriving_accepted k (lowest_free a.bits.now) cell a.cells.now a.links.now a.calendar.now a.words.now a.bits.now a.arrived.now _ c.in_ok-b.ensures _ (found.judged_whole v) (omega (arith, sized.rotation_low, sized.words_long)) _ refl v
          ∙ now_goes k _ cell a.cells.now a.links.now a.calendar.now _ a.bits.now a.arrived.now sized.turn_low (found.accepted v).near _ seat _ refl)
          c.accept.ensures.served;
      kept = if_none c.accept.result
          (λ never k. never (subst (λ (o : Option Spot). MatchOption o ⊥ (λ p. RegularThen (slot_record a.w) p a.cells.now a.links.now a.calendar.now a.words.now a.bits.now)) (sym (c.in_ok-p.ensures ∙ spot_likely a.w a.calendar.now a.bits.now c.in_ok-j.j _ _ c.from.ensures c.from-2.ensures)) (k.seated c.in_ok-j.j (sym same) v)))
          c.accept.ensures.kept;
    }
