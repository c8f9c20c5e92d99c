-- `call_audit::audit` says yes exactly when the clauses hold: a no by a clause that fails, a yes by what the walks establish.
use mathlib.Core.Path.{sym, ◌∙◌}
use mathlib.Core.Bool.{true≢false}
use native.Mathlib.Omega.{arith}
use Rattle.mem_walks.proofs.BudgetLaws.{gone_zeros}
use Rattle.call_audit.proofs.ShapeLaws.{shape_of, clauses_shape}
use Rattle.call_audit.proofs.Clauses.{clauses_turn, to_clauses, clauses_kept}
use Rattle.call_audit.proofs.audit.Goals as goal
use Rattle.call_audit.proofs.audit.Goals.{then-not-shaped-via-then-not-shaped, then-not-shaped-via-else-not-shaped+then-not-bits_fit, then-not-shaped-via-else-not-shaped+else-not-bits_fit+then-calendar-from}

pub bits_fit-requires : goal.bits_fit-requires
bits_fit-requires c = let h = shape_of _ _ _ _ _ _ _ _ c.shaped.ensures c.if-not-shaped.false in (h.n_most, h.calendar_long, h.bits_long)

pub bounds-calendar-from : goal.bounds-calendar-from
bounds-calendar-from c =
    let h = shape_of _ _ _ _ _ _ _ _ c.shaped.ensures c.if-not-shaped.false in
    omega (arith, h.calendar_long, h.turn_low, c.from.ensures)

pub returns-then-not-shaped : goal.returns-then-not-shaped
returns-then-not-shaped c =
    record {
      yes_holds = λ y. absurd (true≢false (sym y));
      holds_yes = λ z.
          elim c.then-not-shaped.branch [
            | then-not-shaped-via-then-not-shaped w ↦ sym w.if-not-shaped.true ∙ c.shaped.ensures ∙ clauses_shape _ _ _ _ _ _ _ z
            | then-not-shaped-via-else-not-shaped+then-not-bits_fit w ↦ sym w.if-not-bits_fit.true ∙ w.bits_fit.ensures.1 (z.spaces_fit_lem, z.marks_are)
            | then-not-shaped-via-else-not-shaped+else-not-bits_fit+then-calendar-from w ↦
                absurd (w.if-calendar-from.true (rw w.from.ensures (clauses_turn _ _ _ _ _ _ _ z)))
          ];
    }

pub fill_waits-requires : goal.fill_waits-requires
fill_waits-requires c =
    let h = shape_of _ _ _ _ _ _ _ _ c.shaped.ensures c.if-not-shaped.false in
    (omega (arith, h.v_least), h.v_most, omega (arith, h.v_most), omega (arith, h.words_long), gone_zeros 1280)

pub fill_spaces-requires : goal.fill_spaces-requires
fill_spaces-requires c =
    let h = shape_of _ _ _ _ _ _ _ _ c.shaped.ensures c.if-not-shaped.false in
    (h.n_most, omega (arith, h.n_most), gone_zeros 1024, h.bits_long)

pub returns-then-not-fill_waits : goal.returns-then-not-fill_waits
returns-then-not-fill_waits c =
    record {
      yes_holds = λ y. absurd (true≢false (sym y));
      holds_yes = λ z. sym c.if-not-fill_waits.true ∙ c.fill_waits.ensures.no z.connections_fit;
    }

pub returns : goal.returns
returns c =
    let h = shape_of _ _ _ _ _ _ _ _ c.shaped.ensures c.if-not-shaped.false in
    let fit = c.bits_fit.ensures.0 c.if-not-bits_fit.false in
    let ones = c.fill_spaces.ensures in
    let v = c.fill_waits.ensures.yes c.if-not-fill_waits.false in
    record {
      yes_holds = λ y. to_clauses _ _ _ _ _ _ _ _ _ ones v.1 h fit.0 fit.1 v.0 (rw c.from.ensures at c.if-calendar-from.false) (c.stored.ensures.yes y);
      holds_yes = λ z. c.stored.ensures.no (clauses_kept _ _ _ _ _ _ _ _ _ ones v.1 z);
    }
