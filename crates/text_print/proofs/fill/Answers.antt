-- `text_print::fill` puts line after line: the invariant is what it has made so far, the measure what is left of the trace.
use borrow.Author.Rules.{rules}
use native.Mathlib.Omega.{arith}
use mathlib.Core.Path.{refl, sym, ap, ◌∙◌}
use mathlib.Core.Logic.{inl, inr}
use mathlib.Core.List.{[]}
use Rattle.list_lines.proofs.Puts.{put_none, put_then}
use Rattle.trace_record.specs.Trace.{said_of}
use Rattle.text_print.specs.Fill.{none, then}
use Rattle.text_print.proofs.Within.{read_within}
use Rattle.text_print.proofs.Made.{no_record}
use Rattle.text_print.proofs.fill.Goals as goal

pub loop-out-init : goal.loop-out-init
loop-out-init c = record { text = []; lines = none; put = put_none _ _; within = omega arith; same = refl }

pub returns-in_default : goal.returns-in_default
returns-in_default c = record { text = c.loop-out.invariant.text; lines = c.loop-out.invariant.lines; full = inl (no_record c.event_at-found.result _ c.event_at-found.ensures c.in_default.not-Read); put = c.loop-out.invariant.put; within = c.loop-out.invariant.within }

pub line_text-used-requires : goal.line_text-used-requires
line_text-used-requires c = ((read_within _ _ _ _ (sym (ap said_of (sym c.in-Read.is) ∙ c.event_at-found.ensures))).0, search rules)

pub loop-out-smaller : goal.loop-out-smaller
loop-out-smaller c = let w = read_within _ _ _ _ (sym (ap said_of (sym c.in-Read.is) ∙ c.event_at-found.ensures)) in omega (arith, w.1, w.2)

pub loop-out-preserved : goal.loop-out-preserved
loop-out-preserved c = record { text = _; lines = then _ _ c.loop-out.invariant.lines (omega (arith, c.loop-out.invariant.put.next, c.loop-out.invariant.same, c.loop-out-test.true)) (sym (ap said_of (sym c.in-Read.is) ∙ c.event_at-found.ensures)); put = put_then c.loop-out.invariant.put c.line_text-used.ensures.put; within = omega (arith, c.line_text-used.ensures.upper_bound, c.loop-out.invariant.same, c.loop-out-test.true); same = search rules }

pub returns : goal.returns
returns c = record { text = c.loop-out.invariant.text; lines = c.loop-out.invariant.lines; full = inr (omega (arith, c.loop-out.invariant.put.next, c.loop-out.invariant.same, c.loop-out-test.false)); put = c.loop-out.invariant.put; within = c.loop-out.invariant.within }
