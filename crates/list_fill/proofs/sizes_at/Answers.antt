-- `list_fill::sizes_at` answers N and V of a first record that sets up, where they are in their ranges.
use mathlib.Core.Path.{sym, ap, ◌∙◌}
use Rattle.trace_record.specs.declared.Event.{Event}
use Rattle.trace_record.specs.declared.Found.{Found}
use Rattle.trace_record.specs.Trace.{event, record_of, said_of}
use Rattle.list_whole.specs.Fill.{sizes_at}
use Rattle.list_fill.proofs.Lent.{no_record, no_setup, setup_fits, setup_large}
use Rattle.list_fill.proofs.sizes_at.Goals as goal

pub returns-in_default : goal.returns-in_default
returns-in_default c = no_record c.args.found c.in_default.not-Read

pub returns-in_default-event : goal.returns-in_default-event
returns-in_default-event c =
    no_setup _ _ c.in_default-event.not-Setup ∙ ap (λ (f : Found). sizes_at (said_of f)) (sym c.in-Read.is)

pub returns-then-ranges_hold : goal.returns-then-ranges_hold
returns-then-ranges_hold c =
    setup_fits _ _ _ _ (sym c.ranges_hold.ensures ∙ c.if-ranges_hold.true)
    ∙ ap (λ (x : Event). sizes_at (event (record_of x) c.in-Read.next)) (sym c.in-Setup.is)
    ∙ ap (λ (x : Found). sizes_at (said_of x)) (sym c.in-Read.is)

pub returns-else-ranges_hold : goal.returns-else-ranges_hold
returns-else-ranges_hold c =
    setup_large _ _ _ _ (sym c.ranges_hold.ensures ∙ c.if-ranges_hold.false)
    ∙ ap (λ (x : Event). sizes_at (event (record_of x) c.in-Read.next)) (sym c.in-Setup.is)
    ∙ ap (λ (x : Found). sizes_at (said_of x)) (sym c.in-Read.is)
