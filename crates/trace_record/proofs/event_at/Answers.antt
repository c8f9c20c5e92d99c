-- `event_at`: the place tells the end; where a mark stands that may stand there, its record is read.
use Rattle.std.proofs.Common.{sym, ◌∙◌}
use Rattle.trace_record.proofs.Cases.{stands_end, stands_none, stands_record, stands_misplaced}
use borrow.Author.Rules.{rules}
use Rattle.trace_record.proofs.event_at.Goals as goal

pub returns-then-at-ne0 : goal.returns-then-at-ne0
returns-then-at-ne0 c = stands_end _ _ (search rules) (search rules)

pub record_at-requires : goal.record_at-requires
record_at-requires c = ((c.at.ensures _).0 c.in-Some.is).0

pub returns-in-Some : goal.returns-in-Some
returns-in-Some c =
    c.record_at.ensures ∙ stands_record _ _ c.else-at-trace.either c.in-Some.mark ((c.at.ensures _).0 c.in-Some.is) (search rules)

pub returns-in_default : goal.returns-in_default
returns-in_default c =
    stands_misplaced _ _ c.else-at-trace.either c.in-Some.mark ((c.at.ensures _).0 c.in-Some.is) (search rules)

pub returns-in_default-2 : goal.returns-in_default-2
returns-in_default-2 c =
    stands_none _ _ c.else-at-trace.either (λ k a. let z = sym c.in_default.is ∙ (c.at.ensures k).1 a in cc)
