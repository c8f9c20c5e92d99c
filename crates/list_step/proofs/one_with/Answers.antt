-- `list_step::one_with` makes the step that is no slot of a pause: what stands at the place, by the reader's promise. A refusal's
-- place goes from the answer to the stop line.
use Rattle.std.proofs.Common.{sym, ap, ◌∙◌, arith}
use Rattle.trace_record.specs.Trace.{said_of}
use Rattle.list_whole.specs.Run.{stands_step}
use Rattle.list_whole.specs.Lent.{world_in}
use Rattle.list_whole.proofs.Same.{same_memory}
use Rattle.list_whole.proofs.Within.{read_within, refused_at}
use Rattle.list_step.proofs.Step.{end_said, more_step, end_step, stop_step, did_is}
use Rattle.list_step.proofs.one_with.Goals as goal

pub overflow_cast-place : goal.overflow_cast-place
overflow_cast-place c =
    let e = ap said_of (sym c.in-Unreadable.is) ∙ c.event_at-found.ensures in
    omega (arith, refused_at c.args.trace.now c.args.run.at _ _ e)

pub returns-in_default-found : goal.returns-in_default-found
returns-in_default-found c =
    let w = world_in c.args.run c.args.memory.now in
    let end = end_said c.event_at-found.result c.in_default.not-Read c.in_default-found.not-Unreadable in
    record {
      did = did_is
          (more_step c.args.more c.args.trace.now w c.if-more.true ∙ ap (stands_step c.args.more c.args.trace.now w) (end ∙ c.event_at-found.ensures))
          (c.stop_run-in_default-found.ensures _ _ _ _ _ _);
      same = same_memory _;
    }

pub returns-in_default-2 : goal.returns-in_default-2
returns-in_default-2 c =
    let w = world_in c.args.run c.args.memory.now in
    let end = end_said c.event_at-found.result c.in_default.not-Read c.in_default-2.not-Unreadable in
    record {
      did = did_is
          (end_step c.args.more c.args.trace.now w c.if-more.false ∙ ap (stands_step c.args.more c.args.trace.now w) (end ∙ c.event_at-found.ensures))
          (c.end_run.ensures _ _ _ _ _ _);
      same = same_memory _;
    }

pub returns-in-Unreadable : goal.returns-in-Unreadable
returns-in-Unreadable c =
    let w = world_in c.args.run c.args.memory.now in
    let e = ap said_of (sym c.in-Unreadable.is) ∙ c.event_at-found.ensures in
    record {
      did = did_is
          (stop_step c.args.more c.args.trace.now w 10 _ ∙ ap (stands_step c.args.more c.args.trace.now w) e)
          (c.stop_run.ensures _ _ _ _ _ _);
      same = same_memory _;
    }

pub overflow_cast-next : goal.overflow_cast-next
overflow_cast-next c =
    let e = ap said_of (sym c.in-Read.is) ∙ c.event_at-found.ensures in
    omega (arith, (read_within c.args.trace.now c.args.run.at _ _ e).1, c.requires.trace_len_bound)

pub happen-requires : goal.happen-requires
happen-requires c =
    let e = ap said_of (sym c.in-Read.is) ∙ c.event_at-found.ensures in
    record { room_in_bounds = c.requires.room_in_bounds; cell_within = (read_within c.args.trace.now c.args.run.at _ _ e).2 }

pub returns : goal.returns
unfolding stands_step
returns c =
    let w = world_in c.args.run c.args.memory.now in
    let e = ap said_of (sym c.in-Read.is) ∙ c.event_at-found.ensures in
    record { did = did_is (ap (stands_step c.args.more c.args.trace.now w) e) c.happen.ensures.did; same = c.happen.ensures.same }
