-- `mend_write::mend`: where the trace doesn't begin with a record, or a buffer is too short, both buffers stay as they are; else
-- `hand_over` does what it promises.
use mathlib.Core.Path.{◌≡◌, refl, sym, ◌∙◌}
use mathlib.Core.Bool.{false}
use Rattle.mend_step.specs.Salvage.{reads_to}
use Rattle.mend_fill.specs.Fill.{begun}
use Rattle.mend_write.proofs.Whole.{not_mended, not_begun, is_mended, mends_17, mends_short, mends_narrow, mends_all, took_well, no_yes, all_taken, said_17}
use Rattle.mend_write.specs.Handed.{mends}
use Rattle.mend_write.proofs.mend.Goals as goal
use Rattle.mend_write.proofs.mend.Goals.{then-out-lt-RECORD_ROOM-via-then-out-lt-RECORD_ROOM, then-out-lt-RECORD_ROOM-via-else-out-lt-RECORD_ROOM+then-text-lt-LINE_ROOM}

pub returns-then-not-begins-clause-promise : goal.returns-then-not-begins-clause-promise
returns-then-not-begins-clause-promise g c =
    let a = c.args in
    let none : begun (reads_to a.trace.now 0) ≡ false = sym c.begins.ensures ∙ c.if-not-begins.true in
    not_mended _ _ _ _ (mends_17 a.trace.now a.out.now a.text.now none) (not_begun a.trace.now a.total none)

pub returns-then-not-begins-clause-written : goal.returns-then-not-begins-clause-written
returns-then-not-begins-clause-written g c =
    said_17 _ _ (sym c.begins.ensures ∙ c.if-not-begins.true) (λ e. took_well _ _ _ c.is_ok.ensures.value e c.write_all.ensures.bytes)

pub returns-then-out-lt-RECORD_ROOM-clause-promise : goal.returns-then-out-lt-RECORD_ROOM-clause-promise
returns-then-out-lt-RECORD_ROOM-clause-promise g c =
    let a = c.args in
    let short : mends a.trace.now a.out.now a.text.now ≡ false = elim c.then-out-lt-RECORD_ROOM.branch [
      | then-out-lt-RECORD_ROOM-via-then-out-lt-RECORD_ROOM w ↦ mends_short a.trace.now a.out.now a.text.now w.if-out-lt-RECORD_ROOM.true
      | then-out-lt-RECORD_ROOM-via-else-out-lt-RECORD_ROOM+then-text-lt-LINE_ROOM w ↦ mends_narrow a.trace.now a.out.now a.text.now w.if-text-lt-LINE_ROOM.true
    ] in
    not_mended _ _ _ _ short (λ _. refl)

pub returns-then-out-lt-RECORD_ROOM-clause-written : goal.returns-then-out-lt-RECORD_ROOM-clause-written
returns-then-out-lt-RECORD_ROOM-clause-written g c = no_yes _ _ _ _ _ _ (sym c.begins.ensures ∙ c.if-not-begins.false)

pub hand_over-requires : goal.hand_over-requires
hand_over-requires g c =
    record {
      trace_value = sym c.begins.ensures ∙ c.if-not-begins.false;
      record_room_in_bounds = (c.if-out-lt-RECORD_ROOM.false, c.if-text-lt-LINE_ROOM.false);
    }

pub returns-clause-promise : goal.returns-clause-promise
returns-clause-promise g c =
    let a = c.args in
    is_mended _ _
    (mends_all a.trace.now a.out.now a.text.now (sym c.begins.ensures ∙ c.if-not-begins.false) c.if-out-lt-RECORD_ROOM.false c.if-text-lt-LINE_ROOM.false)
    c.hand_over.ensures.handed

pub returns-clause-written : goal.returns-clause-written
returns-clause-written g c = all_taken _ _ (sym c.begins.ensures ∙ c.if-not-begins.false) c.hand_over.ensures.written
