-- `record_at`: a record is read where its octets all stand and, of an SL, its count is not 0; else it is refused where it starts.
use Rattle.std.proofs.Common.{refl, sym, ap, ◌∙◌, arith}
use Rattle.trace_record.specs.Trace.{record_at, first_at, later_at, setup_at, open_at, sustain_at, close_at, open_path_at, close_path_at, cell_at}
use Rattle.trace_record.specs.declared.mark.Mark.TheVariants.{Gm, Gr, Gn, Vo, Vs, Vx, Po, Px, Ca, Sl}
use Rattle.trace_record.proofs.Cases.{record_short, record_read, pause_none, pause_some}
use borrow.Author.Rules.{rules}
use Rattle.trace_record.proofs.record_at.Goals as goal
use Rattle.trace_record.proofs.record_at.Goals.{in-Ca, in-Sl-2, in-Vo, in-Vx, in-Vs, in-Po, in-Px, in-Gm, in-Gr, in-Gn}

pub returns-then-s-at : goal.returns-then-s-at
returns-then-s-at c = record_short _ _ _ (omega (arith, c.if-s-at.true, c.record_long-long.ensures, c.requires))

pub returns-in-Sl : goal.returns-in-Sl
unfolding record_at later_at
returns-in-Sl c = pause_none _ _ (search rules) ∙ sym (ap (record_at _ _) c.in-Sl.is)

pub returns : goal.returns
unfolding record_at first_at later_at setup_at open_at sustain_at close_at open_path_at close_path_at cell_at
returns c =
    let h = c.record_long-long.ensures in
    elim c.match-mark.branch [
      | in-Ca w ↦ record_read _ _ Ca w.in-Ca.is h (search rules) w.event-is refl refl
      | in-Sl-2 w ↦
          record_read _ _ Sl w.in-Sl-2.is h (search rules) w.event-is refl (pause_some _ _ c.u16_at-number.ensures (search rules))
      | in-Vo w ↦ record_read _ _ Vo w.in-Vo.is h (search rules) w.event-is (search rules) refl
      | in-Vx w ↦ record_read _ _ Vx w.in-Vx.is h (search rules) w.event-is (search rules) refl
      | in-Vs w ↦ record_read _ _ Vs w.in-Vs.is h (search rules) w.event-is (search rules) refl
      | in-Po w ↦ record_read _ _ Po w.in-Po.is h (search rules) w.event-is (search rules) refl
      | in-Px w ↦ record_read _ _ Px w.in-Px.is h (search rules) w.event-is (search rules) refl
      | in-Gm w ↦ record_read _ _ Gm w.in-Gm.is h (search rules) w.event-is (search rules) refl
      | in-Gr w ↦ record_read _ _ Gr w.in-Gr.is h (search rules) w.event-is (search rules) refl
      | in-Gn w ↦ record_read _ _ Gn w.in-Gn.is h (search rules) w.event-is (search rules) refl
    ]
