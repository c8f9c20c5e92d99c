-- `list_step::set_up` sets up as the trace's head has it and puts the line; a refused setup puts the end line too, as the step `called` says.
use Rattle.std.proofs.Common.{refl, arith}
use Rattle.trace_record.specs.Trace.{head_options}
use Rattle.list_step.proofs.Did.{setup_did, setup_ends, no_counts}
use Rattle.list_step.proofs.set_up.Goals as goal

pub setup_line-line-requires : goal.setup_line-line-requires
setup_line-line-requires c = let h = c.requires in omega (arith, h)

pub returns-then-fresh-eq0 : goal.returns-then-fresh-eq0
returns-then-fresh-eq0 c =
    let l = c.setup_line-line in
    let s = c.setup-fresh in
    let o = head_options c.args.head in
    record {
      did = λ run. rw (no_counts c.default.result c.default.ensures) (setup_did run _ _ o _ _ _ _ _ _ _ _ _ _ _ _ _ _ _ _ _ _ c.is_raw-raw.ensures c.line_kind-kind.ensures s.ensures _ _ c.if-fresh-eq0.true l.ensures.put l.ensures.upper_bound);
      same = record {
        cells = record { name = refl; long = s.auto.cells };
        links = record { name = refl; long = s.auto.links };
        calendar = record { name = refl; long = s.auto.calendar };
        words = record { name = refl; long = s.auto.words };
        bits = record { name = refl; long = s.auto.bits };
        arrived = record { name = refl; long = s.auto.arrived };
      };
    }

pub end_tally-end-requires : goal.end_tally-end-requires
end_tally-end-requires c = let h = c.requires in omega (arith, c.setup_line-line.ensures.upper_bound, h)

pub returns : goal.returns
returns c =
    let l = c.setup_line-line in
    let s = c.setup-fresh in
    let o = head_options c.args.head in
    let e = c.end_tally-end in
    let no = no_counts c.default.result c.default.ensures in
    record {
      did = λ run. rw no (setup_ends run _ _ o _ _ _ _ _ _ _ _ _ _ _ _ _ _ _ _ _ _ c.is_raw-raw.ensures c.line_kind-kind.ensures s.ensures _ _ _ _ c.if-fresh-eq0.false l.ensures.put l.ensures.upper_bound (rw (← no) e.ensures.put) e.ensures.upper_bound);
      same = record {
        cells = record { name = refl; long = s.auto.cells };
        links = record { name = refl; long = s.auto.links };
        calendar = record { name = refl; long = s.auto.calendar };
        words = record { name = refl; long = s.auto.words };
        bits = record { name = refl; long = s.auto.bits };
        arrived = record { name = refl; long = s.auto.arrived };
      };
    }
