-- `list_step::serve_with` serves one slot and puts its line: the slot's promise and the line's, joined by `serve_did`.
use Rattle.std.proofs.Common.{refl}
use Rattle.list_step.proofs.Did.{serve_did}
use Rattle.list_step.proofs.serve_with.Goals as goal

pub slot_line-end-requires : goal.slot_line-end-requires
slot_line-end-requires c = c.requires

pub returns : goal.returns
returns c =
    let l = c.slot_line-end in
    let s = c.slot-served in
    record {
      did = serve_did _ _ _ _ _ _ _ _ _ _ _ _ _ _ _ _ _ _ _ _ _ _ s.ensures c.counted.ensures l.ensures.put l.ensures.upper_bound;
      same = record {
        cells = record { name = refl; long = s.auto.cells };
        links = record { name = refl; long = s.auto.links };
        calendar = record { name = refl; long = s.auto.calendar };
        words = record { name = refl; long = s.auto.words };
        bits = record { name = refl; long = s.auto.bits };
        arrived = record { name = refl; long = s.auto.arrived };
      };
    }
