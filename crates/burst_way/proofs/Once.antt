-- Two ways that `burst_way::way_of`'s promise allows coincide: a way has the fields of the record that it stands for, and its kind's mask.
use Rattle.std.proofs.Common.{◌≡◌, ℕ, sym, ap, ◌∙◌}
use Rattle.meaning.specs.declared.Record.{Record}
use Rattle.leaf_header.specs.Name.{mask_for}
use Rattle.slot_plan.specs.Plan.{clocked}
use Rattle.burst_way.specs.declared.Way.{Way}
use Rattle.burst_way.specs.Way.{slot_record}

abbrev way_at : Record → ℕ → Way
way_at r mask =
    record {
      n = r.n;
      v = r.v;
      t = r.t;
      turn = r.turn;
      rotation = r.rotation;
      free = r.free;
      outhead = r.outhead;
      outtail = r.outtail;
      raw = r.raw;
      mode = r.mode;
      kind = r.kind;
      mask = mask;
      splitvci = r.splitvci;
      splitpath = r.splitpath;
    }

way_is : (w : Way) → w.mask ≡ mask_for w.kind → w ≡ way_at (slot_record w) (mask_for (slot_record w).kind)
way_is w e = ap (way_at (slot_record w)) e

pub way_once : (r : Record) (a b : Way) → slot_record a ≡ clocked r → a.mask ≡ mask_for a.kind
    → slot_record b ≡ clocked r
    → b.mask ≡ mask_for b.kind
    → a ≡ b
way_once r a b p m q n = way_is a m ∙ ap (λ (k : Record). way_at k (mask_for k.kind)) (p ∙ sym q) ∙ sym (way_is b n)
