-- Refusal 8 of a connection that is open, or 0.
use Rattle.std.specs.Prelude.{ℕ, not}
use Rattle.meaning.specs.Plain.{◌=?◌}
use Rattle.meaning.specs.Words.{Connection, debt}
use Rattle.leaf_refusal.specs.Order.{refuse_of, first_of}

abbrev pub not_yet : ℕ → Connection → ℕ
not_yet t vc = first_of (refuse_of 8 (not (vc.waiting =? 0))) (refuse_of 8 (not (debt t vc =? 0)))
