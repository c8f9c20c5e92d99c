-- `burst_way::record_of` meets its contract: each number fits its narrower field.
use Rattle.meaning.specs.Numbers.{slot_numbers}
use Rattle.burst_way.specs.Way.{last_record}
use Rattle.burst_way.proofs.record_of.Goals as goal

pub returns : goal.returns
unfolding last_record slot_numbers
returns c = rw (c.one_back-rotation.ensures.is, c.connections-all.ensures, c.one_back-turn.ensures.is)
