-- `slot_accept::leave` meets its contract: the writes of a departure, a slice at a time.
use Rattle.slot_accept.proofs.leave.Goals as goal

pub put_less-requires : goal.put_less-requires
put_less-requires c =
    let start = c in
    (start.requires.0, start.requires.1)

pub clear_entry-requires : goal.clear_entry-requires
clear_entry-requires c =
    c.requires.2

pub put_link-requires : goal.put_link-requires
put_link-requires c =
    c.requires.3

pub release-requires : goal.release-requires
release-requires c =
    let may = c.requires in (may.4, may.5, may.6, may.7)

pub returns : goal.returns
returns c =
    record { links = c.put_link.ensures; calendar = c.clear_entry.ensures; words = c.put_less.ensures; bits = c.release.ensures; served = c.left.ensures }
