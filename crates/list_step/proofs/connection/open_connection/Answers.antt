-- `list_step::connection::open_connection` opens a connection and puts the line; the other memories are not touched.
use Rattle.list_step.proofs.Did.{open_did}
use Rattle.list_step.proofs.connection.open_connection.Goals as goal

pub returns : goal.returns
returns c cells links calendar bits arrived =
    open_did c.args.run _ _ cells links calendar _ _ bits arrived _ _ _ _ _ c.requires.1 c.moved.ensures c.open_line-line.ensures.upper_bound _ _ _ _ _ _ c.listed_number-number.ensures (rw c.given_number.ensures c.open-opened.ensures) c.open_line-line.ensures.put
