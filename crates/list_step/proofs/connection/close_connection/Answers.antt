-- `list_step::connection::close_connection` closes a connection and puts the line; the other memories are not touched.
use Rattle.list_step.proofs.Did.{close_did}
use Rattle.list_step.proofs.connection.close_connection.Goals as goal

pub returns : goal.returns
returns c cells links calendar bits arrived =
    close_did c.args.run _ _ cells links calendar _ _ bits arrived _ _ _ _ _ c.requires.1 c.moved.ensures c.close_line-line.ensures.upper_bound _ _ c.listed_number-number.ensures (rw c.given_number.ensures c.close-closed.ensures) c.close_line-line.ensures.put
