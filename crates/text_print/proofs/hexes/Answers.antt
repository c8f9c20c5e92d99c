-- `text_print::hexes` puts the octets of a cell one by one: after i turns the first i stand there in hex.
use Rattle.std.proofs.Common.{◌+◌, ◌<◌, length, arith}
use Rattle.list_lines.proofs.Puts.{put_is, put_then, put_none}
use Rattle.text_print.proofs.Words.{hex_take, hex_none}
use Rattle.text_print.proofs.hexes.Goals as goal

pub loop-i-init : goal.loop-i-init
loop-i-init c = (omega arith, put_is hex_none (put_none _ _))

pub loop-i-preserved : goal.loop-i-preserved
loop-i-preserved c =
    let h = c.loop-i in let p = c.hex_pair-to in
    let less : c.args.start + h.i < length c.args.trace.now = omega arith in
    (omega (arith, p.ensures.next, h.invariant.0), put_is (hex_take c.args.trace.now c.args.start h.i less) (put_then h.invariant.1 p.ensures))
