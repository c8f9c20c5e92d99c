-- `list_step::end_tally` puts the end line: waiting is accepted less sent on 32 bits, which is `less_modulo`.
use Rattle.std.proofs.Common.{◌≡◌, ◌+◌, ◌-◌, ◌%◌, ◌^◌, arith}
use Rattle.meaning.specs.Numbers.{slot_numbers}
use Rattle.list_meaning.specs.Listing.{end_of, less_modulo}
use Rattle.list_step.proofs.end_tally.Goals as goal

pub returns : goal.returns
unfolding end_of less_modulo slot_numbers
returns c =
    let t = c.args.t in
    let e : (t.accepted + 2 ^ 32 - t.sent) % 2 ^ 32 ≡ (t.accepted + (2 ^ 32 - t.sent)) % 2 ^ 32 = omega arith in
    rw e c.end_line.ensures
