-- Nothing that an operator calls changes a word of the other's connections, of every record and memory. Assumes nothing.
use Rattle.meaning.proofs.OperatorsLaws.{open_foreign, close_foreign, open_keeps, close_keeps}
use Rattle.promise_operators.specs.Untouched.{StayOut}

pub stay_out : StayOut
stay_out r words B =
    record {
      open_is_16 = λ name m F C x o.
          open_foreign r words B name o.ranges o.splits o.long o.is_named_lem o.foreign m F C x;
      close_is_16 = λ name o. close_foreign r words B name o.ranges o.splits o.long o.is_named_lem o.foreign;
      open_leaves = λ other is foreign name m F C x. open_keeps r words B name other is foreign m F C x;
      close_leaves = λ other is foreign name. close_keeps r words B name other is foreign;
    }
