-- `slot_store::store` meets its contract: each memory has one writer, whose promise is handed on.
use mathlib.Core.Path.{◌∙◌, ap}
use native.Mathlib.Omega.{arith}
use Prim.Native.Nat.{ℕ}
use Rattle.meaning.specs.State.{ends_of}
use Rattle.meaning.specs.Lists.{write_entry}
use Rattle.slot_plan.specs.Plan.{seat_ends}
use Rattle.slot_store.proofs.store.Goals as goal

pub occupy-requires : goal.occupy-requires
occupy-requires c = let pre = c.requires in (omega (arith, pre.sized.bits_long), pre.seated.is_free, omega (arith, pre.seated.e_low, pre.sized.n_high))

pub put_entry-requires : goal.put_entry-requires
put_entry-requires c =
    let pre = c.requires in
    omega (arith, pre.sized.calendar_long, pre.seated.e_low)

pub returns : goal.returns
unfolding seat_ends
returns c =
    record {
      cells = c.put_sent.ensures;
      links = c.put_link.ensures;
      calendar = c.put_entry.ensures
          ∙ ap (λ (tail : ℕ). write_entry c.args.calendar.now c.args.a.e (ends_of c.args.a.x tail))
          c.tail_of-tail.ensures;
      words = c.words_fill.ensures;
      bits = c.occupy.ensures;
      arrived = c.put_arrived.ensures;
    }
