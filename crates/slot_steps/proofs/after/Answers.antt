-- `call_slot::after` meets its contract: a number below n, and one more, needs at most one reset.
use Rattle.std.proofs.Common.{ℕ, ◌+◌, ◌%◌, sym, ap, ◌∙◌, mod-eq_of_lt, arith}
use native.Mathlib.Nat.{mod_self}
use Rattle.slot_steps.proofs.after.Goals as goal

pub returns-then-y-n : goal.returns-then-y-n
returns-then-y-n c = sym (ap (λ (m : ℕ). m % c.args.n) c.if-y-n.true ∙ mod_self c.args.n)

pub returns-else-y-n : goal.returns-else-y-n
returns-else-y-n c = sym (mod-eq_of_lt {n = c.args.x + 1} {m = c.args.n} (omega arith))
