-- Entry (T+D) modulo N by one comparison.
use Prim.Native.Nat.{ℕ, ◌+◌, ◌-◌, ◌≤◌, ◌<◌}
use mathlib.Core.Path.{◌≡◌}
use borrow.Author.Tests.{lt-ltb, le-ltb}
use Rattle.mem_lists.specs.Spaces.{entry_of}

pub entry_near : (N T D : ℕ) → T + D < N → T + D ≡ entry_of N T D
unfolding entry_of
entry_near N T D h = simp (lt-ltb (T + D) N h)

pub entry_far : (N T D : ℕ) → N ≤ T + D → T + D - N ≡ entry_of N T D
unfolding entry_of
entry_far N T D h = simp (le-ltb (T + D) N h)
