-- DEMAND 2 over runs. A setup has answered 0, whatever the memory held before. Then the 32-bit slot number, which wraps,
-- decides as a clock that never does: of any calls, refused ones among them, the answers, the line cells and the memories
-- are those of a policer (crate theory_clock, specs/Unwrapped.antt) whose clock is the number of slots served, t, `last` and the
-- arrival slots being that policer's modulo 2^32. NeverWraps has a clause for each. Both have the header check of document 02 (i) in
-- front, so what is decided of is the mended header. By document 02 (vi) all of it holds on either kind of line, of VCs and of
-- paths.
use Rattle.std.specs.Prelude.{ℕ, ◌≡◌, List}
use Rattle.meaning.specs.State.{State}
use Rattle.meaning.specs.Calls.{Asked, chosen, setup}
use Rattle.meaning_runs.specs.Run.{Call, fresh_run}
use Rattle.theory_clock.specs.UnwrappedRun.{NeverWraps}

abbrev pub Demand2Holds : Type 0
Demand2Holds = (N z : ℕ) (a : Asked) (lent : State)
    → (setup N z a lent).number ≡ 0
    → (cs : List Call)
    → let o = chosen a in
    ((setup N z a lent).state ≡ (fresh_run N z o).state) × NeverWraps N z o cs
