-- What a burst that tallies promises of its answer and of every lent octet, number and word afterwards.
use Rattle.std.specs.Prelude.{ℕ, ◌≡◌}
use Rattle.meaning.specs.State.{State}
use Rattle.meaning.specs.Lent.{Lent, LentMut}
use Rattle.call_burst.specs.Burst.{stretch_of}
use Rattle.call_tally.specs.declared.Tally.{Tally}
use Rattle.call_tallied.specs.Tallied.{tallying_of, burst_tallied}
use Rattle.call_tallied.specs.declared.BurstTallied.{BurstTallied}

-- s' is the state afterwards
abbrev pub tallied_promise : Tally → ℕ → State → Lent → Lent → LentMut → LentMut → BurstTallied → State → Type 0
tallied_promise t c s arrivals sizes departures answers r s' =
    tallying_of (stretch_of s' departures.exit.now answers.exit.now r.end.number r.end.done) r.tally
    ≡ burst_tallied t c s arrivals.entry.now sizes.entry.now departures.entry.now answers.entry.now
