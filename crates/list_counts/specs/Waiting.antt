-- Document 01, "`end accepted excess unknown sent waiting`": the cells that wait are those accepted and not yet sent, and
-- the connections' words hold them.
--
--   records_of z         == how many connections' records a policer has, V being z
--   sum_waiting k words  == the sum of the waiting words of connections 0 to k-1
--   Balanced s h        == in state s, after slots with the answers h, the waiting words sum to accepted less sent
--   end_at s h cs        == the state and the answers where the calls cs end
use Rattle.std.specs.Prelude.{ℕ, zero, suc, ◌+◌, ◌<◌, ◌≡◌, List, []}
use Rattle.meaning.specs.declared.Answer.{Answer}
use Rattle.meaning.specs.Numbers.{connections_in}
use Rattle.meaning.specs.State.{State}
use Rattle.meaning.specs.Words.{connection_at}
use Rattle.meaning.specs.Plain.{when◌then◌else◌}
use Rattle.list_meaning.specs.Trace.{Calls, finished, stopped, call, calls_of}
use Rattle.list_meaning.specs.Listing.{many_of, is_accepted, has_sent, ends_run, state_after, answers_after, lent_for}

-- "Path records, 256 .., stand after the V records"; a record of zeros, where setup was refused, has none
unfoldable pub records_of : ℕ → ℕ
records_of zero = 0
records_of (suc z) = connections_in (suc z)

unfoldable pub sum_waiting : ℕ → List ℕ → ℕ
sum_waiting zero words = 0
sum_waiting (suc k) words = sum_waiting k words + (connection_at words k).waiting

pub record Balanced (s : State) (h : List Answer) : Type 0 where
  pub even : sum_waiting (records_of s.ctl.v) s.words + many_of has_sent h ≡ many_of is_accepted h
  -- a connection that isn't open has no cell waiting
  pub closed : (c : ℕ) → c < records_of s.ctl.v → (connection_at s.words c).opened ≡ 0 → (connection_at s.words c).waiting ≡ 0

pub record Point : Type 0 where
  pub state : State
  pub answers : List Answer

-- where the calls of a trace end: with the end line's counts over these answers
unfoldable pub end_at : State → List Answer → Calls → Point
end_at s h finished = record { state = s; answers = h }
end_at s h (stopped place) = record { state = s; answers = h }
end_at s h (call c rest) =
    when ends_run s c then record { state = state_after s c; answers = [] }
    else end_at (state_after s c) (answers_after s h c) rest

-- where the listing of an input ends
unfoldable pub end_of_input : List ℕ → Point
end_of_input input = end_at (lent_for (calls_of input)) [] (calls_of input)
