-- The two budgets that a state gives the audit: a free space may not be met, any other space once, and each open connection as
-- often as it says.
--
--   inside bits x N       == 1 for a space that is not free, 0 for any other number
--   waits_at w z k         == the waiting of connection k where there is one and it is open, else 0
--   AllFit N z w          == the words of all connections are in their ranges
--   FitFrom N a b w       == those from a on below b are
--   filled_at w l a b k    == what stands at k of the numbers l once those from a on below b are the waiting cells there
use Rattle.std.specs.Prelude.{ℕ, ◌≤◌, ◌<◌, ◌≡◌, true, false, not, ◌&&◌, List, get_or}
use Rattle.meaning.specs.Plain.{when◌then◌else◌, ◌<?◌, ◌≤?◌, ◌=?◌}
use Rattle.meaning.specs.Numbers.{connections_in, unused}
use Rattle.meaning.specs.Bits.{is_free_space}
use Rattle.meaning.specs.Words.{Connection, connection_at, connection_fits}

-- "each space is in exactly one of the Free List, the Output List and the time slot queues": one that is free by its bit is in
-- neither of the other two
abbrev pub uses_of : List ℕ → ℕ → ℕ
uses_of bits x = when is_free_space bits x then 0 else 1

unfoldable pub inside : List ℕ → ℕ → ℕ → ℕ
inside bits x N = when x <? N then uses_of bits x else 0

-- "each open VC's waiting is the number of its queued cells", and each open path's: a closed connection may have none
unfoldable pub waits_of : Connection → ℕ
waits_of conn = when conn.opened =? 1 then conn.waiting else 0

unfoldable pub waits_at : List ℕ → ℕ → ℕ → ℕ
waits_at words z k = when k <? connections_in z && not (unused z k) then waits_of (connection_at words k) else 0

-- "lengths and ranges hold throughout"; "VC 0's words don't matter", nor do path 0's
abbrev pub AllFit : ℕ → ℕ → List ℕ → Type 0
AllFit N z words = (c : ℕ) → c < connections_in z → unused z c ≡ false → connection_fits N (connection_at words c) ≡ true

-- a part of the records
abbrev pub FitFrom : ℕ → ℕ → ℕ → List ℕ → Type 0
FitFrom N from to words = (c : ℕ) → from ≤ c → c < to → connection_fits N (connection_at words c) ≡ true

unfoldable pub filled_at : List ℕ → List ℕ → ℕ → ℕ → ℕ → ℕ
filled_at words w from to k = when from ≤? k && k <? to then waits_of (connection_at words k) else get_or w k 0
