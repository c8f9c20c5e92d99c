-- What a head and a tail say of their list, and the last cases of the answer.
--
--   cell_in N e        == whether the list with head and tail e has a cell; none where they are out of range
--   number_of e        == the number of a refusal
--   wait_is w          == an answer, or why there is none, as it is given back
--   entry_wait N T ..  == the answer where refusals 1 and 2 are not given, T is below N and the Output List is empty
use Rattle.std.specs.Prelude.{ℕ, ◌+◌, ◌%◌, Bool, not, ◌&&◌, List, Option, Some, None, unwrap_or, Result, Ok, Err}
use Rattle.meaning.specs.declared.Wait.{Wait}
use Rattle.meaning.specs.Plain.{when◌then◌else◌, ◌=?◌}
use Rattle.meaning.specs.State.{Ends}
use Rattle.meaning.specs.Lists.{is_empty, ends_fit, entry_at}
use Rattle.meaning.specs.Next.{next_mark, wait_of}
use Rattle.call_next.specs.declared.Refused.{Refused}
use Rattle.call_next.specs.declared.Refused.TheVariants.{Ranges, Lengths, State}

unfoldable pub cell_in : ℕ → Ends → Option Bool
cell_in N e = when ends_fit N e then Some (not (is_empty e)) else None

abbrev pub number_of : Refused → ℕ
number_of Ranges = 1
number_of Lengths = 2
number_of State = 3

abbrev pub wait_is : Result (Option ℕ) Refused → Wait
wait_is (Ok slots) = wait_of 0 (unwrap_or slots 0)
wait_is (Err e) = wait_of (number_of e) 0

unfoldable pub entry_wait : ℕ → ℕ → List ℕ → List ℕ → Wait
entry_wait N T calendar bits =
    let d = next_mark N T bits in
    let entry = entry_at calendar ((T + d) % N) in
    when d =? 0 then wait_of 0 0 else when not (ends_fit N entry && not (is_empty entry)) then wait_of 3 0 else wait_of 0 d
