-- Document 02 (ix), how long until something leaves: "Answer how many slots from now, if none arrives, the next cell leaves: 1 if
-- the Output List has one, otherwise the ring distance from T to the nearest marked entry, 1 to N-1, or that none waits." "look at
-- whole words in ring order after T, below N". "Refusals: 1, 2, then 3 if T isn't below N, the Output List's ends are out of range, or
-- the entry that the bits name is empty."
--
--   first_in p k d    == the first of the k numbers from d on of which p holds; 0 if there is none
--   next_mark         == the distance from T, in ring order, to the nearest entry whose bit is set; 0 if there is none
--   wait_for          == the answer: number, and slots; 0 slots for none, and in a refusal
use Rattle.std.specs.Prelude.{ℕ, zero, suc, ◌+◌, ◌-◌, ◌*◌, ◌%◌, Bool, not, ◌&&◌, List, length}
use Rattle.meaning.specs.declared.Record.{Record}
use Rattle.meaning.specs.declared.Wait.{Wait}
use Rattle.meaning.specs.Plain.{when◌then◌else◌, ◌<?◌, ◌=?◌}
use Rattle.meaning.specs.Numbers.{ranges_hold, per_entry, bit_words}
use Rattle.meaning.specs.Bits.{is_marked}
use Rattle.meaning.specs.State.{ends_of}
use Rattle.meaning.specs.Lists.{is_empty, ends_fit, entry_at}

unfoldable pub first_in : (ℕ → Bool) → ℕ → ℕ → ℕ
first_in p zero d = 0
first_in p (suc k) d = when p d then d else first_in p k (d + 1)

-- entry T itself is not looked at: it was emptied in this slot
unfoldable pub next_mark : ℕ → ℕ → List ℕ → ℕ
next_mark N T bits = first_in (λ d. is_marked bits ((T + d) % N)) (N - 1) 1

abbrev pub wait_of : ℕ → ℕ → Wait
wait_of number slots = record { number = number; slots = slots }

unfoldable pub wait_for : Record → List ℕ → List ℕ → Wait
wait_for r calendar bits =
    let N = r.n in
    let T = r.turn in
    let output = ends_of r.outhead r.outtail in
    let d = next_mark N T bits in
    let entry = entry_at calendar ((T + d) % N) in
    when not (ranges_hold N r.v) then wait_of 1 0
    else when not (length calendar =? per_entry * N && length bits =? bit_words) then wait_of 2 0
    else when not (T <? N && ends_fit N output) then wait_of 3 0
    else when not (is_empty output) then wait_of 0 1
    else when d =? 0 then wait_of 0 0
    else when not (ends_fit N entry && not (is_empty entry)) then wait_of 3 0
    else wait_of 0 d
