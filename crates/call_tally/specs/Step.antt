-- How a call of the tally is worked out before the 64 bins are touched: a number to give, a bin, and how many cells more it gets.
use Rattle.std.specs.Prelude.{ℕ, not, List, length, slice_index, Result, Ok, Err, Option, Some, None}
use Rattle.meaning.specs.Plain.{when◌then◌else◌, ◌=?◌}
use Rattle.meaning.specs.Bucket.{elapsed}
use Rattle.meaning.specs.declared.Record.{Record}
use Rattle.leaf_refusal.specs.declared.Refusal.{Refusal}
use Rattle.leaf_refusal.specs.Refusals.{number_of}
use Rattle.call_tally.specs.Tally.{bin_of, most_cells, tally_refusal}

pub record Step : Type 0 where
  pub number : ℕ
  pub bin : ℕ
  pub more : ℕ

abbrev pub step_to : ℕ → ℕ → ℕ → Step
step_to number bin more = record { number = number; bin = bin; more = more }

-- no cell more, in bin 0, is the tally as it came
unfoldable pub step_of : List ℕ → ℕ → Record → List ℕ → ℕ → ℕ → ℕ → Step
step_of bins cells r arrived c x o =
    let number = tally_refusal bins cells r (length arrived) c x o in
    when not (number =? 0) then step_to number 0 0
    else when not (o =? c) then step_to 0 0 0
    else when cells =? most_cells then step_to 0 0 0
    else step_to 0 (bin_of (elapsed r.t (slice_index arrived x))) 1

-- the same as the code has it
abbrev pub step_in : Result (Option ℕ) Refusal → Step
step_in (Ok None) = step_to 0 0 0
step_in (Ok (Some bin)) = step_to 0 bin 1
step_in (Err why) = step_to (number_of why) 0 0
