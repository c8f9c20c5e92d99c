-- Two bursts that there are: document 01's eight slots polled as one, and one that stops at its second size.
use Rattle.std.specs.Prelude.{ℕ, List, [], ◌∷◌, ◌++◌, replicate}
use Rattle.meaning_runs.specs.Run.{on_open}
use Rattle.meaning_runs.specs.Eight.{cell_for}
use Rattle.promise_polled.specs.Polled.{Poll, single, many}

-- cells of VC 40 in slots 0 to 4, of VC 41 in slot 5, none in slots 6 and 7; departures and answers hold other numbers
abbrev pub eight_polls : List Poll
eight_polls =
    single (on_open 40 2 10 26)
    ∷ single (on_open 41 2 4 4)
    ∷ many (cell_for 40 ++ (cell_for 40 ++ (cell_for 40 ++ (cell_for 40 ++ (cell_for 40 ++ (cell_for 41 ++ replicate 106 9))))))
    (53 ∷ 53 ∷ 53 ∷ 53 ∷ 53 ∷ 53 ∷ 0 ∷ 0 ∷ []) (replicate 424 9) (replicate 48 9)
    ∷ []

-- three slots, the second with a size of 7
abbrev pub odd_arrivals : List ℕ
odd_arrivals = cell_for 40 ++ (cell_for 40 ++ cell_for 40)

abbrev pub odd_sizes : List ℕ
odd_sizes = 53 ∷ 7 ∷ 53 ∷ []
