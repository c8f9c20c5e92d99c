-- What the reader's functions promise of their answers, as their contracts cite it. proofs/Once.antt: two results of a
-- promise coincide.
use Rattle.std.specs.Prelude.{ℕ, ◌≡◌, List}
use Rattle.trace_record.specs.declared.Found.{Found}
use Rattle.trace_record.specs.Trace.{Stands, event, finish, refusal, stands_at, said_of}

-- an answer r says what stands at the place
abbrev pub event_promise : List ℕ → ℕ → Found → Type 0
event_promise trace at r = said_of r ≡ stands_at trace at

-- Where a reader at place at goes on after what stands there: "A record that can't be read ends the run there", and at
-- the end there is nowhere to go, so the place stays.
abbrev pub place_after : Stands → ℕ → ℕ
place_after (event r next) at = next
place_after finish at = at
place_after (refusal number place) at = at

-- the place r that follows an answer
abbrev pub place_promise : Found → ℕ → ℕ → Type 0
place_promise found at r = r ≡ place_after (said_of found) at
