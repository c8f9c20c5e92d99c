-- Document 01: "The reader keeps the lent trace together with its place in it." What each function over it promises.
-- proofs/Once.antt: two results of a promise coincide.
use Rattle.std.specs.Prelude.{ℕ, ◌≡◌, List}
use Rattle.std.specs.Borrow.{Bor}
use Rattle.trace_record.specs.Trace.{said_of}
use Rattle.trace_record.specs.Promises.{place_after, event_promise}
use Rattle.trace_record.specs.declared.Found.{Found}
use Rattle.trace_reader.specs.declared.Reader.{Reader}

-- the reader made of a lent trace and a place
abbrev pub make_promise : Bor (List ℕ) → ℕ → Reader → Type 0
make_promise trace at r = r ≡ record { trace = trace; at = at }

-- what stands at its place
abbrev pub next_promise : Reader → Found → Type 0
next_promise r found = event_promise r.trace.now r.at found

-- the same trace, at the place after an answer; on a refusal the place stays
abbrev pub on_promise : Reader → Found → Reader → Type 0
on_promise r found q = q ≡ record { trace = r.trace; at = place_after (said_of found) r.at }

abbrev pub here_promise : Reader → ℕ → Type 0
here_promise r at = at ≡ r.at
