-- Document 02 (viii): a whole text, and the promise of its writer.
--
--   line_at text p     == the event of the line that starts at place p, and the place behind it
--   events text       == the events of a text, or the least place at which no line stands
--   write_text text o  == what writing a text into the output o answers and leaves
use Rattle.std.specs.Prelude.{ℕ, zero, suc, ◌+◌, ◌-◌, ◌≤◌, ◌&&◌, List, [], ◌∷◌, ◌++◌, length, drop, Result, Ok, Err}
use Rattle.meaning.specs.Plain.{Out, refused, next, when◌then◌else◌, ◌<?◌, ◌≤?◌, ◌=?◌}
use Rattle.text_meaning.specs.declared.WriteError.{WriteError}
use Rattle.text_meaning.specs.declared.WriteError.TheVariants.{Unreadable, TooShort}
use Rattle.text_meaning.specs.Events.{Event, octets_all, merge}
use Rattle.text_meaning.specs.Grammar.{Told, line}

-- an event, and the place behind its line
pub record Placed : Type 0 where
  pub event : Event
  pub place : ℕ

abbrev pub placed : Event → ℕ → Placed
placed e p = record { event = e; place = p }

unfoldable pub behind : ℕ → Out Told → Out Placed
behind long refused = refused
behind long (next t) = next (placed t.event (long - length t.rest))

-- first is place 0
unfoldable pub line_at : List ℕ → ℕ → Out Placed
line_at text p = behind (length text) (line (p =? 0) (drop p text))

-- "10, with the line's first octet, for a text line not of this form"
pub data Said : Type 0 where
  good : List Event → Said
  bad : (place : ℕ) → Said

unfoldable pub onto : Event → Said → Said
onto e (good es) = good (e ∷ es)
onto e (bad p) = bad p

-- the line at place p, and what is said from the place behind it on
unfoldable pub events_at : (ℕ → Said) → ℕ → Out Placed → Said
events_at on p refused = bad p
events_at on p (next l) = onto l.event (on l.place)

-- from place p on, of at most k lines: k above the octets left is enough. "(an empty text: 0)"
unfoldable pub events_from : ℕ → List ℕ → ℕ → Said
events_from zero text p = bad p
events_from (suc k) text p =
    when 1 ≤? p && length text ≤? p then good [] else events_at (events_from k text) p (line_at text p)

unfoldable pub events : List ℕ → Said
events text = events_from (length text + 1) text 0

-- a writer's answer: how many octets were written, or why none was
abbrev pub Answer : Type 0
Answer = Result ℕ WriteError

-- the documents' number of an answer: 0, 10 or 14
abbrev pub number_in : Answer → ℕ
number_in (Ok n) = 0
number_in (Err (Unreadable p)) = 10
number_in (Err (TooShort p)) = 14

-- a place that is refused lies within so many octets
abbrev pub PlaceWithin : ℕ → Answer → Type 0
PlaceWithin long (Ok n) = 0 ≤ 0
PlaceWithin long (Err (Unreadable p)) = p ≤ long
PlaceWithin long (Err (TooShort p)) = 0 ≤ 0

-- what a writer answers, and what it leaves in the output
pub record Wrote : Type 0 where
  pub answer : Answer
  pub output : List ℕ

abbrev pub wrote : Answer → List ℕ → Wrote
wrote answer output = record { answer = answer; output = output }

-- "after it 14, output too short"; otherwise the octets, and behind them what stood there
unfoldable pub laid : List ℕ → List ℕ → Wrote
laid octets output =
    when length output <? length octets then wrote (Err (TooShort 0)) output
    else wrote (Ok (length octets)) (octets ++ drop (length octets) output)

-- "Neither changes an octet of the output."
unfoldable pub write_said : Said → List ℕ → Wrote
write_said (good es) output = laid (octets_all (merge es)) output
write_said (bad p) output = wrote (Err (Unreadable p)) output

unfoldable pub write_text : List ℕ → List ℕ → Wrote
write_text text output = write_said (events text) output
