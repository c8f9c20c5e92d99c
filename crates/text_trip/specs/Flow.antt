-- A text written line by line: the octets so far, and the slots of a pause that may still grow. The sum of a run of pauses
-- is never needed: full records are written as soon as they are full, and the rest stays below 65,535.
--
--   step f e      == one event more
--   ending f      == the octets when nothing follows
--   stream text   == the octets of a text, or the place of its first line that isn't good
use Rattle.std.specs.Prelude.{ℕ, zero, suc, ◌+◌, ◌/◌, ◌%◌, ◌&&◌, List, [], ◌++◌, length, Ok, Err}
use Rattle.meaning.specs.Plain.{Out, refused, next, when◌then◌else◌, ◌<?◌, ◌≤?◌}
use Rattle.text_meaning.specs.declared.WriteError.TheVariants.{Unreadable, TooShort}
use Rattle.text_meaning.specs.Events.{Event, told, pause, full, fulls, rest_of}
use Rattle.text_meaning.specs.Writing.{Placed, line_at, Answer}

pub record Flow : Type 0 where
  pub octets : List ℕ
  pub rest : ℕ

abbrev pub flow : List ℕ → ℕ → Flow
flow o r = record { octets = o; rest = r }

unfoldable pub step : Flow → Event → Flow
step f (told o) = flow (f.octets ++ (rest_of f.rest ++ o)) 0
step f (pause n) = flow (f.octets ++ fulls ((f.rest + n) / full)) ((f.rest + n) % full)

unfoldable pub ending : Flow → List ℕ
ending f = f.octets ++ rest_of f.rest

pub data Streamed : Type 0 where
  whole : List ℕ → Streamed
  stopped : (place : ℕ) → Streamed

unfoldable pub stream_at : (ℕ → Flow → Streamed) → ℕ → Flow → Out Placed → Streamed
stream_at on p f refused = stopped p
stream_at on p f (next l) = on l.place (step f l.event)

unfoldable pub stream_from : ℕ → List ℕ → ℕ → Flow → Streamed
stream_from zero text p f = stopped p
stream_from (suc k) text p f =
    when 1 ≤? p && length text ≤? p then whole (ending f) else stream_at (stream_from k text) p f (line_at text p)

unfoldable pub stream : List ℕ → Streamed
stream text = stream_from (length text + 1) text 0 (flow [] 0)

-- 10 at the place, 14, or how many octets
unfoldable pub judged : ℕ → Streamed → Answer
judged room (stopped p) = Err (Unreadable p)
judged room (whole o) = when room <? length o then Err (TooShort 0) else Ok (length o)
