-- What one line more brings to a text's octets, where a pause of rest slots, fewer than 65,535, stands before it.
--
--   adds rest e         == the octets of a line that says e
--   adds_long rest l     == how many they are
--   leaves rest l        == the slots of the pause that is left
--   laid_by s out        == the output with the octets of a text at its start
use Rattle.std.specs.Prelude.{ℕ, ◌+◌, ◌*◌, ◌/◌, ◌%◌, List, ◌++◌, length, drop}
use Rattle.meaning.specs.Plain.{when◌then◌else◌, ◌=?◌}
use Rattle.text_meaning.specs.Events.{Event, told, pause, full, fulls, rest_of}
use Rattle.text_line.specs.declared.Line.{Line}
use Rattle.text_line.specs.declared.Line.TheVariants.{Record, Pause}
use Rattle.text_trip.specs.Flow.{Streamed, whole, stopped}

abbrev pub adds : ℕ → Event → List ℕ
adds rest (told o) = rest_of rest ++ o
adds rest (pause n) = fulls ((rest + n) / full)

-- the octets of an SL, where a rest needs one
unfoldable pub rest_long : ℕ → ℕ
rest_long rest = when rest =? 0 then 0 else 4

abbrev pub adds_long : ℕ → Line → ℕ
adds_long rest (Record long) = rest_long rest + long
adds_long rest (Pause n) = 4 * ((rest + n) / full)

abbrev pub leaves : ℕ → Line → ℕ
leaves rest (Record long) = 0
leaves rest (Pause n) = (rest + n) % full

unfoldable pub laid_by : Streamed → List ℕ → List ℕ
laid_by (whole o) out = o ++ drop (length o) out
laid_by (stopped p) out = out
