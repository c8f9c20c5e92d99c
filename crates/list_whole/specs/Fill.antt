-- What a fill of the buffer promises: it makes steps while the run isn't done and a step's lines surely fit, no fewer and
-- no more.
use Rattle.std.specs.Prelude.{ℕ, suc, ◌+◌, ◌*◌, ◌<◌, ◌≤◌, ◌≡◌, Bool, true, false, List, [], ◌++◌, ◌⊎◌, length, take}
use Rattle.list_lines.specs.Put.{Put}
use Rattle.meaning.specs.Plain.{when◌then◌else◌}
use Rattle.meaning.specs.Numbers.{octets, per_entry, words_in, bit_words, ranges_hold}
use Rattle.meaning.specs.Calls.{zeros}
use Rattle.trace_record.specs.Trace.{TraceRecord, GM, VO, VX, CA, SL, VS, PO, PX, Stands, event, finish, refusal, stands_at}
use Rattle.list_whole.specs.declared.Run.{Run}
use Rattle.list_whole.specs.declared.Sizes.{Sizes}
use Rattle.list_meaning.specs.Trace.{limit, goes_further}
use Rattle.list_whole.specs.Run.{World, Step, no_tally, after, text_of}

-- a step writes at most two lines, of 160 octets together
abbrev pub room : ℕ
room = 160

-- one step: what it writes stands in the buffer, and is of at most so many octets
pub record Did (s : Step) (most : ℕ) (out : List ℕ) (used : ℕ) (w' : World) (out' : List ℕ) (used' : ℕ) : Type 0 where
  pub world : w' ≡ s.world
  pub put : Put out used s.text out' used'
  pub few : used' ≤ used + most

-- k steps from w, with used octets in the buffer: before each the run wasn't done and there was room, and what they write
-- stands in the buffer
pub record Ran (more : Bool) (trace : List ℕ) (k : ℕ) (w : World) (out : List ℕ) (used : ℕ) (w' : World) (out' : List ℕ) (used' : ℕ) : Type 0 where
  pub here : w' ≡ after more trace k w
  pub put : Put out used (text_of more trace k w) out' used'
  pub before : (j : ℕ) → j < k
      → ((after more trace j w).done ≡ false) × (used + length (text_of more trace j w) + room ≤ length out)

-- some steps, and the buffer still holds them
pub record Advanced (more : Bool) (trace : List ℕ) (w : World) (out : List ℕ) (used : ℕ) (w' : World) (out' : List ℕ) (used' : ℕ) : Type 0 where
  pub steps : ℕ
  pub some : 0 < steps
  pub ran : Ran more trace steps w out used w' out' used'
  pub within : used' ≤ length out

-- as many steps as there is room for, from the start of the buffer
pub record FillOf (more : Bool) (trace : List ℕ) (w : World) (out : List ℕ) (w' : World) (out' : List ℕ) (used' : ℕ) : Type 0 where
  pub steps : ℕ
  pub ran : Ran more trace steps w out 0 w' out' used'
  pub full : (w'.done ≡ true) ⊎ (length out < used' + room)
  pub within : used' ≤ length out

-- "The program reads the first 65,536 octets"
abbrev pub FillPromise : List ℕ → World → List ℕ → World → List ℕ → ℕ → Type 0
FillPromise input w out w' out' used' = FillOf (goes_further input) (take limit input) w out w' out' used'

-- k fills from w and the buffer out, each of a run that isn't done, from where the one before left the run and the buffer:
-- what they put together, and the run and the buffer that they leave
pub data Fills (input : List ℕ) (w : World) (out : List ℕ) : ℕ → List ℕ → World → List ℕ → Type 0 where
  no_fill : Fills input w out 0 [] w out
  fill_more : {k : ℕ} {t out' out'' : List ℕ} {w' w'' : World} (used : ℕ) → Fills input w out k t w' out' → w'.done ≡ false
      → FillPromise input w' out' w'' out'' used → Fills input w out (suc k) (t ++ take used out'') w'' out''

-- a cell that a record names lies within the trace
abbrev pub CellWithin : List ℕ → TraceRecord → Type 0
CellWithin trace (GM N z head) = 0 ≤ 0
CellWithin trace (VO vci m F C) = 0 ≤ 0
CellWithin trace (VX vci) = 0 ≤ 0
CellWithin trace (CA start) = start + octets ≤ length trace
CellWithin trace (SL count) = 0 ≤ 0
CellWithin trace (VS vci m F C x) = 0 ≤ 0
CellWithin trace (PO vpi m F C) = 0 ≤ 0
CellWithin trace (PX vpi) = 0 ≤ 0

-- where a run begins: no record is set up, nothing is read or counted
unfoldable pub start_run : Run
start_run = record { ctl = zeros; at = 0; left = 0; done = false; tally = no_tally }

-- N and V for which memory is to be lent: those of the first record, where they are in their ranges
unfoldable pub sizes_at : Stands → Sizes
sizes_at (event (GM N z head) next) = when ranges_hold N z then record { n = N; v = z } else record { n = 0; v = 0 }
sizes_at (event (VO vci m F C) next) = record { n = 0; v = 0 }
sizes_at (event (VX vci) next) = record { n = 0; v = 0 }
sizes_at (event (CA start) next) = record { n = 0; v = 0 }
sizes_at (event (SL count) next) = record { n = 0; v = 0 }
sizes_at (event (VS vci m F C x) next) = record { n = 0; v = 0 }
sizes_at (event (PO vpi m F C) next) = record { n = 0; v = 0 }
sizes_at (event (PX vpi) next) = record { n = 0; v = 0 }
sizes_at finish = record { n = 0; v = 0 }
sizes_at (refusal number place) = record { n = 0; v = 0 }

unfoldable pub sizes_of : List ℕ → Sizes
sizes_of input = sizes_at (stands_at (take limit input) 0)

-- "Lent memory: 53 × N octets of cells; N links of 16 bits; 2 × N calendar numbers of 16 bits; 7 × V words", of which
-- document 02 made 12 × (V + 256), and its 32 words of bits and N arrival slots
pub record LentFor (n : Sizes) (w : World) : Type 0 where
  pub cells_long_lem : length w.state.cells ≡ octets * n.n
  pub links_long : length w.state.links ≡ n.n
  pub calendar_long : length w.state.calendar ≡ per_entry * n.n
  pub words_long : length w.state.words ≡ words_in n.v
  pub bits_long : length w.state.bits ≡ bit_words
  pub arrived_long : length w.state.arrived ≡ n.n
