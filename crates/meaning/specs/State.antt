-- Document 01, "Numbers": the control record and the lent memories, and how each group of fields is changed. Document 02 (vii): the
-- number of free spaces stands in the record, their bits are a fifth memory; links serve the queues and the Output List alone. (ix): the
-- bits of the entries stand in it too. (x): the arrival slots of the cells are a sixth.
use Rattle.std.specs.Prelude.{ℕ, ◌+◌, ◌*◌, ◌≤◌, Bool, ◌&&◌, List, ◌++◌, length, take, drop}
use Rattle.meaning.specs.declared.Record.{Record}
use Rattle.meaning.specs.Plain.{◌=?◌}
use Rattle.meaning.specs.Numbers.{octets, per_entry, words_per_connection, connection_place, words_in, bit_words, cell_start}

-- "Lent memory: 53 × N octets of cells; N links; 2 × N calendar numbers; 7 × V words. The control record
-- goes in and out by value"; document 02 made of the words 12 × (V + 256)
pub record State : Type 0 where
  pub ctl : Record
  pub cells : List ℕ
  pub links : List ℕ
  pub calendar : List ℕ
  pub words : List ℕ
  pub bits : List ℕ
  pub arrived : List ℕ

abbrev pub state_of : Record → List ℕ → List ℕ → List ℕ → List ℕ → List ℕ → List ℕ → State
state_of r cells links calendar words bits arrived =
    record { ctl = r; cells = cells; links = links; calendar = calendar; words = words; bits = bits; arrived = arrived }

-- "head and tail" of one list of spaces
pub record Ends : Type 0 where
  pub head : ℕ
  pub tail : ℕ

abbrev pub ends_of : ℕ → ℕ → Ends
ends_of head tail = record { head = head; tail = tail }

abbrev pub output_list : State → Ends
output_list s = ends_of s.ctl.outhead s.ctl.outtail

-- refusal 2: "a lent buffer has another length than above"
unfoldable pub words_length : ℕ → List ℕ → Bool
words_length z words = length words =? words_in z

-- all words of a connection stand in the lent words
abbrev pub HasConnection : ℕ → List ℕ → Type 0
HasConnection c words = connection_place c + words_per_connection ≤ length words

unfoldable pub lengths_hold : ℕ → ℕ → List ℕ → List ℕ → List ℕ → List ℕ → List ℕ → List ℕ → Bool
lengths_hold N z cells links calendar words bits arrived =
    length cells =? octets * N && length links =? N && length calendar =? per_entry * N && words_length z words && length bits =? bit_words
    && length arrived =? N

-- the same of a whole state
abbrev pub sizes_hold : State → Bool
sizes_hold s = lengths_hold s.ctl.n s.ctl.v s.cells s.links s.calendar s.words s.bits s.arrived

-- one group of fields changed, all others kept
unfoldable pub with_record : State → Record → State
with_record s r = state_of r s.cells s.links s.calendar s.words s.bits s.arrived

unfoldable pub with_cells : State → List ℕ → State
with_cells s l = state_of s.ctl l s.links s.calendar s.words s.bits s.arrived

unfoldable pub with_links : State → List ℕ → State
with_links s l = state_of s.ctl s.cells l s.calendar s.words s.bits s.arrived

unfoldable pub with_calendar : State → List ℕ → State
with_calendar s l = state_of s.ctl s.cells s.links l s.words s.bits s.arrived

unfoldable pub with_words : State → List ℕ → State
with_words s l = state_of s.ctl s.cells s.links s.calendar l s.bits s.arrived

unfoldable pub with_bits : State → List ℕ → State
with_bits s l = state_of s.ctl s.cells s.links s.calendar s.words l s.arrived

unfoldable pub with_arrived : State → List ℕ → State
with_arrived s l = state_of s.ctl s.cells s.links s.calendar s.words s.bits l

-- the record with another clock, another number of free spaces and another Output List; whatever else it holds is kept here, in
-- one place
unfoldable pub record_with : Record → ℕ → ℕ → ℕ → ℕ → Ends → Record
record_with r t T rotation free output =
    record {
      n = r.n;
      v = r.v;
      t = t;
      turn = T;
      rotation = rotation;
      free = free;
      outhead = output.head;
      outtail = output.tail;
      raw = r.raw;
      mode = r.mode;
      kind = r.kind;
      splitvci = r.splitvci;
      splitpath = r.splitpath;
    }

-- t, T and rotation changed
unfoldable pub with_clock : State → ℕ → ℕ → ℕ → State
with_clock s t T rotation = with_record s (record_with s.ctl t T rotation s.ctl.free (output_list s))

-- the free spaces changed: their number, and their bits
unfoldable pub with_free : State → ℕ → List ℕ → State
with_free s free bits =
    let r = s.ctl in
    with_bits (with_record s (record_with r r.t r.turn r.rotation free (output_list s))) bits

unfoldable pub with_output_list : State → Ends → State
with_output_list s e =
    let r = s.ctl in
    with_record s (record_with r r.t r.turn r.rotation r.free e)

-- the mode of the header check changed
unfoldable pub record_in_mode : Record → ℕ → Record
record_in_mode r mode =
    record {
      n = r.n;
      v = r.v;
      t = r.t;
      turn = r.turn;
      rotation = r.rotation;
      free = r.free;
      outhead = r.outhead;
      outtail = r.outtail;
      raw = r.raw;
      mode = mode;
      kind = r.kind;
      splitvci = r.splitvci;
      splitpath = r.splitpath;
    }

unfoldable pub with_mode : State → ℕ → State
with_mode s mode = with_record s (record_in_mode s.ctl mode)

-- "The cell is written into its own 53 octets of the cell memory, and every other octet keeps its value."
unfoldable pub write_cell : List ℕ → ℕ → List ℕ → List ℕ
write_cell cells x cell = take (cell_start x) cells ++ (cell ++ drop (cell_start x + octets) cells)
