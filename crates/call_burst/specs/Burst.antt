-- A burst: slots one after the other, each followed by showing its line cell. "Since a space that was given back may be
-- taken again within the burst, each slot's departing cell is copied into its own 53 octets of departures."
use Rattle.std.specs.Prelude.{ℕ, ◌+◌, ◌*◌, Bool, not, ◌&&◌, ◌||◌, List, [], ◌∷◌, length, take, drop}
use Rattle.meaning.specs.Plain.{when◌then◌else◌, ◌=?◌}
use Rattle.meaning.specs.Numbers.{ranges_hold, octets, per_entry, words_in, bit_words, cell_start}
use Rattle.meaning.specs.State.{State}
use Rattle.meaning.specs.Work.{Work}
use Rattle.meaning.specs.Slot.{slot}
use Rattle.burst_out.specs.Handout.{shown_into, answer_long, write_answer}

-- how far a burst has come: the policer, what was written, the number that stopped it (0: none), the slots served
pub record Stretch : Type 0 where
  pub state : State
  pub departures : List ℕ
  pub answers : List ℕ
  pub number : ℕ
  pub done : ℕ

abbrev pub stretch_of : State → List ℕ → List ℕ → ℕ → ℕ → Stretch
stretch_of s departures answers number done =
    record { state = s; departures = departures; answers = answers; number = number; done = done }

-- "sizes is an octet a slot, the length of the cell lent to it (0 or 53)"
unfoldable pub size_fits : ℕ → Bool
size_fits size = size =? 0 || size =? octets

-- "arrivals are 53 octets a slot, not read where the size is 0"
unfoldable pub cell_lent : List ℕ → ℕ → ℕ → List ℕ
cell_lent arrivals i size = take size (drop (cell_start i) arrivals)

-- a slot was served: its line cell is shown and its answer written
unfoldable pub served : Stretch → Work → Stretch
served b w =
    stretch_of w.state (shown_into b.departures b.done w.state.cells w.answer.space)
    (write_answer b.answers b.done w.answer) 0 (b.done + 1)

-- "record and memories are those after `done` served slots .. all others keep their values"
unfoldable pub stopped : Stretch → ℕ → Stretch
stopped b number = stretch_of b.state b.departures b.answers number b.done

-- "the only later stops with a number are 9 (a size neither 0 nor 53) and 3"
unfoldable pub slot_done : Stretch → Work → Stretch
slot_done b w =
    when not (w.answer.number =? 0) then stopped b w.answer.number
    else served b w

unfoldable pub one_slot : List ℕ → ℕ → Stretch → Stretch
one_slot arrivals size b =
    when not (size_fits size) then stopped b 9
    else slot_done b (slot b.state (cell_lent arrivals b.done size))

-- slot after slot, as long as there are sizes and none is stopped
unfoldable pub slots : List ℕ → List ℕ → Stretch → Stretch
slots arrivals [] b = b
slots arrivals (size ∷ sizes) b =
    let after = one_slot arrivals size b in
    when after.number =? 0 then slots arrivals sizes after else after

-- buffers of these lengths, for N, V and so many sizes: the six memories, arrivals, departures and answers
unfoldable pub lengths_fit : ℕ → ℕ → ℕ → ℕ → ℕ → ℕ → ℕ → ℕ → ℕ → ℕ → ℕ → ℕ → Bool
lengths_fit N z cells links calendar words bits arrived arrivals sizes departures answers =
    cells =? octets * N && links =? N && calendar =? per_entry * N && words =? words_in z && bits =? bit_words && arrived =? N
    && arrivals =? octets * sizes && departures =? octets * sizes && answers =? answer_long * sizes

-- "Refusals, in this order: 1; 2 if one of the four memories, or arrivals, departures or answers for so many sizes, has
-- another length; each leaves everything as it came, `done` 0. Then slots"; "No sizes: 0, `done` 0"; document 02 (vii) lends a fifth memory, (x)
-- a sixth
unfoldable pub burst : State → List ℕ → List ℕ → List ℕ → List ℕ → Stretch
burst s arrivals sizes departures answers =
    let N = s.ctl.n in
    let z = s.ctl.v in
    let begun = stretch_of s departures answers 0 0 in
    when not (ranges_hold N z) then stopped begun 1
    else when not (lengths_fit N z (length s.cells) (length s.links) (length s.calendar) (length s.words) (length s.bits) (length s.arrived) (length arrivals) (length sizes) (length departures) (length answers))
    then stopped begun 2
    else slots arrivals sizes begun
