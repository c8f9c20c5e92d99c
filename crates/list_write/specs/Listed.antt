-- What it means that a listing was handed over: fill after fill from where a run begins, each handed to the writer before the
-- next is made. Which octets the system then writes, and what the writer answers, is outside every contract.
--
--   front_of z w   == the world w with those parts of the memories that N and V of z ask for;  behind_of z w == the other parts;
--                    the words of bits are 32 whatever N is, and are lent whole
--   Handed        == so many fills were handed over, and what they left
--   Listed        == the same out of the front parts of larger memories
--   Written       == which octets the writer took
use Rattle.std.specs.declared.option.Option.{Option}
use Rattle.std.specs.Io.KnownBytes.{Appends}
use Rattle.std.specs.Prelude.{ℕ, ◌*◌, ◌<◌, ◌≤◌, ◌≡◌, Bool, true, List, [], ◌++◌, length, take, drop}
use Rattle.meaning.specs.Numbers.{most_n, most_v, octets, per_entry, words_in, bit_words}
use Rattle.meaning.specs.State.{State, state_of}
use Rattle.list_meaning.specs.Listing.{listing_of}
use Rattle.list_whole.specs.declared.Run.{Run}
use Rattle.list_whole.specs.declared.Sizes.{Sizes}
use Rattle.list_whole.specs.Run.{World}
use Rattle.list_whole.specs.Fill.{Fills, start_run, sizes_of}
use Rattle.list_whole.specs.Lent.{world_in, world_before, world_after, Lent, LentMut, MemoryMut}

-- what a call leaves: the memories after it hold, with the run that is named, this world
abbrev pub Left : Type 0
Left = Run → World

-- From world w, where a run begins, and buffer out, to what is left of them. Fills were handed over, one at least, and all
-- that they put is a beginning of the listing; the answer is yes only where it is all of it.
pub record Handed (input : List ℕ) (w : World) (out : List ℕ) (left : Left) (out' : List ℕ) (answer : Bool) : Type 0 where
  pub run : Run
  pub count : ℕ
  pub text : List ℕ
  pub rest : List ℕ
  pub some : 0 < count
  pub fills : Fills input w out count text (left run) out'
  pub begins : listing_of input ≡ text ++ rest
  pub whole : answer ≡ true → ((left run).done ≡ true) × (rest ≡ [])

abbrev pub front_of : Sizes → World → World
front_of z w =
    record {
      state =
          state_of w.state.ctl
          (take (octets * z.n) w.state.cells)
          (take z.n w.state.links)
          (take (per_entry * z.n) w.state.calendar)
          (take (words_in z.v) w.state.words)
          w.state.bits
          (take z.n w.state.arrived);
      at = w.at;
      left = w.left;
      done = w.done;
      tally = w.tally;
    }

abbrev pub behind_of : Sizes → World → State
behind_of z w =
    state_of w.state.ctl
    (drop (octets * z.n) w.state.cells)
    (drop z.n w.state.links)
    (drop (per_entry * z.n) w.state.calendar)
    (drop (words_in z.v) w.state.words)
    []
    (drop z.n w.state.arrived)

-- long enough for every N and V; the words of free spaces as they are for each
pub record Ample (w : World) : Type 0 where
  pub cells_long_lem : octets * most_n ≤ length w.state.cells
  pub links_long : most_n ≤ length w.state.links
  pub calendar_long : per_entry * most_n ≤ length w.state.calendar
  pub words_long : words_in most_v ≤ length w.state.words
  pub bits_long : length w.state.bits ≡ bit_words
  pub arrived_long : most_n ≤ length w.state.arrived

-- the same, out of memories of which only the front is used
pub record Listed (input : List ℕ) (w : World) (out : List ℕ) (left : Left) (out' : List ℕ) (answer : Bool) : Type 0 where
  pub handed : Handed input (front_of (sizes_of input) w) out (λ (run : Run). front_of (sizes_of input) (left run)) out' answer
  pub kept : behind_of (sizes_of input) (left start_run) ≡ behind_of (sizes_of input) w

-- both of what is lent from where a run begins, for contracts
abbrev pub HandedLent : (input : Lent) (cells links calendar words bits arrived out : LentMut) → Bool → Type 0
HandedLent input cells links calendar words bits arrived out answer =
    Handed input.entry.now (world_before start_run cells links calendar words bits arrived) out.entry.now
    (λ (run : Run). world_after run cells links calendar words bits arrived) out.exit.now answer

abbrev pub HandedIn : (input : Lent) (memory : MemoryMut) (out : LentMut) → Bool → Type 0
HandedIn input memory out answer =
    Handed input.entry.now (world_in start_run memory.entry.now) out.entry.now (λ (run : Run). world_in run memory.exit.now) out.exit.now answer

abbrev pub ListedLent : (input : Lent) (cells links calendar words bits arrived out : LentMut) → Bool → Type 0
ListedLent input cells links calendar words bits arrived out answer =
    Listed input.entry.now (world_before start_run cells links calendar words bits arrived) out.entry.now
    (λ (run : Run). world_after run cells links calendar words bits arrived) out.exit.now answer

-- yes is said only where the writer took the whole listing: where it says which octets it holds, they grew by it
abbrev pub Written : (before after : Option (List ℕ)) → (input : Lent) → Bool → Type 0
Written before after input answer = answer ≡ true → Appends before after (listing_of input.entry.now)
