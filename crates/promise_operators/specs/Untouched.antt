-- "Opens and closes carry the operator and touch only its own connections", of EVERY record and memory, damaged ones too: nothing here
-- speaks of a fresh state.
--
--   Outside r words B name  == 1, 2 and 4 are not given, and the connection isn't B's
--   StaysOut                == then B's open and B's close are 16, whatever the words hold; and whatever B opens or closes, all
--                              twelve words of each connection that isn't B's stay as they were
--   Turned t b a            == the words b, or b brought up to date as of slot t
--   Left b a                == the words b, or b with one cell fewer waiting
--   SlotStaysOut            == a slot whose cell does not name a connection leaves that connection's words, but that rotation may have
--                              brought them up to date and a departure of its own may have counted waiting down. So B's cells change
--                              of A's words nothing
use Rattle.std.specs.Prelude.{ℕ, ◌-◌, ◌≤◌, ◌≡◌, ◌≢◌, ◌⊎◌, true, false, List}
use Rattle.meaning.specs.declared.Record.{Record}
use Rattle.meaning.specs.Numbers.{ranges_hold, splits_hold}
use Rattle.meaning.specs.State.{State, words_length}
use Rattle.meaning.specs.Header.{header_at, Name, named, number_in, name_in}
use Rattle.meaning.specs.Operators.{owns}
use Rattle.meaning.specs.Bucket.{elapsed}
use Rattle.meaning.specs.Words.{Connection, Second, connection_at, with_waiting, fallen_to}
use Rattle.meaning.specs.Calls.{called_of, open_call, close_call}
use Rattle.meaning.specs.Slot.{slot}
use Rattle.meaning_runs.specs.Run.{let_in}

pub record Outside (r : Record) (words : List ℕ) (B : ℕ) (name : Name) : Type 0 where
  pub ranges : ranges_hold r.n r.v ≡ true
  pub splits : splits_hold r.v r.splitvci r.splitpath ≡ true
  pub long : words_length r.v words ≡ true
  pub is_named_lem : named r.v name ≡ true
  pub foreign : owns r B name ≡ false

pub record StaysOut (r : Record) (words : List ℕ) (B : ℕ) : Type 0 where
  pub open_is_16 : (name : Name) (m F C : ℕ) (x : Second) → Outside r words B name → open_call r words B name m F C x ≡ called_of 16 words
  pub close_is_16 : (name : Name) → Outside r words B name → close_call r words B name ≡ called_of 16 words
  pub open_leaves : (other : Name) → named r.v other ≡ true → owns r B other ≡ false
      → (name : Name) (m F C : ℕ) (x : Second)
      → connection_at (open_call r words B name m F C x).words (number_in r.v other) ≡ connection_at words (number_in r.v other)
  pub close_leaves : (other : Name) → named r.v other ≡ true → owns r B other ≡ false
      → (name : Name)
      → connection_at (close_call r words B name).words (number_in r.v other) ≡ connection_at words (number_in r.v other)

abbrev pub StayOut : Type 0
StayOut = (r : Record) (words : List ℕ) (B : ℕ) → StaysOut r words B

abbrev pub Turned : ℕ → Connection → Connection → Type 0
Turned t b a = (a ≡ b) ⊎ (a ≡ fallen_to (elapsed t b.last) t b)

abbrev pub Left : Connection → Connection → Type 0
Left b a = (a ≡ b) ⊎ ((1 ≤ b.waiting) × (a ≡ with_waiting b (b.waiting - 1)))

pub record Slotted (t : ℕ) (b a : Connection) : Type 0 where
  pub between : Connection
  pub turned : Turned t b between
  pub left : Left between a

abbrev pub SlotStaysOut : Type 0
SlotStaysOut = (s : State) (cell : List ℕ) (other : Name) → named s.ctl.v other ≡ true
    → name_in (header_at s.ctl.kind (let_in s cell).cell 0) ≢ other
    → let w = slot s cell in
    Slotted w.state.ctl.t (connection_at s.words (number_in s.ctl.v other)) (connection_at w.state.words (number_in s.ctl.v other))
