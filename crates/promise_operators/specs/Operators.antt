-- REQUEST (xi) of document 02, its theorem: two operators on one card. A is either of them, 0 the first or 1 the second; its
-- connections are those that `owner_of` gives to it. Take two runs from a fresh state on cards with the same N, V, line kind and
-- splits, raw or not, over whatever memory. If A asked the same in both, A was told the same in both.
--
-- What is equal in both runs, `asked`, in A's own order:
--   A's opens, without their answers; A's closes, with their answers ("A's closes are answered alike"); and the cells that name a
--   connection of A's, open or not, as they leave the header check, with their slots. Opens and closes bear no slot: between the
--   same cells of A they may come in other slots, so the theorem asks less than document 02's words
-- What is free: all else. Calls as anybody else, on whichever connection, refused or not; refused slots; and what arrives in the
--   slots that have no cell of A's: cells of B, of nobody, dropped ones, or none
-- What is then the same, `told`: the number of each open; verdict, VCI, D, due time and due slot of each cell, and its octets as sent
-- What may differ: departure slots, by N-1 at most; which space is used; and so when A's close is no longer refused for waiting
--   cells. That each of these does differ in some pair of runs is shown in crate promise_pairs
--
--   is_of c A name      == a connection of A's
--   is_a c A r x        == the call x after the run r is A's: an open or close as A, or a served slot with a cell that names one of
--                         A's connections
--   asked c A r xs     == what A asks in the calls xs after the run r
--   told c A r xs      == what A is told in them
--   FromFresh c        == a setup answered 0 on such a card, then these calls followed
-- Slots are counted from the first after setup, without wrapping.
use Rattle.std.specs.Prelude.{ℕ, ◌+◌, ◌-◌, ◌≤◌, ◌<◌, ◌≡◌, Bool, true, false, ◌&&◌, List, [], ◌∷◌, ◌↔◌, length}
use Rattle.meaning.specs.Plain.{when◌then◌else◌, ◌=?◌}
use Rattle.meaning.specs.State.{State}
use Rattle.meaning.specs.Header.{header_at, Name, named, number_in, name_in, connection}
use Rattle.meaning.specs.Operators.{owner_of}
use Rattle.meaning.specs.Words.{Second}
use Rattle.meaning.specs.Calls.{asked_of, setup, open_call, close_call}
use Rattle.meaning.specs.Arrival.{sent_as}
use Rattle.meaning.specs.Slot.{slot}
use Rattle.meaning_runs.specs.Run.{Call, on_open_with, on_close, on_slot, Run, run_of, let_in, call, calls, served}
use Rattle.meaning_runs.specs.Leak.{opening_of}
use Rattle.meaning_runs.specs.Seen.{Cell, cell_under, cells_of, departures_of, departure_at}
use Rattle.promises.specs.Debt.{AllLeft}

-- N, V, the line kind and the splits
pub record Card : Type 0 where
  pub N : ℕ
  pub z : ℕ
  pub kind : ℕ
  pub splitvci : ℕ
  pub splitpath : ℕ

abbrev pub is_of : Card → ℕ → Name → Bool
is_of c A name = named c.z name && A =? owner_of c.splitvci c.splitpath name

-- a cell whose header names a connection of A's
abbrev pub names_a : Card → ℕ → List ℕ → Bool
names_a c A cell = is_of c A (name_in (header_at c.kind cell 0))

abbrev pub through : Run → List ℕ → List ℕ
through r cell = (let_in r.state cell).cell

abbrev pub is_a : Card → ℕ → Run → Call → Bool
is_a c A r (on_open_with who name m F C x) = who =? A
is_a c A r (on_close who name) = who =? A
is_a c A r (on_slot cell) = (slot r.state cell).answer.number =? 0 && names_a c A (through r cell)

pub data Ask : Type 0 where
  -- the connection, m, F, C, and the second bucket, if any
  asks_open : Name → ℕ → ℕ → ℕ → Second → Ask
  -- the connection, and the number answered
  asks_close : Name → ℕ → Ask
  -- slot, and the octets as they leave the header check
  sends : ℕ → List ℕ → Ask

pub data Word : Type 0 where
  -- the number answered
  open_as_told : ℕ → Word
  close_told : ℕ → Word
  -- verdict; then VCI, arrival slot, D, due time, due slot and octets, as demand 3 has them: of a cell that is not let in the due
  -- time that it would have had, 0 where its connection isn't open
  cell_told : ℕ → Cell → Word

abbrev pub closed_with : Run → ℕ → Name → ℕ
closed_with r who name = (close_call r.state.ctl r.state.words who name).number

abbrev pub ask_of : Run → Call → Ask
ask_of r (on_open_with who name m F C x) = asks_open name m F C x
ask_of r (on_close who name) = asks_close name (closed_with r who name)
ask_of r (on_slot cell) = sends (served r.events) (through r cell)

abbrev pub word_of : Card → Run → Call → Word
word_of c r (on_open_with who name m F C x) = open_as_told (open_call r.state.ctl r.state.words who name m F C x).number
word_of c r (on_close who name) = close_told (closed_with r who name)
word_of c r (on_slot cell) =
    let a = (slot r.state cell).answer in
    cell_told a.verdict (cell_under (served r.events) a (sent_as a.verdict (through r cell))
    (opening_of (connection c.z (header_at c.kind (through r cell) 0)) r.events))

unfoldable pub asked : Card → ℕ → Run → List Call → List Ask
asked c A r [] = []
asked c A r (x ∷ xs) = when is_a c A r x then ask_of r x ∷ asked c A (call r x) xs else asked c A (call r x) xs

unfoldable pub told : Card → ℕ → Run → List Call → List Word
told c A r [] = []
told c A r (x ∷ xs) = when is_a c A r x then word_of c r x ∷ told c A (call r x) xs else told c A (call r x) xs

pub record FromFresh (c : Card) : Type 0 where
  pub raw : Bool
  pub lent : State
  pub answers_0 : (setup c.N c.z (asked_of raw c.kind c.splitvci c.splitpath) lent).number ≡ 0
  pub following : List Call

abbrev pub start_of : (c : Card) → FromFresh c → Run
start_of c p = run_of (setup c.N c.z (asked_of p.raw c.kind c.splitvci c.splitpath) p.lent).state []

abbrev pub end_of : (c : Card) → FromFresh c → Run
end_of c p = calls (start_of c p) p.following

-- what A has of two runs p and q in which A asked the same
pub record SameForA (c : Card) (A : ℕ) (p q : FromFresh c) : Type 0 where
  -- "A's open answers, verdicts, D and due times are the same"
  pub told_same : told c A (start_of c p) p.following ≡ told c A (start_of c q) q.following
  -- and each connection of A has the same opening, and the same accepted cells with the same due times, in demand 3's own words
  pub opening_same : (name : Name) → is_of c A name ≡ true
      → opening_of (number_in c.z name) (end_of c p).events ≡ opening_of (number_in c.z name) (end_of c q).events
  pub cells_same : (name : Name) → is_of c A name ≡ true
      → cells_of (number_in c.z name) (end_of c p).events ≡ cells_of (number_in c.z name) (end_of c q).events
  -- "What may differ for A: departure slots, within demand 3's bound": of the k-th departure, by N-1 at most
  pub departs_near : (name : Name) (k : ℕ) → is_of c A name ≡ true
      → let v = number_in c.z name in
      k < length (departures_of v (end_of c p).events) → k < length (departures_of v (end_of c q).events)
      → (departure_at v k (end_of c p).events).slot ≤ (departure_at v k (end_of c q).events).slot + (c.N - 1)
  -- "the waiting half of refusal 8": after as many slots, where the connection's cells have left in both or in neither, A's next
  -- close is answered alike
  pub closes_alike : (name : Name) → is_of c A name ≡ true → served (end_of c p).events ≡ served (end_of c q).events
      → (AllLeft (number_in c.z name) (end_of c p).events ↔ AllLeft (number_in c.z name) (end_of c q).events)
      → closed_with (end_of c p) A name ≡ closed_with (end_of c q) A name

abbrev pub OperatorsHold : Type 0
OperatorsHold = (c : Card) (A : ℕ) (p q : FromFresh c)
    → asked c A (start_of c p) p.following ≡ asked c A (start_of c q) q.following → SameForA c A p q

-- a call that is not A's leaves the opening of each connection of A as it was
abbrev pub OthersTouchNothing : Type 0
OthersTouchNothing = (c : Card) (A : ℕ) (p : FromFresh c) (x : Call) → is_a c A (end_of c p) x ≡ false
    → (name : Name) → is_of c A name ≡ true
    → opening_of (number_in c.z name) (call (end_of c p) x).events ≡ opening_of (number_in c.z name) (end_of c p).events
