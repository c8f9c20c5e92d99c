-- A run and the memories lent to it as one world, as contracts see them: as lent, before a call, and after it. One more lent
-- memory changes these abbreviations and the parameter lists, and no other line of a contract.
use Rattle.std.specs.Prelude.{ℕ, ◌≡◌, Bool, List, length}
use Rattle.std.specs.Borrow.{Bor, MutBor}
use denote.Triple.Both.{Both}
use Rattle.list_whole.specs.declared.Run.{Run}
use Rattle.list_whole.specs.declared.Filled.{Filled}
use Rattle.list_whole.specs.declared.Memory.{Memory}
use Rattle.list_whole.specs.Run.{World, Step, world_of}
use Rattle.list_whole.specs.Fill.{Did, Ran, Advanced, FillOf, FillPromise}

abbrev pub Slice : Type 0
Slice = Bor (List ℕ)

abbrev pub Lent : Type 0
Lent = Both Slice Slice

-- the same of a memory that the call may write
abbrev pub SliceMut : Type 0
SliceMut = MutBor (List ℕ)

abbrev pub LentMut : Type 0
LentMut = Both SliceMut SliceMut

-- the memory, which a call may write
abbrev pub MemoryMut : Type 0
MemoryMut = Both (MutBor Memory) (MutBor Memory)

abbrev pub world_here : Run → (cells links calendar words bits arrived : SliceMut) → World
world_here run cells links calendar words bits arrived = world_of run cells.now links.now calendar.now words.now bits.now arrived.now

abbrev pub world_in : Run → Memory → World
world_in run m = world_here run m.cells m.links m.calendar m.words m.bits m.arrived

-- a slice in a struct is the one that was lent, as long as it was, whatever it holds now
pub record SameSlice (before after : SliceMut) : Type 0 where
  pub name : after.ghost_name ≡ before.ghost_name
  pub long : length after.now ≡ length before.now

pub record SameMemory (before after : Memory) : Type 0 where
  pub cells : SameSlice before.cells after.cells
  pub links : SameSlice before.links after.links
  pub calendar : SameSlice before.calendar after.calendar
  pub words : SameSlice before.words after.words
  pub bits : SameSlice before.bits after.bits
  pub arrived : SameSlice before.arrived after.arrived

abbrev pub world_before : Run → (cells links calendar words bits arrived : LentMut) → World
world_before run cells links calendar words bits arrived =
    world_of run cells.entry.now links.entry.now calendar.entry.now words.entry.now bits.entry.now arrived.entry.now

abbrev pub world_after : Run → (cells links calendar words bits arrived : LentMut) → World
world_after run cells links calendar words bits arrived =
    world_of run cells.exit.now links.exit.now calendar.exit.now words.exit.now bits.exit.now arrived.exit.now

-- What a call that answers r promises of a step: with all memories lent, as one struct or part by part; with the words alone,
-- whatever the others hold; with none.
abbrev pub DidLent : Step → (most : ℕ) → (memory : MemoryMut) → (out : LentMut) → (used : ℕ) → Filled → Type 0
DidLent s most memory out used r =
    Did s most out.entry.now used (world_in r.run memory.exit.now) out.exit.now r.used

abbrev pub DidParts : Step → (most : ℕ) → (cells links calendar words bits arrived out : LentMut) → (used : ℕ) → Filled → Type 0
DidParts s most cells links calendar words bits arrived out used r =
    Did s most out.entry.now used (world_after r.run cells links calendar words bits arrived) out.exit.now r.used

abbrev pub DidWords : (World → Step) → (most : ℕ) → Run → (words out : LentMut) → (used : ℕ) → Filled → Type 0
DidWords s most run words out used r =
    (cells links calendar bits arrived : List ℕ) → Did (s (world_of run cells links calendar words.entry.now bits arrived)) most out.entry.now used
    (world_of r.run cells links calendar words.exit.now bits arrived) out.exit.now r.used

abbrev pub DidAlone : (World → Step) → (most : ℕ) → Run → (out : LentMut) → (used : ℕ) → Filled → Type 0
DidAlone s most run out used r =
    (cells links calendar words bits arrived : List ℕ) → Did (s (world_of run cells links calendar words bits arrived)) most out.entry.now used
    (world_of r.run cells links calendar words bits arrived) out.exit.now r.used

-- the same of k steps, of some steps, and of as many as there is room for
abbrev pub RanLent : Bool → (trace : List ℕ) → ℕ → Run → (memory : MemoryMut) → (out : LentMut) → (used : ℕ) → Filled → Type 0
RanLent more trace k run memory out used r =
    Ran more trace k (world_in run memory.entry.now) out.entry.now used (world_in r.run memory.exit.now) out.exit.now r.used

abbrev pub AdvancedLent : Bool → (trace : List ℕ) → Run → (memory : MemoryMut) → (out : LentMut) → (used : ℕ) → Filled → Type 0
AdvancedLent more trace run memory out used r =
    Advanced more trace (world_in run memory.entry.now) out.entry.now used (world_in r.run memory.exit.now) out.exit.now r.used

abbrev pub FillLent : Bool → (trace : List ℕ) → Run → (memory : MemoryMut) → (out : LentMut) → Filled → Type 0
FillLent more trace run memory out r =
    FillOf more trace (world_in run memory.entry.now) out.entry.now (world_in r.run memory.exit.now) out.exit.now r.used

abbrev pub FilledLent : (input : Lent) → Run → (memory : MemoryMut) → (out : LentMut) → Filled → Type 0
FilledLent input run memory out r =
    FillPromise input.entry.now (world_in run memory.entry.now) out.entry.now (world_in r.run memory.exit.now) out.exit.now r.used

-- the same with the memories part by part
abbrev pub FilledParts : (input : Lent) → Run → (cells links calendar words bits arrived out : LentMut) → Filled → Type 0
FilledParts input run cells links calendar words bits arrived out r =
    FillPromise input.entry.now (world_before run cells links calendar words bits arrived) out.entry.now
    (world_after r.run cells links calendar words bits arrived) out.exit.now r.used
