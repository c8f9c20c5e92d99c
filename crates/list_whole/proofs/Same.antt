-- The memory that was lent stays the one that was lent, over no call and over one call after another.
use Prim.Native.Nat.{ℕ}
use mathlib.Core.Path.{◌≡◌, refl, ◌∙◌}
use mathlib.Core.List.{List}
use lib.ListN.{length}
use Rattle.list_whole.specs.declared.Memory.{Memory}
use Rattle.list_whole.specs.Lent.{SliceMut, SameSlice, SameMemory}

same_lent : (s : SliceMut) → SameSlice s s
same_lent s = record { name = refl; long = refl }

same_slice : {a b c : SliceMut} → SameSlice a b → SameSlice b c → SameSlice a c
same_slice p q = record { name = q.name ∙ p.name; long = q.long ∙ p.long }

pub same_memory : (m : Memory) → SameMemory m m
same_memory m =
    record {
      cells = same_lent m.cells;
      links = same_lent m.links;
      calendar = same_lent m.calendar;
      words = same_lent m.words;
      bits = same_lent m.bits;
      arrived = same_lent m.arrived;
    }

-- the memory after a call to which its words alone were lent
pub same_words : (m : Memory) (ws : List ℕ) → length ws ≡ length m.words.now → SameMemory m (record m { words = record m.words { now = ws } })
same_words m ws e =
    record {
      cells = same_lent m.cells;
      links = same_lent m.links;
      calendar = same_lent m.calendar;
      words = record { name = refl; long = e };
      bits = same_lent m.bits;
      arrived = same_lent m.arrived;
    }

pub same_then : {a b c : Memory} → SameMemory a b → SameMemory b c → SameMemory a c
same_then p q =
    record {
      cells = same_slice p.cells q.cells;
      links = same_slice p.links q.links;
      calendar = same_slice p.calendar q.calendar;
      words = same_slice p.words q.words;
      bits = same_slice p.bits q.bits;
      arrived = same_slice p.arrived q.arrived;
    }
