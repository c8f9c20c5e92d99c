-- The audit's walk over the lists of spaces, as it runs: each space that is met is taken off the spaces' budget, and the
-- connection that its cell names off the cells' budget. The promise itself names no walk.
--
--   name_of kind z cells x == the number of the connection that the header of space x names; 65,535, which is none's, where it
--                            names none
--   header_of_space, named_by == the header of space x, and that number, of what is walked along, for contracts
--   name_in                 == that number, of cells that are lent, for contracts
--   walk l nm t x b w     == from space x along the links to the tail t, with budgets b and w
--   list_of l nm e b w     == the list that begins and ends at e
--   entries_of k e         == k calendar entries from e on
--   lists_of N output      == the Output List, then all N entries; it stops where a list fails
--   lists_in r ..          == the same of a record r and of what is lent, for contracts; walked_after a .. == what a walk leaves
use Rattle.std.specs.Prelude.{ℕ, zero, suc, Bool, true, false, List, get_or}
use Rattle.meaning.specs.Plain.{when◌then◌else◌, ◌<?◌, ◌=?◌}
use Rattle.meaning.specs.Numbers.{empty, cell_start}
use Rattle.meaning.specs.State.{Ends}
pub use Rattle.meaning.specs.State.{ends_of}
use Rattle.meaning.specs.declared.Record.{Record}
use Rattle.mem_walks.specs.declared.Walks.{Walks}
use Rattle.meaning.specs.Lent.{Lent, LentMut}
use Rattle.meaning.specs.Header.{Header, header_at, connection, names_connection}
use Rattle.meaning.specs.Lists.{is_empty, entry_at}
use Rattle.mem_walks.specs.Budget.{spent, sum}

-- of a header alone; whether the connection is open is said by its budget
unfoldable pub name_of : ℕ → ℕ → List ℕ → ℕ → ℕ
name_of kind z cells x =
    let h = header_at kind cells (cell_start x) in
    when names_connection z h then connection z h else empty

abbrev pub header_of_space : Walks → ℕ → Header
header_of_space w x = header_at w.kind w.cells.now (cell_start x)

abbrev pub named_by : Walks → ℕ → ℕ
named_by w = name_of w.kind w.v w.cells.now

abbrev pub name_in : ℕ → ℕ → Lent → ℕ → ℕ
name_in kind z cells = name_of kind z cells.entry.now

-- what a walk answers, and what it leaves of the two budgets
pub record Walked : Type 0 where
  pub ok : Bool
  pub spaces : List ℕ
  pub waits : List ℕ

abbrev pub walked : Bool → List ℕ → List ℕ → Walked
walked ok spaces waits = record { ok = ok; spaces = spaces; waits = waits }

-- of at most f spaces
unfoldable pub walk_of : List ℕ → (ℕ → ℕ) → ℕ → ℕ → ℕ → List ℕ → List ℕ → Walked
walk_of l nm t zero x b w = walked false b w
walk_of l nm t (suc f) x b w =
    when 0 <? get_or b x 0
    then (when 0 <? get_or w (nm x) 0
    then (when x =? t
    then walked true (spent b x) (spent w (nm x))
    else walk_of l nm t f (get_or l x 0) (spent b x) (spent w (nm x)))
    else walked false (spent b x) (spent w (nm x)))
    else walked false (spent b x) w

-- each space costs one, so the sum is enough for any walk
unfoldable pub walk : List ℕ → (ℕ → ℕ) → ℕ → ℕ → List ℕ → List ℕ → Walked
walk l nm t x b w = walk_of l nm t (suc (sum b)) x b w

unfoldable pub list_of : List ℕ → (ℕ → ℕ) → Ends → List ℕ → List ℕ → Walked
list_of l nm e b w =
    when is_empty e then walked (e.tail =? empty) b w else walk l nm e.tail e.head b w

unfoldable pub entries_of : List ℕ → List ℕ → (ℕ → ℕ) → ℕ → ℕ → List ℕ → List ℕ → Walked
entries_of l calendar nm zero e b w = walked true b w
entries_of l calendar nm (suc k) e b w =
    let r = list_of l nm (entry_at calendar e) b w in
    when r.ok then entries_of l calendar nm k (suc e) r.spaces r.waits else r

unfoldable pub lists_of : List ℕ → List ℕ → (ℕ → ℕ) → ℕ → Ends → List ℕ → List ℕ → Walked
lists_of l calendar nm N output b w =
    let r = list_of l nm output b w in
    when r.ok then entries_of l calendar nm N 0 r.spaces r.waits else r

abbrev pub lists_in : Record → Lent → Lent → Lent → LentMut → LentMut → Walked
lists_in r cells links calendar spaces waits =
    lists_of links.entry.now calendar.entry.now (name_in r.kind r.v cells) r.n
    (ends_of r.outhead r.outtail) spaces.entry.now waits.entry.now

abbrev pub walked_after : Bool → LentMut → LentMut → Walked
walked_after a spaces waits = walked a spaces.exit.now waits.exit.now
