-- Document 01, the audit: "The audit answers yes exactly when lengths and ranges hold throughout, each space is in
-- exactly one of the Free List, the Output List and the time slot queues, each chain ends at its tail, entry T is
-- empty, each queued header names an open VC, and each open VC's waiting is the number of its queued cells."
--
--   Leads l t x xs      == the links l lead from space x through xs; the tail t stands at the end, and nowhere before
--   Chain l e xs        == xs are the spaces from head to tail of the list that begins and ends at e
--   count k xs          == how often k stands in xs
--   joined queues       == the spaces of all the time slot queues, entry after entry
--   connection_in kind z cells x  == the number of the connection that the header in space x names
--   AuditHolds s        == the audit's clauses, one a field
use Rattle.std.specs.Prelude.{ℕ, ◌+◌, ◌<◌, ◌≤◌, ◌≡◌, true, false, not, ◌&&◌, List, [], ◌∷◌, ◌++◌, map, length, get_or}
use Rattle.meaning.specs.Plain.{when◌then◌else◌, ◌<?◌, ◌=?◌}
use Rattle.meaning.specs.Numbers.{most_n, ranges_hold, connections_in, unused, empty, cell_start, splits_hold}
use Rattle.meaning.specs.State.{State, Ends, output_list, sizes_hold}
use Rattle.meaning.specs.Bits.{is_free_space, is_marked, spaces_fit}
use Rattle.meaning.specs.Header.{header_at, connection, names_open}
use Rattle.meaning.specs.Words.{connection_at, connection_fits}
use Rattle.meaning.specs.Lists.{is_empty, entry_at}

abbrev pub Leads : List ℕ → ℕ → ℕ → List ℕ → Type 0
Leads l t x [] = x ≡ t
Leads l t x (y ∷ ys) = (x ≡ t → ⊥) × (get_or l x 0 ≡ y) × Leads l t y ys

-- "A link is read only where a list's head and tail differ"; "65,535 marks an empty head or tail"
abbrev pub Chain : List ℕ → Ends → List ℕ → Type 0
Chain l e [] = (e.head ≡ empty) × (e.tail ≡ empty)
Chain l e (x ∷ xs) = (e.head ≡ x) × Leads l e.tail x xs

abbrev pub count : ℕ → List ℕ → ℕ
count k [] = 0
count k (x ∷ xs) = (when k =? x then 1 else 0) + count k xs

abbrev pub joined : List (List ℕ) → List ℕ
joined [] = []
joined (q ∷ qs) = q ++ joined qs

unfoldable pub connection_in : ℕ → ℕ → List ℕ → ℕ → ℕ
connection_in kind z cells x = connection z (header_at kind cells (cell_start x))

pub record AuditHolds (s : State) : Type 0 where
  -- "lengths and ranges hold throughout"; "VC 0's words don't matter", nor do path 0's
  pub ranges : ranges_hold s.ctl.n s.ctl.v ≡ true
  pub lengths : sizes_hold s ≡ true
  pub turn_low : s.ctl.turn < s.ctl.n
  pub rotation_low : s.ctl.rotation < connections_in s.ctl.v
  -- document 02 (i): raw and mode are each 0 or 1
  pub raw_low : s.ctl.raw ≤ 1
  pub mode_low : s.ctl.mode ≤ 1
  -- document 02 (vi): so is the line kind
  pub kind_low : s.ctl.kind ≤ 1
  -- document 02 (xi): the splits are in their ranges
  pub splits : splits_hold s.ctl.v s.ctl.splitvci s.ctl.splitpath ≡ true
  pub connections_fit : (c : ℕ) → c < connections_in s.ctl.v → unused s.ctl.v c ≡ false
      → connection_fits s.ctl.n (connection_at s.words c) ≡ true
  -- document 02 (vii), "The audit speaks of bits instead of the Free List": none at or above N, and the number is the ones
  pub spaces_fit_lem : spaces_fit s.ctl.n s.ctl.free s.bits ≡ true
  -- document 02 (ix): "one bit for each entry, compared by the audit"; those at N and above are 0
  pub marks_are : (e : ℕ) → e < most_n → is_marked s.bits e ≡ (e <? s.ctl.n && not (is_empty (entry_at s.calendar e)))
  -- the spaces of the Output List and of each time slot queue: "each chain ends at its tail"
  pub output : List ℕ
  pub queues : List (List ℕ)
  pub output_is : Chain s.links (output_list s) output
  pub queues_many : length queues ≡ s.ctl.n
  pub queues_are : (e : ℕ) → e < s.ctl.n → Chain s.links (entry_at s.calendar e) (get_or queues e [])
  -- "each space is in exactly one of the Free List, the Output List and the time slot queues", and nothing else is: a free space
  -- stands in none of them, and every other one in exactly one
  pub once : (x : ℕ) → x < s.ctl.n → count x (output ++ joined queues) ≡ (when is_free_space s.bits x then 0 else 1)
  pub no_other : (x : ℕ) → s.ctl.n ≤ x → count x (output ++ joined queues) ≡ 0
  -- "entry T is empty"
  pub turn_empty : get_or queues s.ctl.turn [] ≡ []
  -- "each queued header names an open VC", or an open path
  pub named : (x : ℕ) → 0 < count x (output ++ joined queues)
      → names_open s.ctl.v s.words (header_at s.ctl.kind s.cells (cell_start x)) ≡ true
  -- "each open VC's waiting is the number of its queued cells", and each open path's
  pub waits : (c : ℕ) → c < connections_in s.ctl.v → unused s.ctl.v c ≡ false
      → (connection_at s.words c).opened ≡ 1
      → (connection_at s.words c).waiting
      ≡ count c (map (connection_in s.ctl.kind s.ctl.v s.cells) (output ++ joined queues))
