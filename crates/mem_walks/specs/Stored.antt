-- What the walks over the Output List and the time slot queues establish together: the lists are there,
-- and each number stands in them exactly as often as its budget says.
use Rattle.std.specs.Prelude.{ℕ, suc, ◌≡◌, List, [], ◌∷◌, ◌++◌, map, length, get_or}
use Rattle.meaning.specs.declared.Record.{Record}
use Rattle.meaning.specs.Lent.{Lent, LentMut}
use Rattle.meaning.specs.State.{Ends, ends_of}
use Rattle.mem_walks.specs.Walk.{name_in}
use Rattle.meaning.specs.Numbers.{empty}
use Rattle.meaning.specs.Lists.{entry_at}
use Rattle.meaning.specs.Audit.{Chain, count, joined}

-- 65,535 is no space
abbrev pub NoMark : List ℕ → Type 0
NoMark b = get_or b empty 0 ≡ 0

-- the queues of entries e, e + 1, ..
abbrev pub Queues : List ℕ → List ℕ → ℕ → List (List ℕ) → Type 0
Queues l calendar e [] = Unit {0}
Queues l calendar e (q ∷ qs) = Chain l (entry_at calendar e) q × Queues l calendar (suc e) qs

pub record Stored (l calendar : List ℕ) (nm : ℕ → ℕ) (N : ℕ) (output-ends : Ends) (b w : List ℕ) : Type 0 where
  pub output : List ℕ
  pub queues : List (List ℕ)
  pub output_is : Chain l output-ends output
  pub queues_many : length queues ≡ N
  pub queues_are : Queues l calendar 0 queues
  pub spaces : (x : ℕ) → count x (output ++ joined queues) ≡ get_or b x 0
  pub cells : (k : ℕ) → count k (map nm (output ++ joined queues)) ≡ get_or w k 0

-- the same of a record r and of what is lent, for contracts
abbrev pub StoredIn : Record → Lent → Lent → Lent → LentMut → LentMut → Type 0
StoredIn r cells links calendar spaces waits =
    Stored links.entry.now calendar.entry.now (name_in r.kind r.v cells) r.n
    (ends_of r.outhead r.outtail) spaces.entry.now waits.entry.now
