-- Document 01: lists of spaces by head and tail. A link is the number of the space that follows.
use Rattle.std.specs.Prelude.{ℕ, Bool, ◌&&◌, ◌||◌, List, get_or, set}
use Rattle.meaning.specs.Plain.{when◌then◌else◌, ◌<?◌, ◌=?◌, Out, next, needs}
use Rattle.meaning.specs.Numbers.{empty, head_place, tail_place}
use Rattle.meaning.specs.State.{Ends}

-- "65,535 marks an empty head or tail"
abbrev pub empty_list : Ends
empty_list = record { head = empty; tail = empty }

abbrev pub is_empty : Ends → Bool
is_empty e = e.head =? empty

-- "a head and tail are both below N or both 65,535"
unfoldable pub ends_fit : ℕ → Ends → Bool
ends_fit N e = (e.head <? N && e.tail <? N) || (e.head =? empty && e.tail =? empty)

-- calendar entry e
unfoldable pub entry_at : List ℕ → ℕ → Ends
entry_at calendar e = record { head = get_or calendar (head_place e) 0; tail = get_or calendar (tail_place e) 0 }

unfoldable pub write_entry : List ℕ → ℕ → Ends → List ℕ
write_entry calendar e ends = set (set calendar (head_place e) ends.head) (tail_place e) ends.tail

-- a space taken off a list, and the list that is left
pub record Taken : Type 0 where
  pub space : ℕ
  pub left : Ends

-- The head of a list that is not empty is taken. "A link is read only where a list's head and tail differ";
-- "a link that is read is below N".
unfoldable pub take_head : ℕ → List ℕ → Ends → Out Taken
take_head N links e =
    let follower = get_or links e.head 0 in
    when e.head =? e.tail then next (record { space = e.head; left = empty_list })
    else needs (follower <? N) (next (record { space = e.head; left = record { head = follower; tail = e.tail } }))

-- a list that has grown, and the links that go with it
pub record Grown : Type 0 where
  pub ends : Ends
  pub links : List ℕ

-- "at the head: its link names the old head, or, if the entry was empty, it is head and tail"
unfoldable pub join_head : List ℕ → Ends → ℕ → Grown
join_head links e x =
    when is_empty e then record { ends = record { head = x; tail = x }; links = links }
    else record { ends = record { head = x; tail = e.tail }; links = set links x e.head }

-- "joined to the end of the Output List: head follows the old tail, tail becomes the new tail"
unfoldable pub join_tail : List ℕ → Ends → Ends → Grown
join_tail links e more =
    when is_empty e then record { ends = more; links = links }
    else record { ends = record { head = e.head; tail = more.tail }; links = set links e.tail more.head }
