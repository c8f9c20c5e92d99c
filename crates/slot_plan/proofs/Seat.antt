-- The rest of step 3 for an accepted cell: a space is taken, the cell written there, and it joins entry (T+D) modulo N.
use Prim.Native.Nat.{ℕ, ◌+◌, ◌-◌, ◌%◌, ◌<◌}
use mathlib.Core.Path.{◌≡◌, refl, ◌∙◌}
use mathlib.Core.Logic.{◌≢◌}
use mathlib.Core.Bool.{Bool, true, false, not}
use mathlib.Core.List.{List}
use Rattle.std.specs.Prelude.{Option, Some, None}
use native.Mathlib.Omega.{arith}
use native.Mathlib.Nat.{mod-eq_of_lt, mod-eq-sub-mod}
use native.Mathlib.Decide.{dec_lt}
use borrow.Author.Tests.{lt-ltb, le-ltb, ne_eqb}
use lib.ListN.{set}
use Rattle.meaning.specs.declared.Record.{Record}
use Rattle.meaning.specs.Plain.{when◌then◌else◌, ◌<?◌, ◌=?◌, Out, refused, next}
use Rattle.meaning.specs.Numbers.{empty}
use Rattle.meaning.specs.Bits.{is_free_space, spaces_fit}
use Rattle.meaning.specs.State.{Ends, record_with, with_record, with_cells, with_links, with_calendar, with_bits, with_arrived, with_free}
use Rattle.meaning.specs.Lists.{ends_fit, entry_at, Grown, join_head}
use Rattle.meaning.specs.Work.{Work}
use Rattle.meaning.specs.Arrival.{sent_as, place}
use Rattle.slot_arrive.specs.declared.Judged.{Judged}
use Rattle.mem_lists.specs.declared.Seat.{Seat}
use Rattle.mem_lists.specs.Spaces.{ends_of, linked, seat_as, seat_at, entry_of, seat_of}
use Rattle.slot_plan.specs.Plan.{with_ends, seat_ends, seeking_work, seating, accept_work}

-- (T + D) modulo N without a division
pub entry_is : (N T D : ℕ) → T < N → D < N → (T + D) % N ≡ entry_of N T D
unfolding entry_of
entry_is N T D t d = go (dec_lt (T + D) N)
  where
    go : Dec (T + D < N) → (T + D) % N ≡ (when T + D <? N then T + D else T + D - N)
    go (yes h) = rw (lt-ltb (T + D) N h) (mod-eq_of_lt h)
    go (no h) =
        rw (le-ltb (T + D) N (omega arith))
        (mod-eq-sub-mod {n = T + D} {m = N} (omega arith) ∙ mod-eq_of_lt {n = T + D - N} {m = N} (omega arith))

abbrev grown : Ends → List ℕ → Grown
grown ends links = record { ends = ends; links = links }

-- a space at the head of an entry, as numbers
join_head_is : (links : List ℕ) (entry : Ends) (x : ℕ)
    → join_head links entry x
    ≡ grown (ends_of x (when entry.head =? empty then x else entry.tail)) (linked (not (entry.head =? empty)) x entry.head links)
unfolding join_head linked
join_head_is links entry x = go (entry.head =? empty)
  where
    go : (b : Bool)
        → (when b then grown (ends_of x x) links else grown (ends_of x entry.tail) (set links x entry.head))
        ≡ grown (ends_of x (when b then x else entry.tail)) (when not b then set links x entry.head else links)
    go true = refl
    go false = refl

module _ (k : Record) (j : Judged) (x : ℕ) (cell cells links calendar words bits arrived : List ℕ) where
  abbrev N : ℕ
  N = k.n

  module _ (turn : k.turn < N) (near : j.d < N) where
    e : ℕ
    e = entry_of N k.turn j.d

    entry : Ends
    entry = entry_at calendar e

    -- the cell takes space x
    place_is : place (sent_as j.verdict cell) j.d x (seeking_work k j cells links calendar words bits arrived)
        ≡ (when ends_fit N entry then next (accept_work k j (seat_as x e entry) cell cells links calendar words bits arrived) else refused)
    unfolding place seeking_work accept_work seat_ends with_ends with_free with_bits with_arrived with_cells with_links with_calendar with_record record_with e entry
    place_is =
        rw (entry_is N k.turn j.d turn near, join_head_is links (entry_at calendar (entry_of N k.turn j.d)) x)

    abbrev pub seated : Option Seat → Out Work
    seated None = refused
    seated (Some a) = next (accept_work k j a cell cells links calendar words bits arrived)

    inside : (t : Bool)
        → (when t then next (accept_work k j (seat_as x e entry) cell cells links calendar words bits arrived) else refused)
        ≡ seated (when t then Some (seat_as x e entry) else None)
    inside true = refl
    inside false = refl

    pub seat_is : spaces_fit N k.free bits ≡ true → k.free ≢ 0 → is_free_space bits x ≡ true
        → seating k j x cell cells links calendar words bits arrived ≡ seated (seat_of N calendar k.turn j.d x)
    unfolding seating seat_of seat_at e entry
    seat_is fits some free = rw (fits, ne_eqb k.free 0 some, free) (place_is ∙ inside (ends_fit N entry))
