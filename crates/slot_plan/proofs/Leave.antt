-- Steps 4 and 5 of any work, by cases: entry T marked or not, the Output List empty or not.
use Prim.Native.Nat.{ℕ, ◌+◌, ◌-◌}
use mathlib.Core.Path.{◌≡◌, refl, ◌∙◌, ap}
use mathlib.Core.Bool.{Bool, true, false, not, ◌&&◌}
use mathlib.Core.List.{List}
use Rattle.std.specs.Prelude.{Option, Some, None}
use lib.ListN.{get_or, set}
use Rattle.meaning.specs.Plain.{when◌then◌else◌, ◌<?◌, ◌≤?◌, ◌=?◌, refused, next, needs, ◌and_then◌}
use Rattle.meaning.specs.Numbers.{empty, cell_start, waiting_place, kind_in_range}
use Rattle.meaning.specs.State.{State, state_of, Ends, output_list, record_with, with_record, with_links, with_calendar, with_words, with_bits, with_free, with_output_list}
use Rattle.meaning.specs.Bits.{is_free_space, spaces_fit, given, unmarked}
use Rattle.meaning.specs.Header.{Header, header_at, connection, names_open}
use Rattle.meaning.specs.Words.{Connection, connection_at, write_connection, with_waiting}
use Rattle.meaning.specs.Lists.{empty_list, is_empty, ends_fit, entry_at, write_entry, take_head, Grown, join_tail}
use Rattle.meaning.specs.Work.{Work, work_of, answer_of}
use Rattle.meaning.specs.Slot.{step4, depart, step5}
use Rattle.meaning.proofs.WordsLaws.{write_waiting}
use Rattle.meaning.proofs.MarksLaws.{unmarked_free, unmarked_fits}
use Rattle.slot_arrive.specs.Arrival.{one_less}
use Rattle.mem_lists.specs.declared.Off.{Off}
use Rattle.mem_lists.specs.Spaces.{ends_of, linked, off_as, may_leave, off_of}
use Rattle.slot_plan.specs.Plan.{with_ends, left_by, may_be_freed, leaving, joined_links, joined_head, off_marked, off_unmarked, leaving_marked, leaving_output}

abbrev grown : Ends → List ℕ → Grown
grown ends links = record { ends = ends; links = links }

-- waiting, one less, as the departure writes it
less_is : (words : List ℕ) (v : ℕ) → write_connection words v (with_waiting (connection_at words v) ((connection_at words v).waiting - 1)) ≡ one_less v words
unfolding one_less connection_at
less_is words v = write_waiting words v (get_or words (waiting_place v) 0 - 1)

-- step 5, once the head x is taken and left is what remains of the Output List
depart_is : (w : Work) (x : ℕ) (left : Ends)
    → depart w (record { space = x; left = left })
    ≡ (when may_leave w.state.ctl.n w.state.ctl.v w.state.ctl.kind w.state.cells w.state.words x
    then leaving w w.state.links w.state.calendar w.state.bits (Some (off_as x (connection w.state.ctl.v (header_at w.state.ctl.kind w.state.cells (cell_start x))) left))
    else refused)
unfolding depart may_leave may_be_freed leaving left_by with_ends with_output_list with_free with_bits with_words with_record record_with
depart_is w x left =
    go (kind_in_range s.ctl.kind && names_open s.ctl.v s.words h) (1 ≤? vc.waiting) (vc.waiting ≤? s.ctl.n) (spaces_fit s.ctl.n s.ctl.free s.bits && not (is_free_space s.bits x))
  where
    s : State
    s = w.state

    h : Header
    h = header_at s.ctl.kind s.cells (cell_start x)

    at : ℕ
    at = connection s.ctl.v h

    vc : Connection
    vc = connection_at s.words at

    -- the work after the departure, from the words as they then are
    made : List ℕ → Work
    made words =
        work_of
        (state_of (record_with s.ctl s.ctl.t s.ctl.turn s.ctl.rotation (s.ctl.free + 1) left) s.cells s.links s.calendar words (given s.bits x) s.arrived)
        (answer_of w.answer.number w.answer.verdict w.answer.vci w.answer.d x at)

    same : made (write_connection s.words at (with_waiting vc (vc.waiting - 1))) ≡ left_by w s.links s.calendar s.bits (off_as x at left)
    same = ap made (less_is s.words at)

    go : (a p q e : Bool)
        → needs a (needs (p && q) (needs e (next (made (write_connection s.words at (with_waiting vc (vc.waiting - 1)))))))
        ≡ (when a && p && q then (when e then next (left_by w s.links s.calendar s.bits (off_as x at left)) else refused) else refused)
    go true true true true = ap next same
    go true true true false = refl
    go true true false e = refl
    go true false q e = refl
    go false p q e = refl

-- what departs from any list, as numbers: the head is taken, then it departs
take_off : (w : Work) (e : Ends)
    → (take_head w.state.ctl.n w.state.links e and_then depart w)
    ≡ leaving w w.state.links w.state.calendar w.state.bits (off_of w.state.ctl.n w.state.ctl.v w.state.ctl.kind w.state.cells w.state.links w.state.words e.head e.tail)
unfolding take_head off_of leaving
take_off w e = go (e.head =? e.tail) (follower <? s.ctl.n)
  where
    s : State
    s = w.state

    vci : ℕ
    vci = connection s.ctl.v (header_at s.ctl.kind s.cells (cell_start e.head))

    follower : ℕ
    follower = get_or s.links e.head 0

    may : Bool
    may = may_leave s.ctl.n s.ctl.v s.ctl.kind s.cells s.words e.head

    inside : (m : Bool) (o : Option Off) → (when m then leaving w s.links s.calendar s.bits o else refused) ≡ leaving w s.links s.calendar s.bits (when m then o else None)
    inside true o = refl
    inside false o = refl

    none : (m : Bool) → refused ≡ leaving w s.links s.calendar s.bits (when m then None else None)
    none true = refl
    none false = refl

    go : (a f : Bool)
        → ((when a then next (record { space = e.head; left = empty_list }) else needs f (next (record { space = e.head; left = record { head = follower; tail = e.tail } }))) and_then depart w)
        ≡ leaving w s.links s.calendar s.bits (when may then (when a then Some (off_as e.head vci (ends_of empty empty)) else when f then Some (off_as e.head vci (ends_of follower e.tail)) else None) else None)
    go true f = depart_is w e.head empty_list ∙ inside may (Some (off_as e.head vci empty_list))
    go false true = depart_is w e.head (ends_of follower e.tail) ∙ inside may (Some (off_as e.head vci (ends_of follower e.tail)))
    go false false = none may

-- entry T joined to the Output List, as numbers
join_tail_is : (links : List ℕ) (output entry : Ends)
    → join_tail links output entry
    ≡ grown (ends_of (when output.head =? empty then entry.head else output.head) entry.tail) (linked (not (output.head =? empty)) output.tail entry.head links)
unfolding join_tail linked
join_tail_is links output entry = go (output.head =? empty)
  where
    go : (b : Bool)
        → (when b then grown entry links else grown (ends_of output.head entry.tail) (set links output.tail entry.head))
        ≡ grown (ends_of (when b then entry.head else output.head) entry.tail) (when not b then set links output.tail entry.head else links)
    go true = refl
    go false = refl

module _ (w : Work) where
  abbrev s : State
  s = w.state

  abbrev N : ℕ
  N = s.ctl.n

  abbrev entry_t : Ends
  entry_t = entry_at s.calendar s.ctl.turn

  -- heads or tails out of range
  pub leave_unfit : ends_fit N entry_t && ends_fit N (output_list s) ≡ false → (step4 w and_then step5) ≡ refused
  unfolding step4
  leave_unfit e = rw e

  -- the work after step 4, from the Output List and the links as they then are
  abbrev after4 : Grown → Work
  after4 g =
      work_of
      (state_of (record_with s.ctl s.ctl.t s.ctl.turn s.ctl.rotation s.ctl.free g.ends) s.cells g.links (write_entry s.calendar s.ctl.turn empty_list) s.words (unmarked s.bits s.ctl.turn) s.arrived)
      w.answer

  -- a mark says nothing of what may be freed
  after_is : (g : Grown) (o : Option Off)
      → leaving (after4 g) g.links (write_entry s.calendar s.ctl.turn empty_list) (unmarked s.bits s.ctl.turn) o
      ≡ leaving w g.links (write_entry s.calendar s.ctl.turn empty_list) (unmarked s.bits s.ctl.turn) o
  unfolding leaving left_by may_be_freed with_ends record_with
  after_is g None = refl
  after_is g (Some o) =
      rw (unmarked_fits s.bits s.ctl.turn s.ctl.n s.ctl.free, unmarked_free s.bits s.ctl.turn o.space)

  module _ (fits : ends_fit N entry_t && ends_fit N (output_list s) ≡ true) where
    step4_marked : is_empty entry_t ≡ false → step4 w ≡ next (after4 (join_tail s.links (output_list s) entry_t))
    unfolding step4 with_bits with_calendar with_links with_output_list with_record
    step4_marked m = rw (fits, m)

    step4_unmarked : is_empty entry_t ≡ true → step4 w ≡ next w
    unfolding step4
    step4_unmarked m = rw (fits, m)

    -- entry T is marked
    pub leave_marked : is_empty entry_t ≡ false
        → (step4 w and_then step5) ≡ leaving_marked w entry_t
    unfolding step5 leaving_marked off_marked joined_links joined_head with_ends record_with
    leave_marked m =
        rw (step4_marked m)
        (ap (λ (g : Grown). step5 (after4 g)) (join_tail_is s.links (output_list s) entry_t)
        ∙ some (s.ctl.outhead =? empty) refl)
      where
        goes : Grown → ℕ → Option Off
        goes g x = off_of N s.ctl.v s.ctl.kind s.cells g.links s.words x entry_t.tail

        some : (b : Bool) → s.ctl.outhead =? empty ≡ b
            → step5 (after4 (grown (ends_of (when s.ctl.outhead =? empty then entry_t.head else s.ctl.outhead) entry_t.tail) (linked (not (s.ctl.outhead =? empty)) s.ctl.outtail entry_t.head s.links)))
            ≡ leaving_marked w entry_t
        some true e =
            let g = grown (ends_of entry_t.head entry_t.tail) (linked false s.ctl.outtail entry_t.head s.links) in
            rw (e, m) (take_off (after4 g) (ends_of entry_t.head entry_t.tail) ∙ after_is g (goes g entry_t.head))
        some false e =
            let g = grown (ends_of s.ctl.outhead entry_t.tail) (linked true s.ctl.outtail entry_t.head s.links) in
            rw (e, e) (take_off (after4 g) (ends_of s.ctl.outhead entry_t.tail) ∙ after_is g (goes g s.ctl.outhead))

    -- it is not, and the Output List has a head
    pub leave_output : is_empty entry_t ≡ true → s.ctl.outhead =? empty ≡ false
        → (step4 w and_then step5) ≡ leaving_output w
    unfolding step5 leaving_output off_unmarked
    leave_output m e = rw (step4_unmarked m, e) (take_off w (output_list s))

    -- nothing departs
    pub leave_none : is_empty entry_t ≡ true → s.ctl.outhead =? empty ≡ true → (step4 w and_then step5) ≡ next w
    unfolding step5
    leave_none m e = rw (step4_unmarked m, e)
