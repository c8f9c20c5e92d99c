-- The cases in which a cell is accepted, from what was read, the cell and its connection's words being written in thought, to
-- what the five steps leave.
use Prim.Native.Nat.{ℕ, ◌-◌, ◌≤◌, ◌<◌}
use lib.ListN.{length}
use mathlib.Core.Path.{◌≡◌, sym, ◌∙◌, ap}
use mathlib.Core.Logic.{◌≢◌}
use mathlib.Core.Bool.{Bool, true, false, not}
use mathlib.Core.List.{List}
use Rattle.std.specs.Prelude.{Option, Some, None}
use native.Mathlib.Omega.{arith}
use lib.ListN.{get_or}
use Rattle.meaning.specs.declared.Record.{Record}
use Rattle.meaning.specs.Plain.{◌=?◌, refused, next, ◌and_then◌}
use Rattle.meaning.specs.Numbers.{empty, connections_in, waiting_place}
use Rattle.meaning.specs.Bits.{is_free_space, spaces_fit, taken, marked, unmarked}
use Rattle.meaning.specs.State.{Ends, state_of, record_with, write_cell}
use Rattle.meaning.specs.Header.{header_at}
use Rattle.meaning.specs.Lists.{empty_list, ends_fit, entry_at, write_entry}
use Rattle.meaning.specs.Work.{Work}
use Rattle.meaning.specs.Slot.{step4, step5}
use Rattle.meaning.specs.Arrival.{sent_as}
use Rattle.meaning.proofs.BitsLaws.{taken_fits}
use Rattle.meaning.proofs.MarksLaws.{marked_free, marked_fits}
use Rattle.meaning.proofs.TaggedLaws.{sent_length, sent_connection, sent_named}
use Rattle.leaf_header.specs.Name.{numbered}
use Rattle.slot_arrive.specs.declared.Fall.{Fall}
use Rattle.slot_arrive.specs.declared.Judged.{Judged}
use Rattle.slot_arrive.specs.Arrival.{filled}
use Rattle.mem_lists.specs.declared.Seat.{Seat}
use Rattle.mem_lists.specs.declared.Off.{Off}
use Rattle.mem_lists.specs.Spaces.{ends_of, linked, off_of, Stored, Counted}
use Rattle.mem_lists.specs.Leaver.{off_after}
use Rattle.mem_lists.proofs.After.{stored, counted}
use Rattle.mem_lists.proofs.OffLaws.{off_after_is}
use Rattle.slot_plan.specs.Plan.{with_ends, rotated, accept_work, seat_ends, left_by, may_be_freed, leaving, joined_links, joined_head, off_marked, off_unmarked, leaving_marked, leaving_output}
use Rattle.slot_plan.specs.Facts.{Sized, Accepted, Seated, OffStored}
use Rattle.slot_plan.proofs.Cases.{leaving_go, leaving_none, leaving_unfit, rotated_kept, output_head, unfit_entry, output, none}
use Rattle.slot_plan.proofs.Cases as cases
use Rattle.slot_plan.proofs.Off.{off_shows, off_space}

module _ (k : Record) (b : Option Fall) (j : Judged) (a : Seat) (cell cells links calendar words bits arrived : List ℕ) where
  abbrev pub accept_work_lem : Work
  accept_work_lem = accept_work k j a cell cells links calendar (rotated k b words) bits arrived

  -- the cells, the links, the words and the bits once the cell is accepted
  abbrev cells₃ : List ℕ
  cells₃ = write_cell cells a.x (sent_as j.verdict cell)

  abbrev links₃ : List ℕ
  links₃ = linked (not (a.head =? empty)) a.x a.head links

  abbrev words₃ : List ℕ
  words₃ = filled j.vci j.s j.second k.t j.waiting (rotated k b words)

  abbrev bits₃ : List ℕ
  bits₃ = marked (taken bits a.x) a.e

  module _ (z : Sized (state_of k cells links calendar words bits arrived)) (acc : Accepted k j cell words) (seat : Seated k a bits) where
    -- tagged or not, the cell names what it named
    still_names : numbered k.kind k.v (header_at k.kind (sent_as j.verdict cell) 0) ≡ j.vci
    unfolding numbered
    still_names =
        let long : 4 < length cell = omega (arith, acc.cell_long) in
        rw (sent_named k.kind k.v j.verdict cell long, sent_connection k.kind k.v j.verdict cell long) acc.names

    is_stored : Stored k.v k.kind j.vci a.x cells cells₃
    is_stored =
        stored k.v k.kind j.vci a.x cells (sent_as j.verdict cell) (omega (arith, z.cells_long_lem, seat.x_low))
        (sent_length j.verdict cell ∙ acc.cell_long) still_names

    is_counted : Counted k.n j.vci words words₃
    unfolding filled
    is_counted =
        counted k.n j.vci j.s j.second k.t j.waiting words _ (rotated_kept k b j cells links calendar words bits arrived)
        (omega (arith, z.words_long, acc.vci_high)) acc.is_open acc.waiting_low acc.waiting_high

    -- the words fit again once the cell's space is taken
    again_fit : spaces_fit k.n (k.free - 1) (taken bits a.x) ≡ true
    again_fit = taken_fits bits a.x seat.is_free k.n k.free z.bits_long seat.spaces_fit_lem

    may_free : (y : ℕ) → may_be_freed accept_work_lem.state.ctl.n accept_work_lem.state.ctl.free accept_work_lem.state.bits y ≡ not (is_free_space (taken bits a.x) y)
    unfolding may_be_freed accept_work with_ends record_with
    may_free y = rw (marked_fits (taken bits a.x) a.e k.n (k.free - 1), again_fit, marked_free (taken bits a.x) a.e y)

    -- what departs, judged in memory as it came, is what departs once the cell is stored and counted
    then_is : (joins : Bool) (entry : Ends) (o : Option Off) → OffStored k j a cells links words joins entry o
        → o ≡ off_of k.n k.v k.kind cells₃ (linked joins k.outtail entry.head links₃) words₃ (joined_head k entry) entry.tail
    then_is joins entry o is =
        is
        ∙ off_after_is k.n k.v k.kind j.vci a.x cells (linked joins k.outtail entry.head links₃) words cells₃ words₃
        (joined_head k entry) entry.tail (λ e. omega (arith, acc.vci_low, e)) is_stored is_counted

    -- entry T is then marked, and is as it joins the Output List
    module _ (entry : Ends) (found : Option Off) (is : OffStored k j a cells links words (not (k.outhead =? empty)) entry found) where
      abbrev links₄ : List ℕ
      links₄ = linked (not (k.outhead =? empty)) k.outtail entry.head links₃

      abbrev calendar₄ : List ℕ
      calendar₄ = write_entry (write_entry calendar a.e (seat_ends a)) k.turn empty_list

      abbrev bits₄ : List ℕ
      bits₄ = unmarked bits₃ k.turn

      off_is : off_marked accept_work_lem entry ≡ found
      unfolding off_marked accept_work with_ends record_with joined_links joined_head
      off_is = sym (then_is (not (k.outhead =? empty)) entry found is)

      marked_is : leaving_marked accept_work_lem entry ≡ leaving accept_work_lem links₄ calendar₄ bits₄ found
      unfolding leaving_marked joined_links accept_work with_ends record_with
      marked_is = ap (leaving accept_work_lem links₄ calendar₄ bits₄) off_is

      pub accept_marked_none : found ≡ None → leaving_marked accept_work_lem entry ≡ refused
      accept_marked_none e = marked_is ∙ ap (leaving accept_work_lem links₄ calendar₄ bits₄) e ∙ leaving_none accept_work_lem links₄ calendar₄ bits₄

      pub accept_marked_held : (o : Off) → found ≡ Some o → is_free_space (taken bits a.x) o.space ≡ true → leaving_marked accept_work_lem entry ≡ refused
      accept_marked_held o e f =
          marked_is ∙ ap (leaving accept_work_lem links₄ calendar₄ bits₄) e ∙ leaving_unfit accept_work_lem links₄ calendar₄ bits₄ o (may_free o.space ∙ ap not f)

      pub accept_marked_goes : (o : Off) → found ≡ Some o → is_free_space (taken bits a.x) o.space ≡ false
          → leaving_marked accept_work_lem entry ≡ next (left_by accept_work_lem links₄ calendar₄ bits₄ o)
      accept_marked_goes o e f =
          marked_is ∙ ap (leaving accept_work_lem links₄ calendar₄ bits₄) e ∙ leaving_go accept_work_lem links₄ calendar₄ bits₄ o (may_free o.space ∙ ap not f)

    -- it is not, and the Output List has a head
    module _ (low : k.outhead < k.n) (found : Option Off) (is : OffStored k j a cells links words false (ends_of 0 k.outtail) found) where
      abbrev calendar₃ : List ℕ
      calendar₃ = write_entry calendar a.e (seat_ends a)

      unmarked_is : off_unmarked accept_work_lem ≡ found
      unfolding off_unmarked accept_work with_ends record_with linked
      unmarked_is =
          ap (λ (x : ℕ). off_of k.n k.v k.kind cells₃ links₃ words₃ x k.outtail) (sym (output_head k (ends_of 0 k.outtail) z.n_high low))
          ∙ sym (then_is false (ends_of 0 k.outtail) found is)

      output_is : leaving_output accept_work_lem ≡ leaving accept_work_lem links₃ calendar₃ bits₃ found
      unfolding leaving_output accept_work with_ends record_with
      output_is = ap (leaving accept_work_lem links₃ calendar₃ bits₃) unmarked_is

      pub accept_output_none : found ≡ None → leaving_output accept_work_lem ≡ refused
      accept_output_none e = output_is ∙ ap (leaving accept_work_lem links₃ calendar₃ bits₃) e ∙ leaving_none accept_work_lem links₃ calendar₃ bits₃

      pub accept_output_held : (o : Off) → found ≡ Some o → is_free_space (taken bits a.x) o.space ≡ true → leaving_output accept_work_lem ≡ refused
      accept_output_held o e f =
          output_is ∙ ap (leaving accept_work_lem links₃ calendar₃ bits₃) e ∙ leaving_unfit accept_work_lem links₃ calendar₃ bits₃ o (may_free o.space ∙ ap not f)

      pub accept_output_goes : (o : Off) → found ≡ Some o → is_free_space (taken bits a.x) o.space ≡ false
          → leaving_output accept_work_lem ≡ next (left_by accept_work_lem (linked false k.outtail 0 links₃) calendar₃ bits₃ o)
      unfolding linked
      accept_output_goes o e f =
          output_is ∙ ap (leaving accept_work_lem links₃ calendar₃ bits₃) e ∙ leaving_go accept_work_lem links₃ calendar₃ bits₃ o (may_free o.space ∙ ap not f)

    -- what departs is of a connection below V + 256 that has a cell waiting
    pub accept_shows : (joins : Bool) (entry : Ends) (o : Off) → OffStored k j a cells links words joins entry (Some o)
        → (o.vci < connections_in k.v) × (1 ≤ get_or words₃ (waiting_place o.vci) 0)
    accept_shows joins entry o is =
        off_shows k.n k.v k.kind cells₃ (linked joins k.outtail entry.head links₃) words₃ (joined_head k entry) entry.tail o (sym (then_is joins entry (Some o) is))

    -- its space is the head of the Output List
    pub accept_space : (joins : Bool) (entry : Ends) (o : Off) → OffStored k j a cells links words joins entry (Some o)
        → o.space ≡ joined_head k entry
    accept_space joins entry o is =
        off_space k.n k.v k.kind cells₃ (linked joins k.outtail entry.head links₃) words₃ (joined_head k entry) entry.tail o (sym (then_is joins entry (Some o) is))

  -- entry T once the cell has joined its own
  pub joined_is : (head tail : ℕ) → head ≡ (entry_at (write_entry calendar a.e (seat_ends a)) k.turn).head
      → tail ≡ (entry_at (write_entry calendar a.e (seat_ends a)) k.turn).tail
      → entry_at accept_work_lem.state.calendar accept_work_lem.state.ctl.turn ≡ ends_of head tail
  unfolding accept_work with_ends record_with
  joined_is head tail p q = rw (p, q)

  module _ (head tail : ℕ) (first : head ≡ (entry_at (write_entry calendar a.e (seat_ends a)) k.turn).head)
      (last : tail ≡ (entry_at (write_entry calendar a.e (seat_ends a)) k.turn).tail) where
    pub seated_unfit : ends_fit k.n (ends_of head tail) ≡ false → (step4 accept_work_lem and_then step5) ≡ refused
    unfolding accept_work with_ends record_with
    seated_unfit e = unfit_entry accept_work_lem (ends_of head tail) (joined_is head tail first last) e

    module _ (entry_fits : ends_fit k.n (ends_of head tail) ≡ true) (output_fits : ends_fit k.n (ends_of k.outhead k.outtail) ≡ true) where
      pub seated_marked : head ≢ empty → (step4 accept_work_lem and_then step5) ≡ leaving_marked accept_work_lem (ends_of head tail)
      unfolding accept_work with_ends record_with
      seated_marked ne = cases.marked accept_work_lem (ends_of head tail) (joined_is head tail first last) entry_fits output_fits ne

      pub seated_output : head ≡ empty → k.outhead ≢ empty → (step4 accept_work_lem and_then step5) ≡ leaving_output accept_work_lem
      unfolding accept_work with_ends record_with
      seated_output e ne = output accept_work_lem (ends_of head tail) (joined_is head tail first last) entry_fits output_fits e ne

      pub seated_none : head ≡ empty → k.outhead ≡ empty → (step4 accept_work_lem and_then step5) ≡ next accept_work_lem
      unfolding accept_work with_ends record_with
      seated_none e o = none accept_work_lem (ends_of head tail) (joined_is head tail first last) entry_fits output_fits e o

-- what departs, its list's head having been worked out
pub off_first : (k : Record) (j : Judged) (a : Seat) (cells links words : List ℕ) (joins : Bool) (entry : Ends) (x : ℕ) (o : Option Off)
    → x ≡ joined_head k entry
    → o
    ≡ off_after k.n k.v k.kind cells (linked joins k.outtail entry.head (linked (not (a.head =? empty)) a.x a.head links)) words j.vci a.x x entry.tail
    → OffStored k j a cells links words joins entry o
off_first k j a cells links words joins entry x o e f = rw (← e) f
