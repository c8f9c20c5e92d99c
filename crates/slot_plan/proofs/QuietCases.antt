-- The cases in which no cell is accepted, from what was read and what was written to what the five steps leave.
use Prim.Native.Nat.{ℕ, ◌+◌, ◌*◌}
use mathlib.Core.Path.{◌≡◌, refl, sym, ◌∙◌, ap}
use mathlib.Core.Bool.{true, false, not}
use mathlib.Core.List.{List}
use Rattle.std.specs.Prelude.{Option, Some, None}
use lib.ListN.{get_or}
use Rattle.meaning.specs.declared.Record.{Record}
use Rattle.meaning.specs.declared.Served.{Served}
use Rattle.meaning.specs.Plain.{◌=?◌, Out, refused, next}
use Rattle.meaning.specs.Numbers.{empty, excess}
use Rattle.meaning.specs.Bits.{unmarked}
use Rattle.meaning.specs.Lists.{empty_list, entry_at, write_entry}
use Rattle.meaning.specs.Work.{Work, answer_of}
use Rattle.slot_arrive.specs.declared.Fall.{Fall}
use Rattle.slot_arrive.specs.declared.Judged.{Judged}
use Rattle.slot_arrive.specs.Arrival.{fallen}
use Rattle.mem_lists.specs.declared.Off.{Off}
use Rattle.mem_lists.specs.Spaces.{ends_of, linked, off_of}
use Rattle.slot_plan.specs.Plan.{rotated, quiet_work, left_by, may_be_freed, leaving, joined_links, joined_head, off_marked, leaving_marked, leaving_output}
use Rattle.slot_plan.proofs.Cases.{leaving_go, leaving_none, leaving_unfit, quiet_marked_off, quiet_output_off}
use Rattle.slot_plan.specs.Plan.{served_work}

-- ---- no cell accepted
module _ (k : Record) (b : Option Fall) (j : Judged) (cells links calendar words bits arrived : List ℕ) where
  abbrev pub quiet_work_lem : Work
  quiet_work_lem = quiet_work k j cells links calendar (rotated k b words) bits arrived

  pub quiet_entry : entry_at quiet_work_lem.state.calendar quiet_work_lem.state.ctl.turn ≡ ends_of (get_or calendar (2 * k.turn) 0) (get_or calendar (2 * k.turn + 1) 0)
  unfolding quiet_work entry_at
  quiet_entry = refl

  -- nothing departs
  pub quiet_served : (s : Served) (words' : List ℕ) → s.ctl ≡ k → s.answer ≡ answer_of 0 j.verdict j.vci 0 65535 0
      → words' ≡ fallen (j.verdict =? excess) j.vci j.s j.second k.t (rotated k b words)
      → served_work s cells links calendar words' bits arrived ≡ quiet_work_lem
  unfolding quiet_work
  quiet_served s words' p q e = rw (p, q, e)

  -- entry T is marked, from head to tail
  module _ (head tail : ℕ) (found : Option Off) (is : found ≡ off_of k.n k.v k.kind cells (joined_links k (ends_of head tail) links) words (joined_head k (ends_of head tail)) tail) where
    off_is : off_marked quiet_work_lem (ends_of head tail) ≡ found
    off_is = quiet_marked_off k b j cells links calendar words bits arrived (ends_of head tail) ∙ sym is

    abbrev now : Option Off → Out Work
    now x = leaving quiet_work_lem (linked (not (k.outhead =? empty)) k.outtail head links) (write_entry calendar k.turn empty_list) (unmarked bits k.turn) x

    marked_is : leaving_marked quiet_work_lem (ends_of head tail) ≡ now found
    unfolding leaving_marked joined_links quiet_work
    marked_is = ap now off_is

    pub marked_none : found ≡ None → leaving_marked quiet_work_lem (ends_of head tail) ≡ refused
    marked_none e = marked_is ∙ ap now e ∙ leaving_none quiet_work_lem _ _ _

    pub marked_unfit : (o : Off) → found ≡ Some o → may_be_freed k.n k.free bits o.space ≡ false → leaving_marked quiet_work_lem (ends_of head tail) ≡ refused
    unfolding quiet_work
    marked_unfit o e f = marked_is ∙ ap now e ∙ leaving_unfit quiet_work_lem _ _ _ o f

    pub marked_goes : (o : Off) → found ≡ Some o → may_be_freed k.n k.free bits o.space ≡ true
        → leaving_marked quiet_work_lem (ends_of head tail)
        ≡ next (left_by quiet_work_lem (linked (not (k.outhead =? empty)) k.outtail head links) (write_entry calendar k.turn empty_list) (unmarked bits k.turn) o)
    unfolding quiet_work
    marked_goes o e f = marked_is ∙ ap now e ∙ leaving_go quiet_work_lem _ _ _ o f

  -- it is not, and the Output List has a head
  module _ (found : Option Off) (is : found ≡ off_of k.n k.v k.kind cells links words k.outhead k.outtail) where
    output_is : leaving_output quiet_work_lem ≡ leaving quiet_work_lem links calendar bits found
    unfolding leaving_output quiet_work
    output_is = ap (leaving quiet_work_lem links calendar bits) (quiet_output_off k b j cells links calendar words bits arrived ∙ sym is)

    pub output_none : found ≡ None → leaving_output quiet_work_lem ≡ refused
    output_none e = output_is ∙ ap (leaving quiet_work_lem links calendar bits) e ∙ leaving_none quiet_work_lem _ _ _

    pub output_unfit : (o : Off) → found ≡ Some o → may_be_freed k.n k.free bits o.space ≡ false → leaving_output quiet_work_lem ≡ refused
    unfolding quiet_work
    output_unfit o e f = output_is ∙ ap (leaving quiet_work_lem links calendar bits) e ∙ leaving_unfit quiet_work_lem _ _ _ o f

    pub output_goes : (o : Off) → found ≡ Some o → may_be_freed k.n k.free bits o.space ≡ true
        → leaving_output quiet_work_lem ≡ next (left_by quiet_work_lem (linked false k.outtail 0 links) calendar bits o)
    unfolding quiet_work linked
    output_goes o e f = output_is ∙ ap (leaving quiet_work_lem links calendar bits) e ∙ leaving_go quiet_work_lem _ _ _ o f
