-- A slot in which nothing arrives says so: no step but the third touches the verdict. So a dropped cell was none of the
-- accepted before it is told.
use Prim.Native.Nat.{ℕ, ◌+◌, ◌-◌, ◌≤◌}
use mathlib.Core.Path.{◌≡◌, refl, ap, ◌∙◌}
use mathlib.Core.Bool.{Bool, true, false, not, ◌&&◌}
use mathlib.Core.List.{[]}
use native.Mathlib.Omega.{arith}
use Rattle.meaning.specs.Plain.{when◌then◌else◌, ◌<?◌, ◌≤?◌, ◌=?◌, Out, refused, next, needs, ◌and_then◌}
use Rattle.meaning.specs.Numbers.{nothing, lets_in, cell_start, connections_in, unused, kind_in_range}
use Rattle.meaning.specs.State.{State, output_list, with_links, with_calendar, with_bits, with_free, with_output_list}
use Rattle.meaning.specs.Bits.{is_free_space, spaces_fit, given, unmarked}
use Rattle.meaning.specs.Header.{header_at, names_open, connection}
use Rattle.meaning.specs.Words.{Connection, connection_at, with_waiting, open_word_fits, up_to_date}
use Rattle.meaning.specs.Lists.{empty_list, is_empty, Taken, take_head, entry_at, write_entry, join_tail, ends_fit}
use Rattle.meaning.specs.Work.{Work, with_state, with_connection, with_departure}
use Rattle.meaning.specs.Slot.{step1, step2, step3, step4, depart, step5, five_steps, told}
use Rattle.list_counts.proofs.Balance.{Holds, holds_then, holds_if, holds_needs, one, Done}

abbrev pub Silent : Work → Type 0
Silent w = w.answer.verdict ≡ nothing

-- whatever is read, where no more is asked of it
any : {A : Type 0} (x : Out A) → Holds (λ (a : A). 0 ≤ 0) x
any refused = omega arith
any (next a) = omega arith

step1_silent : (w : Work) → Silent w → Holds Silent (step1 w)
unfolding step1
step1_silent w h =
    holds_needs Silent (w.state.ctl.turn <? w.state.ctl.n && w.state.ctl.rotation <? connections_in w.state.ctl.v) _ (λ _. h)

step2_silent : (w : Work) → Silent w → Holds Silent (step2 w)
unfolding step2
step2_silent w h =
    let s = w.state in
    let vci = s.ctl.rotation in
    let vc = connection_at s.words vci in
    holds_if (Holds Silent) (unused s.ctl.v vci) (next w) _ (λ _. h)
    (λ _. holds_needs Silent (open_word_fits vc) _
    (λ _. holds_if (Holds Silent) (vc.opened =? 0) (next w) _ (λ _. h)
    (λ _. holds_then (λ (now : Connection). 0 ≤ 0) Silent (up_to_date s.ctl.n s.ctl.t vc) _ (any (up_to_date s.ctl.n s.ctl.t vc)) (λ now _. h))))

step3_silent : (x : ℕ) (w : Work) → Silent w → Holds Silent (step3 x [] w)
unfolding step3
step3_silent x w h = h

step4_silent : (w : Work) → Silent w → Holds Silent (step4 w)
unfolding step4
step4_silent w h =
    let s = w.state in
    let entry = entry_at s.calendar s.ctl.turn in
    let grown = join_tail s.links (output_list s) entry in
    let s1 = with_links (with_output_list s grown.ends) grown.links in
    let s2 : State = with_bits (with_calendar s1 (write_entry s.calendar s.ctl.turn empty_list)) (unmarked s.bits s.ctl.turn) in
    holds_needs Silent (ends_fit s.ctl.n entry && ends_fit s.ctl.n (output_list s)) (when is_empty entry then next w else next (with_state w s2))
    (λ _. holds_if (Holds Silent) (is_empty entry) (next w) (next (with_state w s2)) (λ _. h) (λ _. h))

depart_silent : (w : Work) (t : Taken) → Silent w → Holds Silent (depart w t)
unfolding depart
depart_silent w t q =
    let s = w.state in
    let h = header_at s.ctl.kind s.cells (cell_start t.space) in
    let c = connection s.ctl.v h in
    let conn = connection_at s.words c in
    let s2 : State = with_free (with_output_list s t.left) (s.ctl.free + 1) (given s.bits t.space) in
    let w2 : Work = with_departure (with_connection (with_state w s2) c (with_waiting conn (conn.waiting - 1))) t.space c in
    let waits = 1 ≤? conn.waiting && conn.waiting ≤? s.ctl.n in
    let fits = spaces_fit s.ctl.n s.ctl.free s.bits && not (is_free_space s.bits t.space) in
    holds_needs Silent (kind_in_range s.ctl.kind && names_open s.ctl.v s.words h) (needs waits (needs fits (next w2)))
    (λ _. holds_needs Silent waits (needs fits (next w2)) (λ _. holds_needs Silent fits (next w2) (λ _. q)))

step5_silent : (w : Work) → Silent w → Holds Silent (step5 w)
unfolding step5
step5_silent w h =
    let s = w.state in
    let taken = take_head s.ctl.n s.links (output_list s) in
    holds_if (Holds Silent) (is_empty (output_list s)) (next w) (taken and_then depart w) (λ _. h)
    (λ _. holds_then (λ (t : Taken). 0 ≤ 0) Silent taken (depart w) (any taken) (λ t _. depart_silent w t h))

pub five_silent : (x : ℕ) (w : Work) → Silent w → Holds Silent (five_steps x [] w)
unfolding five_steps
five_silent x w h =
    holds_then Silent Silent (step1 w and_then step2 and_then step3 x [] and_then step4) step5
    (holds_then Silent Silent (step1 w and_then step2 and_then step3 x []) step4
    (holds_then Silent Silent (step1 w and_then step2) (step3 x []) (holds_then Silent Silent (step1 w) step2 (step1_silent w h) step2_silent) (step3_silent x))
    step4_silent)
    step5_silent

-- a dropped cell that is told stays out of the balance
module _ (all base : ℕ) where
  told_done : (w : Work) → Done all base w → Silent w → Done all base (told true w)
  unfolding lets_in
  told_done w d e =
      record {
        v_is = d.v_is;
        closed = d.closed;
        even = d.even ∙ ap (λ (v : ℕ). base + one (lets_in v)) e;
        number = d.number;
      }

  pub told_holds : (drop : Bool) (x : Out Work) → Holds (Done all base) x → (drop ≡ true → Holds Silent x)
      → Holds (Done all base) (x and_then λ w. next (told drop w))
  told_holds drop refused d s = omega arith
  told_holds true (next w) d s = told_done w d (s refl)
  told_holds false (next w) d s = d
