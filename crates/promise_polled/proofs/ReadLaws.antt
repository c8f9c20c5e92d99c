-- What a burst has written, read back: the answers are those of its slots, the octets the line cells that their events
-- note, and the header check goes on from slot to slot in the mode that the slot leaves.
use Prim.Native.Nat.{ℕ, ◌+◌, ◌*◌, ◌≤◌}
use mathlib.Core.Path.{◌≡◌, refl, sym, ap, ◌∙◌}
use mathlib.Core.Bool.{Bool, true, false}
use mathlib.Core.List.{List, [], ◌∷◌, ◌++◌, map}
use native.Mathlib.Omega.{arith}
use lib.ListN.{length, take, drop, length-drop}
use lib.Seq.{take_at, drop_at}
use Rattle.meaning.specs.declared.Answer.{Answer}
use Rattle.meaning.specs.Plain.{when◌then◌else◌, ◌=?◌}
use Rattle.meaning.specs.Numbers.{octets, empty}
use Rattle.meaning.specs.State.{State}
use Rattle.meaning.specs.Work.{Work}
use Rattle.meaning.specs.Bits.{lowest_free}
use Rattle.meaning.specs.Slot.{slot}
use Rattle.meaning.specs.Line.{line_cell}
use Rattle.meaning_runs.specs.Run.{on_slot, Event, ran, Run, idle, shown, let_in, call_at, call, calls}
use Rattle.meaning_runs.proofs.ModeLaws.{raw_kept, mode_moved}
use Rattle.theory_queues.specs.Queue.{All}
use Rattle.theory_invariant.proofs.RunLaws.{Kept, call_kept}
use Rattle.promises.specs.Checked.{Lent}
use Rattle.burst_out.specs.Handout.{Shows}
use Rattle.promise_polled.specs.Polled.{handed_out, answered, six_of, first_six, throughs, read_again}
use Rattle.promise_polled.proofs.WrittenLaws.{out_of, out_long}
use Rattle.promise_polled.proofs.BurstRuns.{slot_leaves}

-- the octets read are those noted
out_read : (w : Work) (d rest : List ℕ) → Shows w.state.cells w.answer.space → 53 ≤ length d
    → (when w.answer.space =? empty then [] else take octets (out_of w d ++ rest)) ≡ shown w
unfolding shown
out_read w d rest shows room =
    ap (λ (l : List ℕ). when w.answer.space =? empty then [] else l) (take_at (out_of w d) rest 53 (out_long w shows d room))
    ∙ go (w.answer.space =? empty) (line_cell w.state.cells idle w.answer.space)
  where
    go : (b : Bool) (l : List ℕ) → (when b then [] else when b then take octets d else when b then [] else l) ≡ (when b then [] else l)
    go true l = refl
    go false l = refl

-- one slot is read, and the rest is left
one_read : (h : List Event) (cell : List ℕ) (cells : List (List ℕ)) (a : Answer) (o rest more out : List ℕ) → length o ≡ 53
    → (when a.space =? empty then [] else take octets (o ++ rest)) ≡ out
    → read_again h (cell ∷ cells) (o ++ rest) (six_of a ++ more) ≡ read_again (ran cell a out ∷ h) cells rest more
unfolding read_again first_six
one_read h cell cells a o rest more out long e =
    ap (λ (l : List ℕ). read_again (ran cell a l ∷ h) cells (drop 53 (o ++ rest)) more) e
    ∙ ap (λ (l : List ℕ). read_again (ran cell a out ∷ h) cells l more) (drop_at o rest 53 long)

module _ (N z kind : ℕ) where
  pub read_back : (cells : List (List ℕ)) → All Lent cells → (r : Run) → Kept N z kind r → (d a : List ℕ) → 53 * length cells ≤ length d
      → read_again r.events (throughs r.state.ctl.raw r.state.ctl.mode cells) (handed_out r.state cells d) (answered r.state cells a)
      ≡ (calls r (map on_slot cells)).events
  unfolding read_again throughs handed_out answered calls call call_at slot
  read_back [] lent r k d a room = refl
  read_back (cell ∷ cells) lent r k d a room =
      let s : State = r.state in
      let w : Work = slot s cell in
      let gives = slot_leaves N z kind r k cell lent.0 in
      let rest : List ℕ = handed_out w.state cells (drop 53 d) in
      let more : List ℕ = answered w.state cells (drop 6 a) in
      let seen : List Event = ran (let_in s cell).cell w.answer (shown w) ∷ r.events in
      one_read r.events (let_in s cell).cell (throughs s.ctl.raw (let_in s cell).mode cells) w.answer (out_of w d) rest more (shown w)
      (out_long w gives.1 d (omega (arith, room))) (out_read w d rest gives.1 (omega (arith, room)))
      ∙ ap (λ (x : ℕ). read_again seen (throughs x (let_in s cell).mode cells) rest more) (sym (raw_kept (lowest_free s.bits) s cell))
      ∙ ap (λ (x : ℕ). read_again seen (throughs w.state.ctl.raw x cells) rest more) (sym (mode_moved (lowest_free s.bits) s cell gives.0))
      ∙ read_back cells lent.1 (call r (on_slot cell)) (call_kept N z kind r (on_slot cell) k) (drop 53 d) (drop 6 a)
      (rw (length-drop 53 d) (omega (arith, room)))
