-- The counts that a run keeps are the recount over its answers, modulo 2^32, after every call.
use Prim.Native.Nat.{◌%◌}
use mathlib.Core.Path.{◌≡◌, refl, ap, ◌∙◌}
use mathlib.Core.Bool.{Bool}
use mathlib.Core.List.{List, [], ◌∷◌}
use native.Mathlib.Nat.{mod-add-mod}
use Rattle.meaning.specs.declared.Answer.{Answer}
use Rattle.meaning.specs.Plain.{when◌then◌else◌}
use Rattle.meaning.specs.Numbers.{slot_numbers}
use Rattle.meaning.specs.State.{State}
use Rattle.meaning.specs.Slot.{slot}
use Rattle.list_meaning.specs.declared.Tally.{Tally}
use Rattle.list_meaning.specs.Trace.{Call, set_up, open_connection, close_connection, serve}
use Rattle.list_meaning.specs.Listing.{many_of, recount, is_accepted, is_excess, is_unknown, has_sent, answers_after}
use Rattle.list_whole.specs.Run.{counted_if, counted, no_tally, tally_after}

counted_many : (test : Answer → Bool) (a : Answer) (h : List Answer)
    → counted_if (test a) (many_of test h % slot_numbers) ≡ many_of test (a ∷ h) % slot_numbers
unfolding counted_if many_of
counted_many test a h = mod-add-mod (many_of test h) slot_numbers (when test a then 1 else 0)

counted_recount : (a : Answer) (h : List Answer) → counted (recount h) a ≡ recount (a ∷ h)
unfolding counted recount
counted_recount a h =
    rw (counted_many is_accepted a h, counted_many is_excess a h, counted_many is_unknown a h, counted_many has_sent a h)

pub recount_none : no_tally ≡ recount []
unfolding recount many_of slot_numbers
recount_none = refl

pub tally_recount : (s : State) (t : Tally) (h : List Answer) (c : Call) → t ≡ recount h
    → tally_after s t c ≡ recount (answers_after s h c)
unfolding tally_after answers_after
tally_recount s t h (set_up N z o) e = recount_none
tally_recount s t h (open_connection name m F C x) e = e
tally_recount s t h (close_connection name) e = e
tally_recount s t h (serve cell) e =
    ap (λ (x : Tally). counted x (slot s cell).answer) e ∙ counted_recount (slot s cell).answer h
