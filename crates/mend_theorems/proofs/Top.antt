-- The theorems of specs/Salvaged.antt, each in a line or two.
use Prim.Native.Nat.{ℕ, ◌≤◌}
use mathlib.Core.Path.{sym, ap, subst, ◌∙◌}
use mathlib.Core.List.{List}
use lib.ListN.{length, take, length-take}
use lib.Seq.{take_all}
use native.Mathlib.Omega.{arith}
use Rattle.mend_step.specs.Salvage.{Piece, salvage_front, limit}
use Rattle.mend_theorems.specs.Promises.{Cut, octets_of, Ends}
use Rattle.mend_theorems.specs.Salvaged.{Refused17, CutsTheInput, AllOctets, MendedReads, MendedStays, KeptWhole, OneStretch, AllAfterAreKept, PlainWithin, BeyondIsSkipped}
use Rattle.mend_theorems.proofs.Theorems.{walk_cuts, readable_whole, damage}
use Rattle.mend_theorems.proofs.Mended.{salvage_walk, readable_written, mended_readable, mended_again, damage_written}
use Rattle.mend_theorems.proofs.Damage.{walk_octets, damage_in_a_record, damage_in_a_record_written}
use Rattle.mend_theorems.proofs.Front.{begins_tells, walk_ends}

pub refused_17 : Refused17
refused_17 = begins_tells

pub cuts_the_input : CutsTheInput
cuts_the_input trace n ps l h = subst (λ (x : List Piece). Cut 0 x n) (salvage_walk trace n ps h).1 (walk_cuts trace n l)

pub all_octets : AllOctets
all_octets trace ps h = ap (octets_of trace) (sym (salvage_walk trace (length trace) ps h).1) ∙ walk_octets trace

pub mended_reads : MendedReads
mended_reads = mended_readable

pub mended_stays : MendedStays
mended_stays = mended_again

pub kept_whole : KeptWhole
kept_whole trace ps h = (readable_whole trace ps h, readable_written trace ps h.1)

pub one_stretch : OneStretch
one_stretch a d b ps qs h = (damage a d b ps qs h, damage_written a d b ps qs h)

pub all_after_are_kept : AllAfterAreKept
all_after_are_kept a r d b ps qs h = (damage_in_a_record a r d b ps qs h, damage_in_a_record_written a r d b ps qs h)

pub plain_within : PlainWithin
plain_within input h =
    ap (λ (x : List ℕ). salvage_front x (length input)) (take_all limit input h)

pub beyond_is_skipped : BeyondIsSkipped
beyond_is_skipped input ps h =
    let l : length (take limit input) ≤ length input = omega (arith, length-take limit input) in
    let m : length (take limit input) ≤ limit = omega (arith, length-take limit input) in
    let e = (salvage_walk (take limit input) (length input) ps h).1 in (
      cuts_the_input (take limit input) (length input) ps l h,
      subst (Ends limit (length input)) e (walk_ends (take limit input) (length input) limit m),
    )
