-- The sizes of the memory: what the first record asks for, never above the most.
use Prim.Native.Nat.{ℕ, ◌≤◌}
use mathlib.Core.Path.{◌≡◌, refl}
use mathlib.Core.Bool.{Bool, true, false, ◌&&◌}
use native.Mathlib.Omega.{arith}
use borrow.Author.Tests.{leb-true}
use Rattle.std.proofs.lemmas.Bool.{and_parts}
use Rattle.meaning.specs.Plain.{when◌then◌else◌, ◌≤?◌}
use Rattle.meaning.specs.Numbers.{ranges_hold, most_n, least_v, most_v}
use Rattle.trace_record.specs.declared.Event.{Event}
use Rattle.trace_record.specs.declared.Event.TheVariants.{Setup, Open, Close, Cell, Pause, Sustain, OpenPath, ClosePath}
use Rattle.trace_record.specs.declared.Head.{Head}
use Rattle.trace_record.specs.declared.Found.{Found}
use Rattle.trace_record.specs.declared.Found.TheVariants.{Read, End, Unreadable}
use Rattle.trace_record.specs.Trace.{GM, VO, VX, CA, SL, VS, PO, PX, Stands, event, finish, refusal, record_of, said_of}
use Rattle.list_whole.specs.declared.Sizes.{Sizes}
use Rattle.list_whole.specs.Fill.{sizes_at}

abbrev pub no_sizes : Sizes
no_sizes = record { n = 0; v = 0 }

pub no_record : (f : Found) → ((e : Event) (next : ℕ) → f ≡ Read e next → ⊥) → no_sizes ≡ sizes_at (said_of f)
unfolding sizes_at
no_record (Read e next) h = absurd (h e next refl)
no_record End h = refl
no_record (Unreadable place) h = refl

pub no_setup : (e : Event) (next : ℕ) → ((n v : ℕ) (head : Head) → e ≡ Setup n v head → ⊥) → no_sizes ≡ sizes_at (event (record_of e) next)
unfolding sizes_at
no_setup (Setup n v head) next h = absurd (h n v head refl)
no_setup (Open vci m f c) next h = refl
no_setup (Close vci) next h = refl
no_setup (Cell start) next h = refl
no_setup (Pause slots) next h = refl
no_setup (Sustain vci m f c m2 f2 c2 tag) next h = refl
no_setup (OpenPath vpi m f c) next h = refl
no_setup (ClosePath vpi) next h = refl

pub setup_fits : (N z : ℕ) (head : Head) (next : ℕ) → ranges_hold N z ≡ true → record { n = N; v = z } ≡ sizes_at (event (GM N z head) next)
unfolding sizes_at
setup_fits N z head next e = rw e

pub setup_large : (N z : ℕ) (head : Head) (next : ℕ) → ranges_hold N z ≡ false → no_sizes ≡ sizes_at (event (GM N z head) next)
unfolding sizes_at
setup_large N z head next e = rw e

ranges_most : (N z : ℕ) → ranges_hold N z ≡ true → (N ≤ most_n) × (z ≤ most_v)
unfolding ranges_hold
ranges_most N z h =
    let a = and_parts (1 ≤? N && N ≤? most_n && least_v ≤? z) (z ≤? most_v) h in
    let b = and_parts (1 ≤? N && N ≤? most_n) (least_v ≤? z) a.0 in
    let c = and_parts (1 ≤? N) (N ≤? most_n) b.0 in
    (leb-true N most_n c.1, leb-true z most_v a.1)

abbrev Small : Sizes → Type 0
Small s = (s.n ≤ most_n) × (s.v ≤ most_v)

no_small : Small no_sizes
no_small = (omega arith, omega arith)

setup_small : (N z : ℕ) (b : Bool) → ranges_hold N z ≡ b → Small (when b then record { n = N; v = z } else no_sizes)
setup_small N z true e = ranges_most N z e
setup_small N z false e = no_small

pub sizes_small : (s : Stands) → Small (sizes_at s)
unfolding sizes_at
sizes_small (event (GM N z head) next) = setup_small N z (ranges_hold N z) refl
sizes_small (event (VO vci m F C) next) = no_small
sizes_small (event (VX vci) next) = no_small
sizes_small (event (CA start) next) = no_small
sizes_small (event (SL count) next) = no_small
sizes_small (event (VS vci m F C x) next) = no_small
sizes_small (event (PO vpi m F C) next) = no_small
sizes_small (event (PX vpi) next) = no_small
sizes_small finish = no_small
sizes_small (refusal number place) = no_small
