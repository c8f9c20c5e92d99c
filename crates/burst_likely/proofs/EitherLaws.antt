-- What a function of a likely way gives back: everything as it came, or a slot served; and laws that the cases of a
-- served slot share.
use Prim.Native.Nat.{ℕ, ◌*◌, ◌/◌, ◌%◌, ◌≤◌, ◌<◌}
use mathlib.Core.Path.{◌≡◌, refl, ap}
use mathlib.Core.Logic.{◌≢◌}
use mathlib.Core.Bool.{Bool, true, false, not}
use mathlib.Core.List.{List}
use native.Mathlib.Omega.{arith}
use borrow.Author.Tests.{eq-eqb, eqb-false, le-leb}
use lib.ListN.{take}
use Rattle.std.specs.Prelude.{Option, Some, None, IfSome, IfNone}
use Rattle.meaning.specs.declared.Record.{Record}
use Rattle.meaning.specs.Plain.{when◌then◌else◌, ◌=?◌, Out}
use Rattle.meaning.specs.Numbers.{empty}
use Rattle.meaning.specs.State.{Ends, record_with}
use Rattle.meaning.specs.Lists.{ends_fit}
use Rattle.meaning.proofs.ListsLaws.{fit_head, fit_tail}
use Rattle.meaning.specs.Line.{cells_allowed}
use Rattle.meaning.specs.Work.{Work}
use Rattle.mem_lists.specs.Spaces.{ends_of, linked}
use Rattle.slot_plan.specs.Plan.{with_ends, output_ends}
use Rattle.burst_way.specs.declared.Way.{Way}
use Rattle.burst_way.specs.Way.{way_with, slot_record}
use Rattle.burst_likely.specs.declared.Went.{Went}
use Rattle.burst_depart.specs.Leaving.{follows_of}
use Rattle.burst_likely.specs.Served.{from2, Either, followed}

-- a cell memory of this length has an allowed N
pub allowed_long : (N long : ℕ) → 1 ≤ N → N ≤ 1024 → long ≡ 53 * N → cells_allowed long ≡ true
unfolding cells_allowed
allowed_long N long a b e =
    simp (eq-eqb (long % 53) 0 (omega arith), le-leb 1 (long / 53) (omega arith), le-leb (long / 53) 1024 (omega arith))

-- the chain of entry T follows the old tail where the Output List is not empty
module _ (k : Record) (entry : Ends) (links : List ℕ) where
  joined : (b : Bool) → followed (when b then None else Some entry.head) k.outtail links ≡ linked (not b) k.outtail entry.head links
  unfolding linked
  joined true = refl
  joined false = refl

  pub followed_joined : (follows : Option ℕ) → follows ≡ follows_of k entry
      → followed follows k.outtail links ≡ linked (not (k.outhead =? empty)) k.outtail entry.head links
  followed_joined follows is = rw is (joined (k.outhead =? empty))

  pub followed_none : (follows : Option ℕ) → follows ≡ None → followed follows k.outtail links ≡ linked false k.outtail 0 links
  unfolding linked
  followed_none follows is = rw is

-- by the one write, or none
pub followed_some : (follows : Option ℕ) (head tail : ℕ) (links : List ℕ) → follows ≡ Some head → linked true tail head links ≡ followed follows tail links
unfolding linked
followed_some follows head tail links is = rw is

pub followed_left : (follows : Option ℕ) (tail : ℕ) (links : List ℕ) → follows ≡ None → links ≡ followed follows tail links
followed_left follows tail links is = rw is

-- both ends of that link are spaces
pub follows_low : (k : Record) (entry : Ends) (follows : Option ℕ) → follows ≡ follows_of k entry
    → ends_fit k.n (output_ends k) ≡ true
    → ends_fit k.n entry ≡ true
    → entry.head ≢ empty
    → IfSome follows (λ head. (k.outtail < k.n) × (head < k.n))
follows_low k entry follows is output fits some = rw is (go (k.outhead =? empty) refl)
  where
    go : (b : Bool) → k.outhead =? empty ≡ b → IfSome (when b then None else Some entry.head) (λ head. (k.outtail < k.n) × (head < k.n))
    go true e = tt
    go false e = (fit_tail k.n (output_ends k) output (eqb-false k.outhead empty e), fit_head k.n entry fits some)

-- so the writes of a departure may name them
pub low_most : (N : ℕ) (follows : Option ℕ) (tail long : ℕ) → long ≡ N → N ≤ 1024
    → IfSome follows (λ head. (tail < N) × (head < N))
    → IfSome follows (λ head. (tail < long) × (tail ≤ empty) × (head ≤ empty))
low_most N None tail long e few low = tt
low_most N (Some head) tail long e few low = (omega (arith, low.0, e), omega (arith, low.0), omega (arith, low.1))

-- the record of a way with another number of free spaces and another Output List
pub ends_with : (w w' : Way) (free outhead outtail : ℕ)
    → w' ≡ way_with w w.t w.turn w.rotation free outhead outtail
    → slot_record w' ≡ with_ends (slot_record w) free (ends_of outhead outtail)
unfolding with_ends record_with
ends_with w w' free outhead outtail e = ap slot_record e

-- the same slot, said otherwise
pub either_is : (w : Way) (target target' : Out Work) (found : Option Went) (cells links calendar words bits arrived departures answers cells' links' calendar' words' bits' arrived' departures' answers' : List ℕ) (i : ℕ)
    → target' ≡ target
    → Either w target found cells links calendar words bits arrived departures answers cells' links' calendar' words' bits' arrived' departures' answers' i
    → Either w target' found cells links calendar words bits arrived departures answers cells' links' calendar' words' bits' arrived' departures' answers' i
either_is w target target' found cells links calendar words bits arrived departures answers cells' links' calendar' words' bits' arrived' departures' answers' i e h = rw e h

-- what holds anyway holds of what is handed on
pub if_some : {A : Type 0} {P : Type 0} (found : Option A) → P → IfSome found (λ g. P)
if_some None p = tt
if_some (Some g) p = p

-- what holds anyway holds where nothing is handed on
pub if_left : {A : Type 0} {P : Type 0} (found : Option A) → P → IfNone found P
if_left None p = p
if_left (Some g) p = tt

-- what is known where nothing is handed on, said otherwise
pub if_none : {A : Type 0} {P Q : Type 0} (found : Option A) → (P → Q) → IfNone found P → IfNone found Q
if_none None f p = f p
if_none (Some g) f p = tt

-- the five steps of a cell of so many octets
pub from_whole : (k : Record) (size : ℕ) (octets cells links calendar words bits arrived : List ℕ) → size ≡ 53
    → from2 k (take size octets) cells links calendar words bits arrived ≡ from2 k (take 53 octets) cells links calendar words bits arrived
from_whole k size octets cells links calendar words bits arrived e = rw e
