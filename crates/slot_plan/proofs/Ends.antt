-- What the last function of a case gives back is the work after step 5: its record, its answer and each memory, put
-- together.
use Prim.Native.Nat.{ℕ, ◌+◌, ◌-◌, ◌≤◌}
use mathlib.Core.Path.{◌≡◌, sym, ◌∙◌, ap}
use mathlib.Core.Bool.{Bool, true, false, not}
use mathlib.Core.List.{List}
use Rattle.std.specs.Prelude.{Option, Some, None}
use native.Mathlib.Omega.{arith}
use borrow.Author.Tests.{not-true, not-false}
use lib.ListN.{get_or, set}
use Rattle.meaning.specs.declared.Record.{Record}
use Rattle.meaning.specs.declared.Served.{Served}
use Rattle.meaning.specs.Plain.{◌=?◌, Out, refused, next}
use Rattle.meaning.specs.Numbers.{empty, excess}
use Rattle.meaning.specs.Bits.{taken, given, marked}
use Rattle.meaning.specs.State.{state_of, record_with, write_cell}
use Rattle.meaning.specs.Lists.{write_entry}
use Rattle.meaning.specs.Work.{Work, answer_of, bare_answer}
use Rattle.meaning.specs.Slot.{finish}
use Rattle.meaning.specs.Arrival.{sent_as}
use Rattle.slot_arrive.specs.declared.Fall.{Fall}
use Rattle.slot_arrive.specs.declared.Judged.{Judged}
use Rattle.slot_arrive.specs.Arrival.{fallen, filled, one_less}
use Rattle.mem_lists.specs.declared.Seat.{Seat}
use Rattle.mem_lists.specs.declared.Off.{Off}
use Rattle.mem_lists.specs.Spaces.{ends_of, linked}
use Rattle.slot_plan.specs.Plan.{with_ends, rotated, quiet_work, accept_work, seat_ends, left_by, served_work}

-- a number read in a list that is another one
pub read_same : (l l' : List ℕ) (i : ℕ) → l' ≡ l → 1 ≤ get_or l i 0 → 1 ≤ get_or l' i 0
read_same l l' i e h = rw e h

-- no cell accepted
pub quiet_left_lem : (k : Record) (b : Option Fall) (j : Judged) (o : Off) (cells links calendar words bits arrived : List ℕ) (s : Served)
    (links₁ links' calendar' words₁ words' bits₄ bits' : List ℕ)
    → (s.ctl ≡ with_ends k (k.free + 1) (ends_of o.head o.tail)) × (s.answer ≡ answer_of 0 j.verdict j.vci 0 o.space o.vci)
    → links' ≡ links₁
    → words₁ ≡ fallen (j.verdict =? excess) j.vci j.s j.second k.t (rotated k b words)
    → words' ≡ one_less o.vci words₁
    → bits' ≡ given bits₄ o.space
    → served_work s cells links' calendar' words' bits' arrived ≡ left_by (quiet_work k j cells links calendar (rotated k b words) bits arrived) links₁ calendar' bits₄ o
unfolding left_by quiet_work
quiet_left_lem k b j o cells links calendar words bits arrived s links₁ links' calendar' words₁ words' bits₄ bits' r l f w g = rw (r.0, r.1, l, w, f, g)

-- a cell accepted, and nothing departs
pub accept_served : (k : Record) (b : Option Fall) (j : Judged) (a : Seat) (cell cells links calendar words bits arrived : List ℕ) (s : Served)
    (cells' links' calendar' words' bits' arrived' : List ℕ)
    → s.ctl ≡ with_ends k (k.free - 1) (ends_of k.outhead k.outtail)
    → s.answer ≡ answer_of 0 j.verdict j.vci j.d 65535 0
    → cells' ≡ write_cell cells a.x (sent_as j.verdict cell)
    → links' ≡ linked (not (a.head =? empty)) a.x a.head links
    → calendar' ≡ write_entry calendar a.e (seat_ends a)
    → words' ≡ filled j.vci j.s j.second k.t j.waiting (rotated k b words)
    → bits' ≡ marked (taken bits a.x) a.e
    → arrived' ≡ set arrived a.x k.t
    → served_work s cells' links' calendar' words' bits' arrived' ≡ accept_work k j a cell cells links calendar (rotated k b words) bits arrived
unfolding accept_work
accept_served k b j a cell cells links calendar words bits arrived s cells' links' calendar' words' bits' arrived' p q c l e f g h =
    rw (p, q, c, l, e, f, g, h)

-- a departure: one space is taken and one given back, so the number is as it came
again : (free : ℕ) → 1 ≤ free → free - 1 + 1 ≡ free
again free some = omega arith

pub accept_left_lem : (k : Record) (b : Option Fall) (j : Judged) (a : Seat) (o : Off) (cell cells links calendar words bits arrived : List ℕ)
    (s : Served) (cells' links₁ links' calendar₁ calendar' words₃ words' bits₁ bits₄ bits' arrived' : List ℕ)
    → 1 ≤ k.free
    → (s.ctl ≡ with_ends k k.free (ends_of o.head o.tail)) × (s.answer ≡ answer_of 0 j.verdict j.vci j.d o.space o.vci)
    → cells' ≡ write_cell cells a.x (sent_as j.verdict cell)
    → links' ≡ links₁
    → calendar' ≡ calendar₁
    → words₃ ≡ filled j.vci j.s j.second k.t j.waiting (rotated k b words)
    → words' ≡ one_less o.vci words₃
    → bits₄ ≡ bits₁
    → bits' ≡ given bits₄ o.space
    → arrived' ≡ set arrived a.x k.t
    → served_work s cells' links' calendar' words' bits' arrived'
    ≡ left_by (accept_work k j a cell cells links calendar (rotated k b words) bits arrived) links₁ calendar₁ bits₁ o
unfolding left_by accept_work with_ends record_with
accept_left_lem k b j a o cell cells links calendar words bits arrived s cells' links₁ links' calendar₁ calendar' words₃ words' bits₁ bits₄ bits' arrived' some r c l e f w g h i =
    rw (r.0, r.1, c, l, e, w, f, h, g, i, again k.free some)

-- ---- any case
pub as_came : (r : Record) (cells links calendar words bits arrived : List ℕ) (o : Out Work) (s : Served)
    → (s.ctl ≡ r) × (s.answer ≡ bare_answer 3)
    → o ≡ refused
    → served_work s cells links calendar words bits arrived ≡ finish (state_of r cells links calendar words bits arrived) o
unfolding finish
as_came r cells links calendar words bits arrived o s p e = rw (e, p.0, p.1)

pub went : (r : Record) (cells links calendar words bits arrived : List ℕ) (o : Out Work) (w y : Work) → o ≡ next w → y ≡ w
    → y ≡ finish (state_of r cells links calendar words bits arrived) o
unfolding finish
went r cells links calendar words bits arrived o w y e q = rw (e, q)

pub left_entry : (w : Work) (links calendar calendar' bits bits' : List ℕ) (o : Off) → calendar' ≡ calendar → bits' ≡ bits
    → left_by w links calendar' bits' o ≡ left_by w links calendar bits o
left_entry w links calendar calendar' bits bits' o e f = rw (e, f)

pub goes_on : (r : Record) (cells links calendar words bits arrived : List ℕ) (o o' : Out Work) (y : Work) → o ≡ o'
    → y ≡ finish (state_of r cells links calendar words bits arrived) o'
    → y ≡ finish (state_of r cells links calendar words bits arrived) o
goes_on r cells links calendar words bits arrived o o' y e q = rw e q

-- a test p of e, passed or not
pub shown : (p e : Bool) → p ≡ e → not p ≡ false → e ≡ true
shown p e q n = sym q ∙ not-false p n

pub not_shown : (p e : Bool) → p ≡ e → not p ≡ true → e ≡ false
not_shown p e q n = sym q ∙ not-true p n

-- ---- the words once step 2 has written, by whether something falls
pub rotated_some : (k : Record) (b : Option Fall) (f : Fall) (words l : List ℕ) → b ≡ Some f → l ≡ fallen true k.rotation f.s f.second k.t words → l ≡ rotated k b words
unfolding rotated
rotated_some k b f words l e is = is ∙ ap (λ (x : Option Fall). rotated k x words) (sym e)

pub rotated_none : (k : Record) (b : Option Fall) (words l : List ℕ) → b ≡ None → l ≡ words → l ≡ rotated k b words
unfolding rotated
rotated_none k b words l e is = is ∙ ap (λ (x : Option Fall). rotated k x words) (sym e)
