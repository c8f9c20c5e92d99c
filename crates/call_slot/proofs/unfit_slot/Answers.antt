-- `call_slot::unfit_slot` meets its contract: 1 and 2 before 3, and 9 can't be, since a cell is lent.
use Prim.Native.Nat.{ℕ}
use mathlib.Core.Path.{◌≡◌, refl, sym, ◌∙◌, ap}
use mathlib.Core.Bool.{Bool, true, false, not}
use mathlib.Core.List.{List}
use native.Mathlib.Omega.{arith}
use lib.ListN.{length}
use Rattle.meaning.specs.declared.Record.{Record}
use Rattle.meaning.specs.declared.Served.{Served}
use Rattle.meaning.specs.Plain.{when◌then◌else◌}
use Rattle.meaning.specs.Numbers.{ranges_hold}
use Rattle.meaning.specs.State.{lengths_hold}
use Rattle.meaning.specs.Work.{bare_answer}
use Rattle.leaf_refusal.specs.Refusals.{given_number}
use Rattle.leaf_refusal.proofs.Numbers.{never_0}
use Rattle.slot_steps.specs.Slot.{shape_of}
use Rattle.call_slot.specs.Back.{served_of, unfit_of}
use Rattle.call_slot.proofs.unfit_slot.Goals as goal

-- the number by its tests
abbrev number_by : Bool → Bool → ℕ
number_by p q = when not p then 1 else when not q then 2 else 3

abbrev shape_by : Bool → Bool → ℕ
shape_by p q = when not p then 1 else when not q then 2 else 0

given : (p q : Bool) → (shape_by p q ≡ 0 → ⊥) → shape_by p q ≡ number_by p q
given false q h = refl
given true false h = refl
given true true h = absurd (h refl)

none : (p q : Bool) → shape_by p q ≡ 0 → 3 ≡ number_by p q
none false q h = absurd (omega (arith, h))
none true false h = absurd (omega (arith, h))
none true true h = refl

module _ (r : Record) (cells links calendar words bits arrived cell : List ℕ) (l : length cell ≡ 53) where
  shape_is : shape_of r cells links calendar words bits arrived cell
      ≡ shape_by (ranges_hold r.n r.v) (lengths_hold r.n r.v cells links calendar words bits arrived)
  unfolding shape_of
  shape_is = rw l

  abbrev p : Bool
  p = ranges_hold r.n r.v

  abbrev q : Bool
  q = lengths_hold r.n r.v cells links calendar words bits arrived

  early : (number : ℕ) (x : Served) → number ≡ shape_of r cells links calendar words bits arrived cell → (number ≡ 0 → ⊥)
      → (x.ctl ≡ r) × (x.answer ≡ bare_answer number) → x ≡ unfit_of r cells links calendar words bits arrived
  unfolding unfit_of
  early number x e ne h =
      let f = e ∙ shape_is in
      (λ i. record { ctl = h.0 i; answer = h.1 i })
      ∙ ap (λ (n : ℕ). served_of r (bare_answer n)) (f ∙ given p q (λ z. ne (f ∙ z)))

  late : (number : ℕ) (x : Served) → number ≡ shape_of r cells links calendar words bits arrived cell → number ≡ 0
      → (x.ctl ≡ r) × (x.answer ≡ bare_answer 3) → x ≡ unfit_of r cells links calendar words bits arrived
  unfolding unfit_of
  late number x e z h =
      (λ i. record { ctl = h.0 i; answer = h.1 i })
      ∙ ap (λ (n : ℕ). served_of r (bare_answer n)) (none p q (sym shape_is ∙ sym e ∙ z))

pub returns-in-Ok : goal.returns-in-Ok
returns-in-Ok c =
    late c.args.r c.args.cells.now c.args.links.now c.args.calendar.now c.args.words.now c.args.bits.now c.args.arrived.now
    c.args.cell.now c.requires _ _ (sym (ap given_number c.in-Ok.is) ∙ c.shape.ensures) refl c.refuse_for.ensures

pub returns-in-Err : goal.returns-in-Err
returns-in-Err c =
    early c.args.r c.args.cells.now c.args.links.now c.args.calendar.now c.args.words.now c.args.bits.now c.args.arrived.now
    c.args.cell.now c.requires _ _ (sym (ap given_number c.in-Err.is) ∙ c.shape.ensures) (never_0 _) c.refuse_for-in-Err.ensures
