-- `burst_likely::named` meets its contract: the tests of the size and, of a raw policer, of octet 5, and the name that was read.
use Prim.Native.Nat.{◌*◌, ◌<◌}
use mathlib.Core.Path.{refl, sym, ◌∙◌, ap, subst}
use native.Mathlib.Omega.{arith}
use mathlib.Core.Logic.{inl, inr}
use Rattle.meaning.specs.Header.{header_at}
use Rattle.leaf_header.specs.Name.{Reads}
use Rattle.leaf_header.proofs.NameLaws.{name_by}
use Rattle.base_hec.specs.Check.{check_of}
use Rattle.burst_likely.proofs.NamedLaws.{likely_none, likely_odd, likely_wrong, likely_read}
use borrow.Author.Rules.{rules}
use Rattle.burst_likely.proofs.named.Goals as goal
use Rattle.burst_likely.proofs.named.Goals.{else-w-ne0-via-then-w-ne0+else-check_of-arrivals, else-w-ne0-via-else-w-ne0}

pub returns-in-0-clause-is : goal.returns-in-0-clause-is
returns-in-0-clause-is c =
    let a = c.args in
    likely_none a.w.raw a.w.kind a.arrivals.now a.size a.i c.in-0.is

pub returns-in_default-clause-is : goal.returns-in_default-clause-is
returns-in_default-clause-is c =
    let a = c.args in
    likely_odd a.w.raw a.w.kind a.arrivals.now a.size a.i (λ e. omega (arith, e)) (λ e. omega (arith, e))

pub returns-then-check_of-arrivals : goal.returns-then-check_of-arrivals
returns-then-check_of-arrivals c =
    let a = c.args in
    record { is = likely_wrong a.w.raw a.w.kind a.arrivals.now a.size a.i c.in-53.is c.if-w-ne0.true (λ e. c.if-check_of-arrivals.true (c.check_of.ensures ∙ ap check_of c.head_at-head.ensures.is ∙ e)); reads = λ e. λ ne. absurd (ne refl) }

pub returns-else-w-ne0 : goal.returns-else-w-ne0
returns-else-w-ne0 c =
    let a = c.args in
    let names = c.requires.1 in
    let head = c.head_at-head in
    let low : head.result < 4294967296 = search rules in
    let named = c.name_by.ensures ∙ name_by a.w.kind a.w.mask head.result names.0 names.1 low in
    record {
      is = named ∙ head.ensures.names a.w.kind names.0
          ∙ likely_read a.w.raw a.w.kind a.arrivals.now a.size a.i c.in-53.is
          (elim c.else-w-ne0.branch [
            | else-w-ne0-via-then-w-ne0+else-check_of-arrivals w ↦ inr (ap check_of (sym head.ensures.is) ∙ sym w.check_of.ensures ∙ w.if-check_of-arrivals.false)
            | else-w-ne0-via-else-w-ne0 w ↦ inl w.if-w-ne0.false
          ]);
      reads = λ e. λ ne. subst (Reads a.w.kind (header_at a.w.kind a.arrivals.now (53 * a.i))) (sym named) (head.ensures.reads a.w.kind);
    }
