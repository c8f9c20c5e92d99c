-- `leaf_header::name_at` meets its contract: from the four octets as one number, by the kind.
use native.Mathlib.Omega.{arith}
use mathlib.Core.Path.{sym, ◌∙◌, subst}
use Rattle.meaning.specs.Header.{header_at}
use Rattle.leaf_header.specs.Name.{Reads}
use Rattle.leaf_header.proofs.NameLaws.{in_uni, in_nni, kind_uni, kind_nni, name_none_at}
use Rattle.leaf_header.proofs.name_at.Goals as goal

pub returns-in-0 : goal.returns-in-0
returns-in-0 c =
    let at_head = c.before in
    let a = at_head.args in
    let name = in_uni a.kind at_head.head_at-w.result c.in-0.is in
    record { name = name ∙ at_head.head_at-w.ensures.names a.kind (kind_uni a.kind c.in-0.is); reads = subst (Reads a.kind (header_at a.kind a.s.now a.at)) (sym name) (at_head.head_at-w.ensures.reads a.kind) }

pub returns-in-1 : goal.returns-in-1
returns-in-1 c =
    let at_head = c.before in
    let a = at_head.args in
    let name = in_nni a.kind at_head.head_at-w.result (λ e. omega (arith, e, c.in-1.is)) in
    record { name = name ∙ at_head.head_at-w.ensures.names a.kind (kind_nni a.kind c.in-1.is); reads = subst (Reads a.kind (header_at a.kind a.s.now a.at)) (sym name) (at_head.head_at-w.ensures.reads a.kind) }

pub returns-in_default : goal.returns-in_default
returns-in_default c =
    let a = c.args in
    let w = name_none_at a.kind a.s.now a.at (λ e. omega (arith, e)) (λ e. omega (arith, e)) in
    record { name = w.0; reads = w.1 }
