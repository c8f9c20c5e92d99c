-- `slot_arrive::judge` meets its contract: case by case, by the cell's name and the connection that it stands for.
use mathlib.Core.Path.{sym, ◌∙◌, ap}
use Rattle.std.specs.Prelude.{Some}
use native.Mathlib.Omega.{arith}
use Rattle.slot_arrive.proofs.JudgedLaws.{by_none, by_connection, by_no_kind, by_unknown}
use Rattle.slot_arrive.proofs.judge.Goals as goal

pub returns-then-name-eq0 : goal.returns-then-name-eq0
returns-then-name-eq0 c =
    let a = c.args in
    ap Some c.no_cell.ensures ∙ by_none a.n a.v a.t a.words.now a.name _ c.if-name-eq0.true

pub judge_connection-requires : goal.judge_connection-requires
judge_connection-requires c =
    let from = c.before in
    (omega (arith, from.requires.0, c.number_for-vci.ensures.low), omega (arith, from.requires.2 c.if-name-eq0.false))

pub returns-then-vci-ne0 : goal.returns-then-vci-ne0
returns-then-vci-ne0 c =
    let a = c.args in
    c.judge_connection.ensures
    ∙ by_connection a.n a.v a.t a.words.now a.name _ _ c.number_for-vci.ensures.number
    c.if-name-eq0.false c.if-vci-ne0.true

pub returns-then-name-eq4294967295 : goal.returns-then-name-eq4294967295
returns-then-name-eq4294967295 c =
    let a = c.args in
    by_no_kind a.n a.v a.t a.words.now a.name _
    (sym c.number_for-vci.ensures.number ∙ c.if-vci-ne0.false)
    c.if-name-eq0.false c.if-name-eq4294967295.true

pub returns : goal.returns
returns c =
    let a = c.args in
    ap Some c.no_connection.ensures
    ∙ by_unknown a.n a.v a.t a.words.now a.name _
    (sym c.number_for-vci.ensures.number ∙ c.if-vci-ne0.false)
    c.if-name-eq0.false c.if-name-eq4294967295.false
