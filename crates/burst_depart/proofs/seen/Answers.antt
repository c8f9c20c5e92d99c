-- `burst_depart::seen` meets its contract: the tests are those of the definition, of the header's number and that connection's words.
use Rattle.mem_lists.proofs.LeaverLaws.{go_closed}
use Rattle.burst_depart.specs.Leaving.{unless_zero}
use Rattle.burst_depart.proofs.PlanLaws.{goes_zero, goes_stays, goes_goes}
use Rattle.burst_depart.proofs.SeenLaws.{goes, in_range, go_within, some_number}
use Prim.Native.Nat.{◌<◌}
use mathlib.Core.Path.{sym, ◌∙◌, ap}
use borrow.Author.Rules.{rules}
use Rattle.burst_depart.proofs.seen.Goals as goal

pub returns-then-u-eq0 : goal.returns-then-u-eq0
returns-then-u-eq0 c =
    let a = c.args in
    let u = c.from-u.result in
    let head = c.head_at-head in
    let low : head.result < 4294967296 = let h = head.type_inv in search rules in
    ap unless_zero
    (goes_zero a.w.n a.words.now u c.if-u-eq0.true
    ∙ goes a.w a.cells.now a.words.now a.x head.result c.name_by-name.result u c.requires.names_by c.requires.n_le_most_n.1 low
    head.ensures.names head.ensures.reads c.name_by-name.ensures (c.from-u.ensures ∙ c.number_for.ensures.number))

pub returns-then-words-b-ne1 : goal.returns-then-words-b-ne1
returns-then-words-b-ne1 c =
    let a = c.args in
    let u = c.from-u.result in
    let head = c.head_at-head in
    let low : head.result < 4294967296 = let h = head.type_inv in search rules in
    ap unless_zero
    (goes_stays a.w.n a.words.now u c.if-u-eq0.false (sym (go_closed a.w.n a.words.now u c.if-words-b-ne1.true))
    ∙ goes a.w a.cells.now a.words.now a.x head.result c.name_by-name.result u c.requires.names_by c.requires.n_le_most_n.1 low
    head.ensures.names head.ensures.reads c.name_by-name.ensures (c.from-u.ensures ∙ c.number_for.ensures.number))

pub returns-then-contains : goal.returns-then-contains
returns-then-contains c =
    let a = c.args in
    let u = c.from-u.result in
    let head = c.head_at-head in
    let low : head.result < 4294967296 = let h = head.type_inv in search rules in
    some_number u c.if-u-eq0.false
    ∙ ap unless_zero
    (goes_goes a.w.n a.words.now u c.if-u-eq0.false
    (sym (c.contains.ensures.value ∙ in_range _ 1 a.w.n _ c.new.ensures.start c.new.ensures.end c.new.ensures.exhausted ∙ go_within a.w.n a.words.now u c.if-words-b-ne1.false) ∙ c.if-contains.true)
    ∙ goes a.w a.cells.now a.words.now a.x head.result c.name_by-name.result u c.requires.names_by c.requires.n_le_most_n.1 low
    head.ensures.names head.ensures.reads c.name_by-name.ensures (c.from-u.ensures ∙ c.number_for.ensures.number))

pub returns : goal.returns
returns c =
    let a = c.args in
    let u = c.from-u.result in
    let head = c.head_at-head in
    let low : head.result < 4294967296 = let h = head.type_inv in search rules in
    ap unless_zero
    (goes_stays a.w.n a.words.now u c.if-u-eq0.false
    (sym (c.contains.ensures.value ∙ in_range _ 1 a.w.n _ c.new.ensures.start c.new.ensures.end c.new.ensures.exhausted ∙ go_within a.w.n a.words.now u c.if-words-b-ne1.false) ∙ c.if-contains.false)
    ∙ goes a.w a.cells.now a.words.now a.x head.result c.name_by-name.result u c.requires.names_by c.requires.n_le_most_n.1 low
    head.ensures.names head.ensures.reads c.name_by-name.ensures (c.from-u.ensures ∙ c.number_for.ensures.number))
