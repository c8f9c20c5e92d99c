-- `burst_rotate::bring_at` meets its contract: the peak bucket falls; without a second one that is all.
use mathlib.Core.Path.{sym, ◌∙◌, ap}
use Rattle.slot_arrive.specs.Both.{brought_both}
use Rattle.meaning.specs.Words.{Connection, connection_at}
use Rattle.mem_words.specs.Connections.{has_none}
use Rattle.slot_arrive.proofs.BroughtLaws.{brought_none}
use Rattle.burst_rotate.proofs.TurnLaws.{connection_from, from_place, fallen_is, none_told}
use Rattle.burst_rotate.proofs.bring_at.Goals as goal

pub fallen_to-s-requires : goal.fallen_to-s-requires
fallen_to-s-requires c =
    let a = c.args in
    rw (ap (λ (vc : Connection). vc.bucket.m) (from_place a.words.now a.w.rotation a.b c.requires.b_value.0)) c.requires.rotation_bound

pub returns-then-words-b-eq0-2 : goal.returns-then-words-b-eq0-2
returns-then-words-b-eq0-2 c =
    let update = c in
    let start = update in
    let a = start.args in
    let vc = connection_at a.words.now a.w.rotation in
    let from = connection_from a.words.now a.b in
    let place = from_place a.words.now a.w.rotation a.b start.requires.b_value.0 in
    brought_none a.w.n a.w.v a.w.t a.words.now a.w.rotation _ (ap has_none (sym place) ∙ none_told from c.if-words-b-eq0.true c.if-words-b-eq0-2.true)
    ∙ ap (brought_both a.w.t vc) (update.fallen_to-s.ensures ∙ fallen_is a.w.t from ∙ rw place)

pub returns : goal.returns
returns c =
    let update = c in
    let start = update in
    let a = start.args in
    let vc = connection_at a.words.now a.w.rotation in
    let from = connection_from a.words.now a.b in
    let place = from_place a.words.now a.w.rotation a.b start.requires.b_value.0 in
    c.bring_both.ensures ∙ ap (brought_both a.w.t vc) (update.fallen_to-s.ensures ∙ fallen_is a.w.t from ∙ rw place)
