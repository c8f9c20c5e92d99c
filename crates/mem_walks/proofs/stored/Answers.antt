-- `mem_walks::stored` says whether all lists together use both budgets up: at each return by the law of what the walks leave.
use mathlib.Core.Path.{◌≡◌, refl, sym, ap, ◌∙◌}
use mathlib.Core.Bool.{◌&&◌}
use Rattle.std.specs.List.{list_all}
use Rattle.meaning.specs.Plain.{◌=?◌}
use Rattle.mem_walks.specs.Walk.{Walked, walked}
use Rattle.mem_walks.proofs.StoredLaws.{stored_yes, stored_no}
use Rattle.mem_walks.proofs.stored.Goals as goal
use Rattle.mem_walks.proofs.stored.Goals.{then-lists, else-lists}

pub returns-then-gone : goal.returns-then-gone
returns-then-gone c =
    let r = walked c.lists.result c.lists.new.spaces c.lists.new.waits in
    let v : c.if-lists.value ≡ (r.ok && list_all (λ left. left =? 0) r.spaces) = elim c.if-lists.branch [
      | then-lists w ↦ rw w.if-lists.true (w.value-is ∙ w.gone.ensures)
      | else-lists w ↦ w.value-is ∙ w.if-lists.false ∙ rw w.if-lists.false refl
    ] in
    let all : c.gone-then-gone.result ≡ (r.ok && list_all (λ left. left =? 0) r.spaces && list_all (λ left. left =? 0) r.waits) =
    rw (sym v ∙ c.if-gone.true) c.gone-then-gone.ensures in
    record {
      yes = (λ h. stored_yes _ _ _ _ _ _ _ r c.lists.ensures (sym all ∙ h));
      no = (λ t. all ∙ stored_no _ _ _ _ _ _ _ r c.lists.ensures c.requires t);
      left = (ap (λ (z : Walked). z.spaces) c.lists.ensures, ap (λ (z : Walked). z.waits) c.lists.ensures);
    }

pub returns-else-gone : goal.returns-else-gone
returns-else-gone c =
    let r = walked c.lists.result c.lists.new.spaces c.lists.new.waits in
    let v : c.if-lists.value ≡ (r.ok && list_all (λ left. left =? 0) r.spaces) = elim c.if-lists.branch [
      | then-lists w ↦ rw w.if-lists.true (w.value-is ∙ w.gone.ensures)
      | else-lists w ↦ w.value-is ∙ w.if-lists.false ∙ rw w.if-lists.false refl
    ] in
    let all : c.if-lists.value ≡ (r.ok && list_all (λ left. left =? 0) r.spaces && list_all (λ left. left =? 0) r.waits) =
    c.if-gone.false ∙ rw (sym v ∙ c.if-gone.false) refl in
    record {
      yes = (λ h. stored_yes _ _ _ _ _ _ _ r c.lists.ensures (sym all ∙ h));
      no = (λ t. all ∙ stored_no _ _ _ _ _ _ _ r c.lists.ensures c.requires t);
      left = (ap (λ (z : Walked). z.spaces) c.lists.ensures, ap (λ (z : Walked). z.waits) c.lists.ensures);
    }
