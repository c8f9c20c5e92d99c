-- `leaf_bucket::obeys_rules` meets its contract: the five tests of rule 6 in turn.
use Rattle.std.proofs.Common.{◌≡◌, ◌^◌, ◌∙◌, ◌&&◌, refl, ap, le-leb}
use borrow.Author.Tests.{lt-leb}
use Rattle.meaning.specs.Plain.{◌≤?◌}
use Rattle.leaf_bucket.proofs.Rules.{rules_last, rules_stop}
use Rattle.leaf_bucket.proofs.obeys_rules.Goals as goal
use Rattle.leaf_bucket.proofs.obeys_rules.Goals.{then-m-le15, else-m-le15, then-rate-f, else-rate-f, then-f-le16777216, else-f-le16777216}

pub returns-then-f-c : goal.returns-then-f-c
returns-then-f-c c =
    let a = c.args in
    let v1 : c.if-m-le15.value ≡ (a.m ≤? 15 && 2 ^ a.m ≤? a.f) = elim c.if-m-le15.branch [
      | then-m-le15 w ↦ rw (le-leb a.m 15 w.if-m-le15.true) (w.value-is ∙ ap (λ x. x ≤? a.f) w.rate.ensures)
      | else-m-le15 w ↦ w.value-is ∙ lt-leb a.m 15 w.if-m-le15.false ∙ rw (lt-leb a.m 15 w.if-m-le15.false) refl
    ] in
    let v2 : c.if-rate-f.value ≡ (c.if-m-le15.value && a.f ≤? 16777216) = elim c.if-rate-f.branch [
      | then-rate-f w ↦ rw w.if-rate-f.true w.value-is
      | else-rate-f w ↦ w.value-is ∙ w.if-rate-f.false ∙ rw w.if-rate-f.false refl
    ] in
    let v3 : c.if-f-le16777216.value ≡ (c.if-rate-f.value && a.f ≤? a.c) = elim c.if-f-le16777216.branch [
      | then-f-le16777216 w ↦ rw w.if-f-le16777216.true w.value-is
      | else-f-le16777216 w ↦ w.value-is ∙ w.if-f-le16777216.false ∙ rw w.if-f-le16777216.false refl
    ] in
    rules_last a.n a.m a.f a.c _ (v3 ∙ rw (v2, v1) refl) c.from.result c.from.ensures c.if-f-c.true

pub returns-else-f-c : goal.returns-else-f-c
returns-else-f-c c =
    let a = c.args in
    let v1 : c.if-m-le15.value ≡ (a.m ≤? 15 && 2 ^ a.m ≤? a.f) = elim c.if-m-le15.branch [
      | then-m-le15 w ↦ rw (le-leb a.m 15 w.if-m-le15.true) (w.value-is ∙ ap (λ x. x ≤? a.f) w.rate.ensures)
      | else-m-le15 w ↦ w.value-is ∙ lt-leb a.m 15 w.if-m-le15.false ∙ rw (lt-leb a.m 15 w.if-m-le15.false) refl
    ] in
    let v2 : c.if-rate-f.value ≡ (c.if-m-le15.value && a.f ≤? 16777216) = elim c.if-rate-f.branch [
      | then-rate-f w ↦ rw w.if-rate-f.true w.value-is
      | else-rate-f w ↦ w.value-is ∙ w.if-rate-f.false ∙ rw w.if-rate-f.false refl
    ] in
    let v3 : c.if-f-le16777216.value ≡ (c.if-rate-f.value && a.f ≤? a.c) = elim c.if-f-le16777216.branch [
      | then-f-le16777216 w ↦ rw w.if-f-le16777216.true w.value-is
      | else-f-le16777216 w ↦ w.value-is ∙ w.if-f-le16777216.false ∙ rw w.if-f-le16777216.false refl
    ] in
    rules_stop a.n a.m a.f a.c _ (v3 ∙ rw (v2, v1) refl) c.if-f-c.false
