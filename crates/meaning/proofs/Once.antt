-- "Each public function's promise determines the answer, and every lent octet and word afterwards, for every input and
-- refusal": two results that a promise allows coincide.
use Prim.Native.Nat.{ℕ}
use mathlib.Core.Path.{◌≡◌, refl, sym, ◌∙◌}
use mathlib.Core.Bool.{Bool, true, false}
use mathlib.Core.List.{List}
use Rattle.meaning.specs.declared.Record.{Record}
use Rattle.meaning.specs.State.{State}
use Rattle.meaning.specs.Header.{Name}
use Rattle.meaning.specs.Words.{Second}
use Rattle.meaning.specs.Calls.{Asked, SetUp, Called}
use Rattle.meaning.specs.Work.{Work}
use Rattle.meaning.specs.Promises.{setup_promise, open_promise, close_promise, slot_promise, LinePromise, AuditPromise}

pub setup_once : (N z : ℕ) (asked : Asked) (lent : State) (a b : SetUp) → setup_promise N z asked lent a → setup_promise N z asked lent b → a ≡ b
setup_once N z asked lent a b p q = p ∙ sym q

pub open_once : (r : Record) (words : List ℕ) (who : ℕ) (name : Name) (m F C : ℕ) (x : Second) (a b : Called)
    → open_promise r words who name m F C x a.number a.words
    → open_promise r words who name m F C x b.number b.words
    → a ≡ b
open_once r words who name m F C x a b p q = p ∙ sym q

pub close_once : (r : Record) (words : List ℕ) (who : ℕ) (name : Name) (a b : Called)
    → close_promise r words who name a.number a.words
    → close_promise r words who name b.number b.words
    → a ≡ b
close_once r words who name a b p q = p ∙ sym q

pub slot_once : (s : State) (cell : List ℕ) (a b : Work) → slot_promise s cell a → slot_promise s cell b → a ≡ b
slot_once s cell a b p q = p ∙ sym q

-- the octets shown, and where they lie
pub line_once : (cells idle : List ℕ) (at_cells at_idle : ℕ × ℕ) (number : ℕ) (a b : List ℕ) (at_a at_b : ℕ × ℕ)
    → LinePromise cells idle at_cells at_idle number a at_a
    → LinePromise cells idle at_cells at_idle number b at_b
    → (a ≡ b) × (at_a.0 ≡ at_b.0) × (at_a.1 ≡ at_b.1)
line_once cells idle at_cells at_idle number a b at_a at_b p q =
    (p.shows ∙ sym q.shows, p.block ∙ sym q.block, p.place ∙ sym q.place)

pub audit_once : (s : State) (a b : Bool) → AuditPromise s a → AuditPromise s b → a ≡ b
audit_once s true b p q = sym (q.holds_yes (p.yes_holds refl))
audit_once s false true p q = p.holds_yes (q.yes_holds refl)
audit_once s false false p q = refl
