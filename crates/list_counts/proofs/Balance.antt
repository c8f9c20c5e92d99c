-- What waits, followed through a slot: words of which so many cells wait, and what a write of one connection does to them.
use Prim.Native.Nat.{ℕ, ◌+◌, ◌*◌, ◌≤◌, ◌<◌}
use mathlib.Core.Path.{◌≡◌, refl, sym, ap, ◌∙◌}
use mathlib.Core.Bool.{Bool, true, false}
use mathlib.Core.Logic.{◌⊎◌, inl, inr, ⊎_elim, ◌≢◌}
use mathlib.Core.List.{List}
use native.Mathlib.Omega.{arith}
use borrow.Author.Tests.{ltb-true, ltb-false}
use lib.Dec.{eqb, ltb}
use lib.ListN.{length}
use Rattle.meaning.specs.Plain.{when◌then◌else◌, Out, refused, next, needs, ◌and_then◌}
use Rattle.meaning.specs.Numbers.{empty, words_per_connection, connections_in}
use Rattle.meaning.specs.Words.{Connection, connection_at, write_connection}
use Rattle.meaning.specs.Work.{Work, bare_answer}
use Rattle.meaning.proofs.WordsLaws.{write_length, write_read, write_read_other}
use Rattle.list_meaning.specs.Listing.{is_accepted, has_sent}
use Rattle.list_counts.specs.Waiting.{sum_waiting}
use Rattle.list_counts.proofs.Sums.{same_or_not, sum_before, sum_after}

-- ---- what holds of a reading that may be refused

abbrev pub Holds : {A : Type 0} → (A → Type 0) → Out A → Type 0
Holds P refused = 0 ≤ 0
Holds P (next x) = P x

pub holds_then : {A B : Type 0} (Q : A → Type 0) (P : B → Type 0) (x : Out A) (f : A → Out B) → Holds Q x → ((a : A) → Q a → Holds P (f a))
    → Holds P (x and_then f)
holds_then Q P refused f h g = omega arith
holds_then Q P (next x) f h g = g x h

pub holds_if : {A : Type 0} (P : Out A → Type 0) (b : Bool) (x y : Out A) → (b ≡ true → P x) → (b ≡ false → P y) → P (when b then x else y)
holds_if P true x y f g = f refl
holds_if P false x y f g = g refl

pub holds_needs : {A : Type 0} (P : A → Type 0) (b : Bool) (x : Out A) → (b ≡ true → Holds P x) → Holds P (needs b x)
holds_needs P true x f = f refl
holds_needs P false x f = omega arith

abbrev pub one : Bool → ℕ
one b = when b then 1 else 0

module _ (all base : ℕ) where
  -- no closed connection has a cell waiting
  abbrev pub Closed : List ℕ → Type 0
  Closed words = (c : ℕ) → c < all → (connection_at words c).opened ≡ 0 → (connection_at words c).waiting ≡ 0

  -- words of so many connections, of which so many cells wait
  pub record Words (words : List ℕ) (many : ℕ) : Type 0 where
    pub long : length words ≡ words_per_connection * all
    pub sum : sum_waiting all words ≡ many
    pub closed : Closed words

  -- before the departure: what the arrival added
  pub record Quiet (w : Work) : Type 0 where
    pub v_is : connections_in w.state.ctl.v ≡ all
    pub words : Words w.state.words (base + one (is_accepted w.answer))
    pub unsent : w.answer.space ≡ empty
    pub number : w.answer.number ≡ 0

  pub record Fresh (w : Work) : Type 0 where
    pub v_is : connections_in w.state.ctl.v ≡ all
    pub words : Words w.state.words base
    pub bare : w.answer ≡ bare_answer 0

  pub record Done (w : Work) : Type 0 where
    pub v_is : connections_in w.state.ctl.v ≡ all
    pub closed : Closed w.state.words
    pub even : sum_waiting all w.state.words + one (has_sent w.answer) ≡ base + one (is_accepted w.answer)
    pub number : w.answer.number ≡ 0

  -- a write of one connection's words: of an open one below all, with a waiting word that is known
  pub write_words : (l : List ℕ) (many v k : ℕ) (vc : Connection) → Words l many → v < all → vc.opened ≢ 0
      → k + (connection_at l v).waiting ≡ many + vc.waiting → Words (write_connection l v vc) k
  write_words l many v k vc w low open_word e =
      let inside : words_per_connection * v + words_per_connection ≤ length l = omega (arith, w.long, low) in
      record {
        long = write_length l v vc ∙ w.long;
        sum = omega (arith, e, w.sum, sum_after l v vc inside all low);
        closed = λ u h o.
            ⊎_elim
            (λ (q : u ≡ v). absurd (open_word (sym (ap (λ (x : Connection). x.opened) (ap (connection_at (write_connection l v vc)) q ∙ write_read l v vc inside)) ∙ o)))
            (λ (q : u ≢ v).
            let r = write_read_other l v vc u q in
            ap (λ (x : Connection). x.waiting) r ∙ w.closed u h (sym (ap (λ (x : Connection). x.opened) r) ∙ o))
            (same_or_not u v (eqb u v) refl);
      }

  -- a write that keeps the open and the waiting word, of any connection
  pub write_same : (l : List ℕ) (many v : ℕ) (vc : Connection) → Words l many → vc.opened ≡ (connection_at l v).opened → vc.waiting ≡ (connection_at l v).waiting
      → Words (write_connection l v vc) many
  write_same l many v vc w eo ew =
      record {
        long = write_length l v vc ∙ w.long;
        sum = ⊎_elim
            (λ (low : v < all). omega (arith, ew, w.sum, sum_after l v vc (omega (arith, w.long)) all low))
            (λ (high : all ≤ v). omega (arith, w.sum, sum_before l v vc all high))
            (sided v all (ltb v all) refl);
        closed = λ u h o.
            ⊎_elim
            (λ (q : u ≡ v).
            let r : connection_at (write_connection l v vc) u ≡ vc = ap (connection_at (write_connection l v vc)) q ∙ write_read l v vc (omega (arith, w.long, h, q)) in
            let p : (connection_at l u).opened ≡ 0 = ap (λ (x : ℕ). (connection_at l x).opened) q ∙ sym eo ∙ sym (ap (λ (x : Connection). x.opened) r) ∙ o in
            ap (λ (x : Connection). x.waiting) r ∙ ew ∙ sym (ap (λ (x : ℕ). (connection_at l x).waiting) q) ∙ w.closed u h p)
            (λ (q : u ≢ v).
            let r = write_read_other l v vc u q in
            ap (λ (x : Connection). x.waiting) r ∙ w.closed u h (sym (ap (λ (x : Connection). x.opened) r) ∙ o))
            (same_or_not u v (eqb u v) refl);
      }
    where
      sided : (n m : ℕ) (b : Bool) → ltb n m ≡ b → (n < m) ⊎ (m ≤ n)
      sided n m true e = inl (ltb-true n m e)
      sided n m false e = inr (ltb-false n m e)
