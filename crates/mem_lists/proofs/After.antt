-- Memory once a cell has been accepted: its header stands in its space, and its connection is open and counts it; every other header,
-- open word and waiting stays.
use Prim.Native.Nat.{ℕ, ◌+◌, ◌*◌, ◌≤◌}
use mathlib.Core.Path.{◌≡◌, refl, ◌∙◌, ap}
use mathlib.Core.Logic.{◌≢◌}
use mathlib.Core.Bool.{Bool, true, false}
use mathlib.Core.List.{List}
use native.Mathlib.Omega.{arith}
use lib.ListN.{length, get_or, set, length-set}
use lib.Seq.{get_or-set_same, get_or-set_other}
use Rattle.meaning.specs.Plain.{when◌then◌else◌}
use Rattle.meaning.specs.Numbers.{open_place, s_place, last_place, second_splace, waiting_place, words_per_connection, connection_place}
use Rattle.meaning.specs.State.{write_cell}
use Rattle.meaning.specs.Header.{header_at}
use Rattle.meaning.specs.Words.{connection_at}
use Rattle.meaning.proofs.CellsLaws.{header_own, header_other}
use Rattle.leaf_header.specs.Name.{numbered}
use Rattle.mem_lists.specs.Spaces.{Stored, Counted}

-- ---- the cells
pub stored : (z kind own x : ℕ) (cells cell : List ℕ) → 53 * x + 53 ≤ length cells → length cell ≡ 53
    → numbered kind z (header_at kind cell 0) ≡ own
    → Stored z kind own x cells (write_cell cells x cell)
stored z kind own x cells cell inside long named =
    record {
      named_own = ap (numbered kind z) (header_own cells x cell inside long kind) ∙ named;
      others = λ y ne. header_other cells x cell inside long kind y ne;
    }

-- ---- words of which each connection's open word and waiting are kept
pub record Kept (words words₂ : List ℕ) : Type 0 where
  pub long : length words₂ ≡ length words
  pub opened : (u : ℕ) → get_or words₂ (open_place u) 0 ≡ get_or words (open_place u) 0
  pub waiting : (u : ℕ) → get_or words₂ (waiting_place u) 0 ≡ get_or words (waiting_place u) 0

-- a word written that is neither an open word nor waiting
kept_set : (words : List ℕ) (i a : ℕ) → ((u : ℕ) → open_place u ≢ i) → ((u : ℕ) → waiting_place u ≢ i) → Kept words (set words i a)
kept_set words i a open-far waiting-far =
    record {
      long = length-set words i a;
      opened = λ u. get_or-set_other words i (open_place u) a 0 (open-far u);
      waiting = λ u. get_or-set_other words i (waiting_place u) a 0 (waiting-far u);
    }

then_kept : (a b c : List ℕ) → Kept a b → Kept b c → Kept a c
then_kept a b c p q =
    record {
      long = q.long ∙ p.long;
      opened = λ u. q.opened u ∙ p.opened u;
      waiting = λ u. q.waiting u ∙ p.waiting u;
    }

kept_both : (r S t : ℕ) (words : List ℕ) → Kept words (set (set words (s_place r) S) (last_place r) t)
kept_both r S t words =
    then_kept _ _ _ (kept_set words (s_place r) S (λ u e. omega arith) (λ u e. omega arith))
    (kept_set (set words (s_place r) S) (last_place r) t (λ u e. omega arith) (λ u e. omega arith))

kept_second : (r S : ℕ) (words : List ℕ) → Kept words (set words (second_splace r) S)
kept_second r S words = kept_set words (second_splace r) S (λ u e. omega arith) (λ u e. omega arith)

-- S and last of a connection written, where on
pub kept_fall : (on : Bool) (r S S₂ t : ℕ) (words : List ℕ)
    → Kept words (when on then set (set (set words (s_place r) S) (last_place r) t) (second_splace r) S₂ else words)
kept_fall false r S S₂ t words = record { long = refl; opened = λ u. refl; waiting = λ u. refl }
kept_fall true r S S₂ t words = then_kept _ _ _ (kept_both r S t words) (kept_second r S₂ _)

-- ---- the words
module _ (N own S S₂ t w : ℕ) (words words₂ : List ℕ) (kept : Kept words words₂) where
  abbrev was : List ℕ
  was = set (set words₂ (s_place own) S) (last_place own) t

  abbrev waits : List ℕ
  waits = set was (waiting_place own) w

  pub counted : connection_place own + words_per_connection ≤ length words → (connection_at words own).opened ≡ 1 → 1 ≤ w → w ≤ N
      → Counted N own words (set waits (second_splace own) S₂)
  unfolding connection_at
  counted inside opened some most =
      record {
        open_own = open_word own ∙ opened;
        some_own = rw own_waiting some;
        most_own = rw own_waiting most;
        opened_others = λ u ne. open_word u;
        waiting_others = λ u ne.
            last.waiting u
            ∙ get_or-set_other was (waiting_place own) (waiting_place u) w 0 (λ e. ne (omega arith))
            ∙ fall.waiting u
            ∙ kept.waiting u;
      }
    where
      fall : Kept words₂ was
      fall = kept_both own S t words₂

      last : Kept waits (set waits (second_splace own) S₂)
      last = kept_second own S₂ waits

      open_word : (u : ℕ) → get_or (set waits (second_splace own) S₂) (open_place u) 0 ≡ get_or words (open_place u) 0
      open_word u =
          last.opened u
          ∙ get_or-set_other was (waiting_place own) (open_place u) w 0 (λ e. omega arith)
          ∙ fall.opened u
          ∙ kept.opened u

      own_waiting : get_or (set waits (second_splace own) S₂) (waiting_place own) 0 ≡ w
      own_waiting =
          last.waiting own
          ∙ get_or-set_same was (waiting_place own) w 0 (omega (arith, fall.long, kept.long))
