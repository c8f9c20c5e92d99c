-- "Each leaves everything as it came": a refused open and a refused close leave every word as it was, `last` among them,
-- though close works out S as of t.
use Prim.Native.Nat.{ℕ}
use mathlib.Core.Path.{◌≡◌, refl}
use mathlib.Core.Logic.{◌≢◌}
use mathlib.Core.Bool.{Bool, true, false, not, ◌&&◌}
use mathlib.Core.List.{List, [], ◌∷◌}
use Rattle.meaning.specs.declared.Record.{Record}
use Rattle.meaning.specs.Plain.{when◌then◌else◌, ◌=?◌}
use Rattle.meaning.specs.Header.{Name, number_in}
use Rattle.meaning.specs.Bucket.{bucket_of, obeys_rules}
use Rattle.meaning.specs.Words.{Second, connection_at, write_connection, second_obeys, opened_connection, closed_connection, debt}
use Rattle.meaning.specs.Calls.{Called, called_of, shared_refusal, open_call, close_call}

-- refusals in their order, then what is done
abbrev told : List (ℕ × Bool) → List ℕ → List ℕ → Called
told [] words after = called_of 0 after
told (k ∷ ks) words after = when k.1 then called_of k.0 words else told ks words after

told_keeps : (ks : List (ℕ × Bool)) (words after : List ℕ) → (told ks words after).number ≢ 0 → (told ks words after).words ≡ words
told_keeps [] words after h = absurd (h refl)
told_keeps ((k, true) ∷ ks) words after h = refl
told_keeps ((k, false) ∷ ks) words after h = told_keeps ks words after h

pub open_refused_keeps : (r : Record) (words : List ℕ) (who : ℕ) (name : Name) (m F C : ℕ) (x : Second) → (open_call r words who name m F C x).number ≢ 0
    → (open_call r words who name m F C x).words ≡ words
unfolding open_call
open_refused_keeps r words who name m F C x =
    let b = bucket_of m F C 0 in
    told_keeps ((shared_refusal r words who name, not (shared_refusal r words who name =? 0))
    ∷ (5, (connection_at words (number_in r.v name)).opened =? 1)
    ∷ (6, not (obeys_rules r.n b))
    ∷ (11, not (second_obeys (bucket_of x.m x.F x.C 0) x.tag))
    ∷ []) words (write_connection words (number_in r.v name) (opened_connection r.t b x))

pub close_refused_keeps : (r : Record) (words : List ℕ) (who : ℕ) (name : Name) → (close_call r words who name).number ≢ 0
    → (close_call r words who name).words ≡ words
unfolding close_call
close_refused_keeps r words who name =
    told_keeps ((shared_refusal r words who name, not (shared_refusal r words who name =? 0))
    ∷ (7, (connection_at words (number_in r.v name)).opened =? 0)
    ∷ (8, not ((connection_at words (number_in r.v name)).waiting =? 0 && debt r.t (connection_at words (number_in r.v name)) =? 0))
    ∷ []) words (write_connection words (number_in r.v name) closed_connection)
