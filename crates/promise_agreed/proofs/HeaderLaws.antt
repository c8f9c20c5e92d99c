-- What the policer's judgement is of a cell whose header names the connection, and that no other cell is let in with its number.
use Prim.Native.Nat.{ℕ}
use mathlib.Core.Path.{◌≡◌, refl}
use mathlib.Core.Bool.{Bool, true, false, not, ◌&&◌, ◌||◌}
use mathlib.Core.List.{List}
use mathlib.Core.Option.{Option, none, some}
use lib.ListN.{length}
use Rattle.meaning.specs.Plain.{when◌then◌else◌, ◌=?◌}
use Rattle.meaning.specs.Numbers.{lets_in}
use Rattle.meaning.specs.Header.{Header, header_at, clp_in, no_user_cell, connection, names_connection}
use Rattle.meaning_runs.specs.Leak.{Opening, verdict_by}
use Rattle.meaning_runs.specs.Judged.{judged_of, judged_under, judged_by}

pub and_no : (b : Bool) → b && false ≡ false
and_no true = refl
and_no false = refl

pub named : (kind z t : ℕ) (op : ℕ → Option Opening) (cell : List ℕ) (o : Opening)
    → length cell =? 0 || no_user_cell (header_at kind cell 0) ≡ false → names_connection z (header_at kind cell 0) ≡ true
    → op (connection z (header_at kind cell 0)) ≡ some o
    → judged_by kind z t op cell
    ≡ judged_under t (header_at kind cell 0).vci (connection z (header_at kind cell 0)) (clp_in cell) (some o)
unfolding judged_by
named kind z t op cell o user n q = rw (user, n, q) refl

-- no other cell is let in with the number v
pub others : (kind z t v : ℕ) (op : ℕ → Option Opening) (cell : List ℕ)
    → (names_connection z (header_at kind cell 0) && connection z (header_at kind cell 0) =? v) ≡ false
    → (lets_in (judged_by kind z t op cell).verdict && (judged_by kind z t op cell).vci =? v) ≡ false
unfolding judged_by lets_in
others kind z t v op cell = go (length cell =? 0 || no_user_cell hd) (names_connection z hd) (op u)
  where
    hd : Header
    hd = header_at kind cell 0

    u : ℕ
    u = connection z hd

    under : (o : Option Opening) → (u =? v) ≡ false
        → let j = judged_under t hd.vci u (clp_in cell) o in
        (lets_in j.verdict && j.vci =? v) ≡ false
    under none e = refl
    under (some o) e = rw e (and_no (lets_in (verdict_by o (clp_in cell) t)))

    go : (x y : Bool) (o : Option Opening) → (y && u =? v) ≡ false
        → let j = (when x then judged_of 0 0 0
        else when not y then judged_of 3 hd.vci 0 else judged_under t hd.vci u (clp_in cell) o) in
        (lets_in j.verdict && j.vci =? v) ≡ false
    go true y o e = refl
    go false false o e = refl
    go false true o e = under o e
