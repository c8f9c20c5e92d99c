-- What a line adds: how many octets, and that it is the step of a text written line by line.
use Prim.Native.Nat.{ℕ, zero, suc, ◌+◌, ◌*◌, ◌/◌, ◌≤◌, ◌<◌}
use mathlib.Core.Path.{◌≡◌, refl, sym, ap, ◌∙◌}
use mathlib.Core.Bool.{Bool}
use mathlib.Core.List.{List, [], ◌++◌, append_assoc, append-nil}
use native.Mathlib.Decide.{ℕ_discrete}
use native.Mathlib.Numerals.{add-one}
use native.Mathlib.Omega.{arith}
use borrow.Author.Tests.{eq-eqb, ne_eqb}
use lib.ListN.{length, take, length-append}
use lib.Seq.{length-take-le}
use Rattle.meaning.specs.Plain.{when◌then◌else◌}
use Rattle.text_meaning.specs.Events.{full, sl_of, fulls, rest_of}
use Rattle.text_trip.specs.Flow.{flow, step}
use Rattle.text_line.specs.declared.Line.{Line}
use Rattle.text_line.specs.declared.Line.TheVariants.{Record, Pause}
use Rattle.text_line.specs.Found.{event_found, LongWithin}
use Rattle.text_write.specs.Adds.{adds, rest_long, adds_long, leaves}

fulls_after : (k : ℕ) → fulls (suc k) ≡ fulls k ++ sl_of full
unfolding fulls
fulls_after zero = append-nil (sl_of full)
fulls_after (suc k) =
    ap (λ (x : List ℕ). sl_of full ++ x) (fulls_after k) ∙ sym (append_assoc (sl_of full) (fulls k) (sl_of full))

-- one full record more, at the end
pub fulls_more : (k : ℕ) → fulls (k + 1) ≡ fulls k ++ sl_of full
fulls_more k = ap fulls (add-one k) ∙ fulls_after k

pub fulls_none : fulls 0 ≡ []
unfolding fulls
fulls_none = refl

fulls_long : (k : ℕ) → length (fulls k) ≡ 4 * k
unfolding fulls
fulls_long zero = refl
fulls_long (suc k) = length-append (sl_of full) (fulls k) ∙ ap (λ (n : ℕ). 4 + n) (fulls_long k) ∙ omega arith

pub rest_none : (r : ℕ) → r ≡ 0 → rest_of r ≡ []
unfolding rest_of
rest_none r h = ap (λ (b : Bool). when b then [] else sl_of r) (eq-eqb r 0 h)

pub rest_some : (r : ℕ) → (r ≡ 0 → ⊥) → rest_of r ≡ sl_of r
unfolding rest_of
rest_some r h = ap (λ (b : Bool). when b then [] else sl_of r) (ne_eqb r 0 h)

pub long_none : (r : ℕ) → r ≡ 0 → rest_long r ≡ 0
unfolding rest_long
long_none r h = ap (λ (b : Bool). when b then 0 else 4) (eq-eqb r 0 h)

pub long_some : (r : ℕ) → (r ≡ 0 → ⊥) → rest_long r ≡ 4
unfolding rest_long
long_some r h = ap (λ (b : Bool). when b then 0 else 4) (ne_eqb r 0 h)

pub rest_long_lem : (r : ℕ) → length (rest_of r) ≡ rest_long r
rest_long_lem r = go (ℕ_discrete r 0)
  where
    go : Dec (r ≡ 0) → length (rest_of r) ≡ rest_long r
    go (yes h) = ap length (rest_none r h) ∙ sym (long_none r h)
    go (no h) = ap length (rest_some r h) ∙ sym (long_some r h)

-- a line by what it says
pub adds_long_lem : (rest : ℕ) (rec : List ℕ) (l : Line) → LongWithin l → 55 ≤ length rec → length (adds rest (event_found rec l)) ≡ adds_long rest l
adds_long_lem rest rec (Record long) w h =
    length-append (rest_of rest) (take long rec) ∙ ap (λ (k : ℕ). k + length (take long rec)) (rest_long_lem rest) ∙ ap (λ (k : ℕ). rest_long rest + k) (length-take-le long rec (omega (arith, w.1)))
adds_long_lem rest rec (Pause n) w h = fulls_long ((rest + n) / full)

pub step_adds : (before : List ℕ) (rest : ℕ) (rec : List ℕ) (l : Line) → step (flow before rest) (event_found rec l) ≡ flow (before ++ adds rest (event_found rec l)) (leaves rest l)
unfolding step
step_adds before rest rec (Record long) = refl
step_adds before rest rec (Pause n) = refl

pub leaves_less : (rest : ℕ) (l : Line) → leaves rest l < full
leaves_less rest (Record long) = omega arith
leaves_less rest (Pause n) = omega arith
