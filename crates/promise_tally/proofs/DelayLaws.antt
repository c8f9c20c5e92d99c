-- The recount by lists alone: cells that come later change no delay that was counted, a departure adds the one of its own cell, and two
-- stretches, the first of which leaves no cell behind, are counted one after the other.
use Prim.Native.Nat.{ℕ, zero, suc, ◌+◌, ◌-◌, ◌≤◌, ◌<◌}
use mathlib.Core.Path.{◌≡◌, refl, sym, ap, ◌∙◌}
use mathlib.Core.List.{List, [], ◌∷◌, ◌++◌, map}
use native.Mathlib.Omega.{arith}
use lib.ListN.{length, get_or}
use Rattle.meaning_runs.specs.Seen.{Cell, Departure, absent_cell, no_departure}
use Rattle.theory_queues.proofs.QueueLaws.{map_length}
use Rattle.promise_tally.specs.Summary.{delays_of}

delays_none : (cs : List Cell) → delays_of cs [] ≡ []
unfolding delays_of
delays_none [] = refl
delays_none (c ∷ cs) = refl

pub delays_more : (cs es : List Cell) (ds : List Departure) → length ds ≤ length cs → delays_of (cs ++ es) ds ≡ delays_of cs ds
unfolding delays_of
delays_more [] es [] h = delays_none es
delays_more [] es (d ∷ ds) h = absurd (omega (arith, h))
delays_more (c ∷ cs) es [] h = refl
delays_more (c ∷ cs) es (d ∷ ds) h = ap {B = List ℕ} (λ l. (d.slot - c.arrival) ∷ l) (delays_more cs es ds (omega (arith, h)))

pub delays_add : (cs : List Cell) (ds : List Departure) (d : Departure) → length ds < length cs
    → delays_of cs (ds ++ (d ∷ [])) ≡ delays_of cs ds ++ ((d.slot - (get_or cs (length ds) absent_cell).arrival) ∷ [])
unfolding delays_of
delays_add [] ds d h = absurd (omega (arith, h))
delays_add (c ∷ cs) [] d h = ap {B = List ℕ} (λ l. (d.slot - c.arrival) ∷ l) (delays_none cs)
delays_add (c ∷ cs) (e ∷ ds) d h = ap {B = List ℕ} (λ l. (e.slot - c.arrival) ∷ l) (delays_add cs ds d (omega (arith, h)))

pub delays_length : (cs : List Cell) (ds : List Departure) → length ds ≤ length cs → length (delays_of cs ds) ≡ length ds
unfolding delays_of
delays_length [] [] h = refl
delays_length [] (d ∷ ds) h = absurd (omega (arith, h))
delays_length (c ∷ cs) [] h = refl
delays_length (c ∷ cs) (d ∷ ds) h = ap suc (delays_length cs ds (omega (arith, h)))

pub delays_at : (cs : List Cell) (ds : List Departure) (k : ℕ) → length ds ≤ length cs → k < length ds
    → get_or (delays_of cs ds) k 0 ≡ (get_or ds k no_departure).slot - (get_or cs k absent_cell).arrival
unfolding delays_of
delays_at [] [] k h low = absurd (omega (arith, low))
delays_at [] (d ∷ ds) k h low = absurd (omega (arith, h))
delays_at (c ∷ cs) [] k h low = absurd (omega (arith, low))
delays_at (c ∷ cs) (d ∷ ds) zero h low = refl
delays_at (c ∷ cs) (d ∷ ds) (suc k) h low = delays_at cs ds k (omega (arith, h)) (omega (arith, low))

-- ── what a delay depends on ──
-- of a cell: its connection, arrival slot and D; the due time is another where the opening came before the listing's beginning
pub record Stamp : Type 0 where
  pub vci : ℕ
  pub arrival : ℕ
  pub D : ℕ

abbrev pub stamp_of : Cell → Stamp
stamp_of c = record { vci = c.vci; arrival = c.arrival; D = c.D }

-- the same, n slots later
abbrev pub later : ℕ → Stamp → Stamp
later n s = record { vci = s.vci; arrival = s.arrival + n; D = s.D }

abbrev pub leaves_later : ℕ → Departure → Departure
leaves_later n d = record { slot = d.slot + n; vci = d.vci; octets = d.octets }

delays_by : List Stamp → List Departure → List ℕ
delays_by [] ds = []
delays_by (c ∷ cs) [] = []
delays_by (c ∷ cs) (d ∷ ds) = (d.slot - c.arrival) ∷ delays_by cs ds

delays_by_lem : (cs : List Cell) (ds : List Departure) → delays_of cs ds ≡ delays_by (map stamp_of cs) ds
unfolding delays_of delays_by
delays_by_lem [] ds = refl
delays_by_lem (c ∷ cs) [] = refl
delays_by_lem (c ∷ cs) (d ∷ ds) = ap {B = List ℕ} (λ l. (d.slot - c.arrival) ∷ l) (delays_by_lem cs ds)

by_append : (xs ys : List Stamp) (ps qs : List Departure) → length xs ≡ length ps
    → delays_by (xs ++ ys) (ps ++ qs) ≡ delays_by xs ps ++ delays_by ys qs
unfolding delays_by
by_append [] ys [] qs e = refl
by_append [] ys (p ∷ ps) qs e = absurd (omega (arith, e))
by_append (x ∷ xs) ys [] qs e = absurd (omega (arith, e))
by_append (x ∷ xs) ys (p ∷ ps) qs e = ap {B = List ℕ} (λ l. (p.slot - x.arrival) ∷ l) (by_append xs ys ps qs (omega (arith, e)))

by_later : (n : ℕ) (xs : List Stamp) (ds : List Departure) → delays_by (map (later n) xs) (map (leaves_later n) ds) ≡ delays_by xs ds
unfolding delays_by
by_later n [] ds = refl
by_later n (x ∷ xs) [] = refl
by_later n (x ∷ xs) (d ∷ ds) =
    ap {B = List ℕ} (λ l. (d.slot + n - (x.arrival + n)) ∷ l) (by_later n xs ds)
    ∙ ap {B = List ℕ} (λ (k : ℕ). k ∷ delays_by xs ds) (omega arith)

-- all is what came first and what came later: cells and departures of both are counted apart
pub delays_apart : (n : ℕ) (all first own : List Cell) (left gone new : List Departure)
    → map stamp_of all ≡ map stamp_of first ++ map (later n) (map stamp_of own)
    → left ≡ gone ++ map (leaves_later n) new
    → length first ≡ length gone
    → delays_of all left ≡ delays_of first gone ++ delays_of own new
delays_apart n all first own left gone new a b e =
    delays_by_lem all left
    ∙ ap (λ (xs : List Stamp). delays_by xs left) a
    ∙ ap (delays_by (map stamp_of first ++ map (later n) (map stamp_of own))) b
    ∙ by_append (map stamp_of first) (map (later n) (map stamp_of own)) gone (map (leaves_later n) new) (map_length stamp_of first ∙ e)
    ∙ ap (λ (l : List ℕ). delays_by (map stamp_of first) gone ++ l) (by_later n (map stamp_of own) new ∙ sym (delays_by_lem own new))
    ∙ ap (λ (l : List ℕ). l ++ delays_of own new) (sym (delays_by_lem first gone))
