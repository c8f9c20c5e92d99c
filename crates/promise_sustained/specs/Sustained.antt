-- REQUEST (iv) of document 02: what a customer with a second bucket may count on. A setup has answered 0, whatever the memory
-- held before, then any calls followed, refused ones among them; h is what was called and said, the newest first, z is V, and kind
-- the line kind. Slots don't wrap. For one opening of a connection, a VC or a path (crate promise_bound, specs/Bound.antt), L = 2^m:
--
--   window      in any w consecutive slots, w at least 1, at most 1 + ((w - 1) × L + C - F) / F of its CLP 0 cells pass untagged,
--               with the second bucket's L, F and C; the / is rounded down. F is at least 1: there is one
--   keeps       these cells keep to the second bucket's rule, as a source does that is told of it
--   untouched   a source that keeps to both rules, of its arrival slots alone, has no cell tagged or excess: to the peak bucket's
--               with all its cells, to the second bucket's with those of CLP 0. Without a second bucket nothing is asked of these
--
--   Spans m F C n a b  == n + 1 cells in a row, the first in slot a and the last in slot b, span at least (n × F - (C - F)) / L
--                      slots, for the m, F and C of a bucket
--   Keeps m F C l   == the slots l, the newest first, keep to the bucket's rule: any n + 1 of them in a row span so many
--   comes kind z v  == a cell of the connection v came, as it leaves the header check, in a slot that was served
--   passes v        == a CLP 0 cell of it was accepted, and so not tagged
--   slots_of p b d   == the slots of the events d, which followed the events b, of which p says yes; the newest first
--   in_slots x w l   == how many of l are in the slots x to x + w - 1
--   Untouched v d   == of the cells of the connection v in the events d none was tagged or excess
use Rattle.std.specs.Prelude.{ℕ, ◌+◌, ◌-◌, ◌*◌, ◌/◌, ◌^◌, ◌≤◌, ◌<◌, ◌≡◌, ◌≢◌, Bool, ◌&&◌, List, [], ◌∷◌, ◌++◌, length, get_or}
use Rattle.meaning.specs.declared.Answer.{Answer}
use Rattle.meaning.specs.Plain.{when◌then◌else◌, ◌<?◌, ◌≤?◌, ◌=?◌}
use Rattle.meaning.specs.Numbers.{accepted, excess, tagged}
use Rattle.meaning.specs.Header.{header_at, clp_in, connection, names_connection}
use Rattle.meaning.specs.Words.{Second}
use Rattle.meaning.specs.State.{State}
use Rattle.meaning.specs.Calls.{Asked, setup}
use Rattle.meaning_runs.specs.Run.{Call, Event, opened, closed, ran, run_of, calls, served}
use Rattle.promise_bound.specs.Bound.{OneOpening}

abbrev pub Spans : ℕ → ℕ → ℕ → ℕ → ℕ → ℕ → Type 0
Spans m F C n a b = n * F ≤ (b - a) * 2 ^ m + (C - F)

abbrev pub Keeps : ℕ → ℕ → ℕ → List ℕ → Type 0
Keeps m F C l = (i n : ℕ) → i + n < length l → Spans m F C n (get_or l (i + n) 0) (get_or l i 0)

-- ── which cells ──
unfoldable pub comes : ℕ → ℕ → ℕ → List ℕ → Answer → Bool
comes kind z v cell a = a.number =? 0 && (names_connection z (header_at kind cell 0) && connection z (header_at kind cell 0) =? v)

unfoldable pub comes_zero : ℕ → ℕ → ℕ → List ℕ → Answer → Bool
comes_zero kind z v cell a = comes kind z v cell a && clp_in cell =? 0

unfoldable pub passes : ℕ → List ℕ → Answer → Bool
passes v cell a = a.vci =? v && (clp_in cell =? 0 && a.verdict =? accepted)

abbrev pub slots_of : (List ℕ → Answer → Bool) → List Event → List Event → List ℕ
slots_of p before [] = []
slots_of p before (opened who vci m F C x number ∷ during) = slots_of p before during
slots_of p before (closed who vci number ∷ during) = slots_of p before during
slots_of p before (ran cell a out ∷ during) =
    when p cell a then served (during ++ before) ∷ slots_of p before during else slots_of p before during

-- all up to the open that began it
abbrev pub begun : {v m F C : ℕ} {h : List Event} → OneOpening v m F C h → List Event
begun {v} {m} {F} {C} o = opened o.operator v m F C o.second 0 ∷ o.before

abbrev pub untagged : {v m F C : ℕ} {h : List Event} → OneOpening v m F C h → List ℕ
untagged {v} o = slots_of (passes v) (begun o) o.during

abbrev pub arrivals : {v m F C : ℕ} {h : List Event} → ℕ → ℕ → OneOpening v m F C h → List ℕ
arrivals {v} kind z o = slots_of (comes kind z v) (begun o) o.during

abbrev pub arrivals_zero : {v m F C : ℕ} {h : List Event} → ℕ → ℕ → OneOpening v m F C h → List ℕ
arrivals_zero {v} kind z o = slots_of (comes_zero kind z v) (begun o) o.during

-- ── what is said of them ──
abbrev pub in_slots : ℕ → ℕ → List ℕ → ℕ
in_slots x w [] = 0
in_slots x w (t ∷ l) = (when x ≤? t && t <? x + w then 1 else 0) + in_slots x w l

-- "1 + floor(((w-1) × L + C - F) / F)"
abbrev pub most : Second → ℕ → ℕ
most x w = 1 + ((w - 1) * 2 ^ x.m + (x.C - x.F)) / x.F

abbrev pub Untouched : ℕ → List Event → Type 0
Untouched v [] = Unit {0}
Untouched v (opened who vci m F C x number ∷ h) = Untouched v h
Untouched v (closed who vci number ∷ h) = Untouched v h
Untouched v (ran cell a out ∷ h) = (a.vci ≡ v → (a.verdict ≢ excess) × (a.verdict ≢ tagged)) × Untouched v h

pub record Sustained (kind z : ℕ) (h : List Event) : Type 0 where
  pub window : (v m F C : ℕ) (o : OneOpening v m F C h) (x w : ℕ) → 1 ≤ o.second.F → 1 ≤ w
      → in_slots x w (untagged o) ≤ most o.second w
  pub keeps : (v m F C : ℕ) (o : OneOpening v m F C h)
      → Keeps o.second.m o.second.F o.second.C (untagged o)
  pub untouched : (v m F C : ℕ) (o : OneOpening v m F C h)
      → Keeps m F C (arrivals kind z o)
      → Keeps o.second.m o.second.F o.second.C (arrivals_zero kind z o)
      → Untouched v o.during

-- of every run from a fresh state
abbrev pub SustainedHolds : Type 0
SustainedHolds = (N z : ℕ) (a : Asked) (lent : State)
    → (setup N z a lent).number ≡ 0
    → (cs : List Call) → Sustained a.kind z (calls (run_of (setup N z a lent).state []) cs).events
