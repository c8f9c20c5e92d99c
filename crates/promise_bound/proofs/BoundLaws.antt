-- The burst of one opening, from demand 3 and from the spacing of its cells: two of them that leave in a window of w slots
-- are due at most w + N-2 slots apart, so few stand between them.
use Prim.Native.Nat.{ℕ, zero, suc, ◌+◌, ◌-◌, ◌*◌, ◌/◌, ◌^◌, ◌≤◌, ◌<◌}
use mathlib.Core.Path.{◌≡◌, refl, sym, ap, ◌∙◌, subst}
use mathlib.Core.Bool.{true}
use mathlib.Core.List.{List, [], ◌∷◌, ◌++◌, append_assoc}
use native.Mathlib.Nat.{add-mul, suc-mul, le-div_iff_mul-le, div-mul-le_self, div-add-mod', mod-lt, mul-le-mul_right, add-zero, add_assoc}
use native.Mathlib.Omega.{arith}
use lib.ListN.{length, get_or, take, length-take, length-drop, get_or-append}
use lib.Pow.{pow_pos}
use lib.Seq.{get_or-take, get_or-drop}
use borrow.Author.Tests.{leb-true, ltb-true}
use Rattle.meaning.specs.Plain.{when◌then◌else◌, ◌<?◌, ◌≤?◌}
use Rattle.meaning.specs.State.{State}
use Rattle.meaning.specs.Words.{Second}
use Rattle.meaning_runs.specs.Run.{Event, opened, closed, ran}
use Rattle.meaning_runs.specs.Seen.{Departure, departures_in, cells_of, departures_of, absent_cell, no_departure, cell_at, departure_at}
use Rattle.theory_table.proofs.LeakLaws.{and_left, and_right}
use Rattle.promises.specs.Demand3.{Demand3}
use Rattle.promise_bound.specs.Bound.{OneOpening, OfOpening, first, past, gone, is_in_window, leaving, spread, burst, Bound}
use Rattle.promise_bound.proofs.CountLaws.{count, close_few}
use Rattle.promise_bound.proofs.CellLaws.{Grown, grown}
use Rattle.promise_bound.proofs.OpeningLaws.{Under, of_opening}

-- ── numbers ──
-- due times that are x apart are due in slots that are x/L apart
slots_apart : (s t x L : ℕ) → 0 < L → s + x ≤ t → s / L + x / L ≤ t / L
slots_apart s t x L low h =
    (le-div_iff_mul-le low).1 (omega (arith, add-mul (s / L) (x / L) L, div-mul-le_self s L, div-mul-le_self x L, h))

-- due times s and t, n cells apart, of two that leave in the slots p and q of a window
few_between : (N m F x w n s t p q : ℕ) → 1 ≤ N → 0 < F → s + n * F ≤ t → p ≤ s / 2 ^ m + (N - 1) → t / 2 ^ m ≤ q → x ≤ p
    → q < x + w → n < burst N m F w
few_between N m F x w n s t p q low1 low_f apart late early from to =
    omega (arith, (le-div_iff_mul-le {x = n} {y = spread N m w} low_f).1 near)
  where
    L : ℕ
    L = 2 ^ m

    near : n * F ≤ spread N m w
    near =
        omega (
          arith,
          apart,
          div-add-mod' t L,
          mod-lt t (pow_pos m),
          div-mul-le_self s L,
          suc-mul (t / L) L,
          add-mul (s / L) (w + N - 1) L,
          mul-le-mul_right {m = suc (t / L)} {n = s / L + (w + N - 1)} L (omega (arith, low1, late, early, from, to)),
        )

-- ── the rules that each open kept to ──
abbrev pub OpensObey : List Event → Type 0
OpensObey [] = Unit {0}
OpensObey (opened who vci m F C x number ∷ h) = (number ≡ 0 → 2 ^ m ≤ F) × OpensObey h
OpensObey (closed who vci number ∷ h) = OpensObey h
OpensObey (ran cell a out ∷ h) = OpensObey h

obey_of : (later before : List Event) (who v m F C : ℕ) (x : Second) → OpensObey (later ++ (opened who v m F C x 0 ∷ before)) → 2 ^ m ≤ F
obey_of [] before who v m F C x o = o.0 refl
obey_of (opened whose w n G D y number ∷ later) before who v m F C x o = obey_of later before who v m F C x o.1
obey_of (closed whose w number ∷ later) before who v m F C x o = obey_of later before who v m F C x o
obey_of (ran cell a out ∷ later) before who v m F C x o = obey_of later before who v m F C x o

-- ── of one opening ──
pub in_window : (x w : ℕ) (d : Departure) → is_in_window x w d ≡ true → (x ≤ d.slot) × (d.slot < x + w)
in_window x w d e = (
  leb-true x d.slot (and_left (x ≤? d.slot) (d.slot <? x + w) e),
  ltb-true d.slot (x + w) (and_right (x ≤? d.slot) (d.slot <? x + w) e),
)

pub leaving_is : (x w : ℕ) (ds : List Departure) → leaving x w ds ≡ count (is_in_window x w) no_departure ds
leaving_is x w [] = refl
leaving_is x w (d ∷ ds) = ap (λ (n : ℕ). (when is_in_window x w d then 1 else 0) + n) (leaving_is x w ds)

module _ (N z kind : ℕ) (h : List Event) (s : State) (d : Demand3 N z kind h s) (v m F C : ℕ) (o : OneOpening v m F C h) where
  abbrev lasted : List Event
  lasted = o.during ++ (opened o.operator v m F C o.second 0 ∷ o.before)

  under : Under v m F C o.second (first o) lasted
  under = of_opening v m F C o.second o.operator o.during o.before o.lasts

  -- later cells leave them as they are
  cell_is : (k : ℕ) → k < past o → cell_at v k h ≡ cell_at v k lasted
  cell_is k low =
      ap (λ l. cell_at v k l) o.is
      ∙ ap (λ l. get_or l k absent_cell) g.is
      ∙ get_or-append (cells_of v lasted) g.rest absent_cell k low
    where
      g : Grown v (cells_of v lasted) (cells_of v (o.later ++ lasted))
      g = grown v o.later lasted

  slot_is : (k : ℕ) → first o ≤ k → k < past o → (cell_at v k h).due ≡ (cell_at v k h).time / 2 ^ m
  slot_is k low high = rw (cell_is k high) (under.spaced.slot_is k low high)

  times_apart : (k n : ℕ) → first o ≤ k → k + n < past o → (cell_at v k h).time + n * F ≤ (cell_at v (k + n) h).time
  times_apart k n low high =
      rw (cell_is k (omega (arith, high)), cell_is (k + n) high) (under.spaced.apart k n low high)

  pub due_apart : (k n : ℕ) → first o ≤ k → k + n < past o → (cell_at v k h).due + n * F / 2 ^ m ≤ (cell_at v (k + n) h).due
  due_apart k n low high =
      omega (
        arith,
        slot_is k low (omega (arith, high)),
        slot_is (k + n) (omega (arith, low)) high,
        slots_apart (cell_at v k h).time (cell_at v (k + n) h).time (n * F) (2 ^ m) (pow_pos m) (times_apart k n low high),
      )

  -- the i-th of its departures
  abbrev all : List Departure
  all = departures_of v h

  short : length (gone o) ≤ past o - first o
  short = omega (arith, length-drop (first o) (take (past o) all), length-take (past o) all)

  stands : (i : ℕ) → i < length (gone o) → first o + i < length all
  stands i low = omega (arith, low, length-drop (first o) (take (past o) all), length-take (past o) all)

  gone_at : (i : ℕ) → i < length (gone o) → get_or (gone o) i no_departure ≡ departure_at v (first o + i) h
  gone_at i low =
      get_or-drop (first o) (take (past o) all) i no_departure
      ∙ get_or-take (past o) all (first o + i) no_departure (omega (arith, low, short))

  -- a slot for each
  rises : (k n : ℕ) → k + n < length all → (departure_at v k h).slot + n ≤ (departure_at v (k + n) h).slot
  rises k zero low = omega (arith, ap (λ (j : ℕ). (departure_at v j h).slot) (add-zero k))
  rises k (suc n) low =
      omega (
        arith,
        rises k n (omega (arith, low)),
        (d.in_order v (k + n) (k + suc n) (omega arith) low).1,
      )

  -- what demand 3 says of two of them in a window
  module _ (x w i n : ℕ) (low : i + n < length (gone o))
      (e : is_in_window x w (get_or (gone o) i no_departure) ≡ true)
      (f : is_in_window x w (get_or (gone o) (i + n) no_departure) ≡ true) where
    from : x ≤ (departure_at v (first o + i) h).slot
    from = rw (gone_at i (omega (arith, low))) at (in_window x w (get_or (gone o) i no_departure) e).0

    to : (departure_at v (first o + i + n) h).slot < x + w
    to =
        omega (
          arith,
          (in_window x w (get_or (gone o) (i + n) no_departure) f).1,
          ap (λ (a : Departure). a.slot) (gone_at (i + n) low ∙ ap (λ (k : ℕ). departure_at v k h) (sym (add_assoc (first o) i n))),
        )

    here : first o + i + n < length all
    here = omega (arith, stands (i + n) low)

    below : first o + i + n < past o
    below = omega (arith, low, short)

    pub bursts : 1 ≤ N → 2 ^ m ≤ F → n < burst N m F w
    bursts low_n low_f =
        few_between N m F x w n (cell_at v (first o + i) h).time (cell_at v (first o + i + n) h).time
        (departure_at v (first o + i) h).slot (departure_at v (first o + i + n) h).slot
        low_n (omega (arith, low_f, pow_pos m)) (times_apart (first o + i) n (omega arith) below)
        (omega (
          arith,
          d.not_late v (first o + i) (omega (arith, here)),
          slot_is (first o + i) (omega arith) (omega (arith, below)),
        ))
        (omega (arith, d.not_early v (first o + i + n) here, slot_is (first o + i + n) (omega arith) below))
        from to

    pub one_a_slot : n < w
    one_a_slot = omega (arith, rises (first o + i) n here, from, to)

  pub window : 1 ≤ N → 2 ^ m ≤ F → (x w : ℕ) → leaving x w (gone o) ≤ burst N m F w
  window low_n low_f x w =
      omega (
        arith,
        leaving_is x w (gone o),
        close_few (is_in_window x w) no_departure (gone o) (burst N m F w) (λ i n low e f. bursts x w i n low e f low_n low_f),
      )

  pub never_more : (x w : ℕ) → leaving x w (gone o) ≤ w
  never_more x w =
      omega (arith, leaving_is x w (gone o), close_few (is_in_window x w) no_departure (gone o) w (λ i n low e f. one_a_slot x w i n low e f))

-- ── of a run that demand 3 holds of ──
pub bounded : (N z kind : ℕ) (h : List Event) (s : State) → 1 ≤ N → OpensObey h
    → ((x w : ℕ) → leaving x w (departures_in h) ≤ w) → ((v k : ℕ) → k < length (cells_of v h) → OfOpening v k h)
    → Demand3 N z kind h s → Bound N h
bounded N z kind h s low_n obey line every d =
    record {
      due_apart = λ v m F C o k n low high. omega (arith, due_apart N z kind h s d v m F C o k n low high);
      window = λ v m F C o x w some. window N z kind h s d v m F C o low_n (rules v m F C o) x w;
      never_more = λ v m F C o x w. omega (arith, never_more N z kind h s d v m F C o x w);
      whole_line = line;
      every_cell = every;
    }
  where
    rules : (v m F C : ℕ) → OneOpening v m F C h → 2 ^ m ≤ F
    rules v m F C o =
        obey_of (o.later ++ o.during) o.before o.operator v m F C o.second
        (subst OpensObey (o.is ∙ sym (append_assoc o.later o.during (opened o.operator v m F C o.second 0 ∷ o.before))) obey)
