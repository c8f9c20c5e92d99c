-- A policer that accepts a cell, goes on serving and never sends breaks demand 3's clause `leaves`, whatever else it does:
-- after enough slots the cell should have left. One that discards everything meets the clauses on events.
use Prim.Native.Nat.{ℕ, zero, suc, ◌+◌, ◌-◌, ◌≤◌, ◌<◌}
use mathlib.Core.Path.{◌≡◌, refl, sym, ap, ◌∙◌, subst}
use mathlib.Core.Bool.{Bool, true, false}
use mathlib.Core.List.{List, [], ◌∷◌, ◌++◌, append_assoc, append-nil}
use native.Mathlib.Omega.{arith}
use native.Mathlib.Nat.{zero-add}
use borrow.Author.Tests.{eq-eqb}
use lib.Dec.{lit<}
use lib.ListN.{length, get_or, replicate, length-append, get_or-append}
use Rattle.meaning.specs.Plain.{when◌then◌else◌}
use Rattle.meaning.specs.Numbers.{ranges_hold, empty, lets_in}
use Rattle.meaning.specs.State.{State}
use Rattle.meaning.specs.Calls.{Kind, UNI, NNI, Options, options_of, Allowed}
use Rattle.meaning.specs.Arrival.{sent_as}
use Rattle.theory_invariant.proofs.FreshLaws.{ranges_are}
use Rattle.meaning.specs.Slot.{slot}
use Rattle.meaning.proofs.OperatorsLaws.{alone_allowed}
use Rattle.meaning_runs.specs.Run.{Call, on_open_with, on_open, on_close, on_slot, Event, Run, let_in, call_at, call, fresh_run, served}
use Rattle.meaning_runs.specs.Leak.{opening_of}
use Rattle.meaning_runs.specs.Seen.{Cell, cell_under, absent_cell, of_connection, cells_in, departures_in, cells_of, departures_of, cell_at}
use Rattle.meaning_runs.specs.Computed.{by_computation}
use Rattle.theory_queues.proofs.OrderLaws.{of_connection_append}
use Rattle.promises.specs.Demand3.{Demand3}
use Rattle.promise_starred.specs.ShutOut.{Policer}
use Rattle.promise_starred.specs.Own.{call_by, calls_by, OnEvents, Meets3, SendsNothing, AcceptsNothing, ServesOn, Stores, keeper, swallower, discarder}

-- they are demand 3's clauses
pub on_events : (N z kind : ℕ) (h : List Event) (s : State) → Demand3 N z kind h s → OnEvents N h
on_events N z kind h s d =
    record {
      was_accepted = d.was_accepted;
      in_order = d.in_order;
      unchanged = d.unchanged;
      not_early = d.not_early;
      not_late = d.not_late;
      leaves = d.leaves;
      delay = d.delay;
    }

module _ (f : Policer) where
  by_append : (r : Run) (cs ds : List Call) → calls_by f r (cs ++ ds) ≡ calls_by f (calls_by f r cs) ds
  unfolding calls_by
  by_append r [] ds = refl
  by_append r (c ∷ cs) ds = by_append (call_by f r c) cs ds

  -- ── nothing is sent ──
  none_departs : (r : Run) → ((cs : List Call) (cell : List ℕ) → (f (calls_by f r cs).state cell).served.answer.space ≡ empty)
      → departures_in r.events ≡ [] → (cs : List Call) → departures_in (calls_by f r cs).events ≡ []
  unfolding calls_by call_by call call_at slot departures_in
  none_departs r never e [] = e
  none_departs r never e (on_open_with who name m F C x ∷ cs) =
      none_departs (call_by f r (on_open_with who name m F C x)) (λ ds. never (on_open_with who name m F C x ∷ ds)) e cs
  none_departs r never e (on_close who name ∷ cs) = none_departs (call_by f r (on_close who name)) (λ ds. never (on_close who name ∷ ds)) e cs
  none_departs r never e (on_slot cell ∷ cs) =
      none_departs (call_by f r (on_slot cell)) (λ ds. never (on_slot cell ∷ ds))
      (rw (eq-eqb (f r.state cell).served.answer.space empty (never [] cell)) e) cs

  -- ── nothing is accepted ──
  none_accepted : (r : Run) → ((cs : List Call) (cell : List ℕ) → lets_in (f (calls_by f r cs).state cell).served.answer.verdict ≡ false)
      → cells_in r.events ≡ [] → (cs : List Call) → cells_in (calls_by f r cs).events ≡ []
  unfolding calls_by call_by call call_at slot cells_in
  none_accepted r never e [] = e
  none_accepted r never e (on_open_with who name m F C x ∷ cs) =
      none_accepted (call_by f r (on_open_with who name m F C x)) (λ ds. never (on_open_with who name m F C x ∷ ds)) e cs
  none_accepted r never e (on_close who name ∷ cs) = none_accepted (call_by f r (on_close who name)) (λ ds. never (on_close who name ∷ ds)) e cs
  none_accepted r never e (on_slot cell ∷ cs) =
      none_accepted (call_by f r (on_slot cell)) (λ ds. never (on_slot cell ∷ ds))
      (rw (never [] cell) e) cs

  -- ── empty slots: the clock goes on, and what was accepted stays ──
  goes_on : (r : Run) → ((cs : List Call) → (f (calls_by f r cs).state []).served.answer.number ≡ 0) → (m : ℕ)
      → served (calls_by f r (replicate m (on_slot []))).events ≡ m + served r.events
  unfolding calls_by call_by served
  goes_on r serves zero = sym (zero-add (served r.events))
  goes_on r serves (suc m) =
      goes_on (call_by f r (on_slot [])) (λ cs. serves (on_slot [] ∷ cs)) m
      ∙ rw (eq-eqb (f r.state []).served.answer.number 0 (serves [])) (omega arith)

  grown : (h : List Event) (c : Cell) (b : Bool) → (ys : List Cell) × ((when b then cells_in h ++ (c ∷ []) else cells_in h) ≡ cells_in h ++ ys)
  grown h c true = (c ∷ [], refl)
  grown h c false = ([], sym (append-nil (cells_in h)))

  cells_stay : (r : Run) (m : ℕ)
      → (ys : List Cell) × (cells_in (calls_by f r (replicate m (on_slot []))).events ≡ cells_in r.events ++ ys)
  unfolding calls_by call_by cells_in
  cells_stay r zero = ([], sym (append-nil (cells_in r.events)))
  cells_stay r (suc m) =
      let a = (f r.state []).served.answer in
      let one = grown r.events (cell_under (served r.events) a (sent_as a.verdict (let_in r.state []).cell) (opening_of a.vci r.events)) (lets_in a.verdict) in
      let rest = cells_stay (call_by f r (on_slot [])) m in
      (one.0 ++ rest.0, rest.1 ∙ ap (λ (l : List Cell). l ++ rest.0) one.1 ∙ append_assoc (cells_in r.events) one.0 rest.0)

  cells_of_lem : (r : Run) (m v : ℕ)
      → (ys : List Cell) × (cells_of v (calls_by f r (replicate m (on_slot []))).events ≡ cells_of v r.events ++ ys)
  unfolding cells_of
  cells_of_lem r m v =
      let g = cells_stay r m in
      (of_connection (λ (c : Cell). c.vci) v g.0, ap (of_connection (λ (c : Cell). c.vci) v) g.1 ∙ of_connection_append (λ (c : Cell). c.vci) v (cells_in r.events) g.0)

-- ── it stores, goes on, and never sends ──
no_departure_lem : (v : ℕ) (h : List Event) → departures_in h ≡ [] → length (departures_of v h) ≡ 0
unfolding departures_of
no_departure_lem v h e = rw e

no_cell : (v : ℕ) (h : List Event) → cells_in h ≡ [] → length (cells_of v h) ≡ 0
unfolding cells_of
no_cell v h e = rw e

pub never_sends_breaks : (o : Options) (f : Policer) → Stores o f → ServesOn o f → SendsNothing o f → Meets3 o f → ⊥
unfolding fresh_run departures_in
never_sends_breaks o f has on silent meets =
    omega (arith, leaves' (omega (arith, g_long, has.stored)) late, no_departure_lem v h' gone)
  where
    v : ℕ
    v = has.vci

    r : Run
    r = calls_by f (fresh_run has.N has.z o) has.before

    -- so many empty slots that the first cell should have left
    m : ℕ
    m = (cell_at v 0 r.events).due + has.N

    cs : List Call
    cs = has.before ++ replicate m (on_slot [])

    h' : List Event
    h' = (calls_by f (fresh_run has.N has.z o) cs).events

    is : h' ≡ (calls_by f r (replicate m (on_slot []))).events
    is = ap (λ (x : Run). x.events) (by_append f (fresh_run has.N has.z o) has.before (replicate m (on_slot [])))

    g : (ys : List Cell) × (cells_of v (calls_by f r (replicate m (on_slot []))).events ≡ cells_of v r.events ++ ys)
    g = cells_of_lem f r m v

    cells_are : cells_of v h' ≡ cells_of v r.events ++ g.0
    cells_are = ap (cells_of v) is ∙ g.1

    g_long : length (cells_of v h') ≡ length (cells_of v r.events) + length g.0
    g_long = ap length cells_are ∙ length-append (cells_of v r.events) g.0

    same_cell : cell_at v 0 h' ≡ cell_at v 0 r.events
    same_cell = ap (λ (l : List Cell). get_or l 0 absent_cell) cells_are ∙ get_or-append (cells_of v r.events) g.0 absent_cell 0 has.stored

    serves : (ds : List Call) → (f (calls_by f r ds).state []).served.answer.number ≡ 0
    serves ds =
        subst (λ (x : Run). (f x.state []).served.answer.number ≡ 0) (by_append f (fresh_run has.N has.z o) has.before ds)
        (on has.N has.z has.allowed (has.before ++ ds))

    lasts : served h' ≡ m + served r.events
    lasts = ap served is ∙ goes_on f r serves m

    low : 1 ≤ has.N
    low = (ranges_are has.N has.z has.allowed.0).N_low

    late : (cell_at v 0 h').due + (has.N - 1) < served h'
    late = omega (arith, ap (λ (c : Cell). c.due) same_cell, lasts, low)

    leaves' : 0 < length (cells_of v h') → (cell_at v 0 h').due + (has.N - 1) < served h' → 0 < length (departures_of v h')
    leaves' = (meets has.N has.z has.allowed cs).leaves v 0

    gone : departures_in h' ≡ []
    gone = none_departs f (fresh_run has.N has.z o) (λ ds cell. silent has.N has.z has.allowed ds cell) refl cs

-- ── such a policer: it takes steps 1 to 4 ──
abbrev clean : List ℕ
clean = 0 ∷ 0 ∷ 0 ∷ 16 ∷ 37 ∷ replicate 48 0

abbrev kept : List Call
kept = on_open 1 2 10 15 ∷ on_slot clean ∷ replicate 4 (on_slot [])

five_allowed : ranges_hold 5 2 ≡ true
unfolding ranges_hold
five_allowed = refl

allowed : (raw : Bool) (kind : Kind) → Allowed 5 2 (options_of raw kind)
allowed raw kind = alone_allowed 5 2 raw kind five_allowed

-- N is 5: its first cell is due in slot 0, and after slot 4 it should have left
pub keeper_breaks : (raw : Bool) (kind : Kind) → Meets3 (options_of raw kind) keeper → ⊥
unfolding by_computation calls_by call_by
keeper_breaks true UNI meets = omega (arith, (meets 5 2 (allowed true UNI) kept).leaves 1 0 (lit< tt) (lit< tt))
keeper_breaks false UNI meets = omega (arith, (meets 5 2 (allowed false UNI) kept).leaves 1 0 (lit< tt) (lit< tt))
keeper_breaks true NNI meets = omega (arith, (meets 5 2 (allowed true NNI) kept).leaves 1 0 (lit< tt) (lit< tt))
keeper_breaks false NNI meets = omega (arith, (meets 5 2 (allowed false NNI) kept).leaves 1 0 (lit< tt) (lit< tt))

-- ── one that meets all that the law asks for: so it speaks of some ──
swallows : (raw : Bool) (kind : Kind) → Stores (options_of raw kind) swallower
unfolding by_computation calls_by call_by
swallows true UNI = record { N = 5; z = 2; allowed = allowed true UNI; before = on_slot clean ∷ []; vci = 1; stored = lit< tt }
swallows false UNI = record { N = 5; z = 2; allowed = allowed false UNI; before = on_slot clean ∷ []; vci = 1; stored = lit< tt }
swallows true NNI = record { N = 5; z = 2; allowed = allowed true NNI; before = on_slot clean ∷ []; vci = 1; stored = lit< tt }
swallows false NNI = record { N = 5; z = 2; allowed = allowed false NNI; before = on_slot clean ∷ []; vci = 1; stored = lit< tt }

pub swallower_breaks : (raw : Bool) (kind : Kind) → Meets3 (options_of raw kind) swallower → ⊥
swallower_breaks raw kind =
    never_sends_breaks (options_of raw kind) swallower (swallows raw kind) (λ N z e cs. refl) (λ N z e cs cell. refl)

-- ── discarding everything ──
pub discards_meets : (o : Options) (f : Policer) → AcceptsNothing o f → SendsNothing o f → Meets3 o f
unfolding fresh_run cells_in departures_in
discards_meets o f refuses silent N z e cs =
    record {
      was_accepted = λ v k b. absurd (omega (arith, b, none v));
      in_order = λ v j k a b. absurd (omega (arith, b, none v));
      unchanged = λ v k b. absurd (omega (arith, b, none v));
      not_early = λ v k b. absurd (omega (arith, b, none v));
      not_late = λ v k b. absurd (omega (arith, b, none v));
      leaves = λ v k b l. absurd (omega (arith, b, empty_handed v));
      delay = λ v k b. absurd (omega (arith, b, empty_handed v));
    }
  where
    h : List Event
    h = (calls_by f (fresh_run N z o) cs).events

    none : (v : ℕ) → length (departures_of v h) ≡ 0
    none v = no_departure_lem v h (none_departs f (fresh_run N z o) (λ ds cell. silent N z e ds cell) refl cs)

    empty_handed : (v : ℕ) → length (cells_of v h) ≡ 0
    empty_handed v = no_cell v h (none_accepted f (fresh_run N z o) (λ ds cell. refuses N z e ds cell) refl cs)

pub discarder_meets : (o : Options) → Meets3 o discarder
unfolding lets_in
discarder_meets o = discards_meets o discarder (λ N z e cs cell. refl) (λ N z e cs cell. refl)
