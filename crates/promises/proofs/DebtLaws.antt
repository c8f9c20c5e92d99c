-- Request (ii) over runs: the words say what the exact leak rule owes, so close answers 0 exactly when all has left and
-- last due + F is at most t × L; at every close that was so, and time only goes on.
use Prim.Native.Nat.{ℕ, zero, suc, ◌+◌, ◌-◌, ◌*◌, ◌≤◌, ◌<◌}
use mathlib.Core.Path.{◌≡◌, refl, sym, ap, ◌∙◌, subst}
use mathlib.Core.Logic.{◌≢◌, ◌↔◌}
use mathlib.Core.Bool.{Bool, true, false, not, ◌&&◌}
use mathlib.Core.List.{List, [], ◌∷◌, ◌++◌, map}
use mathlib.Core.Option.{Option, none, some}
use native.Mathlib.Decide.{ℕ_discrete}
use native.Mathlib.Nat.{add-mul, suc-mul, le-div_iff_mul-le, mul_comm, mul_assoc, mul-le-mul_right}
use native.Mathlib.Omega.{arith}
use lib.ListN.{length}
use lib.Pow.{pow_pos}
use borrow.Author.Tests.{eq-eqb, ne_eqb, eqb-true}
use Rattle.meaning.specs.Plain.{when◌then◌else◌, ◌=?◌}
use Rattle.meaning.specs.Numbers.{ranges_hold, connections_in, unused}
use Rattle.meaning.specs.State.{State}
use Rattle.meaning.specs.Header.{Name, named, number_in}
use Rattle.meaning.specs.Operators.{owns}
use Rattle.meaning.specs.Words.{Connection, connection_at, write_connection, closed_connection, debt}
use Rattle.meaning.specs.Calls.{Options, kind_number, Allowed, called_of, close_call}
use Rattle.meaning.proofs.NamesLaws.{number_low, number_used}
use Rattle.meaning.specs.Slot.{slot}
use Rattle.meaning_runs.specs.Run.{Call, on_open_with, on_close, on_slot, Event, opened, closed, ran, Run, call_at, call, calls, fresh_run, served}
use Rattle.meaning_runs.specs.Leak.{Opening, parts, due_time, opening_of}
use Rattle.meaning_runs.specs.Seen.{of_connection, cells_of, departures_of, cell_at}
use Rattle.theory_queues.specs.Queue.{sum, flat, turn}
use Rattle.theory_queues.proofs.QueueLaws.{sum_append, sums_flat, turn_sums}
use Rattle.theory_queues.proofs.OrderLaws.{of_connection_yes, of_connection_no}
use Rattle.theory_chains.proofs.CountLaws.{is_yes, is_no}
use Rattle.theory_table.specs.Stored.{earliest_after, earliest, level, OpenConnection, ConnectionIs}
use Rattle.theory_table.proofs.LeakLaws.{due_time_lem}
use Rattle.theory_table.proofs.ConnectionLaws.{debt_is}
use Rattle.theory_memory.specs.Held.{Queued, vci_of}
use Rattle.theory_invariant.specs.Invariant.{cell_in, connection_in, is_of, waits, Inv}
use Rattle.theory_invariant.proofs.LengthLaws.{connections_few}
use Rattle.theory_invariant.proofs.CallLaws.{shared_in, shared_foreign, shared_out}
use Rattle.theory_invariant.proofs.RunLaws.{Kept, call_kept, calls_kept, run_kept}
use Rattle.promises.specs.Debt.{last_slot, PaidAfter, Paid, AllLeft, Across, Debt, rounded_up, Refused}
use Rattle.promises.proofs.Demand3Laws.{waiting, many_left, many_cells, demanded}

-- ── what close answers of an open connection, by waiting and what is left of S ──
abbrev answered_by : Bool → Bool → ℕ
answered_by a b = when not (a && b) then 8 else 0

abbrev answered : ℕ → ℕ → ℕ
answered w d = answered_by (w =? 0) (d =? 0)

none_by : (a b : Bool) → answered_by a b ≡ 0 → (a ≡ true) × (b ≡ true)
none_by true true e = (refl, refl)
none_by true false e = absurd (omega arith)
none_by false b e = absurd (omega arith)

eight_by : (a b : Bool) → answered_by a b ≢ 0 → answered_by a b ≡ 8
eight_by true true ne = absurd (ne refl)
eight_by true false ne = refl
eight_by false b ne = refl

answered_none : (w d : ℕ) → (answered w d ≡ 0) ↔ ((w ≡ 0) × (d ≡ 0))
answered_none w d = (
  λ e. let p = none_by (w =? 0) (d =? 0) e in (eqb-true w 0 p.0, eqb-true d 0 p.1),
  λ e. rw (eq-eqb w 0 e.0, eq-eqb d 0 e.1),
)

-- nothing is left of S exactly when the next cell's earliest due time has come
paid_after : (L F t : ℕ) (p : Option ℕ) → (earliest_after F p - t * L ≡ 0) ↔ PaidAfter L F t p
paid_after L F t none = (λ e. tt, λ e. omega arith)
paid_after L F t (some p) = (λ e. omega (arith, e), λ e. omega (arith, e))

-- cells of the connection v in a list of queued ones
count_is : (v : ℕ) (q : List Queued) → length (of_connection connection_in v (map cell_in q)) ≡ sum (is_of v) q
count_is v [] = refl
count_is v (c ∷ q) = go (count_is v q) (ℕ_discrete (vci_of c) v)
  where
    go : length (of_connection connection_in v (map cell_in q)) ≡ sum (is_of v) q → Dec (vci_of c ≡ v)
        → length (of_connection connection_in v (cell_in c ∷ map cell_in q)) ≡ is_of v c + sum (is_of v) q
    go rest (yes e) =
        ap length (of_connection_yes connection_in v (cell_in c) (map cell_in q) e)
        ∙ omega (arith, rest, is_yes v (vci_of c) (sym e))
    go rest (no ne) =
        ap length (of_connection_no connection_in v (cell_in c) (map cell_in q) ne)
        ∙ omega (arith, rest, is_no v (vci_of c) (λ e. ne (sym e)))

-- ── after one run ──
module _ (N z kind : ℕ) (h : List Event) (s : State) (i : Inv N z kind h s) where
  many_waiting : (v : ℕ) → length (waiting N z kind h s i v) ≡ waits v i.out (turn i.cal)
  many_waiting v =
      omega (
        arith,
        count_is v (i.out ++ flat i.cal),
        sum_append (is_of v) i.out (flat i.cal),
        sums_flat (is_of v) i.cal,
        turn_sums (is_of v) i.cal,
      )

  module _ (name : Name) (o : Opening) (n : named z name ≡ true) (e : opening_of (number_in z name) h ≡ some o) where
    abbrev v : ℕ
    v = number_in z name

    h1 : unused z v ≡ false
    h1 = number_used z name n

    h2 : v < connections_in z
    h2 = number_low z name n

    -- as the record has it
    v_same : number_in s.ctl.v name ≡ v
    v_same = ap (λ (k : ℕ). number_in k name) i.stage.v_is

    is_open : OpenConnection N (connections_in z) (served h) v (connection_at s.words v) (waits v i.out (turn i.cal)) o
    is_open =
        subst (λ (a : Option Opening). ConnectionIs N (connections_in z) (served h) v (connection_at s.words v) (waits v i.out (turn i.cal)) a) e
        (i.stage.table v h1 h2)

    pub counted : length (departures_of (number_in z name) h) + (connection_at s.words (number_in z name)).waiting
        ≡ length (cells_of (number_in z name) h)
    counted =
        omega (
          arith,
          many_left N z kind h s i v,
          many_cells N z kind h s i v,
          many_waiting v,
          ap (λ (c : Connection). c.waiting) is_open.is,
        )

    -- what is left in the bucket as of the slot served last
    pub owes : debt s.ctl.t (connection_at s.words (number_in z name)) ≡ level o (served h)
    owes =
        ap (λ (t : ℕ). debt t (connection_at s.words v)) i.stage.t_is
        ∙ debt_is N (connections_in z) (connections_few N z i.stage.ranges) (served h) v (connection_at s.words v) (waits v i.out (turn i.cal)) o h2
        is_open

    told : (b : Bool) (x : List ℕ) → (when b then called_of 8 s.words else called_of 0 x).number ≡ (when b then 8 else 0)
    told true x = refl
    told false x = refl

    number_is : (who : ℕ) → owns s.ctl who name ≡ true → (close_call s.ctl s.words who name).number
        ≡ answered (connection_at s.words v).waiting (debt s.ctl.t (connection_at s.words v))
    unfolding close_call
    number_is who own =
        rw (
          shared_in N z kind h s i who name (ap (λ (k : ℕ). named k name) i.stage.v_is ∙ n) own,
          v_same,
          ne_eqb (connection_at s.words v).opened 0 (λ y. omega (arith, y, ap (λ (c : Connection). c.opened) is_open.is)),
        )
        (told (not ((connection_at s.words v).waiting =? 0 && debt s.ctl.t (connection_at s.words v) =? 0))
        (write_connection s.words v closed_connection))

    abbrev w : ℕ
    w = (connection_at s.words v).waiting

    abbrev d : ℕ
    d = debt s.ctl.t (connection_at s.words v)

    pub exactly : (who : ℕ) → owns s.ctl who name ≡ true → ((close_call s.ctl s.words who name).number ≡ 0) ↔ (AllLeft (number_in z name) h × Paid o (last_slot h))
    exactly who own = (
      λ e0.
          let a = (answered_none w d).0 (sym (number_is who own) ∙ e0) in (
            omega (arith, counted, a.0),
            (paid_after (parts o) o.F (last_slot h) o.previous).0 (sym owes ∙ a.1),
          ),
      λ g.
          number_is who own
          ∙ (answered_none w d).1 (
            omega (arith, counted, g.0),
            owes ∙ (paid_after (parts o) o.F (last_slot h) o.previous).1 g.1,
          ),
    )

    pub or_eight : (who : ℕ) → owns s.ctl who name ≡ true → (close_call s.ctl s.words who name).number ≢ 0 → (close_call s.ctl s.words who name).number ≡ 8
    or_eight who own ne = number_is who own ∙ eight_by (w =? 0) (d =? 0) (λ e0. ne (number_is who own ∙ e0))

    -- before the first slot nothing is owed
    pub unowed : served h ≡ 0 → earliest o ≡ 0
    unowed e0 = is_open.unused (omega (arith, is_open.past, e0))

  pub waited : (v k : ℕ) → length (cells_of v h) ≡ suc k → (cell_at v k h).arrival + (cell_at v k h).D + (N - 1) < served h
      → AllLeft v h
  waited v k many late =
      let d = demanded N z kind h s i in
      omega (
        arith,
        many,
        many_left N z kind h s i v,
        many_cells N z kind h s i v,
        d.leaves v k (omega (arith, many)) (omega (arith, late, (d.delay v k (omega (arith, many))).0)),
      )

  -- close answers 0 only for a connection that there is, and to its operator
  four : (who : ℕ) (name : Name) → named s.ctl.v name ≡ false → (close_call s.ctl s.words who name).number ≡ 4
  unfolding close_call
  four who name e = rw (shared_out N z kind h s i who name e)

  sixteen : (who : ℕ) (name : Name) → named s.ctl.v name ≡ true → owns s.ctl who name ≡ false
      → (close_call s.ctl s.words who name).number ≡ 16
  unfolding close_call
  sixteen who name e o = rw (shared_foreign N z kind h s i who name e o)

  pub in_range : (who : ℕ) (name : Name) → (close_call s.ctl s.words who name).number ≡ 0
      → (named z name ≡ true) × (owns s.ctl who name ≡ true)
  in_range who name f = go (named s.ctl.v name) (owns s.ctl who name) refl refl
    where
      go : (b o : Bool) → named s.ctl.v name ≡ b → owns s.ctl who name ≡ o → (named z name ≡ true) × (owns s.ctl who name ≡ true)
      go true true e p = (ap (λ (k : ℕ). named k name) (sym i.stage.v_is) ∙ e, p)
      go true false e p = absurd (omega (arith, f, sixteen who name e p))
      go false o e p = absurd (omega (arith, f, four who name e))

-- ── at every close of a run the debt was paid ──
abbrev pub PaidAtCloses : List Event → Type 0
PaidAtCloses [] = Unit {0}
PaidAtCloses (opened who vci m F C x number ∷ h) = PaidAtCloses h
PaidAtCloses (closed who vci number ∷ h) =
    (number ≡ 0 → (o : Opening) → opening_of vci h ≡ some o → Paid o (last_slot h)) × PaidAtCloses h
PaidAtCloses (ran cell a out ∷ h) = PaidAtCloses h

module _ (N z kind : ℕ) where
  call_paid : (r : Run) (c : Call) → Kept N z kind r → PaidAtCloses r.events → PaidAtCloses (call r c).events
  unfolding call call_at slot
  call_paid r (on_open_with who name m F C x) k p = p
  call_paid r (on_close who name) k p = (
    λ e o q.
        let i = k.inv in
        let n = in_range N z kind r.events r.state i who name e in
        let same = ap (λ (v : ℕ). opening_of (number_in v name) r.events) i.stage.v_is in
        ((exactly N z kind r.events r.state i name o n.0 (sym same ∙ q) who n.1).0 e).1,
    p,
  )
  call_paid r (on_slot cell) k p = p

  pub calls_paid : (r : Run) (cs : List Call) → Kept N z kind r → PaidAtCloses r.events → PaidAtCloses (calls r cs).events
  unfolding calls
  calls_paid r [] k p = p
  calls_paid r (c ∷ cs) k p = calls_paid (call r c) cs (call_kept N z kind r c k) (call_paid r c k p)

  -- slots are only added
  call_more : (r : Run) (c : Call) → served r.events ≤ served (call r c).events
  unfolding call call_at slot served
  call_more r (on_open_with who name m F C x) = omega arith
  call_more r (on_close who name) = omega arith
  call_more r (on_slot cell) = omega arith

  calls_more : (r : Run) (cs : List Call) → served r.events ≤ served (calls r cs).events
  unfolding calls
  calls_more r [] = omega arith
  calls_more r (c ∷ cs) = omega (arith, call_more r c, calls_more (call r c) cs)

pub fresh_paid : (N z : ℕ) (o : Options) → Allowed N z o → (cs : List Call)
    → PaidAtCloses (calls (fresh_run N z o) cs).events
unfolding fresh_run calls
fresh_paid N z o range cs = calls_paid N z (kind_number o.kind) (fresh_run N z o) cs (run_kept N z o range []) tt

served_before : (later h : List Event) → served h ≤ served (later ++ h)
unfolding served
served_before [] h = omega arith
served_before (opened who vci m F C x number ∷ later) h = served_before later h
served_before (closed who vci number ∷ later) h = served_before later h
served_before (ran cell a out ∷ later) h = omega (arith, served_before later h)

paid_before : (later before : List Event) (who v : ℕ) (o : Opening) → PaidAtCloses (later ++ (closed who v 0 ∷ before))
    → opening_of v before ≡ some o → Paid o (last_slot before)
paid_before [] before who v o p e = p.0 refl o e
paid_before (opened whose vci m F C x number ∷ later) before who v o p e = paid_before later before who v o p e
paid_before (closed whose vci number ∷ later) before who v o p e = paid_before later before who v o p.1 e
paid_before (ran cell a out ∷ later) before who v o p e = paid_before later before who v o p e

-- a debt x paid by slot t, and a later cell due at d in other parts
crossed : (x t T d L M : ℕ) → x ≤ t * L → t ≤ T → T * M ≤ d → x * M ≤ d * L
crossed x t T d L M a b c =
    omega (
      arith,
      mul-le-mul_right M a,
      mul-le-mul_right M (mul-le-mul_right L b),
      mul-le-mul_right L c,
      mul_assoc T L M,
      mul_assoc T M L,
      ap (λ (n : ℕ). T * n) (mul_comm L M),
    )

served_closed : (who v : ℕ) (h : List Event) → served (closed who v 0 ∷ h) ≡ served h
unfolding served
served_closed who v h = refl

pub across : (h : List Event) → PaidAtCloses h → Across h
across h p who v old new q later before e eo eq en =
    crossed (q + old.F) (last_slot before) (served h) (due_time new (served h)) (parts old) (parts new) paid
    (omega (arith, ap served e, served_before later (closed who v 0 ∷ before), served_closed who v before)) (omega (arith, due_time_lem new (served h)))
  where
    paid : q + old.F ≤ last_slot before * parts old
    paid =
        subst (λ (a : Option ℕ). PaidAfter (parts old) old.F (last_slot before) a) eq
        (paid_before later before who v old (subst PaidAtCloses e p) eo)

-- ── how long the S half of 8 lasts ──
-- j slots more leave something of S exactly when they are fewer than S/L, rounded up
fewer : (S L j : ℕ) → 0 < L → (j * L < S) ↔ (j < rounded_up S L)
fewer S L j low = (
  λ a. omega (arith, (le-div_iff_mul-le {x = suc j} {y = S + (L - 1)} low).1 (omega (arith, a, suc-mul j L))),
  λ b. omega (arith, suc-mul j L, (le-div_iff_mul-le {x = suc j} {y = S + (L - 1)} low).0 (omega (arith, b))),
)

-- e is due at the earliest; k slots are served, then K
half : (e L k K : ℕ) → 0 < L → (k ≡ 0 → e ≡ 0) → k ≤ K
    → (e - (K - 1) * L ≢ 0) ↔ (K < k + rounded_up (e - (k - 1) * L) L)
half e L zero K low unowed more = (
  λ ne. absurd (ne (omega (arith, unowed refl))),
  λ lt. absurd (omega (arith, unowed refl, (fewer (e - (zero - 1) * L) L K low).1 (omega (arith, lt)))),
)
half e L (suc t) K low unowed more = (
  λ ne. omega (arith, (fewer S L j low).0 (omega (arith, whole, positive (e - (K - 1) * L) ne))),
  λ lt z. omega (arith, whole, z, (fewer S L j low).1 (omega (arith, lt))),
)
  where
    S : ℕ
    S = e - (suc t - 1) * L

    j : ℕ
    j = K - suc t

    whole : (K - 1) * L ≡ (suc t - 1) * L + j * L
    whole = ap (λ (n : ℕ). n * L) (omega arith) ∙ add-mul (suc t - 1) j L

    positive : (n : ℕ) → n ≢ 0 → 0 < n
    positive zero ne = absurd (ne refl)
    positive (suc n) ne = omega arith

-- ── of every run from a fresh state ──
module _ (N z kind : ℕ) (r : Run) (k : Kept N z kind r) where
  pub debts : PaidAtCloses r.events → Debt N z r.events r.state
  debts p =
      record {
        closes_exactly = λ who name o own n e. exactly N z kind r.events r.state k.inv name o n e who own;
        else_eight = λ who name o own n e. or_eight N z kind r.events r.state k.inv name o n e who own;
        waiting_is = counted N z kind r.events r.state k.inv;
        across = across r.events p;
        waiting_half = waited N z kind r.events r.state k.inv;
      }

  pub refused : (cs : List Call) → Refused z r cs
  refused cs = record { s_half = lasts }
    where
      later : Run
      later = calls r cs

      kept : Kept N z kind (calls r cs)
      kept = calls_kept N z kind r cs k

      lasts : (name : Name) (o : Opening) → named z name ≡ true → opening_of (number_in z name) r.events ≡ some o
          → opening_of (number_in z name) (calls r cs).events ≡ some o
          → (debt (calls r cs).state.ctl.t (connection_at (calls r cs).state.words (number_in z name)) ≢ 0)
          ↔ (served (calls r cs).events
          < served r.events + rounded_up (debt r.state.ctl.t (connection_at r.state.words (number_in z name))) (parts o))
      lasts name o n e f =
          rw (
            owes N z kind r.events r.state k.inv name o n e,
            owes N z kind (calls r cs).events (calls r cs).state kept.inv name o n f,
          )
          (half (earliest o) (parts o) (served r.events) (served (calls r cs).events) (pow_pos o.m)
          (unowed N z kind r.events r.state k.inv name o n e) (calls_more N z kind r cs))
