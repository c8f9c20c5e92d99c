-- What an open, a clean cell of an open connection and an empty slot do in a run, by demand 3's own clauses: an open that keeps to
-- the rules answers 0, a cell that the leak rule takes is accepted, an empty slot is served.
use Prim.Native.Nat.{ℕ, suc, ◌≤◌, ◌<◌}
use mathlib.Core.Path.{◌≡◌, refl, ap, ◌∙◌}
use mathlib.Core.Logic.{◌≢◌}
use mathlib.Core.Bool.{Bool, true, false, cond, ◌&&◌, ◌||◌}
use mathlib.Core.List.{List, [], ◌∷◌, ◌++◌}
use mathlib.Core.Option.{Option, none, some}
use native.Mathlib.Omega.{arith}
use borrow.Author.Tests.{eq-eqb, ne_eqb, le-leb, lt-ltb}
use lib.Dec.{eqb}
use lib.ListN.{length}
use Rattle.base_hec.specs.Modes.{correction, passes, arriving}
use Rattle.meaning.specs.declared.Answer.{Answer}
use Rattle.meaning.specs.Plain.{when◌then◌else◌, ◌=?◌}
use Rattle.meaning.specs.Numbers.{connections_in, unused, accepted, nothing, lets_in}
use Rattle.meaning.specs.State.{State}
use Rattle.meaning.specs.Bucket.{bucket_of, obeys_rules, obeys_second, is_none}
use Rattle.meaning.specs.Header.{clp_in, by_vci, named, number_in}
use Rattle.meaning.specs.Words.{without_second, second_obeys, connection_at}
use Rattle.meaning.specs.Arrival.{sent_as}
use Rattle.meaning.specs.Operators.{second_operator, owns}
use Rattle.meaning.specs.Calls.{open_call}
use Rattle.meaning.specs.Slot.{slot}
use Rattle.meaning.proofs.NamesLaws.{used_is}
use Rattle.meaning.proofs.CheckedLaws.{arriving_none}
use Rattle.meaning_runs.specs.Run.{on_open, on_slot, Event, opened, Run, let_in, call_at, call, served}
use Rattle.meaning_runs.specs.Leak.{Opening, opening_with, due_time, due_slot, leak_accepts, accepts, sustained_after, opening_of}
use Rattle.meaning_runs.specs.Seen.{Cell, cell_under, cells_of}
use Rattle.meaning_runs.specs.Judged.{Judged, judged_of, judged_under, judged_by, judged_as}
use Rattle.meaning_runs.specs.Computed.{by_computation}
use Rattle.theory_table.specs.Stored.{ConnectionIs}
use Rattle.theory_invariant.proofs.CallLaws.{shared_in}
use Rattle.theory_invariant.proofs.CheckLaws.{slot_served}
use Rattle.theory_invariant.proofs.RunLaws.{Kept}
use Rattle.promise_limits.specs.Reached.{clean_for}
use Rattle.promises.specs.Sustained.{by_peak}
use Rattle.promises.proofs.SustainedLaws.{peak_alone, none_above}
use Rattle.promise_bound.proofs.CellLaws.{cells_new, cells_not}

-- ── a clean cell of the VC v, which both kinds of policer let through ──
pub record Clean (z v : ℕ) : Type 0 where
  pub lent : length (clean_for v) =? 0 || length (clean_for v) =? 53 ≡ true
  pub lets_in_lem : (raw mode : ℕ)
      → ((arriving raw mode (clean_for v)).cell ≡ clean_for v) × ((arriving raw mode (clean_for v)).dropped ≡ false)
  pub judged_as_lem : (kind t : ℕ) (openings : ℕ → Option Opening) → judged_by kind z t openings (clean_for v)
      ≡ judged_under t v v (clp_in (clean_for v)) (openings v)
  pub used : unused z v ≡ false
  pub high : v < connections_in z

either : (b : Bool) (mode : ℕ) (cell : List ℕ)
    → ((cond b (passes cell mode) (passes cell correction)).cell ≡ cell)
    × ((cond b (passes cell mode) (passes cell correction)).dropped ≡ false)
either true mode cell = (refl, refl)
either false mode cell = (refl, refl)

-- octet 1 is 0: the VPI is 0 on either kind of line
same : (b : Bool) → ◌≡◌ {A = ℕ} (when b then 0 else 0) 0
same true = refl
same false = refl

pub clean_one : (z : ℕ) → 3 ≤ z → Clean z 1
unfolding by_computation
clean_one z low =
    record {
      lent = refl;
      lets_in_lem = λ raw mode. either (eqb raw 0) mode (clean_for 1);
      judged_as_lem = λ kind t openings. rw (same (kind =? 0), lt-ltb 1 z (omega (arith, low)));
      used = used_is z 1 (λ e. omega (arith, e)) (λ e. omega (arith, e, low));
      high = omega (arith, low);
    }

pub clean_two : (z : ℕ) → 3 ≤ z → Clean z 2
unfolding by_computation
clean_two z low =
    record {
      lent = refl;
      lets_in_lem = λ raw mode. either (eqb raw 0) mode (clean_for 2);
      judged_as_lem = λ kind t openings. rw (same (kind =? 0), lt-ltb 2 z (omega (arith, low)));
      used = used_is z 2 (λ e. omega (arith, e)) (λ e. omega (arith, e, low));
      high = omega (arith, low);
    }

-- ── what a call leaves ──
-- a cell of the VC v, which has no second bucket, was accepted under the opening o; what is noted of that bucket is of no matter
pub record Took (v : ℕ) (o : Opening) (h k : List Event) : Type 0 where
  pub slots : served k ≡ suc (served h)
  pub rate : Option ℕ
  pub own : opening_of v k ≡ some (opening_with o.m o.F o.C (some (due_time o (served h))) o.second rate)
  pub other : (u : ℕ) → u ≢ v → (opening_of u k ≡ opening_of u h) × (cells_of u k ≡ cells_of u h)
  pub cell : Cell
  pub due : cell.due ≡ due_slot o (served h)
  pub cells : cells_of v k ≡ cells_of v h ++ (cell ∷ [])

-- nothing was
pub record Idle (h k : List Event) : Type 0 where
  pub slots : served k ≡ suc (served h)
  pub cells : (u : ℕ) → cells_of u k ≡ cells_of u h

module _ (N z kind : ℕ) (r : Run) (kept : Kept N z kind r) where
  abbrev h : List Event
  h = r.events

  abbrev s : State
  s = r.state

  serves : (cell : List ℕ) → length cell =? 0 || length cell =? 53 ≡ true → served (call r (on_slot cell)).events ≡ suc (served h)
  unfolding call call_at slot served
  serves cell lent = rw (slot_served N z kind h s kept.inv cell lent).number (omega arith)

  fails : (b : Bool) → b && false ≡ false
  fails true = refl
  fails false = refl

  -- ── a slot with a cell ──
  module _ (v : ℕ) (c : Clean z v) (o : Opening) (open_is : opening_of v h ≡ some o) (takes : leak_accepts o (served h) ≡ true)
      (no_second : o.second ≡ without_second) where
    abbrev a : Answer
    a = (slot s (clean_for v)).answer

    says : judged_of a.verdict a.vci a.d ≡ by_peak (served h) v o
    says =
        (slot_served N z kind h s kept.inv (clean_for v) c.lent).says
        ∙ rw ((c.lets_in_lem s.ctl.raw s.ctl.mode).1, (c.lets_in_lem s.ctl.raw s.ctl.mode).0)
        (c.judged_as_lem kind (served h) (λ u. opening_of u h)
        ∙ ap (judged_under (served h) v v (clp_in (clean_for v))) open_is
        ∙ peak_alone (served h) v v (clp_in (clean_for v)) o
        (none_above N z kind h s kept.inv v o c.used c.high open_is no_second))

    verdict_is : a.verdict ≡ accepted
    verdict_is = ap (λ (j : Judged). j.verdict) says ∙ rw takes

    vci_is : a.vci ≡ v
    vci_is = ap (λ (j : Judged). j.vci) says ∙ rw takes

    accepts_own : accepts v a ≡ true
    unfolding accepts lets_in
    accepts_own = rw (verdict_is, eq-eqb a.vci v vci_is)

    accepts_other : (u : ℕ) → u ≢ v → accepts u a ≡ false
    unfolding accepts
    accepts_other u ne = rw (ne_eqb a.vci u (λ e. ne (omega (arith, e, vci_is)))) (fails (lets_in a.verdict))

    pub took : Took v o r.events (call r (on_slot (clean_for v))).events
    unfolding call call_at slot opening_of
    took =
        record {
          slots = serves (clean_for v) c.lent;
          rate = sustained_after (served h) (clp_in (let_in s (clean_for v)).cell) a.verdict o;
          own = rw (accepts_own, open_is);
          other = λ u ne. (rw (accepts_other u ne), cells_not u h _ a _ (accepts_other u ne));
          cell = cell_under (served h) a (sent_as a.verdict (let_in s (clean_for v)).cell) (some o);
          due = refl;
          cells = cells_new v h _ a _ accepts_own
              ∙ ap (λ (x : Option Opening). cells_of v h ++ (cell_under (served h) a (sent_as a.verdict (let_in s (clean_for v)).cell) x ∷ []))
              open_is;
        }

  -- ── an empty slot ──
  none_let : let_in s [] ≡ passes [] s.ctl.mode
  none_let = arriving_none s.ctl.raw s.ctl.mode [] refl

  judged_none : judged_as kind z h (passes [] s.ctl.mode) ≡ judged_of nothing 0 0
  unfolding judged_by
  judged_none = refl

  quiet : (slot s []).answer.verdict ≡ nothing
  quiet =
      ap (λ (j : Judged). j.verdict)
      ((slot_served N z kind h s kept.inv [] refl).says ∙ ap (judged_as kind z h) none_let ∙ judged_none)

  none_accepted : (u : ℕ) → accepts u (slot s []).answer ≡ false
  unfolding accepts lets_in
  none_accepted u = rw quiet

  pub idle : Idle r.events (call r (on_slot [])).events
  unfolding call call_at slot
  idle = record { slots = serves [] refl; cells = λ u. cells_not u h _ (slot s []).answer _ (none_accepted u) }

  -- ── an open that keeps to the rules ──
  module _ (u m F C : ℕ) (low : 1 ≤ u) (high : u < z) (own : owns s.ctl second_operator (by_vci u) ≡ true) (shut : opening_of u h ≡ none)
      (rules : obeys_rules N (bucket_of m F C 0) ≡ true) where
    closed_word : (x : Option Opening) (q : ℕ) → x ≡ none → ConnectionIs N (connections_in z) (served h) u (connection_at s.words u) q x
        → (connection_at s.words u).opened ≡ 0
    closed_word none q e k = k
    closed_word (some o) q e k = absurd (let y : ◌≡◌ {A = ℕ} 0 1 = cc in omega arith)

    is_named_lem : named s.ctl.v (by_vci u) ≡ true
    unfolding named
    is_named_lem = rw (kept.inv.stage.v_is, le-leb 1 u low, lt-ltb u z high)

    opens : (open_call s.ctl s.words second_operator (by_vci u) m F C without_second).number ≡ 0
    unfolding open_call second_obeys is_none obeys_second number_in
    opens =
        rw (
          shared_in N z kind h s kept.inv second_operator (by_vci u) is_named_lem own,
          closed_word (opening_of u h) _ shut
              (kept.inv.stage.table u (used_is z u (λ e. omega (arith, e, low)) (λ e. omega (arith, e, high))) (omega (arith, high))),
          ap (λ (n : ℕ). obeys_rules n (bucket_of m F C 0)) kept.inv.stage.n_is ∙ rules,
        )

    pub opened_is : (call r (on_open u m F C)).events ≡ opened second_operator u m F C without_second 0 ∷ r.events
    unfolding call call_at slot number_in
    opened_is = ap (λ (n : ℕ). opened second_operator u m F C without_second n ∷ h) opens
