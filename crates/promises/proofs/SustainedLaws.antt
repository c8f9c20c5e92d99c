-- A connection without a second bucket is judged by the peak rule alone: its m, F and C are 0, and so is its level, so the last slot in
-- which a cell filled it, which is its due time, is one that was served, and no later cell is above it.
use Prim.Native.Nat.{ℕ, ◌+◌, ◌-◌, ◌*◌, ◌^◌, ◌≤◌, ◌<◌}
use mathlib.Core.Path.{◌≡◌, refl, sym, ◌∙◌, subst}
use mathlib.Core.Bool.{Bool, true, false, not, ◌&&◌}
use mathlib.Core.List.{List}
use mathlib.Core.Option.{Option, none, some}
use native.Mathlib.Omega.{arith}
use borrow.Author.Tests.{le-leb}
use Rattle.meaning.specs.Plain.{when◌then◌else◌, ◌=?◌}
use Rattle.meaning.specs.Numbers.{connections_in, unused, accepted, excess, tagged, lets_in}
use Rattle.meaning.specs.State.{State}
use Rattle.meaning.specs.Header.{clp_in, connection}
use Rattle.meaning.specs.Words.{Second, without_second, connection_at}
use Rattle.meaning.proofs.NamesLaws.{names_low, names_used}
use Rattle.meaning_runs.specs.Run.{Event, let_in, served}
use Rattle.meaning_runs.specs.Leak.{Opening, due_slot, leak_after, leak_accepts, sustains, verdict_by, opening_of}
use Rattle.meaning_runs.specs.Judged.{judged_of, judged_under}
use Rattle.theory_queues.specs.Queue.{turn}
use Rattle.theory_table.specs.Stored.{level_after, OpenConnection, ConnectionIs}
use Rattle.theory_invariant.specs.Invariant.{waits, Inv}
use Rattle.promises.specs.Demand3.{header_let_in}
use Rattle.promises.specs.Sustained.{by_peak, AsBefore}
use Rattle.promises.proofs.VerdictLaws.{judged_open}

-- a level of 0 at some slot served, and later
within : (t seen : ℕ) (p : Option ℕ) → seen ≤ t → level_after 0 0 p seen ≤ 0 → leak_after (2 ^ 0) 0 0 t p ≡ true
within t seen none h l = refl
within t seen (some p) h l = le-leb (p + 0 - t * 2 ^ 0) (0 - 0) (omega (arith, l))

-- a cell that the sustainable rate does not stop, by the peak alone
pub peak_alone : (t vci c clp : ℕ) (o : Opening) → sustains o t ≡ true → judged_under t vci c clp (some o) ≡ by_peak t c o
unfolding verdict_by lets_in
peak_alone t vci c clp o e = rw e (go (leak_accepts o t) (clp =? 0))
  where
    verdict : Bool → Bool → ℕ
    verdict a b = when not a then excess else when b && false then (when o.second.tag =? 0 then excess else tagged) else accepted

    go : (a b : Bool) → judged_of (verdict a b) c (when lets_in (verdict a b) then due_slot o t - t else 0)
        ≡ (when a then judged_of accepted c (due_slot o t - t) else judged_of excess c 0)
    go false b = refl
    go true false = refl
    go true true = refl

module _ (N z kind : ℕ) (h : List Event) (s : State) (i : Inv N z kind h s) where
  -- no cell of it is above the sustainable rate
  pub none_above : (v : ℕ) (o : Opening) → unused z v ≡ false → v < connections_in z → opening_of v h ≡ some o → o.second ≡ without_second
      → sustains o (served h) ≡ true
  unfolding sustains
  none_above v o h1 h2 e f =
      subst (λ (x : Second). leak_after (2 ^ x.m) x.F x.C (served h) o.sustained ≡ true) (sym f)
      (within (served h) c.seen o.sustained c.past
      (subst (λ (x : Second). level_after x.m x.F o.sustained c.seen ≤ x.C) f c.full_second))
    where
      c : OpenConnection N (connections_in z) (served h) v (connection_at s.words v) (waits v i.out (turn i.cal)) o
      c =
          subst (λ (a : Option Opening). ConnectionIs N (connections_in z) (served h) v (connection_at s.words v) (waits v i.out (turn i.cal)) a) e
          (i.stage.table v h1 h2)

  pub as_before : AsBefore z kind h s
  as_before =
      record {
        by_peak_alone = λ cell o long names e f.
            let u = header_let_in kind s cell in
            let c = connection z u in
            judged_open N z kind h s i cell o long names e
            ∙ peak_alone (served h) u.vci c (clp_in (let_in s cell).cell) o
            (none_above c o (names_used z u names) (names_low z u names) e f);
      }
