-- The end of a slot: what its answer and line cell add to the events, of openings, of the slots served and of departures.
use Prim.Native.Nat.{ℕ, suc, ◌≤◌}
use mathlib.Core.Path.{◌≡◌, refl, sym, ap, ◌∙◌, fun_ext}
use mathlib.Core.Logic.{◌≢◌}
use mathlib.Core.List.{List, [], ◌∷◌, ◌++◌, map, append-nil}
use mathlib.Core.Option.{Option}
use native.Mathlib.Omega.{arith}
use borrow.Author.Tests.{ne_eqb}
use lib.ListN.{get_or}
use Rattle.meaning.specs.declared.Answer.{Answer}
use Rattle.meaning.specs.Numbers.{octets, empty}
use Rattle.meaning.specs.Work.{Work, answer_of}
use Rattle.meaning.specs.Line.{line_cell}
use Rattle.meaning_runs.specs.Run.{Event, ran, shown, served, idle}
use Rattle.meaning_runs.specs.Leak.{Opening, opening_of}
use Rattle.meaning_runs.specs.Seen.{departures_in}
use Rattle.theory_queues.specs.Queue.{All, Moved}
use Rattle.theory_queues.proofs.LineLaws.{head_in_time}
use Rattle.theory_memory.specs.Held.{Queued, due_of, vci_of}
use Rattle.theory_invariant.specs.Invariant.{seen_as, cell_in, InTime}
use Rattle.theory_invariant.specs.Came.{onward, half}
use Rattle.theory_invariant.specs.Gone.{Departs, LeftAs}
use Rattle.theory_invariant.proofs.KeptLaws.{leaving, served_ran, opening_ran, departures_none, departures_some}

-- the event of a slot
abbrev pub event_of : List ℕ → Work → Event
event_of cell w = ran cell w.answer (shown w)

shown_some : (w : Work) (x : ℕ) → w.answer.space ≡ x → x ≢ empty → shown w ≡ line_cell w.state.cells idle x
unfolding shown
shown_some w x e ne = rw (e, ne_eqb x empty ne)

-- the answer of the whole slot
pub record Final (verdict vci D : ℕ) (w : Work) : Type 0 where
  pub x : ℕ
  pub dep : ℕ
  pub says : w.answer ≡ answer_of 0 verdict vci D x dep

pub final : (N verdict vci D : ℕ) (o : List Queued) (w : Work) → Departs N o (half verdict vci D) w → Final verdict vci D w
final N verdict vci D [] w d = record { x = empty; dep = 0; says = d }
final N verdict vci D (c ∷ o) w d = record { x = d.0; dep = vci_of c; says = d.1 }

module _ (N : ℕ) (small : N ≤ 1_024) (h : List Event) (cell : List ℕ) (w : Work) (verdict vci D : ℕ) where
  -- what the departure adds: none, or the head of the list o
  pub departs_seen : (o : List Queued) → Departs N o (half verdict vci D) w
      → departures_in (event_of cell w ∷ h) ≡ departures_in h ++ map seen_as (leaving (served h) o)
  departs_seen [] d =
      ap (λ (a : Answer). departures_in (ran cell a (shown w) ∷ h)) d
      ∙ departures_none h cell verdict vci D empty 0 (shown w) refl
      ∙ sym (append-nil (departures_in h))
  departs_seen (c ∷ o) d =
      ap (λ (a : Answer). departures_in (ran cell a (shown w) ∷ h)) d.1
      ∙ departures_some h cell verdict vci D d.0 (vci_of c) (shown w) ne
      ∙ ap (λ l. departures_in h ++ (record { slot = served h; vci = vci_of c; octets = l } ∷ [])) line
    where
      ne : d.0 ≢ empty
      ne e = omega (arith, d.2)

      line : shown w ≡ c.cell.octets
      line = shown_some w d.0 (ap (λ (a : Answer). a.space) d.1) ne ∙ d.3

  -- the same without its space
  pub left_as : (o : List Queued) → Departs N o (half verdict vci D) w → LeftAs (map cell_in o) w
  left_as [] d = (ap (λ (a : Answer). a.space) d, ap (λ (a : Answer). a.departing) d)
  left_as (c ∷ o) d = (
    λ e. ne (sym space ∙ e),
    ap (λ (a : Answer). a.departing) d.1,
    line,
    omega (arith, space, d.4),
    ap (λ (k : ℕ). get_or w.state.arrived k 0) space ∙ d.5,
  )
    where
      space : w.answer.space ≡ d.0
      space = ap (λ (a : Answer). a.space) d.1

      ne : d.0 ≢ empty
      ne e = omega (arith, d.2)

      line : shown w ≡ c.cell.octets
      line = shown_some w d.0 space ne ∙ d.3

  module _ (f : Final verdict vci D w) where
    pub opened_after : ◌≡◌ {A = ℕ → Option Opening} (λ v. opening_of v (event_of cell w ∷ h))
        (λ v. onward (served h) cell verdict vci (λ u. opening_of u h) v)
    opened_after = fun_ext (λ v.
        ap (λ (a : Answer). opening_of v (ran cell a (shown w) ∷ h)) f.says
        ∙ opening_ran h cell verdict vci D f.x f.dep (shown w) v)

    pub slots_after : served (event_of cell w ∷ h) ≡ suc (served h)
    slots_after =
        ap (λ (a : Answer). served (ran cell a (shown w) ∷ h)) f.says
        ∙ served_ran h cell verdict vci D f.x f.dep (shown w)

pub in_time_one : (w n : ℕ) (r : List (List Queued)) (o : List Queued) → Moved due_of w n r o → All (InTime w) (leaving n o)
in_time_one w n r [] m = tt
in_time_one w n r (c ∷ o) m = (head_in_time due_of w n r c o m, tt)
