-- A cell that is let in, over plain lists: the cell memory keeps its length, and the entry that the cell joins is the calendar's.
use Prim.Native.Nat.{ℕ, ◌+◌, ◌*◌, ◌≤◌, ◌<◌}
use mathlib.Core.Path.{◌≡◌, refl, sym, ◌∙◌, ap}
use mathlib.Core.Logic.{◌≢◌}
use mathlib.Core.Bool.{Bool, true, false}
use mathlib.Core.List.{List}
use native.Mathlib.Omega.{arith}
use native.Mathlib.Decide.{ℕ_discrete}
use lib.ListN.{length, get_or}
use Rattle.std.specs.Prelude.{Some, None}
use Rattle.std.proofs.lemmas.Option.{none-some, same_Some}
use Rattle.meaning.specs.declared.Record.{Record}
use Rattle.meaning.specs.Plain.{when◌then◌else◌, ◌=?◌}
use Rattle.meaning.specs.Numbers.{empty}
use Rattle.meaning.specs.Bits.{lowest_free}
use Rattle.meaning.specs.State.{write_cell}
use Rattle.meaning.specs.Lists.{ends_fit, entry_at, write_entry}
use Rattle.meaning.proofs.ListsLaws.{fit_head}
use Rattle.meaning.proofs.CellsLaws.{cell_length}
use Rattle.slot_arrive.specs.declared.Judged.{Judged}
use Rattle.mem_lists.specs.declared.Seat.{Seat}
use Rattle.mem_lists.specs.Spaces.{ends_of, seat_as, seat_at, entry_of, seat_of}
use Rattle.slot_plan.specs.Plan.{seat_ends}
use Rattle.burst_arrive.specs.declared.Spot.{Spot}
use Rattle.burst_arrive.specs.Arriving.{seat_at as at_place}
use Rattle.burst_arrive.proofs.SpotLaws.{entry_below}
use Rattle.burst_likely.specs.Served.{Spotted}

-- ---- the cell in its space: the cell memory keeps its length
pub stored_long : (N x : ℕ) (cells cell : List ℕ) → length cells ≡ 53 * N → x < N → length cell ≡ 53
    → (cells' : List ℕ) → cells' ≡ write_cell cells x cell → length cells' ≡ 53 * N
stored_long N x cells cell long low size cells' e = ap length e ∙ cell_length cells x cell (omega arith) size ∙ long

-- the seat's entry is the calendar's
module _ (N : ℕ) (calendar : List ℕ) (T D x : ℕ) where
  abbrev e : ℕ
  e = entry_of N T D

  pub seat_reads : (a : Seat) → Some a ≡ seat_of N calendar T D x
      → (a.head ≡ get_or calendar (2 * a.e) 0) × (a.tail ≡ get_or calendar (2 * a.e + 1) 0)
  unfolding seat_of seat_at entry_at
  seat_reads a = go (ends_fit N (entry_at calendar e))
    where
      go : (f : Bool) → Some a ≡ (when f then Some (seat_as x e (entry_at calendar e)) else None)
          → (a.head ≡ get_or calendar (2 * a.e) 0) × (a.tail ≡ get_or calendar (2 * a.e + 1) 0)
      go true is = rw (same_Some _ _ is) (refl, refl)
      go false is = absurd (none-some a (sym is))

-- ---- the likely way's own
module _ (k : Record) (j : Judged) (calendar words bits cell : List ℕ) (p : Spot) (spotted : Spotted k j calendar words bits cell p) where
  reads : (p.head ≡ get_or calendar (2 * p.e) 0) × (p.tail ≡ get_or calendar (2 * p.e + 1) 0)
  reads = seat_reads k.n calendar k.turn p.d (lowest_free bits) (at_place p) spotted.seats.seat

  pub head_read : p.head ≡ get_or calendar (2 * p.e) 0
  head_read = reads.0

  pub entry_low : k.turn < k.n → p.e < k.n
  entry_low turn =
      entry_below k.n k.turn p.d p.e turn (let near = spotted.is_accepted_lem.near in let same = spotted.of_delay in omega (arith, near, same))
      spotted.seats.e_is

  pub head_low : p.head ≢ empty → p.head < k.n
  head_low ne = fit_head k.n (ends_of p.head p.tail) spotted.seats.entry_fits ne

  pub head_most : k.n ≤ 1024 → p.head ≤ 65535
  head_most few = go (ℕ_discrete p.head empty)
    where
      go : Dec (p.head ≡ empty) → p.head ≤ 65535
      go (yes e) = omega (arith, e)
      go (no ne) = let low = head_low ne in omega (arith, low)

  pub entry_writes : (calendar' : List ℕ)
      → calendar' ≡ write_entry calendar p.e (ends_of p.x (when p.head =? empty then p.x else get_or calendar (2 * p.e + 1) 0))
      → calendar' ≡ write_entry calendar p.e (seat_ends (at_place p))
  unfolding seat_ends
  entry_writes calendar' is =
      is ∙ ap (λ (t : ℕ). write_entry calendar p.e (ends_of p.x (when p.head =? empty then p.x else t))) (sym reads.1)
