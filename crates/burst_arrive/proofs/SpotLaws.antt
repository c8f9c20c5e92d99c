-- The seat of a cell that is let in, as the likely way has it: where the words of free spaces fit and have one, the lowest is free
-- and below N.
use Prim.Native.Nat.{ℕ, ◌+◌, ◌-◌, ◌*◌, ◌<◌}
use mathlib.Core.Path.{◌≡◌, refl, sym}
use Rattle.std.specs.Prelude.{Option, Some, None}
use Rattle.std.proofs.lemmas.Option.{none-some, same_Some}
use mathlib.Core.Logic.{◌≢◌}
use mathlib.Core.Bool.{Bool, true, false}
use mathlib.Core.List.{List}
use native.Mathlib.Omega.{arith}
use borrow.Author.Tests.{ltb-true, eqb-false, eq-eqb, ne_eqb}
use lib.ListN.{get_or}
use Rattle.meaning.specs.declared.Record.{Record}
use Rattle.meaning.specs.Plain.{when◌then◌else◌, ◌<?◌, ◌=?◌}
use Rattle.meaning.specs.Bits.{spaces_fit, lowest_free}
use Rattle.meaning.specs.State.{Ends}
use Rattle.meaning.specs.Lists.{ends_fit, entry_at}
use Rattle.meaning.proofs.BitsLaws.{lowest_free_lem, lowest_below}
use Rattle.mem_lists.specs.declared.Seat.{Seat}
use Rattle.mem_lists.specs.Spaces as spaces
use Rattle.mem_lists.specs.Spaces.{ends_of, seat_as, entry_of}
use Rattle.slot_plan.specs.Plan.{seat_now}
use Rattle.burst_arrive.specs.declared.Spot.{Spot}
use Rattle.burst_arrive.specs.Arriving.{spot_as, spot_of, seat_at, Seats}

-- (T + D) modulo N is an entry
pub entry_below : (N T D e : ℕ) → T < N → D < N → e ≡ entry_of N T D → e < N
unfolding entry_of
entry_below N T D e t d is = rw is (go (T + D <? N) refl)
  where
    go : (b : Bool) → T + D <? N ≡ b → (when b then T + D else T + D - N) < N
    go true q = ltb-true (T + D) N q
    go false q = omega arith

-- a spot is there where there is a seat, and is that seat
pub record Spotted (vci D : ℕ) (found : Option Seat) (p : Spot) : Type 0 where
  pub is : found ≡ Some (seat_at p)
  pub vci_is : p.vci ≡ vci
  pub d_is : p.d ≡ D

pub spotted : (vci D : ℕ) (found : Option Seat) (p : Spot) → Some p ≡ spot_of vci D found → Spotted vci D found p
spotted vci D None p e = absurd (none-some p (sym e))
spotted vci D (Some a) p e =
    let is = same_Some p (spot_as vci D a) e in
    rw is record { is = refl; vci_is = refl; d_is = refl }

module _ (k : Record) (D : ℕ) (calendar bits : List ℕ) (spaces_fit_lem : spaces_fit k.n k.free bits ≡ true) where
  abbrev entry_now : ℕ
  entry_now = entry_of k.n k.turn D

  -- the tests one after the other: whether no space is free, and whether the entry's ends fit
  by_tests : (z f : Bool) → k.free =? 0 ≡ z → ends_fit k.n (entry_at calendar entry_now) ≡ f
      → (when z then None else when f then Some (seat_as (lowest_free bits) entry_now (entry_at calendar entry_now)) else None) ≡ seat_now k D calendar bits
  unfolding seat_now spaces.seat_of spaces.seat_at
  by_tests true f ez ef = rw (spaces_fit_lem, ez)
  by_tests false true ez ef = rw (spaces_fit_lem, ez, ef)
  by_tests false false ez ef = rw (spaces_fit_lem, ez, ef)

  pub spot_none : k.free ≡ 0 → None ≡ seat_now k D calendar bits
  spot_none e = by_tests true (ends_fit k.n (entry_at calendar entry_now)) (eq-eqb k.free 0 e) refl

  module _ (e : ℕ) (is : e ≡ entry_of k.n k.turn D) (some : k.free ≢ 0) where
    abbrev entry : Ends
    entry = ends_of (get_or calendar (2 * e) 0) (get_or calendar (2 * e + 1) 0)

    pub spot_unfit : ends_fit k.n entry ≡ false → None ≡ seat_now k D calendar bits
    unfolding entry_at
    spot_unfit unfit = by_tests false false (ne_eqb k.free 0 some) (rw (← is) unfit)

    pub spot_seated : (x : ℕ) → x ≡ lowest_free bits → ends_fit k.n entry ≡ true → Some (seat_as x e entry) ≡ seat_now k D calendar bits
    unfolding entry_at
    spot_seated x lowest fit = rw (lowest, is) (by_tests false true (ne_eqb k.free 0 some) (rw (← is) fit))

  seats : (vci : ℕ) → k.free ≢ 0 → ends_fit k.n (entry_at calendar entry_now) ≡ true
      → Seats k calendar bits (spot_as vci D (seat_as (lowest_free bits) entry_now (entry_at calendar entry_now)))
  unfolding spaces.seat_of spaces.seat_at
  seats vci some fit =
      record {
        seat = rw fit;
        e_is = refl;
        some_free = omega (arith, some);
        is_free = lowest_free_lem k.n k.free bits spaces_fit_lem some;
        x_low = lowest_below k.n k.free bits spaces_fit_lem some;
        entry_fits = fit;
      }

  -- what a seat shows, of a spot that is it
  pub spot_shows : (vci : ℕ) (p : Spot) → Some p ≡ spot_of vci D (seat_now k D calendar bits) → Seats k calendar bits p
  spot_shows vci p = go (k.free =? 0) (ends_fit k.n (entry_at calendar entry_now)) refl refl
    where
      go : (z f : Bool) → k.free =? 0 ≡ z → ends_fit k.n (entry_at calendar entry_now) ≡ f
          → Some p ≡ spot_of vci D (seat_now k D calendar bits)
          → Seats k calendar bits p
      go true f ez ef = rw (← by_tests true f ez ef) (λ q. absurd (none-some p (sym q)))
      go false true ez ef =
          rw (← by_tests false true ez ef)
          (λ q. rw (same_Some p (spot_as vci D (seat_as (lowest_free bits) entry_now (entry_at calendar entry_now))) q) (seats vci (eqb-false k.free 0 ez) ef))
      go false false ez ef = rw (← by_tests false false ez ef) (λ q. absurd (none-some p (sym q)))
