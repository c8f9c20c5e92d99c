-- The burst's loop: what is left of the sizes gives the rest of what all of them give.
use Prim.Native.Nat.{ℕ, ◌+◌, ◌≤◌, ◌<◌}
use mathlib.Core.Path.{◌≡◌, sym, ◌∙◌, ap}
use mathlib.Core.List.{List}
use native.Mathlib.Omega.{arith}
use native.Mathlib.Nat.{add-sub_cancel_left}
use lib.ListN.{length, take, drop, get_or, drop_of_length-le}
use Prim.Native.Nat.{◌*◌, ◌-◌}
use Rattle.meaning.specs.declared.Record.{Record}
use Rattle.meaning.specs.State.{State, state_of}
use Rattle.call_burst.specs.Burst.{Stretch, stretch_of, cell_lent, one_slot, slots}
use Rattle.call_burst.specs.declared.BurstEnd.{BurstEnd}
use Rattle.call_burst.specs.Way.{Shaped}
use Rattle.call_burst.proofs.TurnLaws.{slots_on, slots_counted, slot_kept}

-- the part that is lent to slot i, as its ends give it
pub lent_part : (arrivals : List ℕ) (i size long : ℕ) → long ≡ size
    → take (53 * i + long - 53 * i) (drop (53 * i) arrivals) ≡ cell_lent arrivals i size
unfolding cell_lent
lent_part arrivals i size long e = rw (e, add-sub_cancel_left)

-- a turn that was not stopped
module _ (arrivals sizes : List ℕ) (b : Stretch) (low : b.done < length sizes) (s : State) (departures answers : List ℕ) (number done : ℕ) (e : stretch_of s departures answers number done ≡ one_slot arrivals (get_or sizes b.done 0) b) (z : number ≡ 0) where
  pub turn_counted : done ≡ b.done + 1
  turn_counted = slots_counted arrivals sizes b.done low b (stretch_of s departures answers number done) e z

  pub turn_on : slots arrivals (drop done sizes) (stretch_of s departures answers 0 done) ≡ slots arrivals (drop b.done sizes) b
  turn_on =
      ap (λ (n : ℕ). slots arrivals (drop n sizes) (stretch_of s departures answers 0 done)) turn_counted
      ∙ ap (λ (k : ℕ). slots arrivals (drop (b.done + 1) sizes) (stretch_of s departures answers k done)) (sym z)
      ∙ slots_on arrivals sizes b.done low b (stretch_of s departures answers number done) e z

-- a turn keeps N and V
pub turn_kept : (arrivals : List ℕ) (size : ℕ) (b : Stretch) (s : State) (departures answers : List ℕ) (number done : ℕ)
    → stretch_of s departures answers number done ≡ one_slot arrivals size b
    → (s.ctl.n ≡ b.state.ctl.n) × (s.ctl.v ≡ b.state.ctl.v)
turn_kept arrivals size b s departures answers number done e =
    let k = slot_kept arrivals size b in
    (ap (λ (x : Stretch). x.state.ctl.n) e ∙ k.0, ap (λ (x : Stretch). x.state.ctl.v) e ∙ k.1)

-- how far the loop has come
abbrev pub reached : BurstEnd → List ℕ → List ℕ → List ℕ → List ℕ → List ℕ → List ℕ → List ℕ → List ℕ → Stretch
reached r cells links calendar words bits arrived departures answers =
    stretch_of (state_of r.ctl cells links calendar words bits arrived) departures answers 0 r.done

-- where the loop is, end₀ being what it began with
pub record Turning (arrivals sizes cells₀ links₀ calendar₀ words₀ bits₀ arrived₀ departures₀ answers₀ : List ℕ) (end₀ : BurstEnd) (cells links calendar words bits arrived departures answers : List ℕ) (end : BurstEnd) : Type 0 where
  pub going : end.number ≡ 0
  pub low : end.done ≤ length sizes
  pub shaped : Shaped end.ctl cells links calendar words bits arrived
  pub rest : slots arrivals (drop end.done sizes) (reached end cells links calendar words bits arrived departures answers)
      ≡ slots arrivals sizes (reached end₀ cells₀ links₀ calendar₀ words₀ bits₀ arrived₀ departures₀ answers₀)

-- memories of the same lengths, N and V
pub still_shaped : (r r' : Record) (cells links calendar words bits arrived cells' links' calendar' words' bits' arrived' : List ℕ) → Shaped r cells links calendar words bits arrived
    → (r'.n ≡ r.n) × (r'.v ≡ r.v)
    → length cells' ≡ length cells
    → length links' ≡ length links
    → length calendar' ≡ length calendar
    → length words' ≡ length words
    → length bits' ≡ length bits
    → length arrived' ≡ length arrived
    → Shaped r' cells' links' calendar' words' bits' arrived'
still_shaped r r' cells links calendar words bits arrived cells' links' calendar' words' bits' arrived' z k a b c d e f =
    record {
      n_low = omega (arith, k.0, z.n_low);
      n_high = omega (arith, k.0, z.n_high);
      v_low = omega (arith, k.1, z.v_low);
      v_high = omega (arith, k.1, z.v_high);
      cells_long_lem = omega (arith, k.0, z.cells_long_lem, a);
      links_long = omega (arith, k.0, z.links_long, b);
      calendar_long = omega (arith, k.0, z.calendar_long, c);
      words_long = omega (arith, k.1, z.words_long, d);
      bits_long = e ∙ z.bits_long;
      arrived_long = omega (arith, k.0, z.arrived_long, f);
    }

-- no sizes are left
pub slots_end : (arrivals sizes : List ℕ) (b : Stretch) → length sizes ≤ b.done → b ≡ slots arrivals (drop b.done sizes) b
unfolding slots
slots_end arrivals sizes b high = sym (ap (λ (l : List ℕ). slots arrivals l b) (drop_of_length-le sizes high))
