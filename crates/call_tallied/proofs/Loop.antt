-- The loop of a burst that tallies: what is left of the sizes gives the rest of what all of them give.
use Prim.Native.Nat.{ℕ, ◌+◌, ◌≤◌, ◌<◌}
use mathlib.Core.Path.{◌≡◌, sym, ◌∙◌, ap}
use mathlib.Core.List.{List}
use native.Mathlib.Omega.{arith}
use lib.ListN.{length, get_or, drop}
use Rattle.meaning.specs.declared.Record.{Record}
use Rattle.meaning.specs.State.{state_of}
use Rattle.call_burst.specs.Burst.{stretch_of}
use Rattle.call_burst.specs.Way.{Shaped}
use Rattle.call_burst.proofs.Loop.{still_shaped}
use Rattle.call_tally.specs.declared.Tally.{Tally}
use Rattle.call_tally.specs.Tally.{bins_in, standing}
use Rattle.call_tallied.specs.Tallied.{Tallying, tallying_of, one_tallied, slots_tallied}
use Rattle.call_tallied.proofs.Turns.{next_kept, next_counted, next_adds, next_stands, tallied_on}

-- how far the loop has come
abbrev pub reached : Record → Tally → List ℕ → List ℕ → List ℕ → List ℕ → List ℕ → List ℕ → List ℕ → List ℕ → ℕ → Tallying
reached r t cells links calendar words bits arrived departures answers i =
    tallying_of (stretch_of (state_of r cells links calendar words bits arrived) departures answers 0 i) t

-- where the loop began (₀), and where it is
pub record Going (c : ℕ) (arrivals sizes cells₀ links₀ calendar₀ words₀ bits₀ arrived₀ departures₀ answers₀ : List ℕ) (last₀ : Record) (t₀ : Tally)
    (cells links calendar words bits arrived departures answers : List ℕ) (last : Record) (t : Tally) (i : ℕ) : Type 0 where
  pub low : i ≤ length sizes
  pub shaped : Shaped last cells links calendar words bits arrived
  pub bins_long : length t.bins ≡ bins_in
  pub cells_kept : length cells ≡ length cells₀
  pub links_kept : length links ≡ length links₀
  pub calendar_kept : length calendar ≡ length calendar₀
  pub words_kept : length words ≡ length words₀
  pub bits_kept : length bits ≡ length bits₀
  pub arrived_kept : length arrived ≡ length arrived₀
  pub departures_kept : length departures ≡ length departures₀
  pub answers_kept : length answers ≡ length answers₀
  pub stands : standing t.bins t.cells last (length arrived) c ≡ 0
  pub rest : slots_tallied arrivals c (drop i sizes) (reached last t cells links calendar words bits arrived departures answers i)
      ≡ slots_tallied arrivals c sizes (reached last₀ t₀ cells₀ links₀ calendar₀ words₀ bits₀ arrived₀ departures₀ answers₀ 0)

-- one slot more, served, which leaves what is marked '
module _ (c : ℕ) (arrivals sizes cells₀ links₀ calendar₀ words₀ bits₀ arrived₀ departures₀ answers₀ : List ℕ) (last₀ : Record) (t₀ : Tally)
    (cells links calendar words bits arrived departures answers : List ℕ) (last : Record) (t : Tally) (i : ℕ)
    (cells' links' calendar' words' bits' arrived' departures' answers' : List ℕ) (last' : Record) (t' : Tally) (number done : ℕ) where
  pub goes_on : Going c arrivals sizes cells₀ links₀ calendar₀ words₀ bits₀ arrived₀ departures₀ answers₀ last₀ t₀ cells links calendar words bits arrived departures answers last t i
      → i < length sizes
      → tallying_of (stretch_of (state_of last' cells' links' calendar' words' bits' arrived') departures' answers' number done) t'
      ≡ one_tallied arrivals c (get_or sizes i 0) (reached last t cells links calendar words bits arrived departures answers i)
      → number ≡ 0
      → length cells' ≡ length cells
      → length links' ≡ length links
      → length calendar' ≡ length calendar
      → length words' ≡ length words
      → length bits' ≡ length bits
      → length arrived' ≡ length arrived
      → length departures' ≡ length departures
      → length answers' ≡ length answers
      → Going c arrivals sizes cells₀ links₀ calendar₀ words₀ bits₀ arrived₀ departures₀ answers₀ last₀ t₀ cells' links' calendar' words' bits' arrived' departures' answers' last' t' (i + 1)
  goes_on g low e z k1 k2 k3 k4 k5 k6 k7 k8 =
      let size = get_or sizes i 0 in
      let b = stretch_of (state_of last cells links calendar words bits arrived) departures answers 0 i in
      let y = tallying_of (stretch_of (state_of last' cells' links' calendar' words' bits' arrived') departures' answers' number done) t' in
      let k = next_kept arrivals c size b t y e in
      let more = next_counted arrivals c size b t y e z in
      let on = reached last' t' cells' links' calendar' words' bits' arrived' departures' answers' in
      record {
        low = omega (arith, low);
        shaped = still_shaped last last' cells links calendar words bits arrived cells' links' calendar' words' bits' arrived' g.shaped k k1 k2 k3 k4 k5 k6;
        bins_long = (next_adds arrivals c size b t y e z g.stands g.bins_long k6).2;
        cells_kept = k1 ∙ g.cells_kept;
        links_kept = k2 ∙ g.links_kept;
        calendar_kept = k3 ∙ g.calendar_kept;
        words_kept = k4 ∙ g.words_kept;
        bits_kept = k5 ∙ g.bits_kept;
        arrived_kept = k6 ∙ g.arrived_kept;
        departures_kept = k7 ∙ g.departures_kept;
        answers_kept = k8 ∙ g.answers_kept;
        stands = next_stands arrivals c size b t y e z g.stands g.bins_long k6;
        rest =
            ap (λ (n : ℕ). slots_tallied arrivals c (drop (i + 1) sizes) (on n)) (sym more)
            ∙ ap (λ (n : ℕ). slots_tallied arrivals c (drop (i + 1) sizes) (tallying_of (stretch_of (state_of last' cells' links' calendar' words' bits' arrived') departures' answers' n done) t')) (sym z)
            ∙ tallied_on arrivals c sizes i low (reached last t cells links calendar words bits arrived departures answers i) y e z
            ∙ g.rest;
      }
