-- Setup's refusals in their order, what holds where none is given, and the fresh state that is then left.
use Prim.Native.Nat.{ℕ, ◌*◌, ◌≤◌}
use mathlib.Core.Path.{◌≡◌, refl}
use mathlib.Core.Bool.{Bool, true, false, not, ◌&&◌}
use mathlib.Core.List.{List}
use native.Mathlib.Omega.{arith}
use borrow.Author.Tests.{eqb-true, leb-true}
use lib.ListN.{length, replicate}
use Rattle.meaning.specs.declared.Record.{Record}
use Rattle.meaning.specs.Plain.{when◌then◌else◌, ◌=?◌}
use Rattle.meaning.specs.Numbers.{ranges_hold, nni, kind_in_range, words_in, bit_words, splits_hold}
use Rattle.meaning.specs.Bits.{all_free}
use Rattle.meaning.specs.State.{state_of, with_record, words_length, lengths_hold}
use Rattle.meaning.specs.Calls.{SetUp, set_up_of, zeros, Options, asked_of, chosen, fresh_record, fresh_state, setup}
use Rattle.leaf_refusal.proofs.Ranges.{four_hold_lem, InRange, ranges_facts}
use Rattle.call_setup.specs.Order.{in_order, lengths_are}

-- what is answered with a refusal, and what where none is given
module _ {A : Type 0} (refusal : ℕ → A) (done : A) where
  abbrev told : Bool → Bool → Bool → Bool → A
  told a s b d =
      when not a then refusal 1 else when not s then refusal 1 else when not b then refusal 13 else when not d then refusal 2 else done

  four_given : (a s b d : Bool) → (in_order a s b d ≡ 0 → ⊥) → refusal (in_order a s b d) ≡ told a s b d
  four_given true true true true h = absurd (h refl)
  four_given true true true false h = refl
  four_given true true false d h = refl
  four_given true false b d h = refl
  four_given false s b d h = refl

  four_none : (a s b d : Bool) → in_order a s b d ≡ 0 → done ≡ told a s b d
  four_none true true true true h = refl
  four_none true true true false h = absurd (omega arith)
  four_none true true false d h = absurd (omega arith)
  four_none true false b d h = absurd (omega arith)
  four_none false s b d h = absurd (omega arith)

-- then all four hold
four_passed : (a s b d : Bool) → in_order a s b d ≡ 0 → (a ≡ true) × (s ≡ true) × (b ≡ true) × (d ≡ true)
four_passed true true true true h = (refl, refl, refl, refl)
four_passed true true true false h = absurd (omega arith)
four_passed true true false d h = absurd (omega arith)
four_passed true false b d h = absurd (omega arith)
four_passed false s b d h = absurd (omega arith)

two_hold : (a b : Bool) → a && b ≡ true → (a ≡ true) × (b ≡ true)
two_hold true b h = (refl, h)
two_hold false b h = let z : ◌≡◌ {A = ℕ} 0 1 = cc in absurd (omega arith)

kind_low : (kind : ℕ) → kind_in_range kind ≡ true → kind ≤ nni
unfolding kind_in_range
kind_low kind h = leb-true kind nni h

module _ (N z kind splitvci splitpath : ℕ) (cells links calendar words bits arrived : List ℕ) where
  -- what refusals 1, 1 again, 13 and 2 test
  abbrev in_range : Bool
  in_range = ranges_hold N z

  abbrev split : Bool
  split = splits_hold z splitvci splitpath

  abbrev known : Bool
  known = kind_in_range kind

  abbrev long : Bool
  long = lengths_are N z (length cells) (length links) (length calendar) (length words) (length bits) (length arrived)

  abbrev pub setup_refusal : ℕ
  setup_refusal = in_order in_range split known long

  abbrev refused_with : ℕ → SetUp
  refused_with k = set_up_of k (state_of zeros cells links calendar words bits arrived)

  abbrev fresh : Bool → SetUp
  fresh raw = set_up_of 0 (fresh_state N z (chosen (asked_of raw kind splitvci splitpath)))

  pub setup_refused : (raw : Bool) → (setup_refusal ≡ 0 → ⊥) → refused_with setup_refusal ≡ setup N z (asked_of raw kind splitvci splitpath) (state_of zeros cells links calendar words bits arrived)
  unfolding setup with_record lengths_hold words_length
  setup_refused raw h = four_given refused_with (fresh raw) in_range split known long h

  pub setup_done : (raw : Bool) → setup_refusal ≡ 0 → fresh raw ≡ setup N z (asked_of raw kind splitvci splitpath) (state_of zeros cells links calendar words bits arrived)
  unfolding setup with_record lengths_hold words_length
  setup_done raw h = four_none refused_with (fresh raw) in_range split known long h

  -- where none is given
  pub record Lent : Type 0 where
    pub ranges : InRange N z
    pub kind_low : kind ≤ nni
    pub cells_long_lem : length cells ≡ 53 * N
    pub links_long : length links ≡ N
    pub calendar_long : length calendar ≡ 2 * N
    pub words_long : length words ≡ words_in z
    pub bits_long : length bits ≡ bit_words
    pub arrived_long : length arrived ≡ N

  pub setup_lent : setup_refusal ≡ 0 → Lent
  setup_lent h =
      let t = four_passed in_range split known long h in
      let first = length cells =? 53 * N && length links =? N && length calendar =? 2 * N && length words =? words_in z in
      let all = two_hold (first && length bits =? bit_words) (length arrived =? N) t.3 in
      let both = two_hold first (length bits =? bit_words) all.0 in
      let l =
      four_hold_lem
      (length cells =? 53 * N)
      (length links =? N)
      (length calendar =? 2 * N)
      (length words =? words_in z)
      both.0 in
      record {
        ranges = ranges_facts N z t.0;
        kind_low = kind_low kind t.2;
        cells_long_lem = eqb-true _ _ l.0;
        links_long = eqb-true _ _ l.1;
        calendar_long = eqb-true _ _ l.2;
        words_long = eqb-true _ _ l.3;
        bits_long = eqb-true _ _ both.1;
        arrived_long = eqb-true _ _ all.1;
      }

  -- the six memories as the fills leave them, and the record, are the fresh state
  pub fresh_is : Lent → (o : Options) (r : Record) (cells' links' calendar' words' bits' arrived' : List ℕ)
      → r ≡ fresh_record N z o
      → cells' ≡ replicate (length cells) 0
      → links' ≡ replicate (length links) 0
      → calendar' ≡ replicate (length calendar) 65535
      → words' ≡ replicate (length words) 0
      → bits' ≡ all_free N
      → arrived' ≡ replicate (length arrived) 0
      → state_of r cells' links' calendar' words' bits' arrived' ≡ fresh_state N z o
  unfolding fresh_state
  fresh_is l o r cells' links' calendar' words' bits' arrived' a b d e f g h =
      simp (a, b, d, e, f, g, h, l.cells_long_lem, l.links_long, l.calendar_long, l.words_long, l.arrived_long)
