-- Step 3 by cases, as its tests come one after the other: of a connection by its open word, of a cell by its length and name.
use Prim.Native.Nat.{ℕ, ◌*◌, ◌/◌, ◌%◌, ◌^◌, ◌≤◌, ◌<◌}
use mathlib.Core.Path.{◌≡◌, refl, sym, ◌∙◌, ap}
use mathlib.Core.Logic.{◌≢◌}
use mathlib.Core.Bool.{Bool, true, false}
use mathlib.Core.List.{List}
use Rattle.std.specs.Prelude.{Some, None}
use native.Mathlib.Omega.{arith}
use native.Mathlib.Decide.{ℕ_discrete}
use native.Mathlib.Nat.{div-lt_iff_lt-mul, mul-le-mul}
use borrow.Author.Tests.{eq-eqb, ne_eqb}
use lib.ListN.{length, get_or}
use lib.Pow.{pow_pos, pow_mono}
use Rattle.meaning.specs.Plain.{when◌then◌else◌}
use Rattle.meaning.specs.Numbers.{most_v, kind_in_range, nothing, unknown, words_per_connection}
use Rattle.meaning.specs.Header.{Header, header_at, clp_in, connection, names_connection}
use Rattle.meaning.specs.Words.{connection_at, bucket_fits, buckets_fit}
use Rattle.meaning.proofs.NamesLaws.{names_not_0}
use Rattle.leaf_header.specs.Name.{name_of, no_name, name_at, Reads, number_for, numbered}
use Rattle.leaf_header.proofs.NameLaws.{name_none, name_user, number_named, number_no_name, numbered_yes, numbered_no, numbered_fits}
use Rattle.mem_words.proofs.Fits.{opened_at}
use Rattle.slot_arrive.specs.Arrival.{connection_now, judged_as, judged_connection, cell_name, judged_name, judged_of}
use Rattle.slot_arrive.specs.Both.{judged_both}
use Rattle.slot_arrive.proofs.BothLaws.{both_is}

-- D of an S up to C-F is at most that of C-F
pub delay_below : (S most m N : ℕ) → S ≤ most → most / 2 ^ m < N → S / 2 ^ m < N
delay_below S most m N le low =
    (div-lt_iff_lt-mul {k = 2 ^ m} {x = S} {y = N} (pow_pos m)).1
    (let g = (div-lt_iff_lt-mul {k = 2 ^ m} {x = most} {y = N} (pow_pos m)).0 low in omega arith)

-- C-F is far below 2^32, so that F fits on top of an S within it
pub room_low : (N m room : ℕ) → m ≤ 15 → N < 65_536 → room / 2 ^ m < N → room < 2_147_483_648
room_low N m room low small near =
    let most = (div-lt_iff_lt-mul {k = 2 ^ m} {x = room} {y = N} (pow_pos m)).0 near in
    omega (arith, most, mul-le-mul {n₁ = N} {m₁ = 2 ^ m} {n₂ = 65_535} {m₂ = 32_768} (omega arith) (pow_mono {i = m} {j = 15} low))

-- ---- a connection
module _ (N t : ℕ) (words : List ℕ) (vci c clp : ℕ) where
  pub judged_closed : get_or words (words_per_connection * c) 0 ≡ 0 → Some (judged_as unknown vci 0 0 0 0) ≡ judged_connection N t words vci c clp
  unfolding judged_connection
  judged_closed o = simp (eq-eqb _ _ (opened_at words c ∙ o))

  -- with the peak bucket in range, the second one decides
  pub judged_both_lem : (s : ℕ) → get_or words (words_per_connection * c) 0 ≡ 1 → bucket_fits N (connection_at words c).bucket ≡ true
      → s ≡ (connection_now t (connection_at words c)).bucket.S
      → judged_both N t c clp s (connection_at words c) ≡ judged_connection N t words vci c clp
  unfolding judged_connection buckets_fit
  judged_both_lem s o fits e =
      simp (opened_at words c ∙ o, fits) (both_is N t c clp s (connection_at words c) e)

  pub judged_unfit : get_or words (words_per_connection * c) 0 ≡ 1 → bucket_fits N (connection_at words c).bucket ≡ false
      → None ≡ judged_connection N t words vci c clp
  unfolding judged_connection buckets_fit
  judged_unfit o fits = simp (opened_at words c ∙ o, fits)

  pub judged_other : get_or words (words_per_connection * c) 0 ≢ 0 → get_or words (words_per_connection * c) 0 ≢ 1
      → None ≡ judged_connection N t words vci c clp
  unfolding judged_connection
  judged_other o₀ o₁ =
      simp (
        ne_eqb (connection_at words c).opened 0 (λ e. o₀ (sym (opened_at words c) ∙ e)),
        ne_eqb (connection_at words c).opened 1 (λ e. o₁ (sym (opened_at words c) ∙ e)),
      )

-- ---- a name
module _ (N z t : ℕ) (words : List ℕ) (name clp : ℕ) where
  pub by_none : name ≡ 0 → Some (judged_as nothing 0 0 0 0 0) ≡ judged_name N z t words name clp
  unfolding judged_name
  by_none e = simp (eq-eqb _ _ e)

  pub by_connection : (c : ℕ) → c ≡ number_for z name → name ≢ 0 → c ≢ 0
      → judged_connection N t words (name % 65536) c clp ≡ judged_name N z t words name clp
  unfolding judged_name
  by_connection c is user some = rw is (simp (ne_eqb _ _ user, ne_eqb _ _ (λ e. some (is ∙ e))))

  pub by_no_kind : number_for z name ≡ 0 → name ≢ 0 → name ≡ no_name → None ≡ judged_name N z t words name clp
  unfolding judged_name
  by_no_kind none user bad = simp (ne_eqb _ _ user, eq-eqb _ _ none, eq-eqb _ _ bad)

  pub by_unknown : number_for z name ≡ 0 → name ≢ 0 → name ≢ no_name
      → Some (judged_as unknown (name % 65536) 0 0 0 0) ≡ judged_name N z t words name clp
  unfolding judged_name
  by_unknown none user good = simp (ne_eqb _ _ user, eq-eqb _ _ none, ne_eqb _ _ good)

-- ---- a cell of 0 or 53 octets
module _ (N z kind t : ℕ) (words cell : List ℕ) where
  abbrev h : Header
  h = header_at kind cell 0

  -- a header that is read, by the name that stands for it
  known : (name : ℕ) → z ≤ most_v → kind_in_range kind ≡ true → Reads kind h name → name ≡ name_of h → length cell ≢ 0
      → judged_name N z t words name (clp_in cell) ≡ judged_of N z kind t words cell
  unfolding judged_of
  known name few fits reads is some = go (ℕ_discrete name 0) (names_connection z h) refl
    where
      clp : ℕ
      clp = clp_in cell

      number : number_for z name ≡ numbered kind z h
      number = ap (number_for z) is ∙ number_named z h few (omega (arith, (reads fits).0)) ∙ rw_in
        where
          rw_in : (when names_connection z h then connection z h else 0) ≡ numbered kind z h
          rw_in = sym (numbered_fits kind z h fits)

      go : Dec (name ≡ 0) → (b : Bool) → names_connection z h ≡ b
          → judged_name N z t words name (clp_in cell) ≡ judged_of N z kind t words cell
      go (yes e) b q = sym (by_none N z t words name clp e) ∙ simp (ne_eqb _ _ some, fits, name_none h (sym is ∙ e))
      go (no user) true q =
          let c = number ∙ numbered_yes kind z h fits q in
          sym (by_connection N z t words name clp (connection z h) (sym c) user (names_not_0 z h q))
          ∙ rw (reads fits).0 (simp (ne_eqb _ _ some, fits, name_user h (λ e. user (is ∙ e)), q))
      go (no user) false q =
          sym (by_unknown N z t words name clp (number ∙ numbered_no kind z h q) user (λ e. omega (arith, (reads fits).1, e)))
          ∙ rw (reads fits).0 (simp (ne_eqb _ _ some, fits, name_user h (λ e. user (is ∙ e)), q))

  -- the name says all that step 3 asks of a cell
  pub judged_cell : (name : ℕ) → z ≤ most_v → name ≡ cell_name kind cell → (length cell ≢ 0 → Reads kind h name)
      → judged_name N z t words name (clp_in cell) ≡ judged_of N z kind t words cell
  unfolding cell_name name_at judged_of
  judged_cell name few is reads = go (ℕ_discrete (length cell) 0) (kind_in_range kind) refl
    where
      go : Dec (length cell ≡ 0) → (b : Bool) → kind_in_range kind ≡ b
          → judged_name N z t words name (clp_in cell) ≡ judged_of N z kind t words cell
      go (yes none) b k =
          sym (by_none N z t words name (clp_in cell) (is ∙ simp (eq-eqb _ _ none))) ∙ simp (eq-eqb _ _ none)
      go (no some) true k = known name few k (reads some) (is ∙ simp (ne_eqb _ _ some, k)) some
      go (no some) false k =
          let bad : name ≡ no_name = is ∙ simp (ne_eqb _ _ some, k) in
          sym (by_no_kind N z t words name (clp_in cell) (ap (number_for z) bad ∙ number_no_name z few) (λ e. omega (arith, bad, e)) bad)
          ∙ simp (ne_eqb _ _ some, k)
