-- Slot i's cell and its name: where step 3 finds its words in range, the cell has 0 or 53 octets, a raw policer's is clean, and what
-- was judged by the name is what document 01 says of the cell.
use Prim.Native.Nat.{ℕ, ◌+◌, ◌*◌, ◌≤◌, ◌<◌}
use mathlib.Core.Path.{◌≡◌, refl, sym, ◌∙◌, ap}
use mathlib.Core.Logic.{◌≢◌, ◌⊎◌, inl, inr}
use mathlib.Core.Bool.{Bool, true, false}
use mathlib.Core.List.{List, []}
use native.Mathlib.Omega.{arith}
use native.Mathlib.Nat.{add-zero}
use borrow.Author.Tests.{eq-eqb, ne_eqb, eqb-true}
use lib.ListN.{length, get_or, take, drop}
use Rattle.std.specs.Prelude.{Option, Some, None}
use Rattle.std.proofs.lemmas.Option.{none-some, same_Some}
use Rattle.base_hec.specs.Check.{check_of, head_of}
use Rattle.meaning.specs.Plain.{when◌then◌else◌, ◌=?◌}
use Rattle.meaning.specs.Numbers.{most_v, connections_in, nothing, excess, lets_in}
use Rattle.meaning.specs.Header.{header_at, clp_in}
use Rattle.leaf_header.specs.Name.{no_name, name_at, word_at, Reads}
use Rattle.leaf_header.proofs.NameLaws.{number_no_name}
use Rattle.slot_arrive.specs.declared.Judged.{Judged}
use Rattle.slot_arrive.specs.Arrival.{judged_as, judged_name, judged_of}
use Rattle.slot_arrive.proofs.JudgedLaws.{judged_cell}
use Rattle.slot_plan.specs.Facts.{Accepted}
use Rattle.slot_plan.proofs.Found.{no, judged_shows}
use Rattle.burst_way.specs.declared.Way.{Way}
use Rattle.burst_way.specs.Way.{slot_record}
use Rattle.burst_arrive.proofs.ArriveLaws.{octet, name_is, reads_is, cell_long}
use Rattle.slot_plan.specs.Plan.{seat_now}
use Rattle.burst_arrive.specs.Arriving.{spot_of}
use Rattle.burst_likely.specs.Served.{likely_name, likely_judged, likely_spot, Clean}

-- a name that no header has is never in range
judged_unread : (N z t : ℕ) (words : List ℕ) (clp : ℕ) → z ≤ most_v → judged_name N z t words no_name clp ≡ None
unfolding judged_name
judged_unread N z t words clp few = rw (number_no_name z few)

-- where there is no cell there is nothing to judge
judged_nothing : (N z t : ℕ) (words : List ℕ) (clp kind : ℕ) → judged_name N z t words 0 clp ≡ judged_of N z kind t words []
unfolding judged_name judged_of
judged_nothing N z t words clp kind = refl

module _ (raw kind : ℕ) (arrivals : List ℕ) (i : ℕ) (inside : 53 * i + 53 ≤ length arrivals) where
  abbrev whole : List ℕ
  whole = take 53 (drop (53 * i) arrivals)

  head_is : head_of whole ≡ word_at arrivals (53 * i)
  unfolding head_of word_at
  head_is = rw (first, octet arrivals i inside 1 (omega arith), octet arrivals i inside 2 (omega arith), octet arrivals i inside 3 (omega arith))
    where
      first : get_or whole 0 0 ≡ get_or arrivals (53 * i) 0
      first = octet arrivals i inside 0 (omega arith) ∙ ap (λ (j : ℕ). get_or arrivals j 0) (add-zero (53 * i))

  -- what a name that can be taken says of the cell
  pub record Takes (size name : ℕ) : Type 0 where
    pub fits : (size ≡ 0) ⊎ (size ≡ 53)
    pub clean : (raw ≡ 0) ⊎ ((size ≡ 0) ⊎ Clean (take size (drop (53 * i) arrivals)))
    pub empty : size ≡ 0 → name ≡ 0
    pub named : size ≡ 53 → name ≡ name_at kind arrivals (53 * i)

  takes_whole : (size : ℕ) → size ≡ 53
      → (name : ℕ) → name ≡ (when raw =? 0 then name_at kind arrivals (53 * i) else when check_of (word_at arrivals (53 * i)) =? get_or arrivals (53 * i + 4) 0 then name_at kind arrivals (53 * i) else no_name)
      → name ≢ no_name
      → Takes size name
  takes_whole size e name is some = go (raw =? 0) (check_of (word_at arrivals (53 * i)) =? get_or arrivals (53 * i + 4) 0) refl refl is
    where
      go : (r d : Bool) → raw =? 0 ≡ r → check_of (word_at arrivals (53 * i)) =? get_or arrivals (53 * i + 4) 0 ≡ d
          → name ≡ (when r then name_at kind arrivals (53 * i) else when d then name_at kind arrivals (53 * i) else no_name)
          → Takes size name
      go true d er ed q = record { fits = inr e; clean = inl (eqb-true raw 0 er); empty = λ z. absurd (omega (arith, z, e)); named = λ z. q }
      go false true er ed q =
          record {
            fits = inr e;
            clean = inr (inr (rw e (ap check_of head_is ∙ eqb-true _ _ ed ∙ sym (octet arrivals i inside 4 (omega arith)))));
            empty = λ z. absurd (omega (arith, z, e));
            named = λ z. q;
          }
      go false false er ed q = absurd (some q)

  pub takes : (size name : ℕ) → name ≡ likely_name raw kind arrivals size i → name ≢ no_name → Takes size name
  unfolding likely_name
  takes size name is some = go (size =? 0) (size =? 53) refl refl is
    where
      go : (a b : Bool) → size =? 0 ≡ a → size =? 53 ≡ b
          → name
          ≡ (when a then 0
          else when b then (when raw =? 0 then name_at kind arrivals (53 * i) else when check_of (word_at arrivals (53 * i)) =? get_or arrivals (53 * i + 4) 0 then name_at kind arrivals (53 * i) else no_name)
          else no_name)
          → Takes size name
      go true b ea eb q =
          let z = eqb-true size 0 ea in
          record { fits = inl z; clean = inr (inl z); empty = λ y. q; named = λ y. absurd (omega (arith, z, y)) }
      go false true ea eb q = takes_whole size (eqb-true size 53 eb) name q some
      go false false ea eb q = absurd (some q)

-- ---- the name by its tests
module _ (raw kind : ℕ) (arrivals : List ℕ) (size i : ℕ) where
  pub likely_none : size ≡ 0 → 0 ≡ likely_name raw kind arrivals size i
  unfolding likely_name
  likely_none e = rw e

  pub likely_odd : size ≢ 0 → size ≢ 53 → no_name ≡ likely_name raw kind arrivals size i
  unfolding likely_name
  likely_odd a b = simp (ne_eqb size 0 a, ne_eqb size 53 b)

  pub likely_wrong : size ≡ 53 → raw ≢ 0 → check_of (word_at arrivals (53 * i)) ≢ get_or arrivals (53 * i + 4) 0 → no_name ≡ likely_name raw kind arrivals size i
  unfolding likely_name
  likely_wrong e r ne = rw e (simp (ne_eqb raw 0 r, ne_eqb _ _ ne))

  pub likely_read : size ≡ 53 → (raw ≡ 0) ⊎ (check_of (word_at arrivals (53 * i)) ≡ get_or arrivals (53 * i + 4) 0)
      → name_at kind arrivals (53 * i) ≡ likely_name raw kind arrivals size i
  unfolding likely_name
  likely_read e (inl r) = rw (e, r)
  likely_read e (inr same) = rw e (go (raw =? 0))
    where
      go : (b : Bool) → name_at kind arrivals (53 * i) ≡ (when b then name_at kind arrivals (53 * i) else when check_of (word_at arrivals (53 * i)) =? get_or arrivals (53 * i + 4) 0 then name_at kind arrivals (53 * i) else no_name)
      go true = refl
      go false = simp (eq-eqb _ _ same)

-- the cell as it was judged by its name
module _ (N z t raw kind : ℕ) (words arrivals : List ℕ) (i : ℕ) (inside : 53 * i + 53 ≤ length arrivals) (few : z ≤ most_v) (size name : ℕ)
    (is : name ≡ likely_name raw kind arrivals size i) (reads : size ≡ 53 → name ≢ no_name → Reads kind (header_at kind arrivals (53 * i)) name) (j : Judged)
    (judged : Some j ≡ judged_name N z t words name (clp_in (take 53 (drop (53 * i) arrivals)))) where
  some : name ≢ no_name
  some e = none-some j (sym (judged ∙ ap (λ (x : ℕ). judged_name N z t words x (clp_in (take 53 (drop (53 * i) arrivals)))) e ∙ judged_unread N z t words _ few))

  taken : Takes raw kind arrivals i inside size name
  taken = takes raw kind arrivals i inside size name is some

  pub cell_fits : (size ≡ 0) ⊎ (size ≡ 53)
  cell_fits = taken.fits

  pub cell_clean : (raw ≡ 0) ⊎ ((size ≡ 0) ⊎ Clean (take size (drop (53 * i) arrivals)))
  cell_clean = taken.clean

  pub cell_judged : Some j ≡ judged_of N z kind t words (take size (drop (53 * i) arrivals))
  cell_judged = go cell_fits
    where
      go : (size ≡ 0) ⊎ (size ≡ 53) → Some j ≡ judged_of N z kind t words (take size (drop (53 * i) arrivals))
      go (inl e) = judged ∙ rw (e, taken.empty e) (judged_nothing N z t words _ kind)
      go (inr e) =
          judged
          ∙ judged_cell N z kind t words (take 53 (drop (53 * i) arrivals)) name few (name_is arrivals i inside kind name (taken.named e))
          (λ ne. reads_is arrivals i inside kind name (reads e some))
          ∙ rw e refl

  -- only a whole cell is let in
  pub let_in_whole : lets_in j.verdict ≡ true → size ≡ 53
  unfolding judged_name lets_in
  let_in_whole v = go cell_fits
    where
      go : (size ≡ 0) ⊎ (size ≡ 53) → size ≡ 53
      go (inl e) =
          let is = same_Some j (judged_as nothing 0 0 0 0 0) (judged ∙ ap (λ (x : ℕ). judged_name N z t words x (clp_in (take 53 (drop (53 * i) arrivals)))) (taken.empty e)) in
          no (sym (ap (λ (y : Judged). lets_in y.verdict) is) ∙ v)
      go (inr e) = e

-- what is known of slot i's cell once its words are in range; and of one that is let in
pub record Known (w : Way) (words arrivals : List ℕ) (i size : ℕ) (j : Judged) : Type 0 where
  pub fits : (size ≡ 0) ⊎ (size ≡ 53)
  pub clean : (w.raw ≡ 0) ⊎ ((size ≡ 0) ⊎ Clean (take size (drop (53 * i) arrivals)))
  pub judged : Some j ≡ judged_of w.n w.v w.kind w.t words (take size (drop (53 * i) arrivals))
  pub excess_low : j.verdict =? excess ≡ true → j.vci < connections_in w.v
  pub whole : lets_in j.verdict ≡ true → size ≡ 53
  pub judged_whole : lets_in j.verdict ≡ true → Some j ≡ judged_of w.n w.v w.kind w.t words (take 53 (drop (53 * i) arrivals))
  pub accepted : lets_in j.verdict ≡ true → Accepted (slot_record w) j (take 53 (drop (53 * i) arrivals)) words

pub known : (w : Way) (words arrivals : List ℕ) (i size name : ℕ) (j : Judged) → 53 * i + 53 ≤ length arrivals → w.v ≤ most_v
    → name ≡ likely_name w.raw w.kind arrivals size i
    → (size ≡ 53 → name ≢ no_name → Reads w.kind (header_at w.kind arrivals (53 * i)) name)
    → Some j ≡ judged_name w.n w.v w.t words name (clp_in (take 53 (drop (53 * i) arrivals)))
    → Known w words arrivals i size j
known w words arrivals i size name j inside few is reads by_name =
    record { fits = cell_fits w.n w.v w.t w.raw w.kind words arrivals i inside few size name is reads j by_name; clean = cell_clean w.n w.v w.t w.raw w.kind words arrivals i inside few size name is reads j by_name; judged = own; excess_low = excess_low; whole = whole; judged_whole = own_whole; accepted = accepted }
  where
    own : Some j ≡ judged_of w.n w.v w.kind w.t words (take size (drop (53 * i) arrivals))
    own = cell_judged w.n w.v w.t w.raw w.kind words arrivals i inside few size name is reads j by_name

    excess_low : j.verdict =? excess ≡ true → j.vci < connections_in w.v
    excess_low x =
        (judged_shows (slot_record w) (take size (drop (53 * i) arrivals)) words).excess_is j (sym own) (eqb-true _ _ x)

    whole : lets_in j.verdict ≡ true → size ≡ 53
    whole v = let_in_whole w.n w.v w.t w.raw w.kind words arrivals i inside few size name is reads j by_name v

    own_whole : lets_in j.verdict ≡ true → Some j ≡ judged_of w.n w.v w.kind w.t words (take 53 (drop (53 * i) arrivals))
    own_whole v = own ∙ ap (λ (n : ℕ). judged_of w.n w.v w.kind w.t words (take n (drop (53 * i) arrivals))) (whole v)

    accepted : lets_in j.verdict ≡ true → Accepted (slot_record w) j (take 53 (drop (53 * i) arrivals)) words
    accepted v =
        (judged_shows (slot_record w) (take 53 (drop (53 * i) arrivals)) words).accepted_is (λ ne. cell_long arrivals i inside) j (sym (own_whole v)) v

-- what was found of slot i's cell, and its seat, by its size and octets alone
pub judged_likely : (w : Way) (words arrivals : List ℕ) (size i name : ℕ) (found : Option Judged) → name ≡ likely_name w.raw w.kind arrivals size i
    → found ≡ judged_name w.n w.v w.t words name (clp_in (take 53 (drop (53 * i) arrivals)))
    → found ≡ likely_judged w words arrivals size i
judged_likely w words arrivals size i name found is e =
    e ∙ ap (λ (x : ℕ). judged_name w.n w.v w.t words x (clp_in (take 53 (drop (53 * i) arrivals)))) is

pub spot_likely : (w : Way) (calendar bits : List ℕ) (j : Judged) (vci d : ℕ) → vci ≡ j.vci → d ≡ j.d
    → spot_of vci d (seat_now (slot_record w) d calendar bits) ≡ likely_spot w j calendar bits
spot_likely w calendar bits j vci d e f = rw (e, f) refl
