-- What the tests of a slot have shown, once they passed: of the judged cell, of its seat, and of what departs.
use Prim.Native.Nat.{ℕ, ◌+◌, ◌-◌, ◌*◌, ◌/◌, ◌^◌, ◌≤◌, ◌<◌}
use mathlib.Core.Path.{◌≡◌, refl, sym, ◌∙◌, ap, subst}
use mathlib.Core.Logic.{◌⊎◌, inl, inr, ◌≢◌}
use mathlib.Core.Bool.{Bool, true, false, ◌&&◌}
use mathlib.Core.List.{List}
use Rattle.std.specs.Prelude.{Option, Some, None}
use Rattle.std.proofs.lemmas.Option.{none-some, same_Some}
use native.Mathlib.Omega.{arith}
use native.Mathlib.Nat.{div-lt_iff_lt-mul}
use borrow.Author.Tests.{eq-eqb, ne_eqb, ltb-true, ltb-false}
use lib.ListN.{length}
use lib.Pow.{pow_pos}
use Rattle.meaning.specs.declared.Record.{Record}
use Rattle.meaning.specs.Plain.{when◌then◌else◌, ◌<?◌, ◌≤?◌, ◌=?◌}
use Rattle.meaning.specs.Numbers.{connections_in, kind_in_range, excess, lets_in}
use Rattle.meaning.specs.Header.{Header, header_at, clp_in, no_user_cell, connection, names_connection}
use Rattle.meaning.specs.Bucket.{obeys_rules, elapsed, fall, is_excess, delay}
use Rattle.meaning.specs.Words.{Connection, connection_at, bucket_fits, second_in_range, buckets_fit, fallen_to}
use Rattle.meaning.specs.Arrival.{verdict_on}
use Rattle.meaning.specs.Bits.{is_free_space, spaces_fit}
use Rattle.meaning.specs.Lists.{ends_fit, entry_at}
use Rattle.meaning.proofs.NamesLaws.{names_low, names_not_0}
use Rattle.leaf_header.proofs.NameLaws.{numbered_yes}
use Rattle.slot_arrive.specs.declared.Judged.{Judged}
use Rattle.slot_arrive.specs.Arrival.{connection_now, judged_buckets, judged_connection, judged_of}
use Rattle.mem_lists.specs.declared.Seat.{Seat}
use Rattle.mem_lists.specs.Spaces.{seat_as, seat_at, entry_of, seat_of}
use Rattle.slot_plan.specs.Facts.{Accepted, Seated}
use Rattle.slot_plan.proofs.Rotate.{open_cases}

pub no : {A : Type 0} → false ≡ true → A
no e = let y : ◌≡◌ {A = ℕ} 0 1 = cc in absurd (omega arith)

pub and : (a b : Bool) → a && b ≡ true → (a ≡ true) × (b ≡ true)
and true b e = (refl, e)
and false b e = no e

no_false : {A : Type 0} → true ≡ false → A
no_false e = no (sym e)

-- ---- D is below N: S is at most C-F, of which rule 6 speaks
below : (s e p n : ℕ) → 0 < p → s ≤ e → e / p < n → s / p < n
below s e p n pos le h =
    (div-lt_iff_lt-mul {k = p} {x = s} {y = n} pos).1 (let g = (div-lt_iff_lt-mul {k = p} {x = e} {y = n} pos).0 h in omega arith)

near : (N t : ℕ) (vc : Connection) → buckets_fit N vc ≡ true → is_excess (connection_now t vc).bucket ≡ false → delay (connection_now t vc).bucket < N
unfolding buckets_fit bucket_fits obeys_rules is_excess delay connection_now fallen_to fall
near N t vc f x =
    let b = vc.bucket in
    let rules = (and (obeys_rules N b) (b.S ≤? b.C) (and (bucket_fits N b) (second_in_range vc.second vc.tag) f).0).0 in
    let last = (and (b.m ≤? 15 && 2 ^ b.m ≤? b.F && b.F ≤? 16777216 && b.F ≤? b.C) ((b.C - b.F) / 2 ^ b.m <? N) rules).1 in
    below (b.S - elapsed t vc.last * 2 ^ b.m) (b.C - b.F) (2 ^ b.m) N (pow_pos b.m) (ltb-false _ _ x) (ltb-true _ _ last)

-- a cell that is not excess is within the peak, and let in
pub record LetIn (clp : ℕ) (vc : Connection) : Type 0 where
  pub within : is_excess vc.bucket ≡ false
  pub lets : lets_in (verdict_on clp vc) ≡ true

pub not_excess : (clp : ℕ) (vc : Connection) → (verdict_on clp vc =? excess) ≡ false → LetIn clp vc
unfolding verdict_on lets_in
not_excess clp vc e = go (is_excess vc.bucket) (clp =? 0 && is_excess vc.second) (vc.tag =? 0) refl refl refl e
  where
    go : (x y g : Bool) → is_excess vc.bucket ≡ x → (clp =? 0 && is_excess vc.second) ≡ y → (vc.tag =? 0) ≡ g
        → (verdict_on clp vc =? excess) ≡ false
        → LetIn clp vc
    go true y g ex ey eg = rw ex no_false
    go false true true ex ey eg = rw (ex, ey, eg) no_false
    go false true false ex ey eg = λ h. record { within = ex; lets = rw (ex, ey, eg) }
    go false false g ex ey eg = λ h. record { within = ex; lets = rw (ex, ey) }

-- ---- the judged cell
module _ (k : Record) (cell words : List ℕ) where
  abbrev h : Header
  h = header_at k.kind cell 0

  abbrev at : ℕ
  at = connection k.v h

  abbrev clp : ℕ
  clp = clp_in cell

  abbrev vc : Connection
  vc = connection_at words at

  abbrev found : Option Judged
  found = judged_of k.n k.v k.kind k.t words cell

  -- a header is read: there is a cell, the line kind fits, and it is a user's
  abbrev Read : Type 0
  Read = ((length cell =? 0) ≡ false) × (kind_in_range k.kind ≡ true) × (no_user_cell h ≡ false)

  pub record Shows : Type 0 where
    pub accepted_is : ((length cell ≡ 0 → ⊥) → length cell ≡ 53) → (j : Judged) → found ≡ Some j → lets_in j.verdict ≡ true → Accepted k j cell words
    pub excess_is : (j : Judged) → found ≡ Some j → j.verdict ≡ excess → j.vci < connections_in k.v

  none_found : {A : Type 0} {j : Judged} → None ≡ Some j → A
  none_found {j = j} e = absurd (none-some j e)

  -- a cell with this judgement is not let in
  not_let_in : {A : Type 0} {j : Judged} (x : Judged) → lets_in x.verdict ≡ false → Some x ≡ Some j → lets_in j.verdict ≡ true → A
  not_let_in x f is v = no (sym f ∙ ap (λ (y : Judged). lets_in y.verdict) (same_Some _ _ is) ∙ v)

  -- its verdict is that of x
  verdict_is : {j : Judged} (x : Judged) → Some x ≡ Some j → x.verdict ≡ j.verdict
  verdict_is x is = ap (λ (y : Judged). y.verdict) (same_Some _ _ is)

  in_bucket : (x a : Bool) → Read → names_connection k.v h ≡ true → vc.opened ≡ 1
      → buckets_fit k.n vc ≡ true → (verdict_on clp (connection_now k.t vc) =? excess) ≡ x → (connection_now k.t vc).waiting <? k.n ≡ a → Shows
  unfolding judged_of judged_connection judged_buckets lets_in
  in_bucket true a c n o f ex ea =
      record {
        accepted_is = rw (c.0, c.1, c.2, n, ne_eqb vc.opened 0 (λ q. omega arith), eq-eqb vc.opened 1 o, f, ex) (λ l j is v. not_let_in _ refl is v);
        excess_is = rw (c.0, c.1, c.2, n, ne_eqb vc.opened 0 (λ q. omega arith), eq-eqb vc.opened 1 o, f, ex)
            (λ j is v. let P : Judged → Type 0 = λ y. y.vci < connections_in k.v in subst P (same_Some _ _ is) (names_low k.v h n));
      }
  in_bucket false true c n o f ex ea =
      record {
        accepted_is = rw (c.0, c.1, c.2, n, ne_eqb vc.opened 0 (λ q. omega arith), eq-eqb vc.opened 1 o, f, ex, ea)
            (λ l j is v.
            let P : Judged → Type 0 = λ y. Accepted k y cell words in
            subst P (same_Some _ _ is)
            record {
              let_in_lem = ap (λ (y : Judged). lets_in y.verdict) (same_Some _ _ is) ∙ v;
              vci_low = let some = names_not_0 k.v h n in omega (arith, some);
              vci_high = names_low k.v h n;
              near = near k.n k.t vc f (not_excess clp (connection_now k.t vc) ex).within;
              waiting_low = omega arith;
              waiting_high = let low = ltb-true (connection_now k.t vc).waiting k.n ea in omega arith;
              is_open = o;
              cell_long = l (λ q. no_false (sym (eq-eqb (length cell) 0 q) ∙ c.0));
              names = numbered_yes k.kind k.v h c.1 n;
            });
        excess_is = rw (c.0, c.1, c.2, n, ne_eqb vc.opened 0 (λ q. omega arith), eq-eqb vc.opened 1 o, f, ex, ea)
            (λ j is v. no_false (sym (eq-eqb _ _ (verdict_is _ is ∙ v)) ∙ ex));
      }
  in_bucket false false c n o f ex ea =
      record {
        accepted_is = rw (c.0, c.1, c.2, n, ne_eqb vc.opened 0 (λ q. omega arith), eq-eqb vc.opened 1 o, f, ex, ea) (λ l j is v. none_found is);
        excess_is = rw (c.0, c.1, c.2, n, ne_eqb vc.opened 0 (λ q. omega arith), eq-eqb vc.opened 1 o, f, ex, ea) (λ j is v. none_found is);
      }

  at_connection : Read → names_connection k.v h ≡ true
      → (vc.opened ≡ 0) ⊎ ((vc.opened ≡ 1) ⊎ (1 < vc.opened)) → (f : Bool) → buckets_fit k.n vc ≡ f → Shows
  unfolding judged_of judged_connection lets_in
  at_connection c n (inl o) f ef =
      record {
        accepted_is = rw (c.0, c.1, c.2, n, eq-eqb vc.opened 0 o) (λ l j is v. not_let_in _ refl is v);
        excess_is = rw (c.0, c.1, c.2, n, eq-eqb vc.opened 0 o) (λ j is v. absurd (omega (arith, verdict_is _ is, v)));
      }
  at_connection c n (inr (inl o)) true ef =
      in_bucket (verdict_on clp (connection_now k.t vc) =? excess) ((connection_now k.t vc).waiting <? k.n) c n o ef refl refl
  at_connection c n (inr (inl o)) false ef =
      record {
        accepted_is = rw (c.0, c.1, c.2, n, ne_eqb vc.opened 0 (λ q. omega arith), eq-eqb vc.opened 1 o, ef) (λ l j is v. none_found is);
        excess_is = rw (c.0, c.1, c.2, n, ne_eqb vc.opened 0 (λ q. omega arith), eq-eqb vc.opened 1 o, ef) (λ j is v. none_found is);
      }
  at_connection c n (inr (inr o)) f ef =
      record {
        accepted_is = rw (c.0, c.1, c.2, n, ne_eqb vc.opened 0 (λ q. omega arith), ne_eqb vc.opened 1 (λ q. omega arith)) (λ l j is v. none_found is);
        excess_is = rw (c.0, c.1, c.2, n, ne_eqb vc.opened 0 (λ q. omega arith), ne_eqb vc.opened 1 (λ q. omega arith)) (λ j is v. none_found is);
      }

  at_cell : (l u f n : Bool) → (length cell =? 0) ≡ l → kind_in_range k.kind ≡ f → no_user_cell h ≡ u → names_connection k.v h ≡ n → Shows
  unfolding judged_of lets_in
  at_cell true u f n el ef eu en =
      record { accepted_is = rw el (λ l j is v. not_let_in _ refl is v); excess_is = rw el (λ j is v. absurd (omega (arith, verdict_is _ is, v))) }
  at_cell false u false n el ef eu en =
      record { accepted_is = rw (el, ef) (λ l j is v. none_found is); excess_is = rw (el, ef) (λ j is v. none_found is) }
  at_cell false true true n el ef eu en =
      record {
        accepted_is = rw (el, ef, eu) (λ l j is v. not_let_in _ refl is v);
        excess_is = rw (el, ef, eu) (λ j is v. absurd (omega (arith, verdict_is _ is, v)));
      }
  at_cell false false true true el ef eu en =
      at_connection (el, ef, eu) en (open_cases vc.opened) (buckets_fit k.n vc) refl
  at_cell false false true false el ef eu en =
      record {
        accepted_is = rw (el, ef, eu, en) (λ l j is v. not_let_in _ refl is v);
        excess_is = rw (el, ef, eu, en) (λ j is v. absurd (omega (arith, verdict_is _ is, v)));
      }

  pub judged_shows : Shows
  judged_shows = at_cell (length cell =? 0) (no_user_cell h) (kind_in_range k.kind) (names_connection k.v h) refl refl refl refl

-- ---- the seat
entry_low : (N T D : ℕ) → T < N → D < N → entry_of N T D < N
unfolding entry_of
entry_low N T D t d = go (T + D <? N) refl
  where
    go : (b : Bool) → T + D <? N ≡ b → (when b then T + D else T + D - N) < N
    go true e = ltb-true (T + D) N e
    go false e = omega arith

module _ (k : Record) (calendar bits : List ℕ) (D x : ℕ) where
  abbrev e : ℕ
  e = entry_of k.n k.turn D

  pub seat_shows : k.turn < k.n → D < k.n → (a : Seat) → seat_of k.n calendar k.turn D x ≡ Some a
      → x < k.n → spaces_fit k.n k.free bits ≡ true → k.free ≢ 0 → is_free_space bits x ≡ true
      → Seated k a bits
  unfolding seat_of seat_at
  seat_shows t d a is low fits some free = go (ends_fit k.n (entry_at calendar e)) refl is
    where
      go : (b : Bool) → ends_fit k.n (entry_at calendar e) ≡ b
          → (when b then Some (seat_as x e (entry_at calendar e)) else None) ≡ Some a
          → Seated k a bits
      go true f q =
          let P : Seat → Type 0 = λ y. Seated k y bits in
          subst P (same_Some _ _ q)
          record {
            x_low = low;
            e_low = entry_low k.n k.turn D t d;
            entry_fits = f;
            spaces_fit_lem = fits;
            some_free = omega (arith, some);
            is_free = free;
          }
      go false f q = absurd (none-some a q)
