-- Step 2 as it was found in numbers; and what step 3 then finds is what it would have found before step 2, since a
-- connection brought up to date at t is not moved by a second update at t.
use Prim.Native.Nat.{ℕ, ◌+◌, ◌-◌, ◌*◌, ◌%◌, ◌^◌, ◌≤◌, ◌<◌}
use mathlib.Core.Path.{◌≡◌, refl, sym, ◌∙◌, ap}
use mathlib.Core.Logic.{◌⊎◌, inl, inr}
use mathlib.Core.Bool.{Bool, true, false, ◌&&◌}
use mathlib.Core.List.{List}
use Rattle.std.specs.Prelude.{Option, Some, None}
use Rattle.std.proofs.lemmas.Option.{none-some, same_Some}
use native.Mathlib.Omega.{arith}
use native.Mathlib.Nat.{mod_self}
use native.Mathlib.Decide.{ℕ_discrete}
use borrow.Author.Tests.{eq-eqb, ne_eqb, le-leb, lt-leb, leb-true}
use lib.ListN.{length}
use Rattle.meaning.specs.declared.Record.{Record}
use Rattle.meaning.specs.Plain.{when◌then◌else◌, ◌≤?◌, ◌=?◌, Out, refused, next}
use Rattle.meaning.specs.Numbers.{slot_numbers, unused, unknown, words_per_connection, connection_place}
use Rattle.meaning.specs.State.{state_of, with_words}
use Rattle.meaning.specs.Header.{header_at, clp_in, connection}
use Rattle.meaning.specs.Bucket.{Bucket, with_s, elapsed, fall, obeys_rules, obeys_second, is_none}
use Rattle.meaning.specs.Words.{Connection, connection_at, write_connection, bucket_fits, second_obeys, second_in_range, buckets_fit, open_word_fits, fallen_to, up_to_date}
use Rattle.meaning.specs.Work.{Work, work_of, bare_answer}
use Rattle.meaning.specs.Slot.{step2}
use Rattle.meaning.proofs.WordsLaws.{write_fall, write_read, write_read_other}
use Rattle.slot_arrive.specs.declared.Fall.{Fall}
use Rattle.slot_arrive.specs.declared.Judged.{Judged}
use Rattle.slot_arrive.specs.Arrival.{connection_now, brought_of, judged_as, judged_buckets, judged_connection, judged_of, fallen}
use Rattle.slot_plan.specs.Plan.{rotated, rotated_work}

-- an open word is 0, 1, or out of range
pub open_cases : (o : ℕ) → (o ≡ 0) ⊎ ((o ≡ 1) ⊎ (1 < o))
open_cases o = go (ℕ_discrete o 0) (ℕ_discrete o 1)
  where
    go : Dec (o ≡ 0) → Dec (o ≡ 1) → (o ≡ 0) ⊎ ((o ≡ 1) ⊎ (1 < o))
    go (yes e) d = inl e
    go (no e) (yes f) = inr (inl f)
    go (no e) (no f) = inr (inr (omega arith))

-- a connection brought up to date at t is written as S of both buckets and last
pub update_is : (words : List ℕ) (vci t : ℕ)
    → write_connection words vci (connection_now t (connection_at words vci))
    ≡ fallen true vci (connection_now t (connection_at words vci)).bucket.S (connection_now t (connection_at words vci)).second.S t words
unfolding fallen connection_now fallen_to fall
update_is words vci t = write_fall words vci _ t _

-- what step 2 comes to, from what was found
abbrev pub rotating : Record → List ℕ → List ℕ → List ℕ → List ℕ → List ℕ → List ℕ → Option (Option Fall) → Out Work
rotating k cells links calendar words bits arrived None = refused
rotating k cells links calendar words bits arrived (Some b) = next (rotated_work k cells links calendar (rotated k b words) bits arrived)

-- step 2 of a work whose record is k
pub rotate_is : (k : Record) (cells links calendar words bits arrived : List ℕ) (found : Option (Option Fall))
    → found ≡ brought_of k.n k.v k.t words k.rotation
    → step2 (work_of (state_of k cells links calendar words bits arrived) (bare_answer 0))
    ≡ rotating k cells links calendar words bits arrived found
unfolding step2 brought_of connection_now rotated_work rotated fallen open_word_fits up_to_date with_words
rotate_is k cells links calendar words bits arrived found e = rw e (first (unused k.v vci) refl)
  where
    vci : ℕ
    vci = k.rotation

    vc : Connection
    vc = connection_at words vci

    Goal : Type 0
    Goal =
        step2 (work_of (state_of k cells links calendar words bits arrived) (bare_answer 0))
        ≡ rotating k cells links calendar words bits arrived (brought_of k.n k.v k.t words vci)

    fits : unused k.v vci ≡ false → vc.opened ≡ 1 → (f : Bool) → buckets_fit k.n vc ≡ f → Goal
    fits h o true f =
        rw (h, le-leb vc.opened 1 (omega arith), ne_eqb vc.opened 0 (λ q. omega arith), eq-eqb vc.opened 1 o, f)
        (ap (λ (l : List ℕ). next (work_of (state_of k cells links calendar l bits arrived) (bare_answer 0))) (update_is words vci k.t))
    fits h o false f =
        rw (h, le-leb vc.opened 1 (omega arith), ne_eqb vc.opened 0 (λ q. omega arith), eq-eqb vc.opened 1 o, f)

    second : unused k.v vci ≡ false → (vc.opened ≡ 0) ⊎ ((vc.opened ≡ 1) ⊎ (1 < vc.opened)) → Goal
    second h (inl o) = rw (h, le-leb vc.opened 1 (omega arith), eq-eqb vc.opened 0 o)
    second h (inr (inl o)) = fits h o (buckets_fit k.n vc) refl
    second h (inr (inr o)) =
        rw (h, lt-leb vc.opened 1 o, ne_eqb vc.opened 0 (λ q. omega arith), ne_eqb vc.opened 1 (λ q. omega arith))

    first : (d : Bool) → unused k.v vci ≡ d → Goal
    first true h = rw h
    first false h = second h (open_cases vc.opened)

-- what step 2 found of an open connection
pub record Brought (N t : ℕ) (vc : Connection) (b : Fall) : Type 0 where
  pub opened_one : vc.opened ≡ 1
  pub fits : buckets_fit N vc ≡ true
  pub falls_to : b.s ≡ (connection_now t vc).bucket.S
  pub second_to : b.second ≡ (connection_now t vc).second.S

no_fall : {A : Type 0} {f : Fall} → Some None ≡ Some (Some f) → A
no_fall {f = f} e = absurd (none-some f (same_Some _ _ e))

none_found : {A : Type 0} {f : Option Fall} → None ≡ Some f → A
none_found {f = f} e = absurd (none-some f e)

pub brought_on : (N z t : ℕ) (words : List ℕ) (vci : ℕ) (b : Fall) → brought_of N z t words vci ≡ Some (Some b)
    → Brought N t (connection_at words vci) b
unfolding brought_of
brought_on N z t words vci b = first (unused z vci) refl
  where
    vc : Connection
    vc = connection_at words vci

    Goal : Type 0
    Goal = brought_of N z t words vci ≡ Some (Some b) → Brought N t vc b

    fits : unused z vci ≡ false → vc.opened ≡ 1 → (f : Bool) → buckets_fit N vc ≡ f → Goal
    fits h o true f =
        rw (h, ne_eqb vc.opened 0 (λ q. omega arith), eq-eqb vc.opened 1 o, f)
        (λ is.
        let q = sym (same_Some _ _ (same_Some _ _ is)) in
        record { opened_one = o; fits = f; falls_to = ap (λ (x : Fall). x.s) q; second_to = ap (λ (x : Fall). x.second) q })
    fits h o false f = rw (h, ne_eqb vc.opened 0 (λ q. omega arith), eq-eqb vc.opened 1 o, f) none_found

    second : unused z vci ≡ false → (vc.opened ≡ 0) ⊎ ((vc.opened ≡ 1) ⊎ (1 < vc.opened)) → Goal
    second h (inl o) = rw (h, eq-eqb vc.opened 0 o) no_fall
    second h (inr (inl o)) = fits h o (buckets_fit N vc) refl
    second h (inr (inr o)) =
        rw (h, ne_eqb vc.opened 0 (λ q. omega arith), ne_eqb vc.opened 1 (λ q. omega arith)) none_found

    first : (d : Bool) → unused z vci ≡ d → Goal
    first true h = rw h no_fall
    first false h = second h (open_cases vc.opened)

-- no slot has passed since t
elapsed_none : (t : ℕ) → elapsed t t ≡ 0
unfolding elapsed
elapsed_none t = ap (λ (n : ℕ). n % slot_numbers) (omega arith) ∙ mod_self slot_numbers

again : (t : ℕ) (vc : Connection) → connection_now t (connection_now t vc) ≡ connection_now t vc
unfolding connection_now fallen_to fall
again t vc =
    rw (elapsed_none t) (λ i.
    record {
      opened = vc.opened;
      bucket = with_s vc.bucket (same (vc.bucket.S - elapsed t vc.last * 2 ^ vc.bucket.m) vc.bucket.m i);
      last = t;
      waiting = vc.waiting;
      second = with_s vc.second (same (vc.second.S - elapsed t vc.last * 2 ^ vc.second.m) vc.second.m i);
      tag = vc.tag;
    })
  where
    same : (S m : ℕ) → S - 0 * 2 ^ m ≡ S
    same S m = omega arith

and_left : (a b : Bool) → a && b ≡ true → a ≡ true
and_left true b e = refl
and_left false b e = e

and_right : (a b : Bool) → a && b ≡ true → b ≡ true
and_right true b e = e
and_right false b e = let y : ◌≡◌ {A = ℕ} 0 1 = cc in absurd (omega arith)

-- what falls stays at most C
still_below : (slots : ℕ) (b : Bucket) → (b.S ≤? b.C) ≡ true → ((fall slots b).S ≤? (fall slots b).C) ≡ true
unfolding fall
still_below slots b e = let h = leb-true b.S b.C e in le-leb (b.S - slots * 2 ^ b.m) b.C (omega arith)

-- the rules and limits don't look at S
peak_fits : (N slots : ℕ) (b : Bucket) → bucket_fits N b ≡ true → bucket_fits N (fall slots b) ≡ true
unfolding bucket_fits obeys_rules fall
peak_fits N slots b e =
    rw (and_left (obeys_rules N b) (b.S ≤? b.C) e) (still_below slots b (and_right (obeys_rules N b) (b.S ≤? b.C) e))

second_fits : (slots : ℕ) (b : Bucket) (tag : ℕ) → second_in_range b tag ≡ true → second_in_range (fall slots b) tag ≡ true
unfolding second_in_range second_obeys is_none obeys_second fall
second_fits slots b tag e =
    rw (and_left (second_obeys b tag) (b.S ≤? b.C) e) (still_below slots b (and_right (second_obeys b tag) (b.S ≤? b.C) e))

still_fits : (N t : ℕ) (vc : Connection) → buckets_fit N vc ≡ true → buckets_fit N (connection_now t vc) ≡ true
unfolding buckets_fit connection_now fallen_to
still_fits N t vc e =
    let peak = bucket_fits N vc.bucket in
    let more = second_in_range vc.second vc.tag in
    let slots = elapsed t vc.last in
    rw (peak_fits N slots vc.bucket (and_left peak more e)) (second_fits slots vc.second vc.tag (and_right peak more e))

-- a VC as step 3 sees it, before and after step 2
abbrev judged_at : ℕ → ℕ → ℕ → ℕ → ℕ → Connection → Option Judged
judged_at N t vci c clp vc =
    when vc.opened =? 0 then Some (judged_as unknown vci 0 0 0 0)
    else when vc.opened =? 1
    then (when buckets_fit N vc then judged_buckets N c clp (connection_now t vc) else None)
    else None

opened_now : (t : ℕ) (vc : Connection) → (connection_now t vc).opened ≡ vc.opened
unfolding connection_now fallen_to
opened_now t vc = refl

judged_open : (N t vci c clp : ℕ) (vc : Connection) → vc.opened ≡ 1 → buckets_fit N vc ≡ true
    → judged_at N t vci c clp vc ≡ judged_buckets N c clp (connection_now t vc)
judged_open N t vci c clp vc o f = rw (ne_eqb vc.opened 0 (λ q. omega arith), eq-eqb vc.opened 1 o, f)

judged_again : (N t vci c clp : ℕ) (vc : Connection) → vc.opened ≡ 1 → buckets_fit N vc ≡ true
    → judged_at N t vci c clp (connection_now t vc) ≡ judged_at N t vci c clp vc
judged_again N t vci c clp vc o f =
    judged_open N t vci c clp (connection_now t vc) (opened_now t vc ∙ o) (still_fits N t vc f)
    ∙ ap (judged_buckets N c clp) (again t vc)
    ∙ sym (judged_open N t vci c clp vc o f)

-- what step 3 finds at a connection is what it would have found before step 2
pub judged_connection_same : (k : Record) (words : List ℕ) (vci c clp : ℕ) (b : Option Fall)
    → Some b ≡ brought_of k.n k.v k.t words k.rotation
    → connection_place k.rotation + words_per_connection ≤ length words
    → judged_connection k.n k.t (rotated k b words) vci c clp ≡ judged_connection k.n k.t words vci c clp
unfolding judged_connection rotated fallen
judged_connection_same k words vci c clp None e inside = refl
judged_connection_same k words vci c clp (Some b) e inside = go (ℕ_discrete c k.rotation)
  where
    at : ℕ
    at = k.rotation

    vc : Connection
    vc = connection_at words at

    seen : Connection → Option Judged
    seen = judged_at k.n k.t vci c clp

    found : Brought k.n k.t vc b
    found = brought_on k.n k.v k.t words at b (sym e)

    wrote : fallen true at b.s b.second k.t words ≡ write_connection words at (connection_now k.t vc)
    wrote =
        ap (λ (S : ℕ). fallen true at S b.second k.t words) found.falls_to
        ∙ ap (λ (S : ℕ). fallen true at (connection_now k.t vc).bucket.S S k.t words) found.second_to
        ∙ sym (update_is words at k.t)

    go : Dec (c ≡ at) → judged_connection k.n k.t (fallen true at b.s b.second k.t words) vci c clp ≡ judged_connection k.n k.t words vci c clp
    go (yes q) =
        ap (λ (l : List ℕ). seen (connection_at l c)) wrote
        ∙ ap (λ (v : ℕ). seen (connection_at (write_connection words at (connection_now k.t vc)) v)) q
        ∙ ap seen (write_read words at (connection_now k.t vc) inside)
        ∙ judged_again k.n k.t vci c clp vc found.opened_one found.fits
        ∙ ap (λ (v : ℕ). seen (connection_at words v)) (sym q)
    go (no q) =
        ap (λ (l : List ℕ). seen (connection_at l c)) wrote
        ∙ ap seen (write_read_other words at (connection_now k.t vc) c q)

-- and so of every cell
pub judged_same : (k : Record) (words cell : List ℕ) (b : Option Fall)
    → Some b ≡ brought_of k.n k.v k.t words k.rotation
    → connection_place k.rotation + words_per_connection ≤ length words
    → judged_of k.n k.v k.kind k.t (rotated k b words) cell ≡ judged_of k.n k.v k.kind k.t words cell
unfolding judged_of
judged_same k words cell b e inside =
    let h = header_at k.kind cell 0 in
    rw (judged_connection_same k words h.vci (connection k.v h) (clp_in cell) b e inside)
