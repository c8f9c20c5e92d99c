-- Step 3, as it was found in numbers: refused, no cell accepted, or space x to be taken by the accepted cell.
use Prim.Native.Nat.{ℕ, ◌+◌, ◌-◌, ◌*◌, ◌^◌, ◌<◌}
use mathlib.Core.Path.{◌≡◌, refl, ap, ◌∙◌}
use mathlib.Core.Logic.{◌⊎◌, inl, inr}
use mathlib.Core.Bool.{Bool, true, false, ◌&&◌}
use mathlib.Core.List.{List}
use Rattle.std.specs.Prelude.{Option, Some, None}
use native.Mathlib.Omega.{arith}
use borrow.Author.Tests.{eq-eqb, ne_eqb, le-leb, lt-leb}
use lib.ListN.{length}
use Rattle.meaning.specs.declared.Record.{Record}
use Rattle.meaning.specs.Plain.{when◌then◌else◌, ◌<?◌, ◌=?◌, Out, refused, next}
use Rattle.meaning.specs.Numbers.{kind_in_range, accepted, excess, lets_in}
use Rattle.meaning.specs.State.{state_of, with_words}
use Rattle.meaning.specs.Header.{Header, header_at, clp_in, no_user_cell, connection, names_connection}
use Rattle.meaning.specs.Bucket.{Bucket, with_s, elapsed, fall, fill}
use Rattle.meaning.specs.Words.{Connection, connection_at, write_connection, with_buckets, with_waiting, buckets_fit, open_word_fits, fallen_to, up_to_date}
use Rattle.meaning.specs.Work.{Work, work_of, answer_of}
use Rattle.meaning.specs.Arrival.{verdict_on, second_after, accept, judge}
use Rattle.meaning.specs.Slot.{step3}
use Rattle.meaning.proofs.WordsLaws.{write_fill}
use Rattle.slot_arrive.specs.declared.Judged.{Judged}
use Rattle.slot_arrive.specs.Arrival.{connection_now, judged_buckets, judged_connection, judged_of, fallen, filled}
use Rattle.slot_plan.specs.Plan.{rotated_work, quiet_work, seeking_work, seating}
use Rattle.slot_plan.proofs.Rotate.{open_cases, update_is}
use Rattle.slot_plan.proofs.Found.{not_excess}

-- filled or not, of a second bucket only S is another
second_is : (clp verdict S : ℕ) (x : Bucket)
    → second_after clp verdict (with_s x S) ≡ with_s x (second_after clp verdict (with_s x S)).S
unfolding second_after fill
second_is clp verdict S x = go (clp =? 0 && verdict =? accepted)
  where
    go : (b : Bool) → (when b then with_s x (S + x.F) else with_s x S) ≡ with_s x (when b then with_s x (S + x.F) else with_s x S).S
    go true = refl
    go false = refl

-- the words of the connection of a cell that is let in
fill_is : (words : List ℕ) (vci t clp verdict : ℕ)
    → let vc = connection_now t (connection_at words vci) in
    write_connection words vci (with_waiting (with_buckets vc (fill vc.bucket) (second_after clp verdict vc.second)) (vc.waiting + 1))
    ≡ filled vci (fill vc.bucket).S (second_after clp verdict vc.second).S t (vc.waiting + 1) words
unfolding filled fill connection_now fallen_to fall
fill_is words vci t clp verdict =
    let vc = connection_at words vci in
    let S = vc.second.S - elapsed t vc.last * 2 ^ vc.second.m in
    ap (λ (x : Bucket). write_connection words vci (record {
      opened = vc.opened;
      bucket = with_s vc.bucket (vc.bucket.S - elapsed t vc.last * 2 ^ vc.bucket.m + vc.bucket.F);
      last = t;
      waiting = vc.waiting + 1;
      second = x;
      tag = vc.tag;
    })) (second_is clp verdict S vc.second)
    ∙ write_fill words vci _ t _ _

-- what step 3 comes to, from what was found
unfoldable pub arriving : Record → Option Judged → ℕ → List ℕ → List ℕ → List ℕ → List ℕ → List ℕ → List ℕ → List ℕ → Out Work
arriving k None x cell cells links calendar words bits arrived = refused
arriving k (Some j) x cell cells links calendar words bits arrived =
    when lets_in j.verdict then seating k j x cell cells links calendar words bits arrived
    else next (quiet_work k j cells links calendar words bits arrived)

module _ (k : Record) (x : ℕ) (cell cells links calendar words bits arrived : List ℕ) where
  abbrev h : Header
  h = header_at k.kind cell 0

  abbrev at : ℕ
  at = connection k.v h

  abbrev clp : ℕ
  clp = clp_in cell

  abbrev vc : Connection
  vc = connection_at words at

  abbrev w : Work
  w = rotated_work k cells links calendar words bits arrived

  -- the connection is open and its words but waiting are in range
  judge_is : (e a : Bool) → (verdict_on clp (connection_now k.t vc) =? excess) ≡ e → (connection_now k.t vc).waiting <? k.n ≡ a
      → judge x cell at w (connection_now k.t vc)
      ≡ arriving k (judged_buckets k.n at clp (connection_now k.t vc)) x cell cells links calendar words bits arrived
  unfolding judge accept judged_buckets arriving rotated_work quiet_work fallen seating seeking_work with_words lets_in
  judge_is true a ex ea =
      rw ex
      (ap (λ (l : List ℕ). next (work_of (state_of k cells links calendar l bits arrived) (answer_of 0 excess at 0 65535 0))) (update_is words at k.t))
  judge_is false true ex ea =
      rw (
        ex,
        ea,
        (not_excess clp (connection_now k.t vc) ex).lets,
        fill_is words at k.t clp (verdict_on clp (connection_now k.t vc)),
      )
  judge_is false false ex ea = rw (ex, ea)

  abbrev found : Option Judged
  found = judged_of k.n k.v k.kind k.t words cell

  -- a header is read: there is a cell, the line kind fits, and it is a user's
  abbrev Read : Type 0
  Read = ((length cell =? 0) ≡ false) × (kind_in_range k.kind ≡ true) × (no_user_cell h ≡ false)

  Goal : Type 0
  Goal = step3 x cell w ≡ arriving k found x cell cells links calendar words bits arrived

  fits : (f : Bool) → Read → names_connection k.v h ≡ true → vc.opened ≡ 1 → buckets_fit k.n vc ≡ f → Goal
  unfolding Goal step3 judged_of judged_connection rotated_work open_word_fits up_to_date connection_now arriving
  fits true c n o f =
      rw (c.0, c.1, c.2, n, le-leb vc.opened 1 (omega arith), ne_eqb vc.opened 0 (λ q. omega arith), eq-eqb vc.opened 1 o, f)
      (judge_is (verdict_on clp (connection_now k.t vc) =? excess) ((connection_now k.t vc).waiting <? k.n) refl refl)
  fits false c n o f =
      rw (c.0, c.1, c.2, n, le-leb vc.opened 1 (omega arith), ne_eqb vc.opened 0 (λ q. omega arith), eq-eqb vc.opened 1 o, f)

  at_connection : Read → names_connection k.v h ≡ true
      → (vc.opened ≡ 0) ⊎ ((vc.opened ≡ 1) ⊎ (1 < vc.opened)) → Goal
  unfolding Goal step3 judged_of judged_connection rotated_work open_word_fits arriving quiet_work fallen lets_in
  at_connection c n (inl o) = rw (c.0, c.1, c.2, n, le-leb vc.opened 1 (omega arith), eq-eqb vc.opened 0 o)
  at_connection c n (inr (inl o)) = fits (buckets_fit k.n vc) c n o refl
  at_connection c n (inr (inr o)) = rw (c.0, c.1, c.2, n, lt-leb vc.opened 1 o, ne_eqb vc.opened 0 (λ q. omega arith), ne_eqb vc.opened 1 (λ q. omega arith))

  at_cell : (l u f n : Bool) → (length cell =? 0) ≡ l → kind_in_range k.kind ≡ f → no_user_cell h ≡ u → names_connection k.v h ≡ n → Goal
  unfolding Goal step3 judged_of rotated_work arriving quiet_work fallen lets_in
  at_cell true u f n el ef eu en = rw el
  at_cell false u false n el ef eu en = rw (el, ef)
  at_cell false true true n el ef eu en = rw (el, ef, eu)
  at_cell false false true true el ef eu en = at_connection (el, ef, eu) en (open_cases vc.opened)
  at_cell false false true false el ef eu en = rw (el, ef, eu, en)

  pub arrive_is : step3 x cell w ≡ arriving k found x cell cells links calendar words bits arrived
  unfolding Goal
  arrive_is = at_cell (length cell =? 0) (no_user_cell h) (kind_in_range k.kind) (names_connection k.v h) refl refl refl refl
