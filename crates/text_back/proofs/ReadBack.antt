-- W2: the octets of merged events are read throughout, and merging what is read gives the merged events again. Cut into
-- records that each hold what they say, the events are read one by one.
use Prim.Native.Nat.{ℕ, zero, suc, ◌+◌, ◌/◌, ◌%◌, ◌≤◌, ◌<◌}
use mathlib.Core.Path.{◌≡◌, refl, sym, ap, subst, ◌∙◌}
use mathlib.Core.Bool.{Bool, true, false, ◌&&◌}
use mathlib.Core.List.{List, [], ◌∷◌, ◌++◌}
use native.Mathlib.Numerals.{add-one}
use native.Mathlib.Omega.{arith}
use borrow.Author.Tests.{eqb-false, leb-true, le-leb}
use lib.ListN.{length, take, drop, length-append, length-drop, take-append-drop}
use lib.Seq.{drop-drop, drop-append_seam}
use Rattle.meaning.specs.Plain.{when◌then◌else◌, ◌=?◌}
use Rattle.trace_record.proofs.Cases.{stands_end}
use Rattle.list_lines.specs.Put.{puts, Put}
use Rattle.list_lines.proofs.Puts.{put_whole}
use Rattle.text_meaning.specs.Events.{Event, told, pause, full, octets_of, octets_all, join, merge}
use Rattle.text_meaning.specs.Writing.{good, onto}
use Rattle.text_record.specs.Record.{Given, GM, VO, VX, CA, SL, VS, PO, PX, record_octets, given_event, allowed_at}
use Rattle.text_record.specs.Back.{Reads}
use Rattle.text_record.proofs.Top.{put_reads}
use Rattle.text_trip.specs.Reading.{read_at, read_from, read}
use Rattle.text_trip.proofs.Settled.{single_octets}
use Rattle.text_back.specs.Back.{Sayable, Later, Begun, ReadBack}
use Rattle.text_back.proofs.Cut.{pauses, cut, cut_octets, Some, cut_merge, merge_twice}

both : (a b : Bool) → a && b ≡ true → (a ≡ true) × (b ≡ true)
both true true h = (refl, refl)
both true false h = (refl, h)
both false b h = (h, cc)

never : {A : Type 0} → false ≡ true → A
never e = let z : ◌≡◌ {A = ℕ} 0 1 = cc in absurd (omega arith)

-- ---- a record that says an event, and is written as its octets

record Single (at : ℕ) (e : Event) : Type 0 where
  pub given : Given
  pub says : given_event given ≡ e
  pub allowed : allowed_at at given ≡ true
  pub octets : octets_of e ≡ record_octets given

abbrev Singles : List Event → Type 0
Singles [] = 0 ≤ 0
Singles (e ∷ es) = Single 1 e × Singles es

told_octets : (o : List ℕ) (r : Given) → given_event r ≡ told o → o ≡ record_octets r
told_octets o (GM N z head) e = cc
told_octets o (VO vci m F C) e = cc
told_octets o (VX vci) e = cc
told_octets o (VS vci m F C x) e = cc
told_octets o (PO vpi m F C) e = cc
told_octets o (PX vpi) e = cc
told_octets o (CA cell) e = cc
told_octets o (SL count) e = let z : ◌≡◌ {A = ℕ} 0 1 = cc in absurd (omega arith)

told_single : (at : ℕ) (o : List ℕ) → Sayable at (told o) → Single at (told o)
unfolding octets_of
told_single at o s = record { given = s.given; says = s.says; allowed = s.allowed; octets = told_octets o s.given s.says }

pause_single : (n : ℕ) → 0 < n → n ≤ full → Single 1 (pause n)
unfolding allowed_at record_octets
pause_single n h l = record { given = SL n; says = refl; allowed = simp (le-leb 1 n h); octets = single_octets n h l }

-- no pause sets up
pause_later : (n : ℕ) → Sayable 0 (pause n) → ⊥
unfolding allowed_at
pause_later n s = go s.given s.says s.allowed
  where
    go : (r : Given) → given_event r ≡ pause n → allowed_at 0 r ≡ true → ⊥
    go (GM N z head) e a = let y : ◌≡◌ {A = ℕ} 0 1 = cc in omega arith
    go (VO vci m F C) e a = never a
    go (VX vci) e a = never a
    go (VS vci m F C x) e a = never a
    go (PO vpi m F C) e a = never a
    go (PX vpi) e a = never a
    go (CA cell) e a = never a
    go (SL count) e a = never a

pause_some : (n : ℕ) → Sayable 1 (pause n) → 0 < n
unfolding allowed_at
pause_some n s = go s.given s.says s.allowed
  where
    go : (r : Given) → given_event r ≡ pause n → allowed_at 1 r ≡ true → 0 < n
    go (GM N z head) e a = never a
    go (VO vci m F C) e a = let y : ◌≡◌ {A = ℕ} 0 1 = cc in absurd (omega arith)
    go (VX vci) e a = let y : ◌≡◌ {A = ℕ} 0 1 = cc in absurd (omega arith)
    go (VS vci m F C x) e a = let y : ◌≡◌ {A = ℕ} 0 1 = cc in absurd (omega arith)
    go (PO vpi m F C) e a = let y : ◌≡◌ {A = ℕ} 0 1 = cc in absurd (omega arith)
    go (PX vpi) e a = let y : ◌≡◌ {A = ℕ} 0 1 = cc in absurd (omega arith)
    go (CA cell) e a = let y : ◌≡◌ {A = ℕ} 0 1 = cc in absurd (omega arith)
    go (SL count) e a = let y : count ≡ n = cc in let l = leb-true 1 count a in omega arith

-- ---- cut into singles

singles_append : (xs ys : List Event) → Singles xs → Singles ys → Singles (xs ++ ys)
singles_append [] ys h k = k
singles_append (x ∷ xs) ys h k = (h.0, singles_append xs ys h.1 k)

rest_singles : (r : ℕ) → r < full → (b : Bool) → (r =? 0) ≡ b → Singles (when b then [] else (pause r ∷ []))
rest_singles r h true e = omega arith
rest_singles r h false e = let z = eqb-false r 0 e in (pause_single r (omega arith) (omega arith), omega arith)

pauses_singles : (k r : ℕ) → r < full → Singles (pauses k r)
unfolding pauses
pauses_singles zero r h = rest_singles r h (r =? 0) refl
pauses_singles (suc k) r h = (pause_single full (omega arith) (omega arith), pauses_singles k r h)

cut_singles : (es : List Event) → Later es → Singles (cut es)
unfolding cut
cut_singles [] h = omega arith
cut_singles (told o ∷ es) h = (told_single 1 o h.0, cut_singles es h.1)
cut_singles (pause n ∷ es) h = singles_append (pauses (n / full) (n % full)) (cut es) (pauses_singles (n / full) (n % full) (omega arith)) (cut_singles es h.1)

later_some : (es : List Event) → Later es → Some es
later_some [] h = omega arith
later_some (told o ∷ es) h = later_some es h.1
later_some (pause n ∷ es) h = (pause_some n h.0, later_some es h.1)

join_later : (n : ℕ) (es : List Event) → 0 < n → Later es → Later (join n es)
unfolding join allowed_at
join_later n [] h l = (record { given = SL n; says = refl; allowed = simp (le-leb 1 n h) }, omega arith)
join_later n (told o ∷ es) h l = (record { given = SL n; says = refl; allowed = simp (le-leb 1 n h) }, l)
join_later n (pause m ∷ es) h l = (record { given = SL (n + m); says = refl; allowed = simp (le-leb 1 (n + m) (omega arith)) }, l.1)

merge_later : (es : List Event) → Later es → Later (merge es)
unfolding merge
merge_later [] h = h
merge_later (told o ∷ es) h = (h.0, merge_later es h.1)
merge_later (pause n ∷ es) h = join_later n (merge es) (pause_some n h.0) (merge_later es h.1)

-- ---- the reader, record by record

-- a record that is read at one later place is read at any
any_later : (at : ℕ) (r : Given) → 0 < at → allowed_at 1 r ≡ true → allowed_at at r ≡ true
unfolding allowed_at
any_later at (GM N z head) h a = never a
any_later at (VO vci m F C) h a = le-leb 1 at h
any_later at (VX vci) h a = le-leb 1 at h
any_later at (VS vci m F C x) h a = le-leb 1 at h
any_later at (PO vpi m F C) h a = le-leb 1 at h
any_later at (PX vpi) h a = le-leb 1 at h
any_later at (CA cell) h a = simp (le-leb 1 at h) a
any_later at (SL count) h a = simp (le-leb 1 at h) a

some_octets : (r : Given) → 0 < length (record_octets r)
unfolding record_octets
some_octets (GM N z head) = omega arith
some_octets (VO vci m F C) = omega arith
some_octets (VX vci) = omega arith
some_octets (VS vci m F C x) = omega arith
some_octets (PO vpi m F C) = omega arith
some_octets (PX vpi) = omega arith
some_octets (CA cell) = omega arith
some_octets (SL count) = omega arith

onto_good : (e : Event) (es : List Event) → onto e (good es) ≡ good (e ∷ es)
unfolding onto
onto_good e es = refl

module _ (s : List ℕ) where
  -- octets that stand at a place, put there, change nothing
  put_same : (at : ℕ) (o rest : List ℕ) → drop at s ≡ o ++ rest → at + length o ≤ length s → puts s at o ≡ s
  put_same at o rest e h =
      let p : Put s at o (puts s at o) (at + length o) = record { list = refl; next = refl } in
      let b : drop (at + length o) s ≡ rest = sym (drop-drop (length o) at s) ∙ ap (drop (length o)) e ∙ drop-append_seam o rest in
      put_whole p h ∙ ap (λ (x : List ℕ). take at s ++ (o ++ x)) b ∙ ap (λ (x : List ℕ). take at s ++ x) (sym e) ∙ take-append-drop at s

  stands_single : (at : ℕ) (r : Given) (rest : List ℕ) → allowed_at at r ≡ true → drop at s ≡ record_octets r ++ rest
      → at + length (record_octets r) ≤ length s → Reads s at r
  stands_single at r rest a e h =
      subst (λ (x : List ℕ). Reads x at r) (put_same at (record_octets r) rest e h) (put_reads s at r a h)

  read_one : (k at : ℕ) (e : Event) (es : List Event) → (x : Single at e) → Reads s at x.given
      → read_from k s (at + length (record_octets x.given)) ≡ good es → read_from (suc k) s at ≡ good (e ∷ es)
  unfolding read_from read_at
  read_one k at e es x q on =
      rw q.stands (ap (λ (d : Event). onto d (read_from k s (at + length (record_octets x.given)))) (q.says ∙ x.says) ∙ ap (onto e) on ∙ onto_good e es)

  read_end : (k at : ℕ) → at ≡ length s → 0 < at → read_from (suc k) s at ≡ good []
  unfolding read_from read_at
  read_end k at e h = rw (sym (stands_end s at e (λ z. omega arith)))

  -- an event at a place, where what stands behind it is read
  read_event : (k at : ℕ) (e : Event) (es : List Event) → drop at s ≡ octets_all (e ∷ es) → at ≤ length s → length s < suc k + at → Single at e
      → ((p : ℕ) → drop p s ≡ octets_all es → p ≤ length s → length s < k + p → 0 < p → read_from k s p ≡ good es)
      → read_from (suc k) s at ≡ good (e ∷ es)
  unfolding octets_all
  read_event k at e es d h f x on =
      let o = record_octets x.given in
      let c : drop at s ≡ o ++ octets_all es = d ∙ ap (λ (y : List ℕ). y ++ octets_all es) x.octets in
      let l = length-drop at s in
      let m = ap length c ∙ length-append o (octets_all es) in
      let r : at + length o ≤ length s = omega (arith, l, m, h) in
      let g = some_octets x.given in
      let n : drop (at + length o) s ≡ octets_all es = sym (drop-drop (length o) at s) ∙ ap (drop (length o)) c ∙ drop-append_seam o (octets_all es) in
      read_one k at e es x (stands_single at x.given (octets_all es) x.allowed c r) (on (at + length o) n r (omega arith) (omega arith))

  read_singles : (es : List Event) → Singles es
      → (k at : ℕ) → drop at s ≡ octets_all es → at ≤ length s → length s < k + at → 0 < at → read_from k s at ≡ good es
  unfolding octets_all
  read_singles es w zero at d h f p = absurd (omega arith)
  read_singles [] w (suc k) at d h f p =
      let l = length-drop at s in let m = ap length d in read_end k at (omega (arith, l, m, h)) p
  read_singles (e ∷ es) w (suc k) at d h f p =
      let x : Single at e = record { given = w.0.given; says = w.0.says; allowed = any_later at w.0.given p w.0.allowed; octets = w.0.octets } in
      read_event k at e es d h f x (read_singles es w.1 k)

-- ---- the theorem

pub read_back : (es : List Event) → Begun es → ReadBack es
unfolding merge read cut
read_back [] b = absurd b
read_back (told o ∷ es) b =
    let s = octets_all (merge (told o ∷ es)) in
    let fs = told o ∷ cut (merge es) in
    let c : octets_all fs ≡ s = cut_octets (merge (told o ∷ es)) in
    record {
      found = fs;
      reads = ap (λ (k : ℕ). read_from k s 0) (add-one (length s))
          ∙ read_event s (length s) 0 (told o) (cut (merge es)) (sym c) (omega arith) (omega arith) (told_single 0 o b.0)
          (read_singles s (cut (merge es)) (cut_singles (merge es) (merge_later es b.1)) (length s));
      same = ap (λ (x : List Event). told o ∷ x) (cut_merge (merge es) (later_some (merge es) (merge_later es b.1)) ∙ merge_twice es);
    }
read_back (pause n ∷ es) b = absurd (pause_later n b.0)
