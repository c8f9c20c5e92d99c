-- The Output List and the queues of all entries walked one after the other: they use both budgets up exactly when they are
-- stored as `Stored` says, by paid and afford.
use Prim.Native.Nat.{ℕ}
use mathlib.Core.Path.{◌≡◌, refl, sym, ap, ◌∙◌}
use mathlib.Core.Bool.{Bool, true, false, ◌&&◌}
use Rattle.std.specs.List.{list_all}
use mathlib.Core.List.{List, ◌++◌, map}
use native.Mathlib.Omega.{arith}
use lib.ListN.{get_or}
use Rattle.meaning.specs.Plain.{◌=?◌}
use Rattle.meaning.specs.State.{Ends}
use Rattle.meaning.specs.Audit.{joined}
use Rattle.mem_walks.specs.Budget.{spend_all, Covers, Gone}
use Rattle.mem_walks.specs.Walk.{Walked, walked, list_of, entries_of, lists_of}
use Rattle.mem_walks.specs.Stored.{NoMark, Stored}
use Rattle.mem_walks.proofs.Choice.{if_elim, false_true, both}
use Rattle.mem_walks.proofs.BudgetLaws.{gone_yes, gone_all, paid, afford, covers_left, covers_right, spend_append}
use Rattle.mem_walks.proofs.WalkLaws.{map_append}
use Rattle.mem_walks.proofs.ListLaws.{Takes, takes_more, no_mark_left, list_sound, list_complete}
use Rattle.mem_walks.proofs.EntryLaws.{entries_sound, entries_complete}

-- The two ways through the code: r₁ is what the first walk answers and leaves

module _ (l calendar : List ℕ) (nm : ℕ → ℕ) (N : ℕ) (output : Ends) (b w : List ℕ)
    (r₁ : Walked) (walk₁ : r₁ ≡ list_of l nm output b w) where
  pub lists_output : r₁.ok ≡ false → walked false r₁.spaces r₁.waits ≡ lists_of l calendar nm N output b w
  unfolding lists_of
  lists_output o = ap (λ (z : Bool). walked z r₁.spaces r₁.waits) (sym o) ∙ rw (← walk₁) (rw o)

  pub lists_on : r₁.ok ≡ true → entries_of l calendar nm N 0 r₁.spaces r₁.waits ≡ lists_of l calendar nm N output b w
  unfolding lists_of
  lists_on o = rw (← walk₁) (rw o)

module _ (l calendar : List ℕ) (nm : ℕ → ℕ) (N : ℕ) (output : Ends) (b w : List ℕ) where
  -- What a yes means

  lists_sound : (lists_of l calendar nm N output b w).ok ≡ true → Gone (lists_of l calendar nm N output b w).spaces
      → Gone (lists_of l calendar nm N output b w).waits → Stored l calendar nm N output b w
  unfolding lists_of
  lists_sound =
      let P : Walked → Type 0 = λ r.
      r.ok ≡ true → Gone r.spaces → Gone r.waits → Stored l calendar nm N output b w in
      let r₁ = list_of l nm output b w in
      let r₂ = entries_of l calendar nm N 0 r₁.spaces r₁.waits in
      if_elim P r₁.ok _ _
      (λ o₁ o₂ g h.
      let o = list_sound l nm output b w o₁ in
      let q = entries_sound l calendar nm N 0 r₁.spaces r₁.waits o₂ in
      let later = joined q.queues in
      let xs = o.spaces_of_lem ++ later in
      let all : Takes b w xs (map nm xs) r₂ =
      rw (map_append nm o.spaces_of_lem later)
      (takes_more b w o.spaces_of_lem (map nm o.spaces_of_lem) later (map nm later) r₁ r₂ o.takes q.takes) in
      record {
        output = o.spaces_of_lem;
        queues = q.queues;
        output_is = o.chain;
        queues_many = q.many;
        queues_are = q.each;
        spaces = λ k.
            let left : get_or r₂.spaces k 0 ≡ get_or (spend_all b xs) k 0 = rw all.spaces_left in
            omega (arith, paid b xs all.fits_spaces k, left, g k);
        cells = λ k.
            let left : get_or r₂.waits k 0 ≡ get_or (spend_all w (map nm xs)) k 0 = rw all.cells_left in
            omega (arith, paid w (map nm xs) all.fits_cells k, left, h k);
      })
      (λ h o g. false_true (sym h ∙ o))

  -- That it is given, and what is left

  module _ (no_mark : NoMark b) (s : Stored l calendar nm N output b w) where
    abbrev later : List ℕ
    later = joined s.queues

    abbrev queued : List ℕ
    queued = s.output ++ later

    abbrev b₁ : List ℕ
    b₁ = spend_all b s.output

    abbrev w₁ : List ℕ
    w₁ = spend_all w (map nm s.output)

    fit : Covers b queued
    fit = afford b queued (λ k. omega (arith, s.spaces k))

    fit_output : Covers b s.output
    fit_output = covers_left b s.output later fit

    named : Covers w (map nm queued)
    named = afford w (map nm queued) (λ k. omega (arith, s.cells k))

    named_parts : Covers w (map nm s.output ++ map nm later)
    named_parts = rw (← map_append nm s.output later) named

    after_output : list_of l nm output b w ≡ walked true b₁ w₁
    after_output =
        list_complete l nm output s.output b w no_mark s.output_is fit_output
        (covers_left w (map nm s.output) (map nm later) named_parts)

    after_queues : entries_of l calendar nm N 0 b₁ w₁ ≡ walked true (spend_all b₁ later) (spend_all w₁ (map nm later))
    after_queues =
        ap (λ (k : ℕ). entries_of l calendar nm k 0 b₁ w₁) (sym s.queues_many)
        ∙ entries_complete l calendar nm 0 s.queues b₁ w₁
        (no_mark_left b s.output fit_output no_mark) s.queues_are
        (covers_right b s.output later fit)
        (covers_right w (map nm s.output) (map nm later) named_parts)

    lists_complete : lists_of l calendar nm N output b w ≡ walked true (spend_all b queued) (spend_all w (map nm queued))
    lists_complete =
        let r₁ = walked true b₁ w₁ in
        sym (lists_on l calendar nm N output b w r₁ (sym after_output) refl)
        ∙ after_queues
        ∙ rw (
          map_append nm s.output later,
          spend_append b s.output later,
          spend_append w (map nm s.output) (map nm later),
        )

    lists_ok : (lists_of l calendar nm N output b w).ok ≡ true
    lists_ok = ap (λ (z : Walked). z.ok) lists_complete

    spaces_gone : Gone (lists_of l calendar nm N output b w).spaces
    spaces_gone k =
        ap (λ (z : Walked). get_or z.spaces k 0) lists_complete
        ∙ omega (arith, paid b queued fit k, s.spaces k)

    cells_gone : Gone (lists_of l calendar nm N output b w).waits
    cells_gone k =
        ap (λ (z : Walked). get_or z.waits k 0) lists_complete
        ∙ omega (arith, paid w (map nm queued) named k, s.cells k)

-- the same, as the code meets it: r is what the walks answer and leave
module _ (l calendar : List ℕ) (nm : ℕ → ℕ) (N : ℕ) (output : Ends) (b w : List ℕ)
    (r : Walked) (met : r ≡ lists_of l calendar nm N output b w) where
  -- the answer: the walks succeed, and nothing is left of either budget
  abbrev pub answer : Bool
  answer = r.ok && list_all (λ left. left =? 0) r.spaces && list_all (λ left. left =? 0) r.waits

  pub stored_sound : r.ok ≡ true → Gone r.spaces → Gone r.waits → Stored l calendar nm N output b w
  stored_sound = rw met (lists_sound l calendar nm N output b w)

  pub stored_yes : answer ≡ true → Stored l calendar nm N output b w
  stored_yes h =
      let p = both (r.ok && list_all (λ left. left =? 0) r.spaces) (list_all (λ left. left =? 0) r.waits) h in
      let q = both r.ok (list_all (λ left. left =? 0) r.spaces) p.0 in
      stored_sound q.0 (gone_yes r.spaces q.1) (gone_yes r.waits p.1)

  pub stored_no : NoMark b → Stored l calendar nm N output b w → answer ≡ true
  stored_no n s =
      let ok : r.ok ≡ true = rw met (lists_ok l calendar nm N output b w n s) in
      let spaces : Gone r.spaces = rw met (spaces_gone l calendar nm N output b w n s) in
      let waits : Gone r.waits = rw met (cells_gone l calendar nm N output b w n s) in
      rw (ok, gone_all r.spaces spaces, gone_all r.waits waits) refl
