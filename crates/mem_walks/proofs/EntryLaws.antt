-- The calendar entries walked one after the other: a yes is a queue for each, and what they take together
-- (entries-sound, entries-complete).
use Prim.Native.Nat.{ℕ, zero, suc, ◌+◌, ◌-◌, ◌*◌, ◌≤◌, ◌<◌}
use mathlib.Core.Path.{◌≡◌, refl, sym, ap, ◌∙◌}
use mathlib.Core.Bool.{Bool, true, false}
use mathlib.Core.List.{List, [], ◌∷◌, ◌++◌, map}
use native.Mathlib.Numerals.{add-one}
use native.Mathlib.Omega.{arith}
use lib.ListN.{length, get_or}
use Rattle.meaning.specs.State.{Ends}
use Rattle.meaning.specs.Lists.{entry_at}
use Rattle.meaning.specs.Audit.{joined}
use Rattle.mem_walks.specs.Budget.{spend_all, Covers}
use Rattle.mem_walks.specs.Walk.{Walked, walked, ends_of, list_of, entries_of}
use Rattle.mem_walks.specs.Stored.{NoMark, Queues}
use Rattle.mem_walks.proofs.Choice.{if_elim, false_true}
use Rattle.mem_walks.proofs.BudgetLaws.{covers_left, covers_right, spend_append}
use Rattle.mem_walks.proofs.WalkLaws.{map_append}
use Rattle.mem_walks.proofs.ListLaws.{Takes, takes_more, no_mark_left, list_sound, list_complete, ends_entry}

module _ (l calendar : List ℕ) (nm : ℕ → ℕ) where
  entries_none : (e : ℕ) (b w : List ℕ) → entries_of l calendar nm 0 e b w ≡ walked true b w
  unfolding entries_of
  entries_none e b w = refl

  entries_on : (k e : ℕ) (b w : List ℕ) (r : Walked) → r ≡ list_of l nm (entry_at calendar e) b w → r.ok ≡ true
      → entries_of l calendar nm (suc k) e b w ≡ entries_of l calendar nm k (suc e) r.spaces r.waits
  unfolding entries_of
  entries_on k e b w r p o = rw (← p) (rw o)

  entries_stop : (k e : ℕ) (b w : List ℕ) (r : Walked) → r ≡ list_of l nm (entry_at calendar e) b w → r.ok ≡ false
      → entries_of l calendar nm (suc k) e b w ≡ r
  unfolding entries_of
  entries_stop k e b w r p o = rw (← p) (rw o)

  pub record Entries (k e : ℕ) (b w : List ℕ) (r : Walked) : Type 0 where
    pub queues : List (List ℕ)
    pub many : length queues ≡ k
    pub each : Queues l calendar e queues
    pub takes : Takes b w (joined queues) (map nm (joined queues)) r

  pub entries_sound : (k e : ℕ) (b w : List ℕ) → (entries_of l calendar nm k e b w).ok ≡ true
      → Entries k e b w (entries_of l calendar nm k e b w)
  unfolding entries_of
  entries_sound zero e b w =
      λ o. record {
        queues = [];
        many = refl;
        each = tt;
        takes = record { fits_spaces = tt; fits_cells = tt; spaces_left = refl; cells_left = refl };
      }
  entries_sound (suc k) e b w =
      let r : Walked = list_of l nm (entry_at calendar e) b w in
      if_elim (λ (s : Walked). s.ok ≡ true → Entries (suc k) e b w s) r.ok _ _
      (λ h o.
      let f = list_sound l nm (entry_at calendar e) b w h in
      let i = entries_sound k (suc e) r.spaces r.waits o in
      let later = joined i.queues in
      record {
        queues = f.spaces_of_lem ∷ i.queues;
        many = ap suc i.many;
        each = (f.chain, i.each);
        takes = rw (map_append nm f.spaces_of_lem later)
            (takes_more b w f.spaces_of_lem (map nm f.spaces_of_lem) later (map nm later) r
            (entries_of l calendar nm k (suc e) r.spaces r.waits) f.takes i.takes);
      })
      (λ h o. false_true (sym h ∙ o))

  pub entries_complete : (e : ℕ) (qs : List (List ℕ)) (b w : List ℕ) → NoMark b → Queues l calendar e qs
      → Covers b (joined qs) → Covers w (map nm (joined qs))
      → entries_of l calendar nm (length qs) e b w ≡ walked true (spend_all b (joined qs)) (spend_all w (map nm (joined qs)))
  unfolding entries_of
  entries_complete e [] b w n c d g = refl
  entries_complete e (q ∷ qs) b w n c d g =
      let v = map nm q in
      let u = map nm (joined qs) in
      let g2 : Covers w (v ++ u) = rw (← map_append nm q (joined qs)) g in
      let here = covers_left b q (joined qs) d in
      let first = list_complete l nm (entry_at calendar e) q b w n c.0 here (covers_left w v u g2) in
      entries_on (length qs) e b w (walked true (spend_all b q) (spend_all w v)) (sym first) refl
      ∙ entries_complete (suc e) qs (spend_all b q) (spend_all w v) (no_mark_left b q here n) c.1
      (covers_right b q (joined qs) d) (covers_right w v u g2)
      ∙ rw (map_append nm q (joined qs), spend_append b q (joined qs), spend_append w v u)

  -- one turn of the loop over the entries, as the code meets it: h and t are the head and tail that it reads
  module _ (n e h t : ℕ) (b w : List ℕ) (r : Walked) (low : e < n)
      (head : h ≡ get_or calendar (2 * e) 0) (tail : t ≡ get_or calendar (2 * e + 1) 0)
      (met : r ≡ list_of l nm (ends_of h t) b w) where
    more : n - e ≡ suc (n - (e + 1))
    more = omega arith

    listed : r ≡ list_of l nm (entry_at calendar e) b w
    listed = met ∙ ap (λ (z : Ends). list_of l nm z b w) (ends_entry calendar e h t head tail)

    pub entry_turn : r.ok ≡ true
        → entries_of l calendar nm (n - (e + 1)) (e + 1) r.spaces r.waits ≡ entries_of l calendar nm (n - e) e b w
    entry_turn o = rw (more, add-one e) (sym (entries_on (n - suc e) e b w r listed o))

    pub entry_stop : r.ok ≡ false → walked false r.spaces r.waits ≡ entries_of l calendar nm (n - e) e b w
    entry_stop o =
        rw more
        (ap (λ (z : Bool). walked z r.spaces r.waits) (sym o) ∙ sym (entries_stop (n - (e + 1)) e b w r listed o))

  pub entries_done : (n e : ℕ) (b w : List ℕ) → n ≤ e → walked true b w ≡ entries_of l calendar nm (n - e) e b w
  entries_done n e b w h =
      let d : n - e ≡ 0 = omega arith in
      rw d (sym (entries_none e b w))

  pub entries_begin : (n : ℕ) (b w : List ℕ) → entries_of l calendar nm (n - 0) 0 b w ≡ entries_of l calendar nm n 0 b w
  entries_begin n b w = ap (λ (k : ℕ). entries_of l calendar nm k 0 b w) (omega arith)
