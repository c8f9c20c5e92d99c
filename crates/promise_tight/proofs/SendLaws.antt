-- The run of `late_calls`, call by call: VC 2's k-th cell, in slot k, is due at k × 1,025 parts of 1/1,024 slot; then VC 1's
-- cells are due at once. Each is taken by the leak rule, so nothing of the policer's memory enters.
use Prim.Native.Nat.{ℕ, zero, suc, ◌+◌, ◌-◌, ◌*◌, ◌/◌, ◌≤◌, ◌<◌}
use mathlib.Core.Path.{◌≡◌, refl, ap, ◌∙◌, subst}
use mathlib.Core.Bool.{true}
use mathlib.Core.List.{List, [], ◌∷◌, ◌++◌}
use mathlib.Core.Option.{Option, none, some}
use native.Mathlib.Decide.{dec_lt}
use native.Mathlib.Nat.{div-one}
use native.Mathlib.Omega.{arith}
use borrow.Author.Tests.{le-leb}
use lib.ListN.{length, get_or, replicate, length-append, get_or-append}
use lib.Seq.{get_or-append-add}
use Rattle.meaning.specs.Words.{without_second}
use Rattle.meaning_runs.specs.Run.{on_slot, Run, call, calls, served}
use Rattle.meaning_runs.specs.Leak.{Opening, opening_with, due_time, due_slot, leak_accepts, opening_of}
use Rattle.meaning_runs.specs.Seen.{Cell, absent_cell, cells_of}
use Rattle.theory_invariant.proofs.RunLaws.{Kept, call_kept}
use Rattle.promise_tight.specs.Tight.{cell_of}
use Rattle.promise_tight.proofs.CallLaws.{clean_one, clean_two, Took, took, Idle, idle}

-- ── lists of cells that grow at the end ──
old_at : (l : List Cell) (c : Cell) (j : ℕ) → j < length l → get_or (l ++ (c ∷ [])) j absent_cell ≡ get_or l j absent_cell
old_at l c j low = get_or-append l (c ∷ []) absent_cell j low

new_at : (l : List Cell) (c : Cell) (j : ℕ) → j ≡ length l → get_or (l ++ (c ∷ [])) j absent_cell ≡ c
new_at l c j e =
    let f : j ≡ length l + 0 = omega (arith, e) in
    ap (λ (k : ℕ). get_or (l ++ (c ∷ [])) k absent_cell) f ∙ get_or-append-add l (c ∷ []) 0 absent_cell

-- their due slots, by number
abbrev pub Dues : (ℕ → ℕ) → ℕ → List Cell → Type 0
Dues due k l = (length l ≡ k) × ((j : ℕ) → j < k → (get_or l j absent_cell).due ≡ due j)

dues_more : (due : ℕ → ℕ) (k : ℕ) (l : List Cell) (c : Cell) → Dues due k l → c.due ≡ due k → Dues due (suc k) (l ++ (c ∷ []))
dues_more due k l c d e = (omega (arith, length-append l (c ∷ []), d.0), λ j low. go j low (dec_lt j k))
  where
    go : (j : ℕ) → j < suc k → Dec (j < k) → (get_or (l ++ (c ∷ [])) j absent_cell).due ≡ due j
    go j low (yes p) = ap (λ (x : Cell). x.due) (old_at l c j (omega (arith, p, d.0))) ∙ d.1 j p
    go j low (no p) =
        let f : k ≡ j = omega (arith, low, p) in
        ap (λ (x : Cell). x.due) (new_at l c j (omega (arith, low, p, d.0))) ∙ e ∙ ap due f

module _ (N z kind : ℕ) (z_low : 3 ≤ z) where
  -- ── VC 2 sends ──
  abbrev slower : ℕ → ℕ
  slower j = j * 1_025 / 1_024

  -- after k cells; q is noted of the second bucket, which it has not
  abbrev two : ℕ → Option ℕ → Opening
  two zero q = opening_with 10 1_025 (N * 1_024 + 1_024) none without_second q
  two (suc k) q = opening_with 10 1_025 (N * 1_024 + 1_024) (some (k * 1_025)) without_second q

  two_due : (k : ℕ) (q : Option ℕ) → due_time (two k q) k ≡ k * 1_025
  unfolding due_time
  two_due zero q = refl
  two_due (suc k) q = omega arith

  two_slot : (k : ℕ) (q : Option ℕ) → due_slot (two k q) k ≡ slower k
  unfolding due_slot
  two_slot zero q = ap (λ (x : ℕ). x / 1_024) (two_due zero q)
  two_slot (suc k) q = ap (λ (x : ℕ). x / 1_024) (two_due (suc k) q)

  two_takes : (k : ℕ) (q : Option ℕ) → k < N * 1_024 → leak_accepts (two k q) k ≡ true
  unfolding leak_accepts
  two_takes zero q low = refl
  two_takes (suc k) q low =
      le-leb (k * 1_025 + 1_025 - suc k * 1_024) (N * 1_024 + 1_024 - 1_025) (omega (arith, low))

  two_none : (k : ℕ) (q : Option ℕ) → (two k q).second ≡ without_second
  two_none zero q = refl
  two_none (suc k) q = refl

  two_next : (k : ℕ) (q p : Option ℕ)
      → opening_with (two k q).m (two k q).F (two k q).C (some (due_time (two k q) k)) (two k q).second p ≡ two (suc k) p
  two_next zero q p = ap (λ (x : ℕ). opening_with 10 1_025 (N * 1_024 + 1_024) (some x) without_second p) (two_due zero q)
  two_next (suc k) q p = ap (λ (x : ℕ). opening_with 10 1_025 (N * 1_024 + 1_024) (some x) without_second p) (two_due (suc k) q)

  abbrev first : Opening
  first = opening_with 0 1 1 none without_second none

  pub record SentTwo (k : ℕ) (r : Run) : Type 0 where
    pub kept : Kept N z kind r
    pub slots : served r.events ≡ k
    pub rate : Option ℕ
    pub one_is : opening_of 1 r.events ≡ some first
    pub two_is : opening_of 2 r.events ≡ some (two k rate)
    pub cells_one : Dues (λ j. N * 1_024 + j) 0 (cells_of 1 r.events)
    pub cells_two : Dues slower k (cells_of 2 r.events)

  send_two : (k : ℕ) (r : Run) → k < N * 1_024 → SentTwo k r → SentTwo (suc k) (call r (cell_of 2))
  send_two k r low s =
      record {
        kept = call_kept N z kind r (cell_of 2) s.kept;
        slots = t.slots ∙ ap suc s.slots;
        rate = t.rate;
        one_is = (t.other 1 (λ e. omega (arith, e))).0 ∙ s.one_is;
        two_is = t.own ∙ ap some (rw s.slots (two_next k s.rate t.rate));
        cells_one = rw (t.other 1 (λ e. omega (arith, e))).1 s.cells_one;
        cells_two = rw t.cells (dues_more slower k (cells_of 2 r.events) t.cell s.cells_two
            (t.due ∙ ap (due_slot (two k s.rate)) s.slots ∙ two_slot k s.rate));
      }
    where
      t : Took 2 (two k s.rate) r.events (call r (cell_of 2)).events
      t =
          took N z kind r s.kept 2 (clean_two z z_low) (two k s.rate) s.two_is (rw s.slots (two_takes k s.rate low))
          (two_none k s.rate)

  pub all_two : (n k : ℕ) (r : Run) → k + n ≤ N * 1_024 → SentTwo k r → SentTwo (k + n) (calls r (replicate n (cell_of 2)))
  unfolding calls
  all_two zero k r low s = subst (λ (i : ℕ). SentTwo i r) (omega arith) s
  all_two (suc n) k r low s =
      subst (λ (i : ℕ). SentTwo i (calls (call r (cell_of 2)) (replicate n (cell_of 2)))) (omega arith)
      (all_two n (suc k) (call r (cell_of 2)) (omega (arith, low)) (send_two k r (omega (arith, low)) s))

  -- ── then VC 1 ──
  abbrev a : ℕ
  a = N * 1_024

  abbrev one : ℕ → Option ℕ → Opening
  one zero q = opening_with 0 1 1 none without_second q
  one (suc j) q = opening_with 0 1 1 (some (a + j)) without_second q

  one_due : (j : ℕ) (q : Option ℕ) → due_time (one j q) (a + j) ≡ a + j
  unfolding due_time
  one_due zero q = omega arith
  one_due (suc j) q = omega arith

  one_slot_lem : (j : ℕ) (q : Option ℕ) → due_slot (one j q) (a + j) ≡ a + j
  unfolding due_slot
  one_slot_lem zero q = div-one (due_time (one zero q) (a + 0)) ∙ one_due zero q
  one_slot_lem (suc j) q = div-one (due_time (one (suc j) q) (a + suc j)) ∙ one_due (suc j) q

  one_takes : (j : ℕ) (q : Option ℕ) → leak_accepts (one j q) (a + j) ≡ true
  unfolding leak_accepts
  one_takes zero q = refl
  one_takes (suc j) q = le-leb (a + j + 1 - (a + suc j) * 1) (1 - 1) (omega arith)

  one_none : (j : ℕ) (q : Option ℕ) → (one j q).second ≡ without_second
  one_none zero q = refl
  one_none (suc j) q = refl

  one_next : (j : ℕ) (q p : Option ℕ)
      → opening_with (one j q).m (one j q).F (one j q).C (some (due_time (one j q) (a + j))) (one j q).second p ≡ one (suc j) p
  one_next zero q p = ap (λ (x : ℕ). opening_with 0 1 1 (some x) without_second p) (one_due zero q)
  one_next (suc j) q p = ap (λ (x : ℕ). opening_with 0 1 1 (some x) without_second p) (one_due (suc j) q)

  pub record SentOne (j : ℕ) (r : Run) : Type 0 where
    pub kept : Kept N z kind r
    pub slots : served r.events ≡ a + j
    pub rate : Option ℕ
    pub one_is : opening_of 1 r.events ≡ some (one j rate)
    pub cells_one : Dues (λ i. a + i) j (cells_of 1 r.events)
    pub cells_two : Dues slower a (cells_of 2 r.events)

  send_one : (j : ℕ) (r : Run) → SentOne j r → SentOne (suc j) (call r (cell_of 1))
  send_one j r s =
      record {
        kept = call_kept N z kind r (cell_of 1) s.kept;
        slots = t.slots ∙ ap suc s.slots ∙ omega arith;
        rate = t.rate;
        one_is = t.own ∙ ap some (rw s.slots (one_next j s.rate t.rate));
        cells_one = rw t.cells (dues_more (λ i. a + i) j (cells_of 1 r.events) t.cell s.cells_one
            (t.due ∙ ap (due_slot (one j s.rate)) s.slots ∙ one_slot_lem j s.rate));
        cells_two = rw (t.other 2 (λ e. omega (arith, e))).1 s.cells_two;
      }
    where
      t : Took 1 (one j s.rate) r.events (call r (cell_of 1)).events
      t =
          took N z kind r s.kept 1 (clean_one z z_low) (one j s.rate) s.one_is (rw s.slots (one_takes j s.rate))
          (one_none j s.rate)

  pub all_one : (n j : ℕ) (r : Run) → SentOne j r → SentOne (j + n) (calls r (replicate n (cell_of 1)))
  unfolding calls
  all_one zero j r s = subst (λ (i : ℕ). SentOne i r) (omega arith) s
  all_one (suc n) j r s =
      subst (λ (i : ℕ). SentOne i (calls (call r (cell_of 1)) (replicate n (cell_of 1)))) (omega arith)
      (all_one n (suc j) (call r (cell_of 1)) (send_one j r s))

  -- ── then nothing more arrives ──
  pub record Done (j i : ℕ) (r : Run) : Type 0 where
    pub kept : Kept N z kind r
    pub slots : served r.events ≡ a + j + i
    pub cells_one : Dues (λ i. a + i) j (cells_of 1 r.events)
    pub cells_two : Dues slower a (cells_of 2 r.events)

  pause : (j i : ℕ) (r : Run) → Done j i r → Done j (suc i) (call r (on_slot []))
  pause j i r s =
      record {
        kept = call_kept N z kind r (on_slot []) s.kept;
        slots = q.slots ∙ ap suc s.slots ∙ omega arith;
        cells_one = rw (q.cells 1) s.cells_one;
        cells_two = rw (q.cells 2) s.cells_two;
      }
    where
      q : Idle r.events (call r (on_slot [])).events
      q = idle N z kind r s.kept

  pub all_pauses : (n j i : ℕ) (r : Run) → Done j i r → Done j (i + n) (calls r (replicate n (on_slot [])))
  unfolding calls
  all_pauses zero j i r s = subst (λ (k : ℕ). Done j k r) (omega arith) s
  all_pauses (suc n) j i r s =
      subst (λ (k : ℕ). Done j k (calls (call r (on_slot [])) (replicate n (on_slot [])))) (omega arith)
      (all_pauses n j (suc i) (call r (on_slot [])) (pause j i r s))
