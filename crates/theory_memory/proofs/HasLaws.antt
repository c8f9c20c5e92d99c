-- The memory through an arrival: the tests of refusal 3 pass, a space is free; whichever free space the cell takes, it joins
-- the calendar, whose entry is marked, and all else stays.
use Prim.Native.Nat.{ℕ, ◌+◌, ◌-◌, ◌*◌, ◌%◌, ◌≤◌, ◌<◌}
use mathlib.Core.Path.{◌≡◌, sym, ap, ◌∙◌, subst}
use mathlib.Core.Logic.{◌≢◌}
use mathlib.Core.Bool.{true, false, not, ◌&&◌}
use mathlib.Core.List.{List, [], ◌∷◌}
use native.Mathlib.Nat.{mod-lt, mod-add-mod}
use native.Mathlib.Decide.{ℕ_discrete}
use native.Mathlib.Omega.{arith}
use borrow.Author.Tests.{ne_eqb, lt-ltb}
use lib.ListN.{length, get_or}
use Rattle.meaning.specs.Plain.{◌<?◌}
use Rattle.meaning.specs.Numbers.{most_n, bit_words, empty}
use Rattle.meaning.specs.State.{Ends, write_cell}
use Rattle.meaning.specs.Bits.{is_free_space, is_marked, lowest_free, taken, marked}
use Rattle.meaning.specs.Lists.{is_empty, ends_fit, entry_at, write_entry, join_head}
use Rattle.meaning.proofs.BitsLaws.{free_low, lowest_free_lem, taken_length, taken_fits, some_free}
use Rattle.meaning.proofs.MarksLaws.{marked_length, marked_fits, marked_own, marked_other, taken_mark}
use Rattle.meaning.proofs.CellsLaws.{cell_length, octets_own}
use Rattle.meaning.proofs.ListsLaws.{entry_length, entry_read, entry_other}
use Rattle.theory_queues.specs.Queue.{sum, sums, one, put}
use Rattle.theory_queues.proofs.QueueLaws.{sum_get_or, put_length, put_sums, put_same, put_other, alls_put}
use Rattle.theory_chains.specs.Strung.{is, inside, cnt, Strung}
use Rattle.theory_chains.proofs.CountLaws.{is_yes, inside_le}
use Rattle.theory_chains.proofs.StrungLaws.{ends_fit_lem}
use Rattle.theory_chains.proofs.JoinLaws.{join_head_lem, beside_head, head_length}
use Rattle.theory_memory.specs.Held.{Queued, space_of, octets_in, Held, cnts, free_at, Has}
use Rattle.theory_memory.proofs.RingLaws.{entry_ne}
use Rattle.theory_memory.proofs.FreeLaws.{taken_at, marked_at}
use Rattle.theory_memory.proofs.HeldLaws.{all_held, alls_held}

module _ {N b : ℕ} {cells links calendar : List ℕ} {out : Ends} {number : ℕ} {bits : List ℕ} (low : N ≤ empty)
    {o : List Queued} {r : List (List Queued)} (h : Has N b cells links calendar out number bits o r) where
  -- the tests of refusal 3
  pub out_fits : ends_fit N out ≡ true
  out_fits = ends_fit_lem space_of N low links out o (λ k. omega (arith, h.parted k)) h.out_is

  pub entry_fits : (j : ℕ) → j < N → ends_fit N (entry_at calendar ((b + j) % N)) ≡ true
  entry_fits j hj =
      ends_fit_lem space_of N low links (entry_at calendar ((b + j) % N)) (get_or r j [])
      (λ k. omega (arith, h.parted k, sum_get_or (λ c. is k c.space) r j)) (h.queues_are j hj)

  -- T moves on by one, modulo N
  pub tick : Has N (b % N) cells links calendar out number bits o r
  tick =
      record {
        most = h.most;
        cells_long_lem = h.cells_long_lem;
        links_long = h.links_long;
        calendar_long = h.calendar_long;
        bits_long = h.bits_long;
        wide = h.wide;
        spaces_fit_lem = h.spaces_fit_lem;
        marks_are = h.marks_are;
        out_is = h.out_is;
        queues_are = λ j hj. rw (mod-add-mod b N j) (h.queues_are j hj);
        parted = h.parted;
        full = h.full;
        held_out = h.held_out;
        held_cal = h.held_cal;
      }

  -- a space is free where fewer than N cells wait, the lowest among them
  pub some_number : sums one r + sum one o < N → number ≢ 0
  some_number k e = omega (arith, h.full)

  pub lowest_is_free : sums one r + sum one o < N → is_free_space bits (lowest_free bits) ≡ true
  lowest_is_free k = lowest_free_lem N number bits h.spaces_fit_lem (some_number k)

  -- any free space x gets the cell c, which joins the queue D
  module _ (x : ℕ) (free : is_free_space bits x ≡ true) where
    x_low : x < N
    x_low = free_low N number bits h.spaces_fit_lem x free

    some : number ≢ 0
    some = some_free bits x free N number h.bits_long h.spaces_fit_lem

    module _ (D : ℕ) (c : Queued) (h_d : D < N) (e : c.space ≡ x) (long : length c.cell.octets ≡ 53) where
      abbrev at : ℕ
      at = (b + D) % N

      abbrev held : List ℕ
      held = marked (taken bits x) at

      abbrev grown : Rattle.meaning.specs.Lists.Grown
      grown = join_head links (entry_at calendar at) x

      alone : (k : ℕ) → is k c.space ≡ is k x
      alone k = ap (λ (m : ℕ). is k m) e

      less : (k : ℕ) → free_at held k + is k x ≡ free_at bits k
      less k = ap (λ (f : ℕ). f + is k x) (marked_at (taken bits x) at k) ∙ taken_at bits x k free

      own : (k : ℕ) → is k c.space + free_at held k + cnt space_of k o + cnts k r ≤ inside k N
      own k = omega (arith, alone k, less k, h.parted k)

      here : is x c.space ≡ 1
      here = is_yes x c.space (sym e)

      low_at : at < N
      low_at = mod-lt (b + D) (omega arith)

      inside_cells : 53 * x + 53 ≤ length cells
      inside_cells = omega (arith, h.cells_long_lem, x_low)

      joined : Strung space_of grown.links grown.ends (c ∷ get_or r D [])
      joined =
          subst (λ (y : ℕ). Strung space_of (join_head links (entry_at calendar at) y).links
          (join_head links (entry_at calendar at) y).ends (c ∷ get_or r D [])) e
          (join_head_lem space_of links N h.links_long low (entry_at calendar at) c (get_or r D [])
          (λ k. omega (arith, own k, sum_get_or (λ d. is k d.space) r D)) (h.queues_are D h_d))

      queue : (j : ℕ) → j < N → Dec (j ≡ D) → Strung space_of grown.links
          (entry_at (write_entry calendar at grown.ends) ((b + j) % N)) (get_or (put D c r) j [])
      queue j hj (yes q) =
          rw (
            ap (λ (i : ℕ). (b + i) % N) q,
            q,
            entry_read calendar at grown.ends
                (omega (arith, h.calendar_long, low_at)),
            put_same D c r (omega (arith, h.wide)),
          ) joined
      queue j hj (no q) =
          rw (entry_other calendar at grown.ends ((b + j) % N) (entry_ne N b j D hj h_d q), put_other D j c r q)
          (beside_head space_of space_of links (entry_at calendar at) (entry_at calendar ((b + j) % N)) x (get_or r j [])
          (omega (arith, own x, inside_le x N, here, sum_get_or (λ d. is x d.space) r j))
          (h.queues_are j hj))

      taken_long : length (taken bits x) ≡ bit_words
      taken_long = taken_length bits x ∙ h.bits_long

      -- the entry that the cell joins is marked, and is not empty
      filled : is_empty grown.ends ≡ false
      filled = ne_eqb grown.ends.head empty (λ z. omega (arith, joined.0, e, x_low, z))

      marks : (f : ℕ) → f < most_n → Dec (f ≡ at)
          → is_marked held f ≡ (f <? N && not (is_empty (entry_at (write_entry calendar at grown.ends) f)))
      marks f hf (yes q) =
          rw (
            q,
            marked_own (taken bits x) at taken_long (omega (arith, low_at, h.most)),
            entry_read calendar at grown.ends (omega (arith, h.calendar_long, low_at)),
            filled,
            lt-ltb at N low_at,
          )
      marks f hf (no q) =
          rw (entry_other calendar at grown.ends f q)
          (marked_other (taken bits x) at taken_long (omega (arith, low_at, h.most)) f q
          ∙ taken_mark bits x free f
          ∙ h.marks_are f hf)

      pub placed : Has N b (write_cell cells x c.cell.octets) grown.links (write_entry calendar at grown.ends)
          out (number - 1) held o (put D c r)
      placed =
          record {
            most = h.most;
            cells_long_lem = cell_length cells x c.cell.octets inside_cells long ∙ h.cells_long_lem;
            links_long = head_length links (entry_at calendar at) x ∙ h.links_long;
            calendar_long = entry_length calendar at grown.ends ∙ h.calendar_long;
            bits_long = marked_length (taken bits x) at ∙ taken_long;
            wide = put_length D c r ∙ h.wide;
            spaces_fit_lem = marked_fits (taken bits x) at N (number - 1) ∙ taken_fits bits x free N number h.bits_long h.spaces_fit_lem;
            marks_are = λ f hf. marks f hf (ℕ_discrete f at);
            out_is = beside_head space_of space_of links (entry_at calendar at) out x o
                (omega (arith, own x, inside_le x N, here)) h.out_is;
            queues_are = λ j hj. queue j hj (ℕ_discrete j D);
            parted = λ k. omega (
              arith,
              put_sums (λ d. is k d.space) D c r (omega (arith, h.wide)),
              alone k,
              less k,
              h.parted k,
            );
            full = omega (arith, put_sums one D c r (omega (arith, h.wide)), h.full, some);
            held_out = all_held cells x c.cell.octets inside_cells long o
                (omega (arith, own x, inside_le x N, here)) h.held_out;
            held_cal = alls_put (Held (write_cell cells x c.cell.octets)) D c r
                (ap (λ (k : ℕ). octets_in (write_cell cells x c.cell.octets) k) e
                ∙ octets_own cells x c.cell.octets inside_cells long)
                (alls_held cells x c.cell.octets inside_cells long r
                (omega (arith, own x, inside_le x N, here)) h.held_cal);
          }
