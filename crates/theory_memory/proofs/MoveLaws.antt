-- The memory through a transfer and a departure: entry T joins the Output List and is marked no more; the head of that list departs;
-- its space was not free, and is free again.
use Prim.Native.Nat.{ℕ, suc, ◌+◌, ◌%◌, ◌≤◌, ◌<◌}
use mathlib.Core.Path.{◌≡◌, refl, sym, ap, ◌∙◌}
use mathlib.Core.Logic.{◌≢◌}
use mathlib.Core.Bool.{true, false, not, ◌&&◌}
use mathlib.Core.List.{List, [], ◌∷◌, ◌++◌}
use native.Mathlib.Nat.{mod-eq_of_lt, add-mod_right}
use native.Mathlib.Decide.{dec_lt, ℕ_discrete}
use native.Mathlib.Omega.{arith}
use borrow.Author.Tests.{lt-ltb}
use lib.ListN.{length, get_or}
use Rattle.meaning.specs.Plain.{◌<?◌}
use Rattle.meaning.specs.Numbers.{most_n, empty}
use Rattle.meaning.specs.State.{Ends}
use Rattle.meaning.specs.Lists.{empty_list, is_empty, ends_fit, entry_at, write_entry, join_tail}
use Rattle.meaning.specs.Bits.{is_free_space, is_marked, given, unmarked}
use Rattle.meaning.proofs.BitsLaws.{given_length, given_fits}
use Rattle.meaning.proofs.MarksLaws.{unmarked_length, unmarked_fits, unmarked_own, unmarked_other, given_mark}
use Rattle.meaning.proofs.ListsLaws.{entry_length, entry_read, entry_other}
use Rattle.theory_queues.specs.Queue.{one, turn}
use Rattle.theory_queues.proofs.QueueLaws.{sum_append, sum_get_or, turn_length, turn_sums, turn_at, get_d_past, all_append, alls_turn}
use Rattle.theory_chains.specs.Strung.{is, Strung}
use Rattle.theory_chains.proofs.CountLaws.{is_same, inside_le}
use Rattle.theory_chains.proofs.StrungLaws.{head_lt, marked, bare, ends_fit_lem, TakenOff, take_off}
use Rattle.theory_chains.proofs.JoinLaws.{join_tail_lem, beside_tail, tail_length}
use Rattle.theory_memory.specs.Held.{Queued, space_of, Held, Has}
use Rattle.theory_memory.proofs.RingLaws.{entry_ne}
use Rattle.theory_memory.proofs.FreeLaws.{not_free, given_at, unmarked_at}

-- places in the ring of entries
same_entry : (N b : ℕ) → b < N → (b + 0) % N ≡ b
same_entry N b hb = ap (λ (m : ℕ). m % N) (omega arith) ∙ mod-eq_of_lt hb

next_entry : (N b j : ℕ) → (suc b + j) % N ≡ (b + suc j) % N
next_entry N b j = ap (λ (m : ℕ). m % N) (omega arith)

last_entry : (N b j : ℕ) → b < N → suc j ≡ N → (suc b + j) % N ≡ b
last_entry N b j hb e = ap (λ (m : ℕ). m % N) (omega arith) ∙ add-mod_right b N ∙ mod-eq_of_lt hb

module _ {N b : ℕ} {cells links calendar : List ℕ} {out : Ends} {number : ℕ} {bits : List ℕ} (low : N ≤ empty) where
  -- entry T, first of the calendar
  module _ {o q : List Queued} {r : List (List Queued)} (hb : b < N)
      (h : Has N b cells links calendar out number bits o (q ∷ r)) where
    first_is : Strung space_of links (entry_at calendar b) q
    first_is = rw (same_entry N b hb) at (h.queues_are 0 (omega arith))

    pub first_fits : ends_fit N (entry_at calendar b) ≡ true
    first_fits = ends_fit_lem space_of N low links (entry_at calendar b) q (λ k. omega (arith, h.parted k)) first_is

  module _ {o : List Queued} {r : List (List Queued)} (hb : b < N)
      (h : Has N b cells links calendar out number bits o ([] ∷ r)) where
    pub first_bare : is_empty (entry_at calendar b) ≡ true
    first_bare = bare space_of N low links (entry_at calendar b) (first_is hb h)

    place : (j : ℕ) → j < N → Dec (j < length r)
        → Strung space_of links (entry_at calendar ((suc b + j) % N)) (get_or (turn r) j [])
    place j hj (yes k) = rw (next_entry N b j, turn_at r j) (h.queues_are (suc j) (omega (arith, h.wide)))
    place j hj (no k) =
        rw (last_entry N b j hb (omega (arith, h.wide)), turn_at r j, get_d_past r j (omega arith)) (first_is hb h)

    -- nothing is due
    pub passed : Has N (suc b) cells links calendar out number bits o (turn r)
    passed =
        record {
          most = h.most;
          cells_long_lem = h.cells_long_lem;
          links_long = h.links_long;
          calendar_long = h.calendar_long;
          wide = turn_length r ∙ h.wide;
          bits_long = h.bits_long;
          spaces_fit_lem = h.spaces_fit_lem;
          marks_are = h.marks_are;
          out_is = h.out_is;
          queues_are = λ j hj. place j hj (dec_lt j (length r));
          parted = λ k. omega (arith, turn_sums (λ d. is k d.space) r, h.parted k);
          full = omega (arith, turn_sums one r, h.full);
          held_out = h.held_out;
          held_cal = alls_turn (Held cells) r h.held_cal.1;
        }

  -- the entry joins the Output List, and is emptied
  module _ {o : List Queued} {c : Queued} {q : List Queued} {r : List (List Queued)} (hb : b < N)
      (h : Has N b cells links calendar out number bits o ((c ∷ q) ∷ r)) where
    pub first_marked : is_empty (entry_at calendar b) ≡ false
    first_marked =
        marked space_of N low links (entry_at calendar b) c q (λ k. omega (arith, h.parted k)) (first_is hb h)

    abbrev grown : Rattle.meaning.specs.Lists.Grown
    grown = join_tail links out (entry_at calendar b)

    kept : (j : ℕ) → j < N → Dec (j < length r) → Strung space_of grown.links
        (entry_at (write_entry calendar b empty_list) ((suc b + j) % N)) (get_or (turn r) j [])
    kept j hj (yes k) =
        rw (next_entry N b j, entry_other calendar b empty_list ((b + suc j) % N) ne, turn_at r j)
        (beside_tail space_of space_of links out (entry_at calendar b) (entry_at calendar ((b + suc j) % N)) o (get_or r j [])
        (λ i. omega (arith, h.parted i, inside_le i N, sum_get_or (λ d. is i d.space) r j)) h.out_is
        (h.queues_are (suc j) (omega (arith, h.wide))))
      where
        ne : (b + suc j) % N ≢ b
        ne z = entry_ne N b (suc j) 0 (omega (arith, h.wide)) (omega arith) (omega arith) (z ∙ sym (same_entry N b hb))
    kept j hj (no k) =
        rw (
          last_entry N b j hb (omega (arith, h.wide)),
          turn_at r j,
          get_d_past r j (omega arith),
          entry_read calendar b empty_list (omega (arith, h.calendar_long)),
        ) (refl, refl)

    -- its mark is cleared
    marks : (e : ℕ) → e < most_n → Dec (e ≡ b)
        → is_marked (unmarked bits b) e ≡ (e <? N && not (is_empty (entry_at (write_entry calendar b empty_list) e)))
    marks e he (yes z) =
        rw (z, unmarked_own bits b, entry_read calendar b empty_list (omega (arith, h.calendar_long)), lt-ltb b N hb)
    marks e he (no z) = rw (entry_other calendar b empty_list e z) (unmarked_other bits b e z ∙ h.marks_are e he)

    pub transferred : Has N (suc b) cells grown.links (write_entry calendar b empty_list) grown.ends number
        (unmarked bits b) (o ++ c ∷ q) (turn r)
    transferred =
        record {
          most = h.most;
          cells_long_lem = h.cells_long_lem;
          links_long = tail_length links out (entry_at calendar b) ∙ h.links_long;
          calendar_long = entry_length calendar b empty_list ∙ h.calendar_long;
          wide = turn_length r ∙ h.wide;
          bits_long = unmarked_length bits b ∙ h.bits_long;
          spaces_fit_lem = unmarked_fits bits b N number ∙ h.spaces_fit_lem;
          marks_are = λ e he. marks e he (ℕ_discrete e b);
          out_is = join_tail_lem space_of links N h.links_long low out (entry_at calendar b) o c q
              (λ k. omega (arith, h.parted k)) h.out_is (first_is hb h);
          queues_are = λ j hj. kept j hj (dec_lt j (length r));
          parted = λ k. omega (
            arith,
            sum_append (λ d. is k d.space) o (c ∷ q),
            turn_sums (λ d. is k d.space) r,
            unmarked_at bits b k,
            h.parted k,
          );
          full = omega (arith, sum_append one o (c ∷ q), turn_sums one r, h.full);
          held_out = all_append (Held cells) o (c ∷ q) h.held_out h.held_cal.0;
          held_cal = alls_turn (Held cells) r h.held_cal.1;
        }

  pub out_bare : {r : List (List Queued)} → Has N b cells links calendar out number bits [] r
      → is_empty out ≡ true
  out_bare h = bare space_of N low links out h.out_is

  -- the head of the Output List departs
  module _ {c : Queued} {o : List Queued} {r : List (List Queued)}
      (h : Has N b cells links calendar out number bits (c ∷ o) r) where
    pub out_marked : is_empty out ≡ false
    out_marked = marked space_of N low links out c o (λ k. omega (arith, h.parted k)) h.out_is

    pub out_low : out.head < N
    out_low = omega (arith, h.out_is.0, head_lt space_of N low c o (λ k. omega (arith, h.parted k)))

    pub out_taken : TakenOff space_of N low links out o
    out_taken = take_off space_of N low links out c o (λ k. omega (arith, h.parted k)) h.out_is

    -- the space that departs is not free, and then is
    stands : (k : ℕ) → is k out.head ≡ is k c.space
    stands k = ap (is k) h.out_is.0

    pub head_not_free : is_free_space bits out.head ≡ false
    head_not_free =
        not_free bits out.head
        (omega (arith, h.parted out.head, stands out.head, is_same out.head, inside_le out.head N))

    head_most : out.head < most_n
    head_most = omega (arith, out_low, h.most)

    pub departed : (left : Ends) → Strung space_of links left o
        → Has N b cells links calendar left (number + 1) (given bits out.head) o r
    departed left s =
        record {
          most = h.most;
          cells_long_lem = h.cells_long_lem;
          links_long = h.links_long;
          calendar_long = h.calendar_long;
          bits_long = given_length bits out.head ∙ h.bits_long;
          wide = h.wide;
          spaces_fit_lem = given_fits bits out.head head_most h.bits_long head_not_free N number out_low h.spaces_fit_lem;
          marks_are = λ e he. given_mark bits out.head head_most h.bits_long head_not_free e ∙ h.marks_are e he;
          out_is = s;
          queues_are = h.queues_are;
          parted = λ k. omega (
            arith,
            given_at bits out.head k head_most h.bits_long head_not_free,
            stands k,
            h.parted k,
          );
          full = omega (arith, h.full);
          held_out = h.held_out.1;
          held_cal = h.held_cal;
        }
