-- The memory that holds the line: the free spaces, the Output List and the time slot queues share out the N spaces, and
-- each queued cell's space holds its octets and its arrival slot. A proof device.
--
--   Queued   == an accepted cell, and the space that it was given
--   free_at   == 1 where the space is free, otherwise 0
--   Has      == the lists of spaces are o and r, where r is the calendar from the entry b on, modulo N, and every other space
--               below N is free; the entries that hold a cell are marked, and no other
--   Dates    == beside each queued cell's octets its arrival slot is kept, modulo 2^32
use Rattle.std.specs.Prelude.{ℕ, ◌+◌, ◌*◌, ◌%◌, ◌≤◌, ◌<◌, ◌≡◌, true, not, ◌&&◌, List, [], length, get_or, take, drop}
use Rattle.meaning.specs.Plain.{when◌then◌else◌, ◌<?◌}
use Rattle.meaning.specs.Numbers.{most_n, bit_words, slot_numbers}
use Rattle.meaning.specs.State.{Ends}
use Rattle.meaning.specs.Bits.{is_free_space, is_marked, spaces_fit}
use Rattle.meaning.specs.Lists.{is_empty, entry_at}
use Rattle.meaning_runs.specs.Seen.{Cell}
use Rattle.theory_queues.specs.Queue.{sum, sums, one, All, Alls}
use Rattle.theory_chains.specs.Strung.{is, inside, cnt, Strung}

pub record Queued : Type 0 where
  pub cell : Cell
  pub space : ℕ

abbrev pub space_of : Queued → ℕ
space_of c = c.space

abbrev pub vci_of : Queued → ℕ
vci_of c = c.cell.vci

abbrev pub due_of : Queued → ℕ
due_of c = c.cell.due

abbrev pub octets_in : List ℕ → ℕ → List ℕ
octets_in cells x = take 53 (drop (53 * x) cells)

abbrev pub Held : List ℕ → Queued → Type 0
Held cells c = octets_in cells c.space ≡ c.cell.octets

abbrev pub Dated : List ℕ → Queued → Type 0
Dated arrived c = get_or arrived c.space 0 ≡ c.cell.arrival % slot_numbers

abbrev pub cnts : ℕ → List (List Queued) → ℕ
cnts k r = sums (λ c. is k c.space) r

unfoldable pub free_at : List ℕ → ℕ → ℕ
free_at bits k = when is_free_space bits k then 1 else 0

pub record Has (N b : ℕ) (cells links calendar : List ℕ) (out : Ends) (number : ℕ) (bits : List ℕ) (o : List Queued)
    (r : List (List Queued)) : Type 0 where
  pub most : N ≤ most_n
  pub cells_long_lem : length cells ≡ 53 * N
  pub links_long : length links ≡ N
  pub calendar_long : length calendar ≡ 2 * N
  pub bits_long : length bits ≡ bit_words
  pub wide : length r ≡ N
  pub spaces_fit_lem : spaces_fit N number bits ≡ true
  pub marks_are : (e : ℕ) → e < most_n → is_marked bits e ≡ (e <? N && not (is_empty (entry_at calendar e)))
  pub out_is : Strung space_of links out o
  pub queues_are : (j : ℕ) → j < N → Strung space_of links (entry_at calendar ((b + j) % N)) (get_or r j [])
  pub parted : (k : ℕ) → free_at bits k + cnt space_of k o + cnts k r ≡ inside k N
  pub full : number + sum one o + sums one r ≡ N
  pub held_out : All (Held cells) o
  pub held_cal : Alls (Held cells) r

pub record Dates (N : ℕ) (arrived : List ℕ) (o : List Queued) (r : List (List Queued)) : Type 0 where
  pub long : length arrived ≡ N
  pub dated_out : All (Dated arrived) o
  pub dated_cal : Alls (Dated arrived) r
