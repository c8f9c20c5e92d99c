-- Document 01, "Numbers": each number of the paper has its name here, and only here.
-- Letters: N, T, t, m, F, C, S, L and D as in document 01; z is V (a reserved letter of antt); x a space, e an entry, c the number
-- of a connection.
use Rattle.std.specs.Prelude.{ℕ, ◌+◌, ◌*◌, ◌^◌, Bool, ◌&&◌, ◌||◌}
use Rattle.meaning.specs.Plain.{◌<?◌, ◌≤?◌, ◌=?◌}

-- "N cell spaces, 1 to 1,024."
abbrev pub most_n : ℕ
most_n = 1_024

-- "V, 2 to 1,024."
abbrev pub least_v : ℕ
least_v = 2

abbrev pub most_v : ℕ
most_v = 1_024

-- refusal 1: "N or V outside its range"
unfoldable pub ranges_hold : ℕ → ℕ → Bool
ranges_hold N z = 1 ≤? N && N ≤? most_n && least_v ≤? z && z ≤? most_v

-- "m from 0 to 15 .. F from L to 16,777,216"
abbrev pub most_m : ℕ
most_m = 15

abbrev pub most_f : ℕ
most_f = 16_777_216

-- document 02 (iv), of a second bucket: "C (F to 2^30)"
abbrev pub most_second_c : ℕ
most_second_c = 1_073_741_824

-- "53 × N octets of cells": space x starts at octet 53 × x
abbrev pub octets : ℕ
octets = 53

abbrev pub cell_start : ℕ → ℕ
cell_start x = octets * x

-- "2 × N calendar numbers (head and tail per entry)": entry e starts at number 2 × e
abbrev pub per_entry : ℕ
per_entry = 2

abbrev pub head_place : ℕ → ℕ
head_place e = per_entry * e

abbrev pub tail_place : ℕ → ℕ
tail_place e = per_entry * e + 1

-- Document 02 (vi): "Path records, 256 with the first unused, stand after the V records and follow the same rules". So a
-- connection has a number, below V + 256: a VC its VCI, a path V + VPI. Record 0 and record V are no connection's.
abbrev pub paths : ℕ
paths = 256

abbrev pub connections_in : ℕ → ℕ
connections_in z = z + paths

unfoldable pub unused : ℕ → ℕ → Bool
unused z c = c =? 0 || c =? z

-- document 02 (xi), refusal 1: "a split VCI outside 1 to V-1 or a split path number outside 1 to 255 is 1"
unfoldable pub splits_hold : ℕ → ℕ → ℕ → Bool
splits_hold z splitvci splitpath = 1 ≤? splitvci && splitvci <? z && 1 ≤? splitpath && splitpath <? paths

-- "for a line kind chosen at setup": 0 UNI, 1 NNI
abbrev pub uni : ℕ
uni = 0

abbrev pub nni : ℕ
nni = 1

unfoldable pub kind_in_range : ℕ → Bool
kind_in_range kind = kind ≤? nni

-- "(per VC: open 0 or 1, m, F, C, S, last, waiting)", and document 02 (iv): "The VC's stored record grows by its m .. F ..
-- C .., S and a tagging flag". So 7 × V words are 12 × (V + 256): how many words a connection has, where its words begin, and
-- how many there are
abbrev pub words_per_connection : ℕ
words_per_connection = 12

abbrev pub connection_place : ℕ → ℕ
connection_place c = words_per_connection * c

abbrev pub words_in : ℕ → ℕ
words_in z = words_per_connection * connections_in z

abbrev pub open_place : ℕ → ℕ
open_place c = connection_place c + 0

abbrev pub m_place : ℕ → ℕ
m_place c = connection_place c + 1

abbrev pub f_place : ℕ → ℕ
f_place c = connection_place c + 2

abbrev pub c_place : ℕ → ℕ
c_place c = connection_place c + 3

abbrev pub s_place : ℕ → ℕ
s_place c = connection_place c + 4

abbrev pub last_place : ℕ → ℕ
last_place c = connection_place c + 5

abbrev pub waiting_place : ℕ → ℕ
waiting_place c = connection_place c + 6

-- the second bucket's m, F, C and S, and the tagging flag
abbrev pub second_mplace : ℕ → ℕ
second_mplace c = connection_place c + 7

abbrev pub second_fplace : ℕ → ℕ
second_fplace c = connection_place c + 8

abbrev pub second_cplace : ℕ → ℕ
second_cplace c = connection_place c + 9

abbrev pub second_splace : ℕ → ℕ
second_splace c = connection_place c + 10

abbrev pub tag_place : ℕ → ℕ
tag_place c = connection_place c + 11

-- document 02 (vii): "a bit for each space, sixteen words of 64 bits"; (ix): "one bit for each entry", in as many words behind them
abbrev pub free_words : ℕ
free_words = 16

abbrev pub bit_words : ℕ
bit_words = 32

abbrev pub word_bits : ℕ
word_bits = 64

-- "65,535 marks an empty head or tail"; also "departing space (65,535 for none)"
abbrev pub empty : ℕ
empty = 65_535

-- "The slot number is 32 bits wide and wraps." Kept shut, since antt would count it out.
unfoldable pub slot_numbers : ℕ
slot_numbers = 2 ^ 32

-- "verdict (0 nothing, 1 accepted, 2 excess, 3 unknown)"
abbrev pub nothing : ℕ
nothing = 0

abbrev pub accepted : ℕ
accepted = 1

abbrev pub excess : ℕ
excess = 2

abbrev pub unknown : ℕ
unknown = 3

-- document 02 (i): "A dropped cell (verdict 4, H)"
abbrev pub dropped : ℕ
dropped = 4

-- document 02 (iv): "tagged .. (.. verdict 5, T ..)"
abbrev pub tagged : ℕ
tagged = 5

-- document 02 (iv): "Demand 3 and the end line count tagged cells as accepted": these verdicts let a cell in
unfoldable pub lets_in : ℕ → Bool
lets_in verdict = verdict =? accepted || verdict =? tagged
