-- Document 02 (xii): damaged traces with what is written and listed of them, as one table that is computed.
use Prim.Native.Nat.{ℕ}
use mathlib.Core.Bool.{false}
use native.Mathlib.Omega.{arith}
use mathlib.Core.Path.{◌≡◌, refl, subst}
use mathlib.Core.List.{List, [], ◌∷◌, ◌++◌, map}
use Rattle.trace_record.specs.Trace.{be16, be32, whole, setup_at, open_at, sustain_at, close_at, open_path_at, close_path_at, cell_at, pause_at, first_at, later_at, stands_at}
use Rattle.mend_step.specs.Salvage.{reads_to, is_mark, known_mark, meets_rule, first_of, resume, step_at, Piece, keeps, skips, walk_from, walk}
use Rattle.mend_step.specs.Salvage.{Salvage, refused, mended, salvage_front, salvage, written_of, stretches_of}
use Rattle.mend_theorems.specs.Promises.{DamagedIn}

pub data Output : Type 0 where
  stop : (number : ℕ) → Output
  done : (written : List ℕ) (listed : List Piece) → Output

abbrev output_of : List ℕ → Salvage → Output
output_of trace (refused number) = stop number
output_of trace (mended ps) = done (written_of trace ps) (stretches_of ps)

pub record Case : Type 0 where
  pub trace : List ℕ
  pub output : Output

abbrev row : List ℕ → Output → Case
row l x = record { trace = l; output = x }

abbrev pub table : List Case
table =
    row ([]) (stop 17)  -- empty
    ∷ row (71 ∷ []) (stop 17)  -- one octet
    ∷ row (71 ∷ 77 ∷ 0 ∷ 5 ∷ 0 ∷ []) (stop 17)  -- GM cut
    ∷ row (71 ∷ 77 ∷ []) (stop 17)  -- mark alone
    ∷ row (83 ∷ 76 ∷ 0 ∷ 1 ∷ 71 ∷ 77 ∷ 0 ∷ 5 ∷ 0 ∷ 64 ∷ []) (stop 17)  -- SL first
    ∷ row (0 ∷ 71 ∷ 77 ∷ 0 ∷ 5 ∷ 0 ∷ 64 ∷ 83 ∷ 76 ∷ 0 ∷ 1 ∷ []) (stop 17)  -- GM at octet 1
    ∷ row (103 ∷ 109 ∷ 0 ∷ 5 ∷ 0 ∷ 64 ∷ 83 ∷ 76 ∷ 0 ∷ 1 ∷ []) (stop 17)  -- lower case gm
    ∷ row (86 ∷ 79 ∷ 0 ∷ 1 ∷ 2 ∷ 0 ∷ 0 ∷ 0 ∷ 10 ∷ 0 ∷ 0 ∷ 0 ∷ 26 ∷ 71 ∷ 77 ∷ 0 ∷ 5 ∷ 0 ∷ 64 ∷ []) (stop 17)  -- VO first
    ∷ row (71 ∷ 77 ∷ 0 ∷ 5 ∷ 0 ∷ 64 ∷ []) (done (71 ∷ 77 ∷ 0 ∷ 5 ∷ 0 ∷ 64 ∷ []) ([]))  -- GM alone
    ∷ row (71 ∷ 82 ∷ 0 ∷ 5 ∷ 0 ∷ 64 ∷ []) (done (71 ∷ 82 ∷ 0 ∷ 5 ∷ 0 ∷ 64 ∷ []) ([]))  -- GR alone
    ∷ row (71 ∷ 77 ∷ 0 ∷ 0 ∷ 0 ∷ 0 ∷ []) (done (71 ∷ 77 ∷ 0 ∷ 0 ∷ 0 ∷ 0 ∷ []) ([]))  -- GM of zeros
    ∷ row (71 ∷ 77 ∷ 0 ∷ 5 ∷ 0 ∷ 64 ∷ 83 ∷ 76 ∷ 0 ∷ 1 ∷ 83 ∷ 76 ∷ 0 ∷ 1 ∷ []) (done (71 ∷ 77 ∷ 0 ∷ 5 ∷ 0 ∷ 64 ∷ 83 ∷ 76 ∷ 0 ∷ 1 ∷ 83 ∷ 76 ∷ 0 ∷ 1 ∷ []) ([]))  -- readable, pauses not merged
    ∷ row (71 ∷ 77 ∷ 0 ∷ 5 ∷ 0 ∷ 64 ∷ 0 ∷ []) (done (71 ∷ 77 ∷ 0 ∷ 5 ∷ 0 ∷ 64 ∷ []) (skips 6 1 ∷ []))  -- one octet after GM
    ∷ row (71 ∷ 77 ∷ 0 ∷ 5 ∷ 0 ∷ 64 ∷ 83 ∷ []) (done (71 ∷ 77 ∷ 0 ∷ 5 ∷ 0 ∷ 64 ∷ []) (skips 6 1 ∷ []))  -- half a mark after GM
    ∷ row (71 ∷ 77 ∷ 0 ∷ 5 ∷ 0 ∷ 64 ∷ 83 ∷ 76 ∷ []) (done (71 ∷ 77 ∷ 0 ∷ 5 ∷ 0 ∷ 64 ∷ []) (skips 6 2 ∷ []))  -- mark alone after GM
    ∷ row (71 ∷ 77 ∷ 0 ∷ 5 ∷ 0 ∷ 64 ∷ 83 ∷ 76 ∷ 0 ∷ 1 ∷ 86 ∷ 79 ∷ 0 ∷ 1 ∷ 2 ∷ 0 ∷ 0 ∷ 0 ∷ 10 ∷ 0 ∷ 0 ∷ 0 ∷ []) (done (71 ∷ 77 ∷ 0 ∷ 5 ∷ 0 ∷ 64 ∷ 83 ∷ 76 ∷ 0 ∷ 1 ∷ []) (skips 10 12 ∷ []))  -- short last record
    ∷ row (71 ∷ 77 ∷ 0 ∷ 5 ∷ 0 ∷ 64 ∷ 67 ∷ 65 ∷ 0 ∷ 0 ∷ 2 ∷ 128 ∷ 0 ∷ 0 ∷ 0 ∷ 0 ∷ 0 ∷ 0 ∷ 0 ∷ 0 ∷ 0 ∷ 0 ∷ 0 ∷ 0 ∷ 0 ∷ 0 ∷ 0 ∷ 0 ∷ 0 ∷ 0 ∷ 0 ∷ 0 ∷ 0 ∷ 0 ∷ 0 ∷ 0 ∷ 0 ∷ 0 ∷ 0 ∷ 0 ∷ 0 ∷ 0 ∷ 0 ∷ 0 ∷ 0 ∷ 0 ∷ 0 ∷ 0 ∷ 0 ∷ 0 ∷ 0 ∷ 0 ∷ 0 ∷ 0 ∷ 0 ∷ 0 ∷ 0 ∷ 0 ∷ 0 ∷ 0 ∷ []) (done (71 ∷ 77 ∷ 0 ∷ 5 ∷ 0 ∷ 64 ∷ []) (skips 6 54 ∷ []))  -- short last cell
    ∷ row (71 ∷ 77 ∷ 0 ∷ 5 ∷ 0 ∷ 64 ∷ 0 ∷ 76 ∷ 0 ∷ 1 ∷ 83 ∷ 76 ∷ 0 ∷ 2 ∷ 83 ∷ 76 ∷ 0 ∷ 3 ∷ []) (done (71 ∷ 77 ∷ 0 ∷ 5 ∷ 0 ∷ 64 ∷ 83 ∷ 76 ∷ 0 ∷ 2 ∷ 83 ∷ 76 ∷ 0 ∷ 3 ∷ []) (skips 6 4 ∷ []))  -- first mark spoilt
    ∷ row (71 ∷ 77 ∷ 0 ∷ 5 ∷ 0 ∷ 64 ∷ 83 ∷ 0 ∷ 0 ∷ 1 ∷ 83 ∷ 76 ∷ 0 ∷ 2 ∷ 83 ∷ 76 ∷ 0 ∷ 3 ∷ []) (done (71 ∷ 77 ∷ 0 ∷ 5 ∷ 0 ∷ 64 ∷ 83 ∷ 76 ∷ 0 ∷ 2 ∷ 83 ∷ 76 ∷ 0 ∷ 3 ∷ []) (skips 6 4 ∷ []))  -- second letter spoilt
    ∷ row (71 ∷ 77 ∷ 0 ∷ 5 ∷ 0 ∷ 64 ∷ 83 ∷ 76 ∷ 0 ∷ 0 ∷ 83 ∷ 76 ∷ 0 ∷ 2 ∷ 86 ∷ 88 ∷ 0 ∷ 1 ∷ []) (done (71 ∷ 77 ∷ 0 ∷ 5 ∷ 0 ∷ 64 ∷ 83 ∷ 76 ∷ 0 ∷ 2 ∷ 86 ∷ 88 ∷ 0 ∷ 1 ∷ []) (skips 6 4 ∷ []))  -- SL of 0
    ∷ row (71 ∷ 77 ∷ 0 ∷ 5 ∷ 0 ∷ 64 ∷ 83 ∷ 76 ∷ 0 ∷ 1 ∷ 83 ∷ 76 ∷ 0 ∷ 0 ∷ []) (done (71 ∷ 77 ∷ 0 ∷ 5 ∷ 0 ∷ 64 ∷ 83 ∷ 76 ∷ 0 ∷ 1 ∷ []) (skips 10 4 ∷ []))  -- SL of 0 last
    ∷ row (71 ∷ 77 ∷ 0 ∷ 5 ∷ 0 ∷ 64 ∷ 83 ∷ 76 ∷ 0 ∷ 0 ∷ 83 ∷ 76 ∷ 0 ∷ 0 ∷ 86 ∷ 88 ∷ 0 ∷ 1 ∷ []) (done (71 ∷ 77 ∷ 0 ∷ 5 ∷ 0 ∷ 64 ∷ 86 ∷ 88 ∷ 0 ∷ 1 ∷ []) (skips 6 8 ∷ []))  -- two SL of 0
    ∷ row (71 ∷ 77 ∷ 0 ∷ 5 ∷ 0 ∷ 64 ∷ 67 ∷ 0 ∷ 0 ∷ 0 ∷ 2 ∷ 128 ∷ 0 ∷ 0 ∷ 0 ∷ 0 ∷ 0 ∷ 0 ∷ 0 ∷ 0 ∷ 0 ∷ 0 ∷ 0 ∷ 0 ∷ 0 ∷ 0 ∷ 0 ∷ 0 ∷ 0 ∷ 0 ∷ 0 ∷ 0 ∷ 0 ∷ 0 ∷ 0 ∷ 0 ∷ 0 ∷ 0 ∷ 0 ∷ 0 ∷ 0 ∷ 0 ∷ 0 ∷ 0 ∷ 0 ∷ 0 ∷ 0 ∷ 0 ∷ 0 ∷ 0 ∷ 0 ∷ 0 ∷ 0 ∷ 0 ∷ 0 ∷ 0 ∷ 0 ∷ 0 ∷ 0 ∷ 0 ∷ 0 ∷ 83 ∷ 76 ∷ 0 ∷ 1 ∷ []) (done (71 ∷ 77 ∷ 0 ∷ 5 ∷ 0 ∷ 64 ∷ 83 ∷ 76 ∷ 0 ∷ 1 ∷ []) (skips 6 55 ∷ []))  -- cell spoilt
    ∷ row (71 ∷ 77 ∷ 0 ∷ 5 ∷ 0 ∷ 64 ∷ 0 ∷ 0 ∷ 0 ∷ 0 ∷ 0 ∷ 0 ∷ 0 ∷ 0 ∷ 0 ∷ 0 ∷ 0 ∷ 0 ∷ 0 ∷ 0 ∷ 0 ∷ 0 ∷ 0 ∷ 0 ∷ 0 ∷ 0 ∷ 0 ∷ 0 ∷ 0 ∷ 0 ∷ 0 ∷ 0 ∷ 0 ∷ 0 ∷ 0 ∷ 0 ∷ 0 ∷ 0 ∷ 0 ∷ 0 ∷ 0 ∷ 83 ∷ 76 ∷ 0 ∷ 1 ∷ 86 ∷ 88 ∷ 0 ∷ 1 ∷ []) (done (71 ∷ 77 ∷ 0 ∷ 5 ∷ 0 ∷ 64 ∷ 83 ∷ 76 ∷ 0 ∷ 1 ∷ 86 ∷ 88 ∷ 0 ∷ 1 ∷ []) (skips 6 35 ∷ []))  -- hole in a cell with its mark lost
    ∷ row (71 ∷ 77 ∷ 0 ∷ 5 ∷ 0 ∷ 64 ∷ 67 ∷ 65 ∷ 0 ∷ 0 ∷ 2 ∷ 128 ∷ 0 ∷ 0 ∷ 0 ∷ 0 ∷ 0 ∷ 0 ∷ 0 ∷ 0 ∷ 0 ∷ 0 ∷ 0 ∷ 0 ∷ 0 ∷ 0 ∷ 0 ∷ 0 ∷ 0 ∷ 0 ∷ 0 ∷ 0 ∷ 0 ∷ 0 ∷ 0 ∷ 0 ∷ 0 ∷ 0 ∷ 0 ∷ 0 ∷ 0 ∷ 0 ∷ 0 ∷ 0 ∷ 0 ∷ 0 ∷ 0 ∷ 0 ∷ 0 ∷ 0 ∷ 0 ∷ 0 ∷ 0 ∷ 0 ∷ 0 ∷ 0 ∷ 0 ∷ 83 ∷ 76 ∷ 0 ∷ 1 ∷ 86 ∷ 88 ∷ 0 ∷ 1 ∷ []) (done (71 ∷ 77 ∷ 0 ∷ 5 ∷ 0 ∷ 64 ∷ 67 ∷ 65 ∷ 0 ∷ 0 ∷ 2 ∷ 128 ∷ 0 ∷ 0 ∷ 0 ∷ 0 ∷ 0 ∷ 0 ∷ 0 ∷ 0 ∷ 0 ∷ 0 ∷ 0 ∷ 0 ∷ 0 ∷ 0 ∷ 0 ∷ 0 ∷ 0 ∷ 0 ∷ 0 ∷ 0 ∷ 0 ∷ 0 ∷ 0 ∷ 0 ∷ 0 ∷ 0 ∷ 0 ∷ 0 ∷ 0 ∷ 0 ∷ 0 ∷ 0 ∷ 0 ∷ 0 ∷ 0 ∷ 0 ∷ 0 ∷ 0 ∷ 0 ∷ 0 ∷ 0 ∷ 0 ∷ 0 ∷ 0 ∷ 0 ∷ 83 ∷ 76 ∷ 0 ∷ 1 ∷ 86 ∷ 88 ∷ 0 ∷ 1 ∷ []) ([]))  -- cell short by 4, swallows the next record
    ∷ row (71 ∷ 77 ∷ 0 ∷ 5 ∷ 0 ∷ 64 ∷ 83 ∷ 76 ∷ 0 ∷ 1 ∷ 106 ∷ 117 ∷ 110 ∷ 107 ∷ 83 ∷ 76 ∷ 0 ∷ 2 ∷ 86 ∷ 88 ∷ 0 ∷ 1 ∷ []) (done (71 ∷ 77 ∷ 0 ∷ 5 ∷ 0 ∷ 64 ∷ 83 ∷ 76 ∷ 0 ∷ 1 ∷ 83 ∷ 76 ∷ 0 ∷ 2 ∷ 86 ∷ 88 ∷ 0 ∷ 1 ∷ []) (skips 10 4 ∷ []))  -- octets put in
    ∷ row (71 ∷ 77 ∷ 0 ∷ 5 ∷ 0 ∷ 64 ∷ 83 ∷ 76 ∷ 0 ∷ 1 ∷ 106 ∷ 117 ∷ 110 ∷ 107 ∷ []) (done (71 ∷ 77 ∷ 0 ∷ 5 ∷ 0 ∷ 64 ∷ 83 ∷ 76 ∷ 0 ∷ 1 ∷ []) (skips 10 4 ∷ []))  -- junk at the end
    ∷ row (71 ∷ 77 ∷ 0 ∷ 5 ∷ 0 ∷ 64 ∷ 83 ∷ 76 ∷ 0 ∷ 1 ∷ 86 ∷ 88 ∷ 0 ∷ 1 ∷ []) (done (71 ∷ 77 ∷ 0 ∷ 5 ∷ 0 ∷ 64 ∷ 83 ∷ 76 ∷ 0 ∷ 1 ∷ 86 ∷ 88 ∷ 0 ∷ 1 ∷ []) ([]))  -- record lost whole
    ∷ row (71 ∷ 77 ∷ 0 ∷ 5 ∷ 0 ∷ 64 ∷ 0 ∷ 83 ∷ 76 ∷ 0 ∷ 1 ∷ []) (done (71 ∷ 77 ∷ 0 ∷ 5 ∷ 0 ∷ 64 ∷ 83 ∷ 76 ∷ 0 ∷ 1 ∷ []) (skips 6 1 ∷ []))  -- last record directly at the end
    ∷ row (71 ∷ 77 ∷ 0 ∷ 5 ∷ 0 ∷ 64 ∷ 0 ∷ 83 ∷ 76 ∷ 0 ∷ 1 ∷ 0 ∷ []) (done (71 ∷ 77 ∷ 0 ∷ 5 ∷ 0 ∷ 64 ∷ []) (skips 6 6 ∷ []))  -- one octet after the only later record
    ∷ row (71 ∷ 77 ∷ 0 ∷ 5 ∷ 0 ∷ 64 ∷ 0 ∷ 83 ∷ 76 ∷ 0 ∷ 1 ∷ 83 ∷ []) (done (71 ∷ 77 ∷ 0 ∷ 5 ∷ 0 ∷ 64 ∷ []) (skips 6 6 ∷ []))  -- half a mark after it
    ∷ row (71 ∷ 77 ∷ 0 ∷ 5 ∷ 0 ∷ 64 ∷ 0 ∷ 83 ∷ 76 ∷ 0 ∷ 1 ∷ 86 ∷ 88 ∷ []) (done (71 ∷ 77 ∷ 0 ∷ 5 ∷ 0 ∷ 64 ∷ 83 ∷ 76 ∷ 0 ∷ 1 ∷ []) (skips 6 1 ∷ skips 11 2 ∷ []))  -- known mark without its record after it
    ∷ row (71 ∷ 77 ∷ 0 ∷ 5 ∷ 0 ∷ 64 ∷ 0 ∷ 83 ∷ 76 ∷ 0 ∷ 1 ∷ 71 ∷ 77 ∷ 0 ∷ 5 ∷ 0 ∷ 64 ∷ []) (done (71 ∷ 77 ∷ 0 ∷ 5 ∷ 0 ∷ 64 ∷ 83 ∷ 76 ∷ 0 ∷ 1 ∷ []) (skips 6 1 ∷ skips 11 6 ∷ []))  -- GM mark after it
    ∷ row (71 ∷ 77 ∷ 0 ∷ 5 ∷ 0 ∷ 64 ∷ 0 ∷ 83 ∷ 76 ∷ 0 ∷ 1 ∷ 83 ∷ 76 ∷ 0 ∷ 0 ∷ 83 ∷ 76 ∷ 0 ∷ 2 ∷ []) (done (71 ∷ 77 ∷ 0 ∷ 5 ∷ 0 ∷ 64 ∷ 83 ∷ 76 ∷ 0 ∷ 1 ∷ 83 ∷ 76 ∷ 0 ∷ 2 ∷ []) (skips 6 1 ∷ skips 11 4 ∷ []))  -- SL of 0 after it
    ∷ row (71 ∷ 77 ∷ 0 ∷ 5 ∷ 0 ∷ 64 ∷ 0 ∷ 83 ∷ 76 ∷ 0 ∷ 1 ∷ 0 ∷ 83 ∷ 76 ∷ 0 ∷ 2 ∷ []) (done (71 ∷ 77 ∷ 0 ∷ 5 ∷ 0 ∷ 64 ∷ 83 ∷ 76 ∷ 0 ∷ 2 ∷ []) (skips 6 6 ∷ []))  -- record between two holes is not resumed at
    ∷ row (71 ∷ 77 ∷ 0 ∷ 5 ∷ 0 ∷ 64 ∷ 83 ∷ 76 ∷ 0 ∷ 1 ∷ 0 ∷ 83 ∷ 76 ∷ 0 ∷ 2 ∷ []) (done (71 ∷ 77 ∷ 0 ∷ 5 ∷ 0 ∷ 64 ∷ 83 ∷ 76 ∷ 0 ∷ 1 ∷ 83 ∷ 76 ∷ 0 ∷ 2 ∷ []) (skips 10 1 ∷ []))  -- record before a hole is kept in order
    ∷ row (71 ∷ 77 ∷ 0 ∷ 5 ∷ 0 ∷ 64 ∷ 0 ∷ 83 ∷ 76 ∷ 0 ∷ 1 ∷ 83 ∷ 76 ∷ 0 ∷ 2 ∷ 0 ∷ 83 ∷ 76 ∷ 0 ∷ 3 ∷ []) (done (71 ∷ 77 ∷ 0 ∷ 5 ∷ 0 ∷ 64 ∷ 83 ∷ 76 ∷ 0 ∷ 1 ∷ 83 ∷ 76 ∷ 0 ∷ 2 ∷ 83 ∷ 76 ∷ 0 ∷ 3 ∷ []) (skips 6 1 ∷ skips 15 1 ∷ []))  -- two records between two holes
    ∷ row (71 ∷ 77 ∷ 0 ∷ 5 ∷ 0 ∷ 64 ∷ 83 ∷ 76 ∷ 0 ∷ 1 ∷ 71 ∷ 77 ∷ 0 ∷ 5 ∷ 0 ∷ 64 ∷ 83 ∷ 76 ∷ 0 ∷ 2 ∷ []) (done (71 ∷ 77 ∷ 0 ∷ 5 ∷ 0 ∷ 64 ∷ 83 ∷ 76 ∷ 0 ∷ 1 ∷ 83 ∷ 76 ∷ 0 ∷ 2 ∷ []) (skips 10 6 ∷ []))  -- GM later
    ∷ row (71 ∷ 77 ∷ 0 ∷ 5 ∷ 0 ∷ 64 ∷ 71 ∷ 82 ∷ 0 ∷ 1 ∷ 0 ∷ 2 ∷ 83 ∷ 76 ∷ 0 ∷ 1 ∷ []) (done (71 ∷ 77 ∷ 0 ∷ 5 ∷ 0 ∷ 64 ∷ 83 ∷ 76 ∷ 0 ∷ 1 ∷ []) (skips 6 6 ∷ []))  -- GR directly after GM
    ∷ row (71 ∷ 77 ∷ 0 ∷ 5 ∷ 0 ∷ 64 ∷ 0 ∷ 65 ∷ 83 ∷ 76 ∷ 0 ∷ 7 ∷ 86 ∷ 88 ∷ 0 ∷ 1 ∷ 0 ∷ 0 ∷ 0 ∷ 0 ∷ 0 ∷ 0 ∷ 0 ∷ 0 ∷ 0 ∷ 0 ∷ 0 ∷ 0 ∷ 0 ∷ 0 ∷ 0 ∷ 0 ∷ 0 ∷ 0 ∷ 0 ∷ 0 ∷ 0 ∷ 0 ∷ 0 ∷ 0 ∷ 0 ∷ 0 ∷ 0 ∷ 0 ∷ 0 ∷ 0 ∷ 0 ∷ 0 ∷ 0 ∷ 0 ∷ 0 ∷ 0 ∷ 0 ∷ 0 ∷ 0 ∷ 0 ∷ 0 ∷ 0 ∷ 0 ∷ 0 ∷ 0 ∷ 83 ∷ 76 ∷ 0 ∷ 1 ∷ []) (done (71 ∷ 77 ∷ 0 ∷ 5 ∷ 0 ∷ 64 ∷ 83 ∷ 76 ∷ 0 ∷ 7 ∷ 86 ∷ 88 ∷ 0 ∷ 1 ∷ 83 ∷ 76 ∷ 0 ∷ 1 ∷ []) (skips 6 2 ∷ skips 16 45 ∷ []))  -- lost mark, records inside a cell
    ∷ row (71 ∷ 77 ∷ 0 ∷ 5 ∷ 0 ∷ 64 ∷ 0 ∷ 65 ∷ 0 ∷ 0 ∷ 0 ∷ 0 ∷ 0 ∷ 0 ∷ 0 ∷ 0 ∷ 0 ∷ 0 ∷ 0 ∷ 0 ∷ 0 ∷ 0 ∷ 0 ∷ 0 ∷ 0 ∷ 0 ∷ 0 ∷ 0 ∷ 0 ∷ 0 ∷ 0 ∷ 0 ∷ 0 ∷ 0 ∷ 0 ∷ 0 ∷ 0 ∷ 0 ∷ 0 ∷ 0 ∷ 0 ∷ 0 ∷ 0 ∷ 0 ∷ 0 ∷ 0 ∷ 0 ∷ 0 ∷ 0 ∷ 0 ∷ 0 ∷ 0 ∷ 0 ∷ 83 ∷ 76 ∷ 0 ∷ 3 ∷ 86 ∷ 88 ∷ 0 ∷ 1 ∷ 83 ∷ 76 ∷ 0 ∷ 1 ∷ []) (done (71 ∷ 77 ∷ 0 ∷ 5 ∷ 0 ∷ 64 ∷ 83 ∷ 76 ∷ 0 ∷ 3 ∷ 86 ∷ 88 ∷ 0 ∷ 1 ∷ 83 ∷ 76 ∷ 0 ∷ 1 ∷ []) (skips 6 47 ∷ []))  -- records at the end of a spoilt cell
    ∷ row (71 ∷ 77 ∷ 0 ∷ 5 ∷ 0 ∷ 64 ∷ 67 ∷ 65 ∷ 83 ∷ 76 ∷ 0 ∷ 7 ∷ 86 ∷ 88 ∷ 0 ∷ 1 ∷ 0 ∷ 0 ∷ 0 ∷ 0 ∷ 0 ∷ 0 ∷ 0 ∷ 0 ∷ 0 ∷ 0 ∷ 0 ∷ 0 ∷ 0 ∷ 0 ∷ 0 ∷ 0 ∷ 0 ∷ 0 ∷ 0 ∷ 0 ∷ 0 ∷ 0 ∷ 0 ∷ 0 ∷ 0 ∷ 0 ∷ 0 ∷ 0 ∷ 0 ∷ 0 ∷ 0 ∷ 0 ∷ 0 ∷ 0 ∷ 0 ∷ 0 ∷ 0 ∷ 0 ∷ 0 ∷ 0 ∷ 0 ∷ 0 ∷ 0 ∷ 0 ∷ 0 ∷ 83 ∷ 76 ∷ 0 ∷ 1 ∷ []) (done (71 ∷ 77 ∷ 0 ∷ 5 ∷ 0 ∷ 64 ∷ 67 ∷ 65 ∷ 83 ∷ 76 ∷ 0 ∷ 7 ∷ 86 ∷ 88 ∷ 0 ∷ 1 ∷ 0 ∷ 0 ∷ 0 ∷ 0 ∷ 0 ∷ 0 ∷ 0 ∷ 0 ∷ 0 ∷ 0 ∷ 0 ∷ 0 ∷ 0 ∷ 0 ∷ 0 ∷ 0 ∷ 0 ∷ 0 ∷ 0 ∷ 0 ∷ 0 ∷ 0 ∷ 0 ∷ 0 ∷ 0 ∷ 0 ∷ 0 ∷ 0 ∷ 0 ∷ 0 ∷ 0 ∷ 0 ∷ 0 ∷ 0 ∷ 0 ∷ 0 ∷ 0 ∷ 0 ∷ 0 ∷ 0 ∷ 0 ∷ 0 ∷ 0 ∷ 0 ∷ 0 ∷ 83 ∷ 76 ∷ 0 ∷ 1 ∷ []) ([]))  -- records inside a whole cell
    ∷ row (71 ∷ 77 ∷ 0 ∷ 5 ∷ 0 ∷ 64 ∷ 0 ∷ 0 ∷ 86 ∷ 88 ∷ 67 ∷ 65 ∷ 83 ∷ 76 ∷ 0 ∷ 0 ∷ 0 ∷ 0 ∷ 0 ∷ 0 ∷ 0 ∷ 0 ∷ 0 ∷ 0 ∷ 0 ∷ 0 ∷ 0 ∷ 0 ∷ 0 ∷ 0 ∷ 0 ∷ 0 ∷ 0 ∷ 0 ∷ 0 ∷ 0 ∷ 0 ∷ 0 ∷ 0 ∷ 0 ∷ 0 ∷ 0 ∷ 0 ∷ 0 ∷ 0 ∷ 0 ∷ 0 ∷ 0 ∷ 0 ∷ 0 ∷ 0 ∷ 0 ∷ 0 ∷ 0 ∷ 0 ∷ 0 ∷ 0 ∷ 0 ∷ 0 ∷ 0 ∷ 0 ∷ 0 ∷ 0 ∷ 0 ∷ 0 ∷ []) (done (71 ∷ 77 ∷ 0 ∷ 5 ∷ 0 ∷ 64 ∷ 86 ∷ 88 ∷ 67 ∷ 65 ∷ []) (skips 6 2 ∷ skips 12 53 ∷ []))  -- mark at the end of the damage reads on into the next record
    ∷ row (71 ∷ 77 ∷ 0 ∷ 5 ∷ 0 ∷ 64 ∷ 0 ∷ 0 ∷ 86 ∷ 88 ∷ 67 ∷ 65 ∷ 0 ∷ 0 ∷ 2 ∷ 128 ∷ 0 ∷ 0 ∷ 0 ∷ 0 ∷ 0 ∷ 0 ∷ 0 ∷ 0 ∷ 0 ∷ 0 ∷ 0 ∷ 0 ∷ 0 ∷ 0 ∷ 0 ∷ 0 ∷ 0 ∷ 0 ∷ 0 ∷ 0 ∷ 0 ∷ 0 ∷ 0 ∷ 0 ∷ 0 ∷ 0 ∷ 0 ∷ 0 ∷ 0 ∷ 0 ∷ 0 ∷ 0 ∷ 0 ∷ 0 ∷ 0 ∷ 0 ∷ 0 ∷ 0 ∷ 0 ∷ 0 ∷ 0 ∷ 0 ∷ 0 ∷ 0 ∷ 0 ∷ 0 ∷ 0 ∷ 0 ∷ 0 ∷ []) (done (71 ∷ 77 ∷ 0 ∷ 5 ∷ 0 ∷ 64 ∷ 67 ∷ 65 ∷ 0 ∷ 0 ∷ 2 ∷ 128 ∷ 0 ∷ 0 ∷ 0 ∷ 0 ∷ 0 ∷ 0 ∷ 0 ∷ 0 ∷ 0 ∷ 0 ∷ 0 ∷ 0 ∷ 0 ∷ 0 ∷ 0 ∷ 0 ∷ 0 ∷ 0 ∷ 0 ∷ 0 ∷ 0 ∷ 0 ∷ 0 ∷ 0 ∷ 0 ∷ 0 ∷ 0 ∷ 0 ∷ 0 ∷ 0 ∷ 0 ∷ 0 ∷ 0 ∷ 0 ∷ 0 ∷ 0 ∷ 0 ∷ 0 ∷ 0 ∷ 0 ∷ 0 ∷ 0 ∷ 0 ∷ 0 ∷ 0 ∷ 0 ∷ 0 ∷ 0 ∷ 0 ∷ []) (skips 6 4 ∷ []))  -- the same without a mark behind
    ∷ row (71 ∷ 77 ∷ 0 ∷ 5 ∷ 0 ∷ 64 ∷ 0 ∷ 67 ∷ 65 ∷ 83 ∷ 76 ∷ 0 ∷ 1 ∷ 83 ∷ 76 ∷ 0 ∷ 1 ∷ 83 ∷ 76 ∷ 0 ∷ 1 ∷ 83 ∷ 76 ∷ 0 ∷ 1 ∷ 83 ∷ 76 ∷ 0 ∷ 1 ∷ 83 ∷ 76 ∷ 0 ∷ 1 ∷ 83 ∷ 76 ∷ 0 ∷ 1 ∷ 83 ∷ 76 ∷ 0 ∷ 1 ∷ 83 ∷ 76 ∷ 0 ∷ 1 ∷ 83 ∷ 76 ∷ 0 ∷ 1 ∷ 83 ∷ 76 ∷ 0 ∷ 1 ∷ 83 ∷ 76 ∷ 0 ∷ 1 ∷ 83 ∷ 76 ∷ 0 ∷ 1 ∷ 0 ∷ 83 ∷ 76 ∷ 0 ∷ 2 ∷ []) (done (71 ∷ 77 ∷ 0 ∷ 5 ∷ 0 ∷ 64 ∷ 67 ∷ 65 ∷ 83 ∷ 76 ∷ 0 ∷ 1 ∷ 83 ∷ 76 ∷ 0 ∷ 1 ∷ 83 ∷ 76 ∷ 0 ∷ 1 ∷ 83 ∷ 76 ∷ 0 ∷ 1 ∷ 83 ∷ 76 ∷ 0 ∷ 1 ∷ 83 ∷ 76 ∷ 0 ∷ 1 ∷ 83 ∷ 76 ∷ 0 ∷ 1 ∷ 83 ∷ 76 ∷ 0 ∷ 1 ∷ 83 ∷ 76 ∷ 0 ∷ 1 ∷ 83 ∷ 76 ∷ 0 ∷ 1 ∷ 83 ∷ 76 ∷ 0 ∷ 1 ∷ 83 ∷ 76 ∷ 0 ∷ 1 ∷ 83 ∷ 76 ∷ 0 ∷ 1 ∷ 0 ∷ 83 ∷ 76 ∷ 0 ∷ 2 ∷ []) (skips 6 1 ∷ []))  -- CA in the damage swallows records up to a mark
    ∷ row (71 ∷ 77 ∷ 0 ∷ 5 ∷ 0 ∷ 64 ∷ 0 ∷ 67 ∷ 65 ∷ 83 ∷ 76 ∷ 0 ∷ 1 ∷ 0 ∷ 0 ∷ 0 ∷ 0 ∷ 0 ∷ 0 ∷ 0 ∷ 0 ∷ 0 ∷ 0 ∷ 0 ∷ 0 ∷ 0 ∷ 0 ∷ 0 ∷ 0 ∷ 0 ∷ 0 ∷ 0 ∷ 0 ∷ 0 ∷ 0 ∷ 0 ∷ 0 ∷ 0 ∷ 0 ∷ 0 ∷ 0 ∷ 0 ∷ 0 ∷ 0 ∷ 0 ∷ 0 ∷ 0 ∷ 0 ∷ 0 ∷ 0 ∷ 0 ∷ 0 ∷ 0 ∷ 0 ∷ 0 ∷ 0 ∷ 0 ∷ 0 ∷ 0 ∷ 0 ∷ 0 ∷ 0 ∷ 83 ∷ 76 ∷ 0 ∷ 2 ∷ []) (done (71 ∷ 77 ∷ 0 ∷ 5 ∷ 0 ∷ 64 ∷ 67 ∷ 65 ∷ 83 ∷ 76 ∷ 0 ∷ 1 ∷ 0 ∷ 0 ∷ 0 ∷ 0 ∷ 0 ∷ 0 ∷ 0 ∷ 0 ∷ 0 ∷ 0 ∷ 0 ∷ 0 ∷ 0 ∷ 0 ∷ 0 ∷ 0 ∷ 0 ∷ 0 ∷ 0 ∷ 0 ∷ 0 ∷ 0 ∷ 0 ∷ 0 ∷ 0 ∷ 0 ∷ 0 ∷ 0 ∷ 0 ∷ 0 ∷ 0 ∷ 0 ∷ 0 ∷ 0 ∷ 0 ∷ 0 ∷ 0 ∷ 0 ∷ 0 ∷ 0 ∷ 0 ∷ 0 ∷ 0 ∷ 0 ∷ 0 ∷ 0 ∷ 0 ∷ 0 ∷ 0 ∷ 83 ∷ 76 ∷ 0 ∷ 2 ∷ []) (skips 6 1 ∷ []))  -- longest record wins by place, not by length
    ∷ row (71 ∷ 77 ∷ 0 ∷ 5 ∷ 0 ∷ 64 ∷ 0 ∷ 0 ∷ 0 ∷ 0 ∷ 0 ∷ 0 ∷ 0 ∷ 0 ∷ 0 ∷ 0 ∷ 0 ∷ 0 ∷ 0 ∷ 0 ∷ 0 ∷ 0 ∷ 0 ∷ 0 ∷ 0 ∷ 0 ∷ 0 ∷ 0 ∷ 0 ∷ 0 ∷ 0 ∷ 0 ∷ 0 ∷ 0 ∷ 0 ∷ 0 ∷ 0 ∷ 0 ∷ 0 ∷ 0 ∷ 0 ∷ 0 ∷ 0 ∷ 0 ∷ 0 ∷ 0 ∷ 0 ∷ 0 ∷ 0 ∷ 0 ∷ 0 ∷ 0 ∷ 0 ∷ 0 ∷ 0 ∷ 0 ∷ 0 ∷ 0 ∷ 0 ∷ 0 ∷ 0 ∷ 0 ∷ 0 ∷ 0 ∷ 0 ∷ 0 ∷ []) (done (71 ∷ 77 ∷ 0 ∷ 5 ∷ 0 ∷ 64 ∷ []) (skips 6 60 ∷ []))  -- nothing later
    ∷ row (71 ∷ 77 ∷ 0 ∷ 5 ∷ 0 ∷ 64 ∷ 83 ∷ 76 ∷ 83 ∷ 76 ∷ 83 ∷ 76 ∷ 83 ∷ 76 ∷ []) (done (71 ∷ 77 ∷ 0 ∷ 5 ∷ 0 ∷ 64 ∷ 83 ∷ 76 ∷ 83 ∷ 76 ∷ 83 ∷ 76 ∷ 83 ∷ 76 ∷ []) ([]))  -- only letters
    ∷ row (71 ∷ 77 ∷ 0 ∷ 5 ∷ 0 ∷ 64 ∷ 86 ∷ 88 ∷ 86 ∷ 88 ∷ 86 ∷ 88 ∷ []) (done (71 ∷ 77 ∷ 0 ∷ 5 ∷ 0 ∷ 64 ∷ 86 ∷ 88 ∷ 86 ∷ 88 ∷ []) (skips 10 2 ∷ []))  -- VX of its own letters
    ∷ row (71 ∷ 77 ∷ 0 ∷ 5 ∷ 0 ∷ 64 ∷ 0 ∷ 83 ∷ 76 ∷ 83 ∷ 76 ∷ []) (done (71 ∷ 77 ∷ 0 ∷ 5 ∷ 0 ∷ 64 ∷ 83 ∷ 76 ∷ 83 ∷ 76 ∷ []) (skips 6 1 ∷ []))  -- SL SL then end
    ∷ row (71 ∷ 77 ∷ 0 ∷ 5 ∷ 0 ∷ 64 ∷ 83 ∷ 76 ∷ 83 ∷ 76 ∷ 83 ∷ 76 ∷ 0 ∷ 1 ∷ []) (done (71 ∷ 77 ∷ 0 ∷ 5 ∷ 0 ∷ 64 ∷ 83 ∷ 76 ∷ 83 ∷ 76 ∷ 83 ∷ 76 ∷ 0 ∷ 1 ∷ []) ([]))  -- SLSL is a pause of 21,324
    ∷ row (71 ∷ 77 ∷ 0 ∷ 5 ∷ 0 ∷ 64 ∷ 83 ∷ 76 ∷ 0 ∷ 1 ∷ 83 ∷ 83 ∷ 76 ∷ 0 ∷ 2 ∷ []) (done (71 ∷ 77 ∷ 0 ∷ 5 ∷ 0 ∷ 64 ∷ 83 ∷ 76 ∷ 0 ∷ 1 ∷ 83 ∷ 76 ∷ 0 ∷ 2 ∷ []) (skips 10 1 ∷ []))  -- damage of one octet between
    ∷ row (71 ∷ 77 ∷ 0 ∷ 5 ∷ 0 ∷ 64 ∷ 83 ∷ 83 ∷ 76 ∷ 0 ∷ 1 ∷ []) (done (71 ∷ 77 ∷ 0 ∷ 5 ∷ 0 ∷ 64 ∷ 83 ∷ 76 ∷ 0 ∷ 1 ∷ []) (skips 6 1 ∷ []))  -- S before SL
    ∷ row (71 ∷ 88 ∷ 0 ∷ 5 ∷ 0 ∷ 64 ∷ 83 ∷ 76 ∷ 0 ∷ 1 ∷ 83 ∷ 76 ∷ 0 ∷ 2 ∷ []) (stop 17)  -- GM damaged
    ∷ row (71 ∷ 77 ∷ 0 ∷ 5 ∷ 0 ∷ 64 ∷ 0 ∷ 0 ∷ 67 ∷ 65 ∷ 83 ∷ 76 ∷ 0 ∷ 1 ∷ 83 ∷ 76 ∷ 86 ∷ 88 ∷ 0 ∷ 1 ∷ []) (done (71 ∷ 77 ∷ 0 ∷ 5 ∷ 0 ∷ 64 ∷ 83 ∷ 76 ∷ 0 ∷ 1 ∷ 83 ∷ 76 ∷ 86 ∷ 88 ∷ []) (skips 6 4 ∷ skips 18 2 ∷ []))  -- damage that makes a record longer, places judged in the undamaged trace
    ∷ row (71 ∷ 77 ∷ 0 ∷ 5 ∷ 0 ∷ 64 ∷ 86 ∷ 83 ∷ 0 ∷ 1 ∷ 2 ∷ 0 ∷ 0 ∷ 0 ∷ 10 ∷ 0 ∷ 0 ∷ 0 ∷ 26 ∷ 0 ∷ 0 ∷ 0 ∷ 0 ∷ 2 ∷ 0 ∷ 0 ∷ 0 ∷ 2 ∷ 1 ∷ 83 ∷ 76 ∷ 0 ∷ 1 ∷ []) (done (71 ∷ 77 ∷ 0 ∷ 5 ∷ 0 ∷ 64 ∷ 86 ∷ 83 ∷ 0 ∷ 1 ∷ 2 ∷ 0 ∷ 0 ∷ 0 ∷ 10 ∷ 0 ∷ 0 ∷ 0 ∷ 26 ∷ 0 ∷ 0 ∷ 0 ∷ 0 ∷ 2 ∷ 0 ∷ 0 ∷ 0 ∷ 2 ∷ 1 ∷ 83 ∷ 76 ∷ 0 ∷ 1 ∷ []) ([]))  -- VS readable
    ∷ row (71 ∷ 77 ∷ 0 ∷ 5 ∷ 0 ∷ 64 ∷ 0 ∷ 83 ∷ 76 ∷ 0 ∷ 1 ∷ 86 ∷ 83 ∷ 0 ∷ 1 ∷ 2 ∷ 0 ∷ 0 ∷ 0 ∷ 10 ∷ 0 ∷ 0 ∷ 0 ∷ 26 ∷ 0 ∷ 0 ∷ 0 ∷ 0 ∷ 2 ∷ 0 ∷ 0 ∷ 0 ∷ 2 ∷ 1 ∷ []) (done (71 ∷ 77 ∷ 0 ∷ 5 ∷ 0 ∷ 64 ∷ 83 ∷ 76 ∷ 0 ∷ 1 ∷ 86 ∷ 83 ∷ 0 ∷ 1 ∷ 2 ∷ 0 ∷ 0 ∷ 0 ∷ 10 ∷ 0 ∷ 0 ∷ 0 ∷ 26 ∷ 0 ∷ 0 ∷ 0 ∷ 0 ∷ 2 ∷ 0 ∷ 0 ∷ 0 ∷ 2 ∷ 1 ∷ []) (skips 6 1 ∷ []))  -- resumed before a VS
    ∷ row (71 ∷ 77 ∷ 0 ∷ 5 ∷ 0 ∷ 64 ∷ 86 ∷ 83 ∷ 0 ∷ 1 ∷ 2 ∷ 0 ∷ 0 ∷ 0 ∷ 10 ∷ 0 ∷ 0 ∷ 0 ∷ 26 ∷ 0 ∷ 0 ∷ 0 ∷ 0 ∷ 2 ∷ 0 ∷ 0 ∷ 0 ∷ 2 ∷ []) (done (71 ∷ 77 ∷ 0 ∷ 5 ∷ 0 ∷ 64 ∷ []) (skips 6 22 ∷ []))  -- short VS at the end
    ∷ row (71 ∷ 77 ∷ 0 ∷ 5 ∷ 0 ∷ 64 ∷ 86 ∷ 83 ∷ 76 ∷ 0 ∷ 1 ∷ 0 ∷ 0 ∷ 0 ∷ 0 ∷ 0 ∷ 0 ∷ 0 ∷ 0 ∷ 0 ∷ 0 ∷ 0 ∷ 0 ∷ 0 ∷ 0 ∷ 0 ∷ 0 ∷ 0 ∷ 0 ∷ 83 ∷ 76 ∷ 0 ∷ 1 ∷ []) (done (71 ∷ 77 ∷ 0 ∷ 5 ∷ 0 ∷ 64 ∷ 86 ∷ 83 ∷ 76 ∷ 0 ∷ 1 ∷ 0 ∷ 0 ∷ 0 ∷ 0 ∷ 0 ∷ 0 ∷ 0 ∷ 0 ∷ 0 ∷ 0 ∷ 0 ∷ 0 ∷ 0 ∷ 0 ∷ 0 ∷ 0 ∷ 0 ∷ 0 ∷ 83 ∷ 76 ∷ 0 ∷ 1 ∷ []) ([]))  -- VS whole, SL within not looked at
    ∷ row (71 ∷ 78 ∷ 0 ∷ 5 ∷ 0 ∷ 64 ∷ []) (done (71 ∷ 78 ∷ 0 ∷ 5 ∷ 0 ∷ 64 ∷ []) ([]))  -- GN alone
    ∷ row (71 ∷ 77 ∷ 0 ∷ 5 ∷ 0 ∷ 64 ∷ 0 ∷ 83 ∷ 76 ∷ 0 ∷ 1 ∷ 71 ∷ 78 ∷ 83 ∷ 76 ∷ 0 ∷ 2 ∷ []) (done (71 ∷ 77 ∷ 0 ∷ 5 ∷ 0 ∷ 64 ∷ 83 ∷ 76 ∷ 0 ∷ 1 ∷ 83 ∷ 76 ∷ 0 ∷ 2 ∷ []) (skips 6 1 ∷ skips 11 2 ∷ []))  -- GN mark after it, then more
    ∷ row (71 ∷ 77 ∷ 0 ∷ 5 ∷ 0 ∷ 64 ∷ 83 ∷ 76 ∷ 0 ∷ 1 ∷ 86 ∷ 88 ∷ 0 ∷ 1 ∷ 71 ∷ 77 ∷ 0 ∷ 5 ∷ 0 ∷ 64 ∷ 83 ∷ 76 ∷ 0 ∷ 2 ∷ 80 ∷ 88 ∷ 0 ∷ 2 ∷ []) (done (71 ∷ 77 ∷ 0 ∷ 5 ∷ 0 ∷ 64 ∷ 83 ∷ 76 ∷ 0 ∷ 1 ∷ 86 ∷ 88 ∷ 0 ∷ 1 ∷ 83 ∷ 76 ∷ 0 ∷ 2 ∷ 80 ∷ 88 ∷ 0 ∷ 2 ∷ []) (skips 14 6 ∷ []))  -- two traces joined
    ∷ row (71 ∷ 77 ∷ 0 ∷ 5 ∷ 0 ∷ 64 ∷ 79 ∷ 0 ∷ 3 ∷ 0 ∷ 0 ∷ 0 ∷ 0 ∷ 1 ∷ 0 ∷ 0 ∷ 0 ∷ 1 ∷ 80 ∷ 88 ∷ 0 ∷ 2 ∷ []) (done (71 ∷ 77 ∷ 0 ∷ 5 ∷ 0 ∷ 64 ∷ 80 ∷ 88 ∷ 0 ∷ 2 ∷ []) (skips 6 12 ∷ []))  -- PO spoilt
    ∷ row (71 ∷ 78 ∷ 0 ∷ 5 ∷ 0 ∷ 64 ∷ 0 ∷ 80 ∷ 88 ∷ 0 ∷ 2 ∷ 80 ∷ 88 ∷ 0 ∷ 2 ∷ []) (done (71 ∷ 78 ∷ 0 ∷ 5 ∷ 0 ∷ 64 ∷ 80 ∷ 88 ∷ 0 ∷ 2 ∷ 80 ∷ 88 ∷ 0 ∷ 2 ∷ []) (skips 6 1 ∷ []))  -- GN trace with a hole
    ∷ []

pub worked : map (λ c. output_of c.trace (salvage c.trace)) table ≡ map (λ c. c.output) table
unfolding salvage_front walk walk_from step_at resume first_of meets_rule known_mark is_mark reads_to stands_at first_at later_at setup_at open_at sustain_at close_at open_path_at close_path_at cell_at pause_at whole be16 be32
worked = refl

-- what the damage theorem asks can be met: of GM, SL 1, SL 2 the first pause is left as two octets
abbrev gm : List ℕ
gm = 71 ∷ 77 ∷ 0 ∷ 5 ∷ 0 ∷ 64 ∷ []

abbrev sl : ℕ → List ℕ
sl n = 83 ∷ 76 ∷ 0 ∷ n ∷ []

pub met : DamagedIn gm (sl 1) (0 ∷ 83 ∷ []) (sl 2) (keeps 0 6 ∷ []) (keeps 10 4 ∷ [])
unfolding salvage_front walk walk_from step_at resume first_of meets_rule known_mark is_mark reads_to stands_at first_at later_at setup_at open_at sustain_at close_at open_path_at close_path_at cell_at pause_at whole be16 be32
met =
    record {
      some = omega arith;
      before = (refl, refl, refl);
      within = refl;
      behind = (refl, refl, refl);
      hole = record {
        inside = omega arith;
        unread = refl;
        between = λ q l u. let e : 7 ≡ q = omega arith in subst (λ (n : ℕ). meets_rule (gm ++ (0 ∷ 83 ∷ []) ++ sl 2) 12 n ≡ false) e refl;
      };
    }
