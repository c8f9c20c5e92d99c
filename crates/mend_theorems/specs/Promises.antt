-- The words of the theorems in Salvaged.antt.
--
--   Cut at ps end          == the pieces ps cut the octets from at to end: each begins where the one before ended, none empty
--   Ends long n ps         == every piece ends within the first `long` octets, or is a stretch to the end n
--   begins trace           == whether a readable GM, GR or GN stands at the start
--   Records trace p ps e   == from p to e the reader reads one record after the other, and ps names them
--   Readable trace ps      == a trace readable throughout, and its records
--   Damaged a d b ps qs    == octets d between the records ps of a and qs of b
--   DamagedIn a r d b ps qs == octets d in the place of one record r, as document 02 has damage
use Rattle.std.specs.Prelude.{ℕ, ◌+◌, ◌≤◌, ◌<◌, ◌≡◌, Bool, false, ◌&&◌, ◌⊎◌, List, [], ◌∷◌, ◌++◌, length, take, drop}
use Rattle.meaning.specs.Plain.{◌≤?◌}
use Rattle.trace_record.specs.Trace.{be16, long_gm, mark_gm, mark_gr, mark_gn}
use Rattle.mend_step.specs.Salvage.{none, up_to, reads_to, among, meets_rule, Piece, keeps, skips}

abbrev pub first_octet : Piece → ℕ
first_octet (keeps p l) = p
first_octet (skips p l) = p

abbrev pub long_of : Piece → ℕ
long_of (keeps p l) = l
long_of (skips p l) = l

-- "Every octet of the input is in exactly one kept record or one listed stretch"
abbrev pub Cut : ℕ → List Piece → ℕ → Type 0
Cut at [] end = at ≡ end
Cut at (x ∷ xs) end = (first_octet x ≡ at) × (0 < long_of x) × Cut (at + long_of x) xs end

-- the octets of pieces, all of them
abbrev pub octets_of : List ℕ → List Piece → List ℕ
octets_of trace [] = []
octets_of trace (x ∷ xs) = take (long_of x) (drop (first_octet x) trace) ++ octets_of trace xs

-- every piece ends within the front, or is a stretch that reaches the input's end
abbrev pub Ends : ℕ → ℕ → List Piece → Type 0
Ends long n [] = Unit {0}
Ends long n (keeps p l ∷ xs) = (p + l ≤ long) × Ends long n xs
Ends long n (skips p l ∷ xs) = ((p + l ≤ long) ⊎ (p + l ≡ n)) × Ends long n xs

-- "no readable GM at the start": GM, GR or GN, and the six octets of such a record
abbrev pub heads : List ℕ
heads = mark_gm ∷ mark_gr ∷ mark_gn ∷ []

unfoldable pub begins : List ℕ → Bool
begins trace = long_gm ≤? length trace && among (be16 trace 0) heads

abbrev pub Records : List ℕ → ℕ → List Piece → ℕ → Type 0
Records trace p [] e = p ≡ e
Records trace p (keeps q l ∷ xs) e = (q ≡ p) × (reads_to trace p ≡ up_to (p + l)) × Records trace (p + l) xs e
Records trace p (skips q l ∷ xs) e = ⊥

-- "a trace readable throughout"
abbrev pub Readable : List ℕ → List Piece → Type 0
Readable trace ps = (0 < length trace) × Records trace 0 ps (length trace)

-- the kept records, one directly after the other from place at
abbrev pub packed : ℕ → List Piece → List Piece
packed at [] = []
packed at (keeps p l ∷ xs) = keeps at l ∷ packed (at + l) xs
packed at (skips p l ∷ xs) = packed at xs

-- octets d between a and b: "leaves that record unreadable at its own start, and no place between there and the next
-- record's start meets that rule"
pub record Hole (a d b : List ℕ) : Type 0 where
  pub inside : length a < length (a ++ d ++ b)
  pub unread : reads_to (a ++ d ++ b) (length a) ≡ none
  pub between : (q : ℕ) → length a < q → q < length a + length d → meets_rule (a ++ d ++ b) (length (a ++ d ++ b)) q ≡ false

-- a ++ b is readable throughout, with records ps in a, the GM among them, and qs in b; d, of any length, stands between them
pub record Damaged (a d b : List ℕ) (ps qs : List Piece) : Type 0 where
  pub some : 0 < length a
  pub before : Records (a ++ b) 0 ps (length a)
  pub behind : Records (a ++ b) (length a) qs (length (a ++ b))
  pub hole : Hole a d b

-- "In a trace readable throughout, if damage lies within one record after the GM": r is that record in a ++ r ++ b, and d
-- what the damage left of it, as long as it or not; places are those of the damaged trace
pub record DamagedIn (a r d b : List ℕ) (ps qs : List Piece) : Type 0 where
  pub some : 0 < length a
  pub before : Records (a ++ r ++ b) 0 ps (length a)
  pub within : reads_to (a ++ r ++ b) (length a) ≡ up_to (length a + length r)
  pub behind : Records (a ++ r ++ b) (length a + length r) qs (length (a ++ r ++ b))
  pub hole : Hole a d b
