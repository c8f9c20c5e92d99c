-- REQUEST (xii) of document 02: mending a damaged trace. To be read first; proofs/Top.antt proves each line of it.
--
-- crates/mend_step/specs/Salvage.antt says what is done with a trace: salvage trace, or, where `trace` is the front of an input
-- of n octets, salvage_front trace n; salvage_input is the program's. It is the refusal 17, or pieces ps: kept records and
-- skipped stretches by first octet and length, in order. written_of trace ps is what is written. Promises.antt has the words.
use Rattle.std.specs.Prelude.{ℕ, ◌+◌, ◌≤◌, ◌≡◌, List, ◌∷◌, ◌++◌, length}
use Rattle.meaning.specs.Plain.{when◌then◌else◌}
use Rattle.mend_step.specs.Salvage.{Piece, skips, walk, refused, mended, salvage_front, salvage, limit, salvage_input, written_of}
use Rattle.mend_theorems.specs.Promises.{Cut, octets_of, Ends, begins, Readable, packed, Damaged, DamagedIn}

-- "Refusals: 17, no readable GM at the start, and nothing is written": 17 in no other case
abbrev pub Refused17 : Type 0
Refused17 = (trace : List ℕ) (n : ℕ) → salvage_front trace n ≡ (when begins trace then mended (walk trace n) else refused 17)

-- S1: "Every octet of the input is in exactly one kept record or one listed stretch": the pieces, in order, cut the input,
-- and none is empty; put together they are the trace
abbrev pub CutsTheInput : Type 0
CutsTheInput = (trace : List ℕ) (n : ℕ) (ps : List Piece) → length trace ≤ n → salvage_front trace n ≡ mended ps → Cut 0 ps n

abbrev pub AllOctets : Type 0
AllOctets = (trace : List ℕ) (ps : List Piece) → salvage trace ≡ mended ps → octets_of trace ps ≡ trace

-- S2: "It writes the readable records": what is written is readable throughout, its records are the kept ones, and to
-- salvage it again changes nothing
abbrev pub MendedReads : Type 0
MendedReads = (trace : List ℕ) (n : ℕ) (ps : List Piece) → length trace ≤ n → salvage_front trace n ≡ mended ps
    → Readable (written_of trace ps) (packed 0 ps)

abbrev pub MendedStays : Type 0
MendedStays = (trace : List ℕ) (n : ℕ) (ps : List Piece) → length trace ≤ n → salvage_front trace n ≡ mended ps
    → (salvage (written_of trace ps) ≡ mended (packed 0 ps)) × (written_of (written_of trace ps) (packed 0 ps) ≡ written_of trace ps)

-- S3: a trace readable throughout is kept whole, with no stretch
abbrev pub KeptWhole : Type 0
KeptWhole = (trace : List ℕ) (ps : List Piece) → Readable trace ps → (salvage trace ≡ mended ps) × (written_of trace ps ≡ trace)

-- S4: damage d of any length between the records of a and of b costs one stretch, just d, and no record
abbrev pub OneStretch : Type 0
OneStretch = (a d b : List ℕ) (ps qs : List Piece) → Damaged a d b ps qs
    → (salvage (a ++ d ++ b) ≡ mended (ps ++ skips (length a) (length d) ∷ packed (length a + length d) qs))
    × (written_of (a ++ d ++ b) (ps ++ skips (length a) (length d) ∷ packed (length a + length d) qs) ≡ a ++ b)

-- "if damage lies within one record after the GM, leaves that record unreadable at its own start, and no place between
-- there and the next record's start meets that rule, all records after it are kept unchanged", and those before it
abbrev pub AllAfterAreKept : Type 0
AllAfterAreKept = (a r d b : List ℕ) (ps qs : List Piece) → DamagedIn a r d b ps qs
    → (salvage (a ++ d ++ b) ≡ mended (ps ++ skips (length a) (length d) ∷ packed (length a + length d) qs))
    × (written_of (a ++ d ++ b) (ps ++ skips (length a) (length d) ∷ packed (length a + length d) qs) ≡ a ++ b)

-- the program's input: where it doesn't go on after what the program keeps, this is the plain salvage
abbrev pub PlainWithin : Type 0
PlainWithin = (input : List ℕ) → length input ≤ limit → salvage_input input ≡ salvage input

-- where it goes on, what lies beyond is part of one stretch, the last: all else ends before
abbrev pub BeyondIsSkipped : Type 0
BeyondIsSkipped = (input : List ℕ) (ps : List Piece) → salvage_input input ≡ mended ps
    → Cut 0 ps (length input) × Ends limit (length input) ps
