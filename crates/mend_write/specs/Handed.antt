-- What it means that a mended trace and its list were handed over: fill after fill from place 0, each from where the one
-- before left the place and the buffers; what they put, and in which order, is fixed, and so is what is left in the
-- buffers. Which octets the system then writes is outside every contract.
use Rattle.std.specs.Prelude.{ℕ, suc, ◌≤◌, ◌<◌, ◌≡◌, Bool, true, false, ◌&&◌, List, [], ◌∷◌, ◌++◌, length, take}
use Rattle.std.specs.Prelude.{Ok}
use Rattle.std.specs.declared.option.Option.{Option}
use Rattle.std.specs.Io.KnownBytes.{Appends, Keeps}
use Rattle.meaning.specs.Plain.{◌≤?◌}
use Rattle.mend_step.specs.Salvage.{reads_to, walk, written_of}
use Rattle.mend_fill.specs.declared.Filled.{Filled}
use Rattle.mend_fill.specs.Lines.{lines_of}
use Rattle.mend_fill.specs.Fill.{record_room, line_room, begun, FillPromise}

-- k fills, each before the input's end; w and l are what they put, one after the other; a primed name is what a buffer holds
-- afterwards
pub data Fills (trace : List ℕ) (n : ℕ) (out text : List ℕ) : (k : ℕ) (w l : List ℕ) (at : ℕ) (out' text' : List ℕ) → Type 0 where
  no_fill : Fills trace n out text 0 [] [] 0 out text
  then_fill : {k : ℕ} {w l out' text' : List ℕ} {at : ℕ} (r : Filled) (out'' text'' : List ℕ) → Fills trace n out text k w l at out' text'
      → at < n
      → FillPromise trace n at out' text' (Ok r) out'' text''
      → Fills trace n out text (suc k) (w ++ take r.written out'') (l ++ take r.listed text'') r.at out'' text''

-- r says that every write took all: then all of the mended trace and all lines were handed over. Where a write failed, the
-- fills up to that one were made. Only the number of fills is open, and only where r is a no: proofs/Once.antt.
pub record Handed (trace : List ℕ) (n : ℕ) (out text : List ℕ) (r : Bool) (out' text' : List ℕ) : Type 0 where
  pub count : ℕ
  pub w : List ℕ
  pub l : List ℕ
  pub at : ℕ
  pub fills : Fills trace n out text count w l at out' text'
  pub all : r ≡ true → (n ≤ at) × (w ≡ written_of trace (walk trace n)) × (l ≡ lines_of (walk trace n))
  pub some : r ≡ false → 0 < count

-- the input is mended: it begins with a record, and both buffers have room for any piece
abbrev pub mends : List ℕ → List ℕ → List ℕ → Bool
mends trace out text = begun (reads_to trace 0) && (record_room ≤? length out && line_room ≤? length text)

-- otherwise, 17 among it, both buffers keep every octet
pub record MendPromise (trace : List ℕ) (n : ℕ) (out text : List ℕ) (r : Bool) (out' text' : List ℕ) : Type 0 where
  pub handed : mends trace out text ≡ true → Handed trace n out text r out' text'
  pub kept : mends trace out text ≡ false → (out' ≡ out) × (text' ≡ text)
  -- a buffer too short is a no; at 17 the answer is whether that line was written
  pub short : begun (reads_to trace 0) ≡ true → mends trace out text ≡ false → r ≡ false

-- ---- which octets the two writers took, where they say which they hold: before and after, of the one and of the other

pub record Taken (trace : List ℕ) (n : ℕ) (a a' b b' : Option (List ℕ)) : Type 0 where
  pub mended : Appends a a' (written_of trace (walk trace n))
  pub listed : Appends b b' (lines_of (walk trace n))

-- `stop 17`
abbrev pub stop_17 : List ℕ
stop_17 = 115 ∷ 116 ∷ 111 ∷ 112 ∷ 32 ∷ 49 ∷ 55 ∷ 10 ∷ []

-- yes is said only where they took all of the mended trace and all lines; at 17 the first takes nothing
pub record Written (trace : List ℕ) (n : ℕ) (r : Bool) (a a' b b' : Option (List ℕ)) : Type 0 where
  pub taken : r ≡ true → begun (reads_to trace 0) ≡ true → Taken trace n a a' b b'
  pub said : r ≡ true → begun (reads_to trace 0) ≡ false → Appends b b' stop_17
  pub kept : begun (reads_to trace 0) ≡ false → Keeps a a'
