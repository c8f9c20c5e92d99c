-- A raw trace, whole, by computation: a wrong bit is mended, the next error is dropped, an idle cell leads back, two wrong
-- bits are dropped, and a wrong bit of octet 5 is mended; the end line counts no dropped cell.
use Prim.Native.Nat.{ℕ}
use mathlib.Core.Path.{◌≡◌, refl}
use mathlib.Core.List.{List, [], ◌∷◌, ◌++◌}
use lib.ListN.{replicate}
use Rattle.list_meaning.specs.Listing.{listing_of}
use Rattle.list_meaning.proofs.Computed.{by_computation}

-- GR 2 2; VO 1 with m 0, F 1, C 1
abbrev opening : List ℕ
opening = (71 ∷ 82 ∷ 0 ∷ 2 ∷ 0 ∷ 2 ∷ []) ++ (86 ∷ 79 ∷ 0 ∷ 1 ∷ 0 ∷ 0 ∷ 0 ∷ 0 ∷ 1 ∷ 0 ∷ 0 ∷ 0 ∷ 1 ∷ [])

-- a cell by its fourth and fifth octet; VC 1 has 16 and 37, the idle cell 1 and 82
abbrev cell : ℕ → ℕ → List ℕ
cell fourth fifth = (67 ∷ 65 ∷ 0 ∷ 0 ∷ 0 ∷ fourth ∷ fifth ∷ []) ++ replicate 48 0

abbrev pub raw_slots_trace : List ℕ
raw_slots_trace = opening ++ (cell 0 37 ++ (cell 0 37 ++ (cell 1 82 ++ (cell 0 39 ++ (cell 1 82 ++ cell 16 36)))))

pub raw_slots : listing_of raw_slots_trace
    ≡ (115 ∷ 101 ∷ 116 ∷ 117 ∷ 112 ∷ 32 ∷ 50 ∷ 32 ∷ 50 ∷ 32 ∷ 48 ∷ 10 ∷ [])
    ++ ((111 ∷ 112 ∷ 101 ∷ 110 ∷ 32 ∷ 49 ∷ 32 ∷ 48 ∷ 10 ∷ [])
    ++ ((48 ∷ 32 ∷ 65 ∷ 32 ∷ 49 ∷ 32 ∷ 48 ∷ 32 ∷ 49 ∷ 10 ∷ [])
    ++ ((49 ∷ 32 ∷ 72 ∷ 32 ∷ 45 ∷ 32 ∷ 45 ∷ 32 ∷ 45 ∷ 10 ∷ [])
    ++ ((50 ∷ 32 ∷ 46 ∷ 32 ∷ 45 ∷ 32 ∷ 45 ∷ 32 ∷ 45 ∷ 10 ∷ [])
    ++ ((51 ∷ 32 ∷ 72 ∷ 32 ∷ 45 ∷ 32 ∷ 45 ∷ 32 ∷ 45 ∷ 10 ∷ [])
    ++ ((52 ∷ 32 ∷ 46 ∷ 32 ∷ 45 ∷ 32 ∷ 45 ∷ 32 ∷ 45 ∷ 10 ∷ [])
    ++ ((53 ∷ 32 ∷ 65 ∷ 32 ∷ 49 ∷ 32 ∷ 48 ∷ 32 ∷ 49 ∷ 10 ∷ [])
    ++ (101 ∷ 110 ∷ 100 ∷ 32 ∷ 50 ∷ 32 ∷ 48 ∷ 32 ∷ 48 ∷ 32 ∷ 50 ∷ 32 ∷ 48 ∷ 10 ∷ []))))))))
unfolding by_computation
raw_slots = refl
