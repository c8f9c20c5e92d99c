-- Document 01's worked example: the listing of the eight slots, whole, by computation.
use Prim.Native.Nat.{ℕ, ◌+◌}
use mathlib.Core.Path.{◌≡◌, refl}
use mathlib.Core.List.{List, [], ◌∷◌, ◌++◌}
use lib.ListN.{replicate}
use Rattle.list_meaning.specs.Listing.{listing_of}
use Rattle.list_meaning.proofs.Computed.{by_computation}

-- GM 5 64; VO 40 with m 2, F 10, C 26; VO 41 with m 2, F 4, C 4
abbrev opening : List ℕ
opening =
    (71 ∷ 77 ∷ 0 ∷ 5 ∷ 0 ∷ 64 ∷ []) ++ ((86 ∷ 79 ∷ 0 ∷ 40 ∷ 2 ∷ 0 ∷ 0 ∷ 0 ∷ 10 ∷ 0 ∷ 0 ∷ 0 ∷ 26 ∷ []) ++ (86 ∷ 79 ∷ 0 ∷ 41 ∷ 2 ∷ 0 ∷ 0 ∷ 0 ∷ 4 ∷ 0 ∷ 0 ∷ 0 ∷ 4 ∷ []))

-- a cell of a VC below 256
abbrev cell : ℕ → ℕ → List ℕ
cell high low = (67 ∷ 65 ∷ 0 ∷ 0 ∷ high ∷ low ∷ 0 ∷ []) ++ replicate 48 0

-- cells of VC 40 in slots 0 to 4; of VC 41 in slot 5; SL 2
abbrev pub eight_slots : List ℕ
eight_slots =
    opening
    ++ (cell 2 128 ++ (cell 2 128 ++ (cell 2 128 ++ (cell 2 128 ++ (cell 2 128 ++ (cell 2 144 ++ (83 ∷ 76 ∷ 0 ∷ 2 ∷ [])))))))

-- the twelve lines
pub eight_slots_lem : listing_of eight_slots
    ≡ (115 ∷ 101 ∷ 116 ∷ 117 ∷ 112 ∷ 32 ∷ 53 ∷ 32 ∷ 54 ∷ 52 ∷ 32 ∷ 48 ∷ 10 ∷ [])
    ++ ((111 ∷ 112 ∷ 101 ∷ 110 ∷ 32 ∷ 52 ∷ 48 ∷ 32 ∷ 48 ∷ 10 ∷ [])
    ++ ((111 ∷ 112 ∷ 101 ∷ 110 ∷ 32 ∷ 52 ∷ 49 ∷ 32 ∷ 48 ∷ 10 ∷ [])
    ++ ((48 ∷ 32 ∷ 65 ∷ 32 ∷ 52 ∷ 48 ∷ 32 ∷ 48 ∷ 32 ∷ 52 ∷ 48 ∷ 10 ∷ [])
    ++ ((49 ∷ 32 ∷ 65 ∷ 32 ∷ 52 ∷ 48 ∷ 32 ∷ 49 ∷ 32 ∷ 45 ∷ 10 ∷ [])
    ++ ((50 ∷ 32 ∷ 65 ∷ 32 ∷ 52 ∷ 48 ∷ 32 ∷ 51 ∷ 32 ∷ 52 ∷ 48 ∷ 10 ∷ [])
    ++ ((51 ∷ 32 ∷ 88 ∷ 32 ∷ 52 ∷ 48 ∷ 32 ∷ 45 ∷ 32 ∷ 45 ∷ 10 ∷ [])
    ++ ((52 ∷ 32 ∷ 65 ∷ 32 ∷ 52 ∷ 48 ∷ 32 ∷ 51 ∷ 32 ∷ 45 ∷ 10 ∷ [])
    ++ ((53 ∷ 32 ∷ 65 ∷ 32 ∷ 52 ∷ 49 ∷ 32 ∷ 48 ∷ 32 ∷ 52 ∷ 49 ∷ 10 ∷ [])
    ++ ((54 ∷ 32 ∷ 46 ∷ 32 ∷ 45 ∷ 32 ∷ 45 ∷ 32 ∷ 52 ∷ 48 ∷ 10 ∷ [])
    ++ ((55 ∷ 32 ∷ 46 ∷ 32 ∷ 45 ∷ 32 ∷ 45 ∷ 32 ∷ 52 ∷ 48 ∷ 10 ∷ [])
    ++ ((101 ∷ 110 ∷ 100 ∷ 32 ∷ 53 ∷ 32 ∷ 49 ∷ 32 ∷ 48 ∷ 32 ∷ 53 ∷ 32 ∷ 48 ∷ 10 ∷ []))))))))))))
unfolding by_computation
eight_slots_lem = refl
