-- A trace with second buckets, whole, by computation: VC 1 is opened with a flag, so that its second cell is tagged and still
-- sent; VC 2 is first refused with 11 (C below F), then opened without a flag, so that its second cell is excess. The end line
-- counts the tagged cell as accepted.
use Prim.Native.Nat.{ℕ}
use mathlib.Core.Path.{◌≡◌, refl}
use mathlib.Core.List.{List, [], ◌∷◌, ◌++◌}
use lib.ListN.{replicate}
use Rattle.list_meaning.specs.Listing.{listing_of}
use Rattle.list_meaning.proofs.Computed.{by_computation}

-- VS: VCI, m 0, F 1, C 2; m 0, F 2, C and flag of the second bucket
abbrev vs : ℕ → ℕ → ℕ → List ℕ
vs vci C flag =
    (86 ∷ 83 ∷ 0 ∷ vci ∷ 0 ∷ 0 ∷ 0 ∷ 0 ∷ 1 ∷ 0 ∷ 0 ∷ 0 ∷ 2 ∷ []) ++ (0 ∷ 0 ∷ 0 ∷ 0 ∷ 2 ∷ 0 ∷ 0 ∷ 0 ∷ C ∷ flag ∷ [])

-- GM 2 3; VS 1 with C 2 and the flag; VS 2 with C 1; VS 2 with C 2
abbrev opening : List ℕ
opening = (71 ∷ 77 ∷ 0 ∷ 2 ∷ 0 ∷ 3 ∷ []) ++ (vs 1 2 1 ++ (vs 2 1 0 ++ vs 2 2 0))

-- a cell by its fourth octet: CLP 0 of VC 1 is 16, CLP 1 of VC 1 is 17, CLP 0 of VC 2 is 32
abbrev cell : ℕ → List ℕ
cell fourth = (67 ∷ 65 ∷ 0 ∷ 0 ∷ 0 ∷ fourth ∷ []) ++ replicate 49 0

-- VC 1 in slots 0 and 1, and with CLP 1 in slot 2; VC 2 in slots 3 and 4
abbrev pub tagged_slots : List ℕ
tagged_slots = opening ++ (cell 16 ++ (cell 16 ++ (cell 17 ++ (cell 32 ++ cell 32))))

-- setup 2 3 0, open 1 0, open 2 11, open 2 0, 0 A 1 0 1, 1 T 1 0 1, 2 A 1 0 1, 3 A 2 0 2, 4 X 2 - -, end 4 1 0 4 0
pub tagged_slots_lem : listing_of tagged_slots
    ≡ (115 ∷ 101 ∷ 116 ∷ 117 ∷ 112 ∷ 32 ∷ 50 ∷ 32 ∷ 51 ∷ 32 ∷ 48 ∷ 10 ∷ [])
    ++ ((111 ∷ 112 ∷ 101 ∷ 110 ∷ 32 ∷ 49 ∷ 32 ∷ 48 ∷ 10 ∷ [])
    ++ ((111 ∷ 112 ∷ 101 ∷ 110 ∷ 32 ∷ 50 ∷ 32 ∷ 49 ∷ 49 ∷ 10 ∷ [])
    ++ ((111 ∷ 112 ∷ 101 ∷ 110 ∷ 32 ∷ 50 ∷ 32 ∷ 48 ∷ 10 ∷ [])
    ++ ((48 ∷ 32 ∷ 65 ∷ 32 ∷ 49 ∷ 32 ∷ 48 ∷ 32 ∷ 49 ∷ 10 ∷ [])
    ++ ((49 ∷ 32 ∷ 84 ∷ 32 ∷ 49 ∷ 32 ∷ 48 ∷ 32 ∷ 49 ∷ 10 ∷ [])
    ++ ((50 ∷ 32 ∷ 65 ∷ 32 ∷ 49 ∷ 32 ∷ 48 ∷ 32 ∷ 49 ∷ 10 ∷ [])
    ++ ((51 ∷ 32 ∷ 65 ∷ 32 ∷ 50 ∷ 32 ∷ 48 ∷ 32 ∷ 50 ∷ 10 ∷ [])
    ++ ((52 ∷ 32 ∷ 88 ∷ 32 ∷ 50 ∷ 32 ∷ 45 ∷ 32 ∷ 45 ∷ 10 ∷ [])
    ++ ((101 ∷ 110 ∷ 100 ∷ 32 ∷ 52 ∷ 32 ∷ 49 ∷ 32 ∷ 48 ∷ 32 ∷ 52 ∷ 32 ∷ 48 ∷ 10 ∷ []))))))))))
unfolding by_computation
tagged_slots_lem = refl
