-- An NNI trace with paths, whole, by computation: all cells of VPI 1 share a bucket, whatever their VCI, and show V + 1; the path with
-- VPI 256 can't be opened, and is shown all the same; at the NNI a VPI has twelve bits, so VPI 257 is unknown; VC 1 stands beside
-- path 1, and a closed path's cell is unknown, with the VCI as read.
use Prim.Native.Nat.{ℕ}
use mathlib.Core.Path.{◌≡◌, refl}
use mathlib.Core.List.{List, [], ◌∷◌, ◌++◌}
use lib.ListN.{replicate}
use Rattle.list_meaning.specs.Listing.{listing_of}
use Rattle.list_meaning.proofs.Computed.{by_computation}

-- PO or VO (80 or 86), with m 0, F 2, C 2
abbrev opens : ℕ → ℕ → ℕ → List ℕ
opens letter high low = letter ∷ 79 ∷ high ∷ low ∷ 0 ∷ 0 ∷ 0 ∷ 0 ∷ 2 ∷ 0 ∷ 0 ∷ 0 ∷ 2 ∷ []

abbrev px : ℕ → List ℕ
px vpi = 80 ∷ 88 ∷ 0 ∷ vpi ∷ []

-- GN 2 3; PO 1; PO 256; VO 1
abbrev opening : List ℕ
opening = (71 ∷ 78 ∷ 0 ∷ 2 ∷ 0 ∷ 3 ∷ []) ++ (opens 80 0 1 ++ (opens 80 1 0 ++ opens 86 0 1))

-- a cell by its VPI, below 4,096, in two parts, and its VCI, below 16
abbrev cell : ℕ → ℕ → ℕ → List ℕ
cell high low vci = (67 ∷ 65 ∷ high ∷ low ∷ 0 ∷ vci ∷ []) ++ replicate 49 0

-- VPI 1 with VCI 0, 5 and 0; VPI 257 with VCI 7; VPI 0 with VCI 1; PX 1; VPI 1 with VCI 0; PX 1; PX 0
abbrev pub path_slots : List ℕ
path_slots =
    opening
    ++ (cell 0 16 0 ++ (cell 0 16 80 ++ (cell 0 16 0 ++ (cell 16 16 112 ++ (cell 0 0 16 ++ (px 1 ++ (cell 0 16 0 ++ (px 1 ++ px 0))))))))

-- setup 2 3 0, open 4 0, open 259 4, open 1 0, 0 A 4 0 4, 1 X 4 - -, 2 A 4 0 4, 3 U 7 - -, 4 A 1 0 1, close 4 0,
-- 5 U 0 - -, close 4 7, close 3 4, end 3 1 2 3 0
pub path_slots_lem : listing_of path_slots
    ≡ (115 ∷ 101 ∷ 116 ∷ 117 ∷ 112 ∷ 32 ∷ 50 ∷ 32 ∷ 51 ∷ 32 ∷ 48 ∷ 10 ∷ [])
    ++ ((111 ∷ 112 ∷ 101 ∷ 110 ∷ 32 ∷ 52 ∷ 32 ∷ 48 ∷ 10 ∷ [])
    ++ ((111 ∷ 112 ∷ 101 ∷ 110 ∷ 32 ∷ 50 ∷ 53 ∷ 57 ∷ 32 ∷ 52 ∷ 10 ∷ [])
    ++ ((111 ∷ 112 ∷ 101 ∷ 110 ∷ 32 ∷ 49 ∷ 32 ∷ 48 ∷ 10 ∷ [])
    ++ ((48 ∷ 32 ∷ 65 ∷ 32 ∷ 52 ∷ 32 ∷ 48 ∷ 32 ∷ 52 ∷ 10 ∷ [])
    ++ ((49 ∷ 32 ∷ 88 ∷ 32 ∷ 52 ∷ 32 ∷ 45 ∷ 32 ∷ 45 ∷ 10 ∷ [])
    ++ ((50 ∷ 32 ∷ 65 ∷ 32 ∷ 52 ∷ 32 ∷ 48 ∷ 32 ∷ 52 ∷ 10 ∷ [])
    ++ ((51 ∷ 32 ∷ 85 ∷ 32 ∷ 55 ∷ 32 ∷ 45 ∷ 32 ∷ 45 ∷ 10 ∷ [])
    ++ ((52 ∷ 32 ∷ 65 ∷ 32 ∷ 49 ∷ 32 ∷ 48 ∷ 32 ∷ 49 ∷ 10 ∷ [])
    ++ ((99 ∷ 108 ∷ 111 ∷ 115 ∷ 101 ∷ 32 ∷ 52 ∷ 32 ∷ 48 ∷ 10 ∷ [])
    ++ ((53 ∷ 32 ∷ 85 ∷ 32 ∷ 48 ∷ 32 ∷ 45 ∷ 32 ∷ 45 ∷ 10 ∷ [])
    ++ ((99 ∷ 108 ∷ 111 ∷ 115 ∷ 101 ∷ 32 ∷ 52 ∷ 32 ∷ 55 ∷ 10 ∷ [])
    ++ ((99 ∷ 108 ∷ 111 ∷ 115 ∷ 101 ∷ 32 ∷ 51 ∷ 32 ∷ 52 ∷ 10 ∷ [])
    ++ (101 ∷ 110 ∷ 100 ∷ 32 ∷ 51 ∷ 32 ∷ 49 ∷ 32 ∷ 50 ∷ 32 ∷ 51 ∷ 32 ∷ 48 ∷ 10 ∷ [])))))))))))))
unfolding by_computation
path_slots_lem = refl
