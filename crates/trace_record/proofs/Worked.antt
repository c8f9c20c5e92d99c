-- Document 01's worked trace, and both sides of each edge of the reader, as one table: what stands at each place is
-- computed.
use Prim.Native.Nat.{ℕ}
use mathlib.Core.Path.{◌≡◌, refl}
use mathlib.Core.List.{List, [], ◌∷◌, ◌++◌, map}
use lib.ListN.{replicate, take}
use Rattle.meaning.specs.Words.{second_of, without_second}
use Rattle.trace_record.specs.Trace.{GM, VO, VX, CA, SL, VS, PO, PX, Stands, event, finish, unreadable}
use Rattle.trace_record.specs.declared.Head.TheVariants.{Gm, Gr, Gn}
use Rattle.trace_record.specs.Trace.{be16, be32, whole, setup_at, open_at, sustain_at, close_at, open_path_at, close_path_at, cell_at, pause_at, first_at, later_at, stands_at}

pub record Case : Type 0 where
  pub trace : List ℕ
  pub place : ℕ
  pub stands : Stands

abbrev row : ℕ → List ℕ → Stands → Case
row p l x = record { trace = l; place = p; stands = x }

-- records in letters: 67 C, 65 A, 71 G, 76 L, 77 M, 78 N, 79 O, 80 P, 82 R, 83 S, 86 V, 88 X
abbrev gm : List ℕ
gm = 71 ∷ 77 ∷ 0 ∷ 5 ∷ 0 ∷ 64 ∷ []

abbrev gr : List ℕ
gr = 71 ∷ 82 ∷ 0 ∷ 5 ∷ 0 ∷ 64 ∷ []

abbrev gn : List ℕ
gn = 71 ∷ 78 ∷ 0 ∷ 5 ∷ 0 ∷ 64 ∷ []

abbrev vo : ℕ → ℕ → ℕ → ℕ → List ℕ
vo vci m F C = 86 ∷ 79 ∷ 0 ∷ vci ∷ m ∷ 0 ∷ 0 ∷ 0 ∷ F ∷ 0 ∷ 0 ∷ 0 ∷ C ∷ []

abbrev ca : ℕ → List ℕ
ca third = 67 ∷ 65 ∷ 0 ∷ 0 ∷ 2 ∷ third ∷ replicate 49 0

abbrev sl : ℕ → ℕ → List ℕ
sl high low = 83 ∷ 76 ∷ high ∷ low ∷ []

abbrev vx : List ℕ
vx = 86 ∷ 88 ∷ 1 ∷ 2 ∷ []

abbrev po : List ℕ
po = 80 ∷ 79 ∷ 1 ∷ 2 ∷ 3 ∷ 0 ∷ 0 ∷ 1 ∷ 4 ∷ 0 ∷ 0 ∷ 2 ∷ 5 ∷ []

abbrev px : List ℕ
px = 80 ∷ 88 ∷ 1 ∷ 2 ∷ []

-- a VO's octets, then "m (8), F (32), C (32), flag (8)"
abbrev vs : ℕ → ℕ → ℕ → ℕ → List ℕ
vs m F C flag =
    (86 ∷ 83 ∷ 0 ∷ 40 ∷ 2 ∷ 0 ∷ 0 ∷ 0 ∷ 10 ∷ 0 ∷ 0 ∷ 0 ∷ 26 ∷ []) ++ (m ∷ 0 ∷ 0 ∷ 1 ∷ F ∷ 0 ∷ 0 ∷ 2 ∷ C ∷ flag ∷ [])

-- "GM 5 64; VO 40 with m 2, F 10, C 26; VO 41 with m 2, F 4, C 4; cells .. in slots 0 to 4; .. in slot 5; SL 2"
abbrev eight : List ℕ
eight = gm ++ (vo 40 2 10 26 ++ (vo 41 2 4 4 ++ (ca 128 ++ (ca 128 ++ (ca 128 ++ (ca 128 ++ (ca 128 ++ (ca 144 ++ sl 0 2))))))))

abbrev pub table : List Case
table =
    row 0 eight (event (GM 5 64 Gm) 6)
    ∷ row 6 eight (event (VO 40 2 10 26) 19)
    ∷ row 19 eight (event (VO 41 2 4 4) 32)
    ∷ row 32 eight (event (CA 34) 87)
    ∷ row 307 eight (event (CA 309) 362)
    ∷ row 362 eight (event (SL 2) 366)
    ∷ row 366 eight finish
    ∷ row 367 eight (unreadable 367)
    ∷ row 0 [] (unreadable 0)
    ∷ row 1 [] (unreadable 1)
    ∷ row 0 (take 1 gm) (unreadable 0)
    ∷ row 0 (take 5 gm) (unreadable 0)
    ∷ row 0 vx (unreadable 0)
    ∷ row 6 (gm ++ gm) (unreadable 6)
    ∷ row 0 gr (event (GM 5 64 Gr) 6)
    ∷ row 0 (take 5 gr) (unreadable 0)
    ∷ row 6 (gm ++ gr) (unreadable 6)
    ∷ row 6 (gr ++ gr) (unreadable 6)
    ∷ row 6 (gr ++ gm) (unreadable 6)
    ∷ row 0 gn (event (GM 5 64 Gn) 6)
    ∷ row 0 (take 5 gn) (unreadable 0)
    ∷ row 6 (gm ++ gn) (unreadable 6)
    ∷ row 6 (gn ++ gn) (unreadable 6)
    ∷ row 6 (gn ++ gm) (unreadable 6)
    ∷ row 0 (71 ∷ 83 ∷ 0 ∷ 5 ∷ 0 ∷ 64 ∷ []) (unreadable 0)
    ∷ row 6 (gr ++ vx) (event (VX 258) 10)
    ∷ row 6 (gm ++ vx) (event (VX 258) 10)
    ∷ row 6 (gm ++ take 3 vx) (unreadable 6)
    ∷ row 6 (gm ++ sl 255 255) (event (SL 65_535) 10)
    ∷ row 6 (gm ++ sl 0 1) (event (SL 1) 10)
    ∷ row 6 (gm ++ sl 0 0) (unreadable 6)
    ∷ row 6 (gm ++ take 3 (sl 1 0)) (unreadable 6)
    ∷ row 6 (gm ++ take 12 (vo 40 2 10 26)) (unreadable 6)
    ∷ row 6 (gm ++ take 54 (ca 128)) (unreadable 6)
    ∷ row 6 (gm ++ vs 3 4 5 1) (event (VS 40 2 10 26 (second_of 3 260 517 1)) 29)
    ∷ row 6 (gm ++ take 22 (vs 3 4 5 1)) (unreadable 6)
    ∷ row 6 (gm ++ take 13 (vs 3 4 5 1)) (unreadable 6)
    ∷ row 29 (gm ++ (vs 3 4 5 255 ++ vx)) (event (VX 258) 33)
    ∷ row 6 (gm ++ ((86 ∷ 83 ∷ []) ++ replicate 21 0)) (event (VS 0 0 0 0 without_second) 29)
    ∷ row 0 (vs 3 4 5 1) (unreadable 0)
    ∷ row 6 (gn ++ (po ++ px)) (event (PO 258 3 260 517) 19)
    ∷ row 19 (gn ++ (po ++ px)) (event (PX 258) 23)
    ∷ row 6 (gm ++ po) (event (PO 258 3 260 517) 19)
    ∷ row 6 (gm ++ take 12 po) (unreadable 6)
    ∷ row 6 (gm ++ take 3 px) (unreadable 6)
    ∷ row 0 po (unreadable 0)
    ∷ row 0 px (unreadable 0)
    ∷ row 6 (gm ++ (80 ∷ 83 ∷ [])) (unreadable 6)
    ∷ row 6 (gm ++ (86 ∷ 89 ∷ 1 ∷ 2 ∷ [])) (unreadable 6)
    ∷ []

pub worked : map (λ c. stands_at c.trace c.place) table ≡ map (λ c. c.stands) table
unfolding stands_at first_at later_at setup_at open_at sustain_at close_at open_path_at close_path_at cell_at pause_at whole be16 be32
worked = refl
