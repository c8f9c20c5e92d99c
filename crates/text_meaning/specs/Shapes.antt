-- Document 02 (viii): "each line is a record's mark and fields in order". The table of marks: a record's fields by their
-- widths. A new mark is a new row here.
--
--   Field          == one field: a number of 8, 16 or 32 bits, or the 53 octets of a cell
--   wide f         == how many octets of a record a field fills
--   of_field f n    == those octets of a number, high octet first
--   heads, laters  == the rows of the marks that stand first and only first, and of those that never do
--   shape_of b m    == the shape of mark m, where b says whether it stands first; refused where there is none
use Rattle.std.specs.Prelude.{ℕ, ◌/◌, ◌%◌, Bool, true, false, List, [], ◌∷◌, ◌++◌, map}
use Rattle.meaning.specs.Plain.{Out, refused, next, when◌then◌else◌, ◌=?◌}
use Rattle.meaning.specs.Numbers.{octets}
use Rattle.trace_record.specs.Trace.{mark_gm, mark_gr, mark_gn, mark_vo, mark_vx, mark_ca, mark_sl, mark_vs, mark_po, mark_px}

pub data Field : Type 0 where
  n8 : Field
  n16 : Field
  n32 : Field
  cell : Field

abbrev pub wide : Field → ℕ
wide n8 = 1
wide n16 = 2
wide n32 = 4
wide cell = octets

-- "a number that doesn't fit its field": the largest that does
abbrev pub top : Field → ℕ
top n8 = 255
top n16 = 65_535
top n32 = 4_294_967_295
top cell = 0

-- "numbers are high octet first"
abbrev pub of16 : ℕ → List ℕ
of16 n = n / 256 ∷ n % 256 ∷ []

abbrev pub of32 : ℕ → List ℕ
of32 n = of16 (n / 65_536) ++ of16 (n % 65_536)

abbrev pub of_field : Field → ℕ → List ℕ
of_field n8 n = n ∷ []
of_field n16 n = of16 n
of_field n32 n = of32 n
of_field cell n = []

-- a record's fields in order; or a count of empty slots, which may be longer than one record holds
pub data Shape : Type 0 where
  fields : List Field → Shape
  slots : Shape

pub record Row : Type 0 where
  pub mark : ℕ
  pub shape : Shape

abbrev row : ℕ → Shape → Row
row m x = record { mark = m; shape = x }

-- "GM: N, V"; document 02 (i): "a trace beginning GR instead of GM is raw"; (vi): "GN in place of GM begins an NNI trace"
abbrev pub heads : List Row
heads = map (λ m. row m (fields (n16 ∷ n16 ∷ []))) (mark_gm ∷ mark_gr ∷ mark_gn ∷ [])

-- "VO: VCI, m, F, C. VX: VCI. CA: 53 octets, one slot. SL: a count of empty slots"; document 02 (iv): "VS: as VO, then
-- m (8), F (32), C (32), flag (8)"; (vi): "PO and PX are VO and VX with the VPI"
abbrev pub opening : Shape
opening = fields (n16 ∷ n8 ∷ n32 ∷ n32 ∷ [])

abbrev pub closing : Shape
closing = fields (n16 ∷ [])

abbrev pub laters : List Row
laters =
    row mark_ca (fields (cell ∷ []))
    ∷ row mark_sl slots
    ∷ row mark_vo opening
    ∷ row mark_vx closing
    ∷ row mark_vs (fields (n16 ∷ n8 ∷ n32 ∷ n32 ∷ n8 ∷ n32 ∷ n32 ∷ n8 ∷ []))
    ∷ row mark_po opening
    ∷ row mark_px closing
    ∷ []

unfoldable pub find : ℕ → List Row → Out Shape
find m [] = refused
find m (r ∷ rows) = when m =? r.mark then next r.shape else find m rows

abbrev pub rows_of : Bool → List Row
rows_of true = heads
rows_of false = laters

abbrev pub shape_of : Bool → ℕ → Out Shape
shape_of first m = find m (rows_of first)
