-- Document 01, "Header": "UNI form, ITU-T I.361"; document 02 (vi): "Reading a header gives VPI, VCI, PTI and CLP for a line kind
-- chosen at setup", and "A connection is a VC, as now, or a whole path". "GFC, PTI, CLP and HEC don't matter here": HEC does by
-- document 02 (i), CLP by (iv), and at the NNI there is no GFC.
--
--   header_of kind ..     == what the first four octets of a cell say, on a line of this kind
--   Name                 == how a call or a header names a connection: by VCI or by VPI
--   named z name         == is there such a connection, V being z; else refusal 4
--   number_in z name      == its number
--   connection z h, names_connection z h  == the same of the connection that a header names
use Rattle.std.specs.Prelude.{ℕ, ◌+◌, ◌*◌, ◌/◌, ◌%◌, Bool, ◌&&◌, List, get_or, set}
use Rattle.base_hec.specs.Check.{hec_of}
use Rattle.meaning.specs.Plain.{when◌then◌else◌, ◌<?◌, ◌≤?◌, ◌=?◌}
use Rattle.meaning.specs.Numbers.{uni, paths, open_place}

pub record Header : Type 0 where
  pub vpi : ℕ
  pub vci : ℕ
  pub pti : ℕ
  pub clp : ℕ

-- "octet 1 GFC (high four bits) and VPI": at the UNI; at the NNI "no GFC, a VPI of twelve bits"
unfoldable pub vpi_high : ℕ → ℕ → ℕ
vpi_high kind o1 = when kind =? uni then o1 % 16 else o1

-- CLP, the last bit of octet 4 on both kinds of line
abbrev pub clp_of : ℕ → ℕ
clp_of o4 = o4 % 2

-- "octet 1 GFC (high four bits) and VPI; octet 2 VPI, VCI; octet 3 VCI; octet 4 VCI (high four bits), PTI, CLP;
-- octet 5 HEC": 4 bits GFC and 8 VPI, or 12 VPI; 16 VCI, 3 PTI, 1 CLP, 8 HEC
unfoldable pub header_of : ℕ → ℕ → ℕ → ℕ → ℕ → Header
header_of kind o1 o2 o3 o4 =
    record {
      vpi = vpi_high kind o1 * 16 + o2 / 16;
      vci = o2 % 16 * 4096 + o3 * 16 + o4 / 16;
      pti = o4 % 16 / 2;
      clp = clp_of o4;
    }

-- the header whose octet 1 stands at place i
unfoldable pub header_at : ℕ → List ℕ → ℕ → Header
header_at kind l i = header_of kind (get_or l i 0) (get_or l (i + 1) 0) (get_or l (i + 2) 0) (get_or l (i + 3) 0)

-- the CLP of a cell
unfoldable pub clp_in : List ℕ → ℕ
clp_in cell = clp_of (get_or cell 3 0)

-- Document 02 (iv): "CLP becomes 1, octet 5 is recomputed", by ITU-T I.432 over the four octets before it; every other octet
-- is as it was
unfoldable pub with_clp : List ℕ → List ℕ
with_clp cell = set cell 3 (get_or cell 3 0 / 2 * 2 + 1)

unfoldable pub tagged_cell : List ℕ → List ℕ
tagged_cell cell = set (with_clp cell) 4 (hec_of (with_clp cell))

-- "VPI 0 with VCI 0 is no user cell: the slot counts as empty."
unfoldable pub no_user_cell : Header → Bool
no_user_cell h = h.vpi =? 0 && h.vci =? 0

-- "A connection is a VC, as now, or a whole path": named by its VCI, or by its VPI
pub data Name : Type 0 where
  by_vci by_vpi : ℕ → Name

-- "its VCI is 1 to V-1"; "4 also for a path number outside 1 to 255"
unfoldable pub named : ℕ → Name → Bool
named z (by_vci vci) = 1 ≤? vci && vci <? z
named z (by_vpi vpi) = 1 ≤? vpi && vpi <? paths

-- its number, by which its words are found: "V + VPI for its VCI in answers and listing"
unfoldable pub number_in : ℕ → Name → ℕ
number_in z (by_vci vci) = vci
number_in z (by_vpi vpi) = z + vpi

-- "VPI is 0", and the VCI counts; "on VPI 1 to 255 all cells with that VPI share one bucket, whatever their VCI"
unfoldable pub name_in : Header → Name
name_in h = when h.vpi =? 0 then by_vci h.vci else by_vpi h.vpi

unfoldable pub connection : ℕ → Header → ℕ
connection z h = number_in z (name_in h)

-- "Any other VPI above 0 is unknown."
unfoldable pub names_connection : ℕ → Header → Bool
names_connection z h = named z (name_in h)

-- "A header names an open VC when its VPI is 0 and its VCI is 1 to V-1 and open.", and so of a path
unfoldable pub names_open : ℕ → List ℕ → Header → Bool
names_open z words h = names_connection z h && get_or words (open_place (connection z h)) 0 =? 1
