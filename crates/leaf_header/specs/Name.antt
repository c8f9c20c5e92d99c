-- VPI and VCI of a header as one number, and the number of the connection that it names.
--
--   name_of h           == VPI × 65,536 + VCI: 0 where it is no user cell
--   name_at kind l i    == that of the header at place i of l; 2^32-1, which no header has, where the kind is none
--   word_at l i         == the four octets from place i of l as one number: a header but for its HEC
--   name_in kind head   == VPI and VCI as one number from that: without PTI and CLP, without GFC at the UNI
--   mask_for kind       == the bits of those, once PTI and CLP are gone: 24 at the UNI, 28 at the NNI
--   Reads kind h name  == it tells the VCI, and is a header's, where the kind is one
--   number_for z name   == the connection that such a number names, by its own number, V being z; 0 for none
--   numbered kind z h  == the same from the header itself
use Rattle.std.specs.Prelude.{ℕ, ◌+◌, ◌*◌, ◌/◌, ◌%◌, ◌<◌, ◌≡◌, true, ◌&&◌, List, get_or}
use Rattle.meaning.specs.Plain.{when◌then◌else◌, ◌<?◌, ◌=?◌}
use Rattle.meaning.specs.Numbers.{paths, kind_in_range}
use Rattle.meaning.specs.Header.{Header, header_at, connection, names_connection}

unfoldable pub name_of : Header → ℕ
name_of h = h.vpi * 65536 + h.vci

abbrev pub no_name : ℕ
no_name = 4_294_967_295

unfoldable pub name_at : ℕ → List ℕ → ℕ → ℕ
name_at kind l i = when kind_in_range kind then name_of (header_at kind l i) else no_name

unfoldable pub word_at : List ℕ → ℕ → ℕ
word_at l i = get_or l i 0 * 16777216 + get_or l (i + 1) 0 * 65536 + get_or l (i + 2) 0 * 256 + get_or l (i + 3) 0

unfoldable pub name_in : ℕ → ℕ → ℕ
name_in kind head = when kind =? 0 then head / 16 % 16777216 else head / 16

unfoldable pub mask_for : ℕ → ℕ
mask_for kind = when kind =? 0 then 16777215 else 268435455

abbrev pub Reads : ℕ → Header → ℕ → Type 0
Reads kind h name = kind_in_range kind ≡ true → (name % 65536 ≡ h.vci) × (name < no_name)

unfoldable pub number_for : ℕ → ℕ → ℕ
number_for z name =
    when name <? z then name
    else when name / 65536 =? 0 then 0
    else when name / 65536 <? paths then z + name / 65536
    else 0

unfoldable pub numbered : ℕ → ℕ → Header → ℕ
numbered kind z h = when kind_in_range kind && names_connection z h then connection z h else 0
