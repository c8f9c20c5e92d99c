-- Document 01, "Trace and listing": the marks of a trace's records, and how long each record is. Document 02 (i) adds GR, (iv)
-- VS, (vi) GN, PO and PX.
use Rattle.std.specs.Prelude.{ℕ, ◌+◌, Bool, true, false}
use Rattle.meaning.specs.Numbers.{octets}
use Rattle.trace_record.specs.declared.mark.Mark.{Mark}
use Rattle.trace_record.specs.declared.mark.Mark.TheVariants.{Gm, Gr, Gn, Vo, Vs, Vx, Po, Px, Ca, Sl}

-- "Every record begins with a two-octet mark in letters": the two letters' octets, as a number of 16 bits
abbrev pub mark_octets : ℕ
mark_octets = 2

abbrev pub mark_gm : ℕ
mark_gm = 0x474d

abbrev pub mark_gr : ℕ
mark_gr = 0x4752

abbrev pub mark_gn : ℕ
mark_gn = 0x474e

abbrev pub mark_vo : ℕ
mark_vo = 0x564f

abbrev pub mark_vs : ℕ
mark_vs = 0x5653

abbrev pub mark_vx : ℕ
mark_vx = 0x5658

abbrev pub mark_po : ℕ
mark_po = 0x504f

abbrev pub mark_px : ℕ
mark_px = 0x5058

abbrev pub mark_ca : ℕ
mark_ca = 0x4341

abbrev pub mark_sl : ℕ
mark_sl = 0x534c

-- the letters of each mark that the reader knows
abbrev pub letters_of : Mark → ℕ
letters_of Gm = mark_gm
letters_of Gr = mark_gr
letters_of Gn = mark_gn
letters_of Vo = mark_vo
letters_of Vs = mark_vs
letters_of Vx = mark_vx
letters_of Po = mark_po
letters_of Px = mark_px
letters_of Ca = mark_ca
letters_of Sl = mark_sl

-- "GM .. first and only first", and in its place GR or GN
abbrev pub is_head : Mark → Bool
is_head Gm = true
is_head Gr = true
is_head Gn = true
is_head Vo = false
is_head Vs = false
is_head Vx = false
is_head Po = false
is_head Px = false
is_head Ca = false
is_head Sl = false

-- the octets of a record, mark included: GM, GR and GN 16 and 16 bits; VO and PO 16, 8, 32 and 32; VS those of
-- VO and 8, 32, 32 and 8; VX and PX 16; CA 53 octets; SL 16
abbrev pub long_gm : ℕ
long_gm = mark_octets + 4

abbrev pub long_vo : ℕ
long_vo = mark_octets + 11

abbrev pub long_vs : ℕ
long_vs = long_vo + 10

abbrev pub long_vx : ℕ
long_vx = mark_octets + 2

abbrev pub long_po : ℕ
long_po = long_vo

abbrev pub long_px : ℕ
long_px = long_vx

abbrev pub long_ca : ℕ
long_ca = mark_octets + octets

abbrev pub long_sl : ℕ
long_sl = mark_octets + 2

-- the octets of a record of each mark
abbrev pub record_long : Mark → ℕ
record_long Gm = long_gm
record_long Gr = long_gm
record_long Gn = long_gm
record_long Vo = long_vo
record_long Vs = long_vs
record_long Vx = long_vx
record_long Po = long_po
record_long Px = long_px
record_long Ca = long_ca
record_long Sl = long_sl
