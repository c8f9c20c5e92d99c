-- Texts whose writing is known, as one table: what `write_text` answers and leaves is computed. The 9s stand in the output
-- before.
use Prim.Native.Nat.{ℕ}
use mathlib.Core.Path.{◌≡◌, refl}
use mathlib.Core.List.{List, [], ◌∷◌, map}
use lib.ListN.{replicate}
use Rattle.std.specs.Prelude.{Ok, Err}
use Rattle.text_meaning.specs.declared.WriteError.TheVariants.{Unreadable, TooShort}
use Rattle.text_meaning.specs.Shapes.{find}
use Rattle.text_meaning.specs.Events.{fulls, rest_of, octets_of, octets_all, join, merge}
use Rattle.text_meaning.specs.Grammar.{expect, digit_of, digits, within, number, nibble_of, hexes, field_at, fields_at, slots_at, shaped_line, line}
use Rattle.text_meaning.specs.Writing.{behind, line_at, onto, events_at, events_from, events, Wrote, wrote, laid, write_said, write_text}

pub record Case : Type 0 where
  pub text : List ℕ
  pub output : List ℕ
  pub result : Wrote

abbrev row : List ℕ → List ℕ → Wrote → Case
row t o r = record { text = t; output = o; result = r }

abbrev pub table : List Case
table =
    -- GM alone
    row (71 ∷ 77 ∷ 32 ∷ 53 ∷ 32 ∷ 54 ∷ 52 ∷ 10 ∷ [])
    (replicate 7 9)
    (wrote (Ok 6) (71 ∷ 77 ∷ 0 ∷ 5 ∷ 0 ∷ 64 ∷ 9 ∷ []))
    -- GR
    ∷ row (71 ∷ 82 ∷ 32 ∷ 53 ∷ 32 ∷ 54 ∷ 52 ∷ 10 ∷ [])
    (replicate 7 9)
    (wrote (Ok 6) (71 ∷ 82 ∷ 0 ∷ 5 ∷ 0 ∷ 64 ∷ 9 ∷ []))
    -- VO of largest numbers
    ∷ row (71 ∷ 77 ∷ 32 ∷ 53 ∷ 32 ∷ 54 ∷ 52 ∷ 10 ∷ 86 ∷ 79 ∷ 32 ∷ 54 ∷ 53 ∷ 53 ∷ 51 ∷ 53 ∷ 32 ∷ 50 ∷ 53 ∷ 53 ∷ 32 ∷ 52 ∷ 50 ∷ 57 ∷ 52 ∷ 57 ∷ 54 ∷ 55 ∷ 50 ∷ 57 ∷ 53 ∷ 32 ∷ 52 ∷ 50 ∷ 57 ∷ 52 ∷ 57 ∷ 54 ∷ 55 ∷ 50 ∷ 57 ∷ 53 ∷ 10 ∷ [])
    (replicate 20 9)
    (wrote (Ok 19) (71 ∷ 77 ∷ 0 ∷ 5 ∷ 0 ∷ 64 ∷ 86 ∷ 79 ∷ 255 ∷ 255 ∷ 255 ∷ 255 ∷ 255 ∷ 255 ∷ 255 ∷ 255 ∷ 255 ∷ 255 ∷ 255 ∷ 9 ∷ []))
    -- VX
    ∷ row (71 ∷ 77 ∷ 32 ∷ 53 ∷ 32 ∷ 54 ∷ 52 ∷ 10 ∷ 86 ∷ 88 ∷ 32 ∷ 52 ∷ 48 ∷ 10 ∷ [])
    (replicate 11 9)
    (wrote (Ok 10) (71 ∷ 77 ∷ 0 ∷ 5 ∷ 0 ∷ 64 ∷ 86 ∷ 88 ∷ 0 ∷ 40 ∷ 9 ∷ []))
    -- CA, both
    ∷ row (71 ∷ 77 ∷ 32 ∷ 53 ∷ 32 ∷ 54 ∷ 52 ∷ 10 ∷ 67 ∷ 65 ∷ 32 ∷ 65 ∷ 48 ∷ 97 ∷ 49 ∷ 97 ∷ 50 ∷ 65 ∷ 51 ∷ 97 ∷ 52 ∷ 97 ∷ 53 ∷ 65 ∷ 54 ∷ 97 ∷ 55 ∷ 97 ∷ 56 ∷ 65 ∷ 57 ∷ 97 ∷ 65 ∷ 97 ∷ 98 ∷ 65 ∷ 99 ∷ 97 ∷ 68 ∷ 97 ∷ 101 ∷ 65 ∷ 102 ∷ 98 ∷ 48 ∷ 98 ∷ 49 ∷ 66 ∷ 50 ∷ 98 ∷ 51 ∷ 98 ∷ 52 ∷ 66 ∷ 53 ∷ 98 ∷ 54 ∷ 98 ∷ 55 ∷ 66 ∷ 56 ∷ 98 ∷ 57 ∷ 98 ∷ 97 ∷ 66 ∷ 98 ∷ 98 ∷ 67 ∷ 98 ∷ 100 ∷ 66 ∷ 101 ∷ 98 ∷ 70 ∷ 99 ∷ 48 ∷ 67 ∷ 49 ∷ 99 ∷ 50 ∷ 99 ∷ 51 ∷ 67 ∷ 52 ∷ 99 ∷ 53 ∷ 99 ∷ 54 ∷ 67 ∷ 55 ∷ 99 ∷ 56 ∷ 99 ∷ 57 ∷ 67 ∷ 97 ∷ 99 ∷ 66 ∷ 99 ∷ 99 ∷ 67 ∷ 100 ∷ 99 ∷ 69 ∷ 99 ∷ 102 ∷ 68 ∷ 48 ∷ 100 ∷ 49 ∷ 100 ∷ 50 ∷ 68 ∷ 51 ∷ 100 ∷ 52 ∷ 10 ∷ [])
    (replicate 62 9)
    (wrote (Ok 61) (71 ∷ 77 ∷ 0 ∷ 5 ∷ 0 ∷ 64 ∷ 67 ∷ 65 ∷ 160 ∷ 161 ∷ 162 ∷ 163 ∷ 164 ∷ 165 ∷ 166 ∷ 167 ∷ 168 ∷ 169 ∷ 170 ∷ 171 ∷ 172 ∷ 173 ∷ 174 ∷ 175 ∷ 176 ∷ 177 ∷ 178 ∷ 179 ∷ 180 ∷ 181 ∷ 182 ∷ 183 ∷ 184 ∷ 185 ∷ 186 ∷ 187 ∷ 188 ∷ 189 ∷ 190 ∷ 191 ∷ 192 ∷ 193 ∷ 194 ∷ 195 ∷ 196 ∷ 197 ∷ 198 ∷ 199 ∷ 200 ∷ 201 ∷ 202 ∷ 203 ∷ 204 ∷ 205 ∷ 206 ∷ 207 ∷ 208 ∷ 209 ∷ 210 ∷ 211 ∷ 212 ∷ 9 ∷ []))
    -- SL 65536
    ∷ row (71 ∷ 77 ∷ 32 ∷ 53 ∷ 32 ∷ 54 ∷ 52 ∷ 10 ∷ 83 ∷ 76 ∷ 32 ∷ 54 ∷ 53 ∷ 53 ∷ 51 ∷ 54 ∷ 10 ∷ [])
    (replicate 15 9)
    (wrote (Ok 14) (71 ∷ 77 ∷ 0 ∷ 5 ∷ 0 ∷ 64 ∷ 83 ∷ 76 ∷ 255 ∷ 255 ∷ 83 ∷ 76 ∷ 0 ∷ 1 ∷ 9 ∷ []))
    -- two pauses past 65,535
    ∷ row (71 ∷ 77 ∷ 32 ∷ 53 ∷ 32 ∷ 54 ∷ 52 ∷ 10 ∷ 83 ∷ 76 ∷ 32 ∷ 52 ∷ 48 ∷ 48 ∷ 48 ∷ 48 ∷ 10 ∷ 83 ∷ 76 ∷ 32 ∷ 52 ∷ 48 ∷ 48 ∷ 48 ∷ 48 ∷ 10 ∷ [])
    (replicate 15 9)
    (wrote (Ok 14) (71 ∷ 77 ∷ 0 ∷ 5 ∷ 0 ∷ 64 ∷ 83 ∷ 76 ∷ 255 ∷ 255 ∷ 83 ∷ 76 ∷ 56 ∷ 129 ∷ 9 ∷ []))
    -- three pauses that end full
    ∷ row (71 ∷ 77 ∷ 32 ∷ 53 ∷ 32 ∷ 54 ∷ 52 ∷ 10 ∷ 83 ∷ 76 ∷ 32 ∷ 54 ∷ 53 ∷ 53 ∷ 51 ∷ 52 ∷ 10 ∷ 83 ∷ 76 ∷ 32 ∷ 49 ∷ 10 ∷ 83 ∷ 76 ∷ 32 ∷ 54 ∷ 53 ∷ 53 ∷ 51 ∷ 53 ∷ 10 ∷ [])
    (replicate 15 9)
    (wrote (Ok 14) (71 ∷ 77 ∷ 0 ∷ 5 ∷ 0 ∷ 64 ∷ 83 ∷ 76 ∷ 255 ∷ 255 ∷ 83 ∷ 76 ∷ 255 ∷ 255 ∷ 9 ∷ []))
    -- rest does not pass a record
    ∷ row (71 ∷ 77 ∷ 32 ∷ 53 ∷ 32 ∷ 54 ∷ 52 ∷ 10 ∷ 83 ∷ 76 ∷ 32 ∷ 54 ∷ 53 ∷ 53 ∷ 51 ∷ 54 ∷ 10 ∷ 86 ∷ 88 ∷ 32 ∷ 49 ∷ 10 ∷ 83 ∷ 76 ∷ 32 ∷ 54 ∷ 53 ∷ 53 ∷ 51 ∷ 52 ∷ 10 ∷ [])
    (replicate 23 9)
    (wrote (Ok 22) (71 ∷ 77 ∷ 0 ∷ 5 ∷ 0 ∷ 64 ∷ 83 ∷ 76 ∷ 255 ∷ 255 ∷ 83 ∷ 76 ∷ 0 ∷ 1 ∷ 86 ∷ 88 ∷ 0 ∷ 1 ∷ 83 ∷ 76 ∷ 255 ∷ 254 ∷ 9 ∷ []))
    -- output of 26 for 27
    ∷ row (71 ∷ 77 ∷ 32 ∷ 53 ∷ 32 ∷ 54 ∷ 52 ∷ 10 ∷ 86 ∷ 79 ∷ 32 ∷ 52 ∷ 48 ∷ 32 ∷ 50 ∷ 32 ∷ 49 ∷ 48 ∷ 32 ∷ 50 ∷ 54 ∷ 10 ∷ 83 ∷ 76 ∷ 32 ∷ 54 ∷ 53 ∷ 53 ∷ 51 ∷ 54 ∷ 10 ∷ [])
    (replicate 26 9)
    (wrote (Err (TooShort 0)) (9 ∷ 9 ∷ 9 ∷ 9 ∷ 9 ∷ 9 ∷ 9 ∷ 9 ∷ 9 ∷ 9 ∷ 9 ∷ 9 ∷ 9 ∷ 9 ∷ 9 ∷ 9 ∷ 9 ∷ 9 ∷ 9 ∷ 9 ∷ 9 ∷ 9 ∷ 9 ∷ 9 ∷ 9 ∷ 9 ∷ []))
    -- output of 28 for 27
    ∷ row (71 ∷ 77 ∷ 32 ∷ 53 ∷ 32 ∷ 54 ∷ 52 ∷ 10 ∷ 86 ∷ 79 ∷ 32 ∷ 52 ∷ 48 ∷ 32 ∷ 50 ∷ 32 ∷ 49 ∷ 48 ∷ 32 ∷ 50 ∷ 54 ∷ 10 ∷ 83 ∷ 76 ∷ 32 ∷ 54 ∷ 53 ∷ 53 ∷ 51 ∷ 54 ∷ 10 ∷ [])
    (replicate 28 9)
    (wrote (Ok 27) (71 ∷ 77 ∷ 0 ∷ 5 ∷ 0 ∷ 64 ∷ 86 ∷ 79 ∷ 0 ∷ 40 ∷ 2 ∷ 0 ∷ 0 ∷ 0 ∷ 10 ∷ 0 ∷ 0 ∷ 0 ∷ 26 ∷ 83 ∷ 76 ∷ 255 ∷ 255 ∷ 83 ∷ 76 ∷ 0 ∷ 1 ∷ 9 ∷ []))
    -- 10 before 14
    ∷ row (71 ∷ 77 ∷ 32 ∷ 53 ∷ 32 ∷ 54 ∷ 52 ∷ 10 ∷ 83 ∷ 76 ∷ 32 ∷ 52 ∷ 50 ∷ 57 ∷ 52 ∷ 57 ∷ 54 ∷ 55 ∷ 50 ∷ 57 ∷ 53 ∷ 10 ∷ 83 ∷ 76 ∷ 32 ∷ 48 ∷ 10 ∷ [])
    (replicate 0 9)
    (wrote (Err (Unreadable 22)) ([]))
    -- empty text
    ∷ row ([])
    (replicate 3 9)
    (wrote (Err (Unreadable 0)) (9 ∷ 9 ∷ 9 ∷ []))
    -- last line without line feed
    ∷ row (71 ∷ 77 ∷ 32 ∷ 53 ∷ 32 ∷ 54 ∷ 52 ∷ 10 ∷ 83 ∷ 76 ∷ 32 ∷ 51 ∷ [])
    (replicate 3 9)
    (wrote (Err (Unreadable 8)) (9 ∷ 9 ∷ 9 ∷ []))
    -- leading zero
    ∷ row (71 ∷ 77 ∷ 32 ∷ 53 ∷ 32 ∷ 54 ∷ 52 ∷ 10 ∷ 83 ∷ 76 ∷ 32 ∷ 48 ∷ 51 ∷ 10 ∷ [])
    (replicate 3 9)
    (wrote (Err (Unreadable 8)) (9 ∷ 9 ∷ 9 ∷ []))
    -- 8 bits: 256
    ∷ row (71 ∷ 77 ∷ 32 ∷ 53 ∷ 32 ∷ 54 ∷ 52 ∷ 10 ∷ 86 ∷ 79 ∷ 32 ∷ 49 ∷ 32 ∷ 50 ∷ 53 ∷ 54 ∷ 32 ∷ 51 ∷ 32 ∷ 52 ∷ 10 ∷ [])
    (replicate 3 9)
    (wrote (Err (Unreadable 8)) (9 ∷ 9 ∷ 9 ∷ []))
    -- 2^64 + 3
    ∷ row (71 ∷ 77 ∷ 32 ∷ 53 ∷ 32 ∷ 54 ∷ 52 ∷ 10 ∷ 83 ∷ 76 ∷ 32 ∷ 49 ∷ 56 ∷ 52 ∷ 52 ∷ 54 ∷ 55 ∷ 52 ∷ 52 ∷ 48 ∷ 55 ∷ 51 ∷ 55 ∷ 48 ∷ 57 ∷ 53 ∷ 53 ∷ 49 ∷ 54 ∷ 49 ∷ 57 ∷ 10 ∷ [])
    (replicate 3 9)
    (wrote (Err (Unreadable 8)) (9 ∷ 9 ∷ 9 ∷ []))
    -- pause 0 beside a pause
    ∷ row (71 ∷ 77 ∷ 32 ∷ 53 ∷ 32 ∷ 54 ∷ 52 ∷ 10 ∷ 83 ∷ 76 ∷ 32 ∷ 53 ∷ 10 ∷ 83 ∷ 76 ∷ 32 ∷ 48 ∷ 10 ∷ 83 ∷ 76 ∷ 32 ∷ 53 ∷ 10 ∷ [])
    (replicate 3 9)
    (wrote (Err (Unreadable 13)) (9 ∷ 9 ∷ 9 ∷ []))
    -- GM twice
    ∷ row (71 ∷ 77 ∷ 32 ∷ 53 ∷ 32 ∷ 54 ∷ 52 ∷ 10 ∷ 71 ∷ 77 ∷ 32 ∷ 53 ∷ 32 ∷ 54 ∷ 52 ∷ 10 ∷ [])
    (replicate 3 9)
    (wrote (Err (Unreadable 8)) (9 ∷ 9 ∷ 9 ∷ []))
    -- cell of 105 digits
    ∷ row (71 ∷ 77 ∷ 32 ∷ 53 ∷ 32 ∷ 54 ∷ 52 ∷ 10 ∷ 67 ∷ 65 ∷ 32 ∷ 97 ∷ 48 ∷ 97 ∷ 49 ∷ 97 ∷ 50 ∷ 97 ∷ 51 ∷ 97 ∷ 52 ∷ 97 ∷ 53 ∷ 97 ∷ 54 ∷ 97 ∷ 55 ∷ 97 ∷ 56 ∷ 97 ∷ 57 ∷ 97 ∷ 97 ∷ 97 ∷ 98 ∷ 97 ∷ 99 ∷ 97 ∷ 100 ∷ 97 ∷ 101 ∷ 97 ∷ 102 ∷ 98 ∷ 48 ∷ 98 ∷ 49 ∷ 98 ∷ 50 ∷ 98 ∷ 51 ∷ 98 ∷ 52 ∷ 98 ∷ 53 ∷ 98 ∷ 54 ∷ 98 ∷ 55 ∷ 98 ∷ 56 ∷ 98 ∷ 57 ∷ 98 ∷ 97 ∷ 98 ∷ 98 ∷ 98 ∷ 99 ∷ 98 ∷ 100 ∷ 98 ∷ 101 ∷ 98 ∷ 102 ∷ 99 ∷ 48 ∷ 99 ∷ 49 ∷ 99 ∷ 50 ∷ 99 ∷ 51 ∷ 99 ∷ 52 ∷ 99 ∷ 53 ∷ 99 ∷ 54 ∷ 99 ∷ 55 ∷ 99 ∷ 56 ∷ 99 ∷ 57 ∷ 99 ∷ 97 ∷ 99 ∷ 98 ∷ 99 ∷ 99 ∷ 99 ∷ 100 ∷ 99 ∷ 101 ∷ 99 ∷ 102 ∷ 100 ∷ 48 ∷ 100 ∷ 49 ∷ 100 ∷ 50 ∷ 100 ∷ 51 ∷ 100 ∷ 10 ∷ [])
    (replicate 3 9)
    (wrote (Err (Unreadable 8)) (9 ∷ 9 ∷ 9 ∷ []))
    -- cell of 107 digits
    ∷ row (71 ∷ 77 ∷ 32 ∷ 53 ∷ 32 ∷ 54 ∷ 52 ∷ 10 ∷ 67 ∷ 65 ∷ 32 ∷ 97 ∷ 48 ∷ 97 ∷ 49 ∷ 97 ∷ 50 ∷ 97 ∷ 51 ∷ 97 ∷ 52 ∷ 97 ∷ 53 ∷ 97 ∷ 54 ∷ 97 ∷ 55 ∷ 97 ∷ 56 ∷ 97 ∷ 57 ∷ 97 ∷ 97 ∷ 97 ∷ 98 ∷ 97 ∷ 99 ∷ 97 ∷ 100 ∷ 97 ∷ 101 ∷ 97 ∷ 102 ∷ 98 ∷ 48 ∷ 98 ∷ 49 ∷ 98 ∷ 50 ∷ 98 ∷ 51 ∷ 98 ∷ 52 ∷ 98 ∷ 53 ∷ 98 ∷ 54 ∷ 98 ∷ 55 ∷ 98 ∷ 56 ∷ 98 ∷ 57 ∷ 98 ∷ 97 ∷ 98 ∷ 98 ∷ 98 ∷ 99 ∷ 98 ∷ 100 ∷ 98 ∷ 101 ∷ 98 ∷ 102 ∷ 99 ∷ 48 ∷ 99 ∷ 49 ∷ 99 ∷ 50 ∷ 99 ∷ 51 ∷ 99 ∷ 52 ∷ 99 ∷ 53 ∷ 99 ∷ 54 ∷ 99 ∷ 55 ∷ 99 ∷ 56 ∷ 99 ∷ 57 ∷ 99 ∷ 97 ∷ 99 ∷ 98 ∷ 99 ∷ 99 ∷ 99 ∷ 100 ∷ 99 ∷ 101 ∷ 99 ∷ 102 ∷ 100 ∷ 48 ∷ 100 ∷ 49 ∷ 100 ∷ 50 ∷ 100 ∷ 51 ∷ 100 ∷ 52 ∷ 48 ∷ 10 ∷ [])
    (replicate 3 9)
    (wrote (Err (Unreadable 8)) (9 ∷ 9 ∷ 9 ∷ []))
    -- VS, second bucket and flag
    ∷ row (71 ∷ 77 ∷ 32 ∷ 53 ∷ 32 ∷ 54 ∷ 52 ∷ 10 ∷ 86 ∷ 83 ∷ 32 ∷ 52 ∷ 48 ∷ 32 ∷ 50 ∷ 32 ∷ 49 ∷ 48 ∷ 32 ∷ 50 ∷ 54 ∷ 32 ∷ 51 ∷ 32 ∷ 50 ∷ 54 ∷ 48 ∷ 32 ∷ 53 ∷ 49 ∷ 55 ∷ 32 ∷ 49 ∷ 10 ∷ [])
    (replicate 30 9)
    (wrote (Ok 29) (71 ∷ 77 ∷ 0 ∷ 5 ∷ 0 ∷ 64 ∷ 86 ∷ 83 ∷ 0 ∷ 40 ∷ 2 ∷ 0 ∷ 0 ∷ 0 ∷ 10 ∷ 0 ∷ 0 ∷ 0 ∷ 26 ∷ 3 ∷ 0 ∷ 0 ∷ 1 ∷ 4 ∷ 0 ∷ 0 ∷ 2 ∷ 5 ∷ 1 ∷ 9 ∷ []))
    -- VS with zeros stays a VS
    ∷ row (71 ∷ 77 ∷ 32 ∷ 53 ∷ 32 ∷ 54 ∷ 52 ∷ 10 ∷ 86 ∷ 83 ∷ 32 ∷ 52 ∷ 48 ∷ 32 ∷ 50 ∷ 32 ∷ 49 ∷ 48 ∷ 32 ∷ 50 ∷ 54 ∷ 32 ∷ 48 ∷ 32 ∷ 48 ∷ 32 ∷ 48 ∷ 32 ∷ 48 ∷ 10 ∷ [])
    (replicate 30 9)
    (wrote (Ok 29) (71 ∷ 77 ∷ 0 ∷ 5 ∷ 0 ∷ 64 ∷ 86 ∷ 83 ∷ 0 ∷ 40 ∷ 2 ∷ 0 ∷ 0 ∷ 0 ∷ 10 ∷ 0 ∷ 0 ∷ 0 ∷ 26 ∷ 0 ∷ 0 ∷ 0 ∷ 0 ∷ 0 ∷ 0 ∷ 0 ∷ 0 ∷ 0 ∷ 0 ∷ 9 ∷ []))
    -- VS without its flag
    ∷ row (71 ∷ 77 ∷ 32 ∷ 53 ∷ 32 ∷ 54 ∷ 52 ∷ 10 ∷ 86 ∷ 83 ∷ 32 ∷ 52 ∷ 48 ∷ 32 ∷ 50 ∷ 32 ∷ 49 ∷ 48 ∷ 32 ∷ 50 ∷ 54 ∷ 32 ∷ 51 ∷ 32 ∷ 50 ∷ 54 ∷ 48 ∷ 32 ∷ 53 ∷ 49 ∷ 55 ∷ 10 ∷ [])
    (replicate 3 9)
    (wrote (Err (Unreadable 8)) (9 ∷ 9 ∷ 9 ∷ []))
    -- flag 256
    ∷ row (71 ∷ 77 ∷ 32 ∷ 53 ∷ 32 ∷ 54 ∷ 52 ∷ 10 ∷ 86 ∷ 83 ∷ 32 ∷ 52 ∷ 48 ∷ 32 ∷ 50 ∷ 32 ∷ 49 ∷ 48 ∷ 32 ∷ 50 ∷ 54 ∷ 32 ∷ 51 ∷ 32 ∷ 50 ∷ 54 ∷ 48 ∷ 32 ∷ 53 ∷ 49 ∷ 55 ∷ 32 ∷ 50 ∷ 53 ∷ 54 ∷ 10 ∷ [])
    (replicate 3 9)
    (wrote (Err (Unreadable 8)) (9 ∷ 9 ∷ 9 ∷ []))
    -- GN
    ∷ row (71 ∷ 78 ∷ 32 ∷ 53 ∷ 32 ∷ 54 ∷ 52 ∷ 10 ∷ [])
    (replicate 7 9)
    (wrote (Ok 6) (71 ∷ 78 ∷ 0 ∷ 5 ∷ 0 ∷ 64 ∷ 9 ∷ []))
    -- PO of a number that is no path
    ∷ row (71 ∷ 77 ∷ 32 ∷ 53 ∷ 32 ∷ 54 ∷ 52 ∷ 10 ∷ 80 ∷ 79 ∷ 32 ∷ 54 ∷ 53 ∷ 53 ∷ 51 ∷ 53 ∷ 32 ∷ 48 ∷ 32 ∷ 49 ∷ 32 ∷ 49 ∷ 10 ∷ [])
    (replicate 20 9)
    (wrote (Ok 19) (71 ∷ 77 ∷ 0 ∷ 5 ∷ 0 ∷ 64 ∷ 80 ∷ 79 ∷ 255 ∷ 255 ∷ 0 ∷ 0 ∷ 0 ∷ 0 ∷ 1 ∷ 0 ∷ 0 ∷ 0 ∷ 1 ∷ 9 ∷ []))
    -- PX
    ∷ row (71 ∷ 77 ∷ 32 ∷ 53 ∷ 32 ∷ 54 ∷ 52 ∷ 10 ∷ 80 ∷ 88 ∷ 32 ∷ 49 ∷ 10 ∷ [])
    (replicate 11 9)
    (wrote (Ok 10) (71 ∷ 77 ∷ 0 ∷ 5 ∷ 0 ∷ 64 ∷ 80 ∷ 88 ∷ 0 ∷ 1 ∷ 9 ∷ []))
    -- GN later
    ∷ row (71 ∷ 78 ∷ 32 ∷ 49 ∷ 32 ∷ 50 ∷ 10 ∷ 71 ∷ 78 ∷ 32 ∷ 49 ∷ 32 ∷ 50 ∷ 10 ∷ [])
    (replicate 3 9)
    (wrote (Err (Unreadable 7)) (9 ∷ 9 ∷ 9 ∷ []))
    ∷ []

pub worked : map (λ c. write_text c.text c.output) table ≡ map (λ c. c.result) table
unfolding find fulls rest_of octets_of octets_all join merge expect digit_of digits within number nibble_of hexes field_at fields_at slots_at shaped_line line behind line_at onto events_at events_from events laid write_said write_text
worked = refl
