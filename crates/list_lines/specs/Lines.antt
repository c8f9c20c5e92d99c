-- Document 01, "Lines": each line of the listing, over numbers.
use Rattle.std.specs.Prelude.{ℕ, Bool, not, ◌||◌, List, [], ◌∷◌}
use Rattle.meaning.specs.declared.Answer.{Answer}
use Rattle.meaning.specs.Plain.{when◌then◌else◌, ◌=?◌}
use Rattle.meaning.specs.Numbers.{empty, nothing, accepted, excess, unknown, dropped, tagged, lets_in}
use Rattle.list_lines.specs.Text.{decimal_of, line, shown}

-- `setup N V number`
unfoldable pub setup_line : ℕ → ℕ → ℕ → List ℕ
setup_line N z number = line ((115 ∷ 101 ∷ 116 ∷ 117 ∷ 112 ∷ []) ∷ decimal_of N ∷ decimal_of z ∷ decimal_of number ∷ [])

-- `open VCI number`; document 02 (vi): "PO and PX are .. listed with V + VPI". So c is a connection's number
unfoldable pub open_line : ℕ → ℕ → List ℕ
open_line c number = line ((111 ∷ 112 ∷ 101 ∷ 110 ∷ []) ∷ decimal_of c ∷ decimal_of number ∷ [])

-- `close VCI number`, likewise
unfoldable pub close_line : ℕ → ℕ → List ℕ
close_line c number = line ((99 ∷ 108 ∷ 111 ∷ 115 ∷ 101 ∷ []) ∷ decimal_of c ∷ decimal_of number ∷ [])

-- "with A, X, U or `.`": accepted, excess, unknown, nothing; document 02 (i): "A dropped cell (verdict 4, H)"; (iv): "tagged ..
-- (.. verdict 5, T ..)"
unfoldable pub letter : ℕ → ℕ
letter verdict =
    when verdict =? accepted then 65
    else when verdict =? excess then 88
    else when verdict =? unknown then 85
    else when verdict =? dropped then 72
    else when verdict =? tagged then 84
    else 46

-- a VCI is shown: `-` stands for it exactly after `.` and H
unfoldable pub shows_vci : ℕ → Bool
shows_vci verdict = not (verdict =? nothing || verdict =? dropped)

-- "per slot `t verdict VCI D out` .., where out is the departing VCI, and `-` stands for VCI exactly after `.`, for D
-- exactly unless A, for out exactly when nothing departs"; document 02 (i), of a dropped cell: "its line `-` for VCI and D";
-- (iv): a tagged one has its "D from the peak bucket", so "unless A" is unless A or T
unfoldable pub served_line : ℕ → ℕ → ℕ → ℕ → ℕ → ℕ → List ℕ
served_line t verdict vci D x departing =
    line
    (decimal_of t
    ∷ (letter verdict ∷ [])
    ∷ shown (shows_vci verdict) vci
    ∷ shown (lets_in verdict) D
    ∷ shown (not (x =? empty)) departing
    ∷ [])

-- A refused slot would print `slot number`: no trace reaches one, and no line of a served slot says the same.
unfoldable pub refused_line : ℕ → List ℕ
refused_line number = line ((115 ∷ 108 ∷ 111 ∷ 116 ∷ []) ∷ decimal_of number ∷ [])

-- the line of a slot, given t as the slot left it and its answer
unfoldable pub slot_line : ℕ → Answer → List ℕ
slot_line t a =
    when a.number =? 0 then served_line t a.verdict a.vci a.d a.space a.departing
    else refused_line a.number

-- `stop 10 place`
unfoldable pub stop_line : ℕ → List ℕ
stop_line place = line ((115 ∷ 116 ∷ 111 ∷ 112 ∷ []) ∷ (49 ∷ 48 ∷ []) ∷ decimal_of place ∷ [])

-- "last `end accepted excess unknown sent waiting`"
unfoldable pub end_line : ℕ → ℕ → ℕ → ℕ → ℕ → List ℕ
end_line many-accepted many-excess many-unknown sent waiting =
    line
    ((101 ∷ 110 ∷ 100 ∷ [])
    ∷ decimal_of many-accepted
    ∷ decimal_of many-excess
    ∷ decimal_of many-unknown
    ∷ decimal_of sent
    ∷ decimal_of waiting
    ∷ [])
