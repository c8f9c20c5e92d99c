-- What A is told, reckoned from what A asked and from nothing else. A proof device.
--
--   openings           == the opening of each connection, by its number; of A's alone they are read
--   word_for c A f q    == what A is told when it asks q with the openings f
--   after c A f q      == the openings then
--   words_from, after_all  == the same of one ask after the other
--   cells_told v ws     == the accepted cells of the connection v among what A was told
use Prim.Native.Nat.{ℕ}
use mathlib.Core.Bool.{◌&&◌}
use mathlib.Core.List.{List, [], ◌∷◌}
use mathlib.Core.Option.{Option, none, some}
use Rattle.meaning.specs.Plain.{when◌then◌else◌, ◌=?◌}
use Rattle.meaning.specs.Numbers.{lets_in}
use Rattle.meaning.specs.Header.{header_at, clp_in, Name, number_in, connection}
use Rattle.meaning.specs.Operators.{owner_of}
use Rattle.meaning.specs.Words.{Second}
use Rattle.meaning.specs.Arrival.{sent_as}
use Rattle.meaning.specs.Work.{answer_of}
use Rattle.meaning_runs.specs.Leak.{Opening, new_opening, after_cell}
use Rattle.meaning_runs.specs.Seen.{Cell, cell_under}
use Rattle.meaning_runs.specs.Judged.{Judged, judged_by}
use Rattle.theory_choice.proofs.AnswerLaws.{open_answers}
use Rattle.promise_operators.specs.Operators.{Card, Ask, asks_open, asks_close, sends, Word, open_as_told, close_told, cell_told}

abbrev pub opens_as : Card → ℕ → (ℕ → Option Opening) → Name → ℕ → ℕ → ℕ → Second → ℕ
opens_as c A f name m F C x =
    open_answers c.N c.z (A =? owner_of c.splitvci c.splitpath name) name m F C x (f (number_in c.z name))

-- a cell that was judged so
abbrev pub cell_by : ℕ → Judged → List ℕ → Option Opening → Cell
cell_by t j octets o = cell_under t (answer_of 0 j.verdict j.vci j.D 0 0) octets o

abbrev pub word_for : Card → ℕ → (ℕ → Option Opening) → Ask → Word
word_for c A f (asks_open name m F C x) = open_as_told (opens_as c A f name m F C x)
word_for c A f (asks_close name number) = close_told number
word_for c A f (sends t cell) =
    let j = judged_by c.kind c.z t f cell in
    cell_told j.verdict (cell_by t j (sent_as j.verdict cell) (f (connection c.z (header_at c.kind cell 0))))

abbrev pub after : Card → ℕ → (ℕ → Option Opening) → Ask → ℕ → Option Opening
after c A f (asks_open name m F C x) v =
    when opens_as c A f name m F C x =? 0 && number_in c.z name =? v then some (new_opening m F C x) else f v
after c A f (asks_close name number) v = when number =? 0 && number_in c.z name =? v then none else f v
after c A f (sends t cell) v =
    let j = judged_by c.kind c.z t f cell in
    when lets_in j.verdict && j.vci =? v then after_cell t (clp_in cell) j.verdict (f v) else f v

unfoldable pub words_from : Card → ℕ → (ℕ → Option Opening) → List Ask → List Word
words_from c A f [] = []
words_from c A f (q ∷ qs) = word_for c A f q ∷ words_from c A (λ v. after c A f q v) qs

unfoldable pub after_all : Card → ℕ → (ℕ → Option Opening) → List Ask → ℕ → Option Opening
after_all c A f [] v = f v
after_all c A f (q ∷ qs) v = after_all c A (λ u. after c A f q u) qs v

unfoldable pub cells_told : ℕ → List Word → List Cell
cells_told v [] = []
cells_told v (open_as_told number ∷ ws) = cells_told v ws
cells_told v (close_told number ∷ ws) = cells_told v ws
cells_told v (cell_told verdict x ∷ ws) = when lets_in verdict && x.vci =? v then x ∷ cells_told v ws else cells_told v ws
