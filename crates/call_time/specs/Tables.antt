-- Source document 003, Tables I and II, as printed: a peak rate of 8,000 cells a second, so T is 125 μs, and a cell every
-- 120 μs; τ is 0 in Table I and 11 μs in Table II. A slot is a μs here: m 0, F 125, C 125 and 136. N 1 and 12 are the least
-- that rule 6 allows.
--
--   Printed        == a row: arrival, TAT before the cell, conforming or not
--   printed rows   == what the engine must say of them: earliness is TAT less arrival, the due time the later of the two
--   says N C rows  == what it says: verdict, earliness and due time, from not started on
use Rattle.std.specs.Prelude.{ℕ, max, Bool, true, false, List, [], ◌∷◌, map, ℤ}
use Rattle.std.proofs.Math.IntN.{sub_ℕ}
use Rattle.meaning.specs.Plain.{when◌then◌else◌}
use Rattle.meaning.specs.Numbers.{accepted, excess}
use Rattle.call_time.specs.declared.Timed.{Timed}
use Rattle.call_time.specs.Asked.{ask_of, not_started, answers_to}

pub record Printed : Type 0 where
  pub arrival : ℕ
  pub tat : ℕ
  pub conforming : Bool

abbrev pub row : ℕ → ℕ → Bool → Printed
row arrival tat conforming = record { arrival = arrival; tat = tat; conforming = conforming }

-- verdict, earliness, due time
pub record Seen : Type 0 where
  pub number : ℕ
  pub verdict : ℕ
  pub early : ℤ
  pub due : ℕ

abbrev pub seen : Timed → Seen
seen r = record { number = r.number; verdict = r.verdict; early = r.early; due = r.due }

abbrev pub printed : List Printed → List Seen
printed [] = []
printed (p ∷ ps) =
    record {
      number = 0;
      verdict = when p.conforming then accepted else excess;
      early = sub_ℕ p.tat p.arrival;
      due = when p.conforming then max p.arrival p.tat else 0;
    }
    ∷ printed ps

abbrev pub says : ℕ → ℕ → List Printed → List Seen
says N C rows = map seen (answers_to not_started (map (λ (p : Printed). ask_of N 0 125 C p.arrival) rows))

unfoldable pub table_i : List Printed
table_i =
    row 0 0 true
    ∷ row 120 125 false
    ∷ row 240 125 true
    ∷ row 360 365 false
    ∷ row 480 365 true
    ∷ row 600 605 false
    ∷ row 720 605 true
    ∷ row 840 845 false
    ∷ row 960 845 true
    ∷ row 1_080 1_085 false
    ∷ []

unfoldable pub table_ii : List Printed
table_ii =
    row 0 0 true
    ∷ row 120 125 true
    ∷ row 240 250 true
    ∷ row 360 375 false
    ∷ row 480 375 true
    ∷ row 600 605 true
    ∷ row 720 730 true
    ∷ row 840 855 false
    ∷ row 960 855 true
    ∷ row 1_080 1_085 true
    ∷ []
