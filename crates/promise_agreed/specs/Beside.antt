-- The engine beside the policer on the starred cases (crate promise_starred, specs/Table.antt), source 003's Tables I and II among
-- them: of each cell of a VC, the verdict and D that the row gives the policer are the engine's, D being its due time divided
-- by L, rounded down, less the arrival slot.
--
--   Noted              == slot, verdict and D of a cell
--   noted_in v row      == those of the cells of the VC v in a row, as document 01 gives them
--   engine_on N m F C l == those that the engine gives, asked in the same slots, from not started on
use Rattle.std.specs.Prelude.{ℕ, suc, ◌+◌, ◌-◌, ◌/◌, ◌^◌, ◌≡◌, List, [], ◌∷◌}
use Rattle.meaning.specs.Plain.{when◌then◌else◌, ◌=?◌}
use Rattle.promise_starred.specs.Row.{Step, opens, closes, cell, absent_cell, pause, Row, run, leak}
use Rattle.promise_starred.specs.Table.{eight_slots, one_space, second16, second15, table_i, table_ii}
use Rattle.call_time.specs.declared.Tat.{Tat}
use Rattle.call_time.specs.Schedule.{timed}
use Rattle.call_time.specs.Asked.{not_started}

pub record Noted : Type 0 where
  pub slot : ℕ
  pub verdict : ℕ
  pub D : ℕ

abbrev pub noted : ℕ → ℕ → ℕ → Noted
noted slot verdict D = record { slot = slot; verdict = verdict; D = D }

-- a slot is a step with a cell, one without, or one of a pause
abbrev pub noted_from : ℕ → ℕ → List Step → List Noted
noted_from v t [] = []
noted_from v t (opens vci m F C k ∷ steps) = noted_from v t steps
noted_from v t (closes vci k ∷ steps) = noted_from v t steps
noted_from v t (cell vci a ∷ steps) =
    when vci =? v then noted t a.verdict a.d ∷ noted_from v (suc t) steps else noted_from v (suc t) steps
noted_from v t (absent_cell a ∷ steps) = noted_from v (suc t) steps
noted_from v t (pause k ∷ steps) = noted_from v (t + k) steps

abbrev pub noted_in : ℕ → Row → List Noted
noted_in v (run N z steps) = noted_from v 0 steps
noted_in v (leak N m F C cells) = []

abbrev pub engine_from : Tat → ℕ → ℕ → ℕ → ℕ → List Noted → List Noted
engine_from s N m F C [] = []
engine_from s N m F C (n ∷ l) =
    let r = timed s N m F C n.slot in
    noted n.slot r.verdict (r.due / 2 ^ m - n.slot) ∷ engine_from r.tat N m F C l

abbrev pub engine_on : ℕ → ℕ → ℕ → ℕ → List Noted → List Noted
engine_on N m F C l = engine_from not_started N m F C l

pub record BesideStarred : Type 0 where
  pub eight_40 : engine_on 5 2 10 26 (noted_in 40 eight_slots) ≡ noted_in 40 eight_slots
  pub eight_41 : engine_on 5 2 4 4 (noted_in 41 eight_slots) ≡ noted_in 41 eight_slots
  pub one_space_lem : engine_on 1 0 1 1 (noted_in 1 one_space) ≡ noted_in 1 one_space
  pub second_16 : engine_on 5 2 10 16 (noted_in 1 second16) ≡ noted_in 1 second16
  pub second_15 : engine_on 5 2 10 15 (noted_in 1 second15) ≡ noted_in 1 second15
  pub table_I : engine_on 1 0 125 125 (noted_in 1 table_i) ≡ noted_in 1 table_i
  pub table_II : engine_on 12 0 125 136 (noted_in 1 table_ii) ≡ noted_in 1 table_ii
