-- Calls of the engine, one after the other: each is handed the state that the one before left.
--
--   Ask               == what a caller hands over beside the state
--   not_started        == a state before the first cell: no number in it is read
--   asked s q         == the call
--   asked_all s qs     == the state after the calls qs, in this order
--   answers_to s qs    == what they answered
use Rattle.std.specs.Prelude.{ℕ, false, List, [], ◌∷◌}
use Rattle.call_time.specs.declared.Tat.{Tat}
use Rattle.call_time.specs.declared.Timed.{Timed}
use Rattle.call_time.specs.Schedule.{tat_of, timed}

pub record Ask : Type 0 where
  pub N : ℕ
  pub m : ℕ
  pub F : ℕ
  pub C : ℕ
  pub arrival : ℕ

abbrev pub ask_of : ℕ → ℕ → ℕ → ℕ → ℕ → Ask
ask_of N m F C arrival = record { N = N; m = m; F = F; C = C; arrival = arrival }

abbrev pub not_started : Tat
not_started = tat_of 0 0 false

abbrev pub asked : Tat → Ask → Timed
asked s q = timed s q.N q.m q.F q.C q.arrival

abbrev pub asked_all : Tat → List Ask → Tat
asked_all s [] = s
asked_all s (q ∷ qs) = asked_all (asked s q).tat qs

abbrev pub answers_to : Tat → List Ask → List Timed
answers_to s [] = []
answers_to s (q ∷ qs) = asked s q ∷ answers_to (asked s q).tat qs
