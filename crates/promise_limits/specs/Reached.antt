-- Why demand 3 can't promise less than N-1, and what else can't be promised: runs in which it happens.
--
--   Reached         == in this run a cell of the connection v leaves exactly N-1 slots after its due slot
--   Within N o w    == at this N no cell of any run of a policer with these options leaves
--                      more than w slots after its due slot
--   clean_for vci    == a cell of a VC with the octet 5 that belongs to its header, which both kinds let through as it is
--   PeakKept        == source 000's claim, that one connection's departures never come closer than its peak rate allows
use Rattle.std.specs.Prelude.{ℕ, ◌+◌, ◌-◌, ◌*◌, ◌≤◌, ◌<◌, ◌≡◌, List, [], ◌∷◌, ◌++◌, length, replicate, set}
use Rattle.std.proofs.Math.Option.{some}
use Rattle.base_hec.specs.Check.{hec_of}
use Rattle.meaning.specs.Calls.{Options, Allowed}
use Rattle.meaning_runs.specs.Run.{Call, on_open, on_slot, calls, fresh_run}
use Rattle.meaning_runs.specs.Leak.{Opening, parts, opening_of}
use Rattle.meaning_runs.specs.Seen.{departures_of, cell_at, departure_at}
use Rattle.meaning_runs.specs.Eight.{cell_for}

pub record Reached (N z : ℕ) (o : Options) (cs : List Call) (v k : ℕ) : Type 0 where
  pub leaves : k < length (departures_of v (calls (fresh_run N z o) cs).events)
  pub late : let h = (calls (fresh_run N z o) cs).events in
      (departure_at v k h).slot ≡ (cell_at v k h).due + (N - 1)

abbrev pub Within : ℕ → Options → ℕ → Type 0
Within N o w = (z : ℕ) → Allowed N z o → (cs : List Call) (v k : ℕ)
    → let h = (calls (fresh_run N z o) cs).events in
    k < length (departures_of v h) → (departure_at v k h).slot ≤ (cell_at v k h).due + w

abbrev pub clean_for : ℕ → List ℕ
clean_for vci = set (cell_for vci) 4 (hec_of (cell_for vci))

-- N 2: VC 1 with m 0, F 1, C 2; VC 2 with m 0, F 2, C 3; cells of 2, 2, 1, and an empty slot
abbrev pub late_at_two : List Call
late_at_two = on_open 1 0 1 2 ∷ on_open 2 0 2 3 ∷ on_slot (clean_for 2) ∷ on_slot (clean_for 2) ∷ on_slot (clean_for 1) ∷ on_slot [] ∷ []

-- N 5, with L 4: VC 2 with F 5, C 24 sends 20 cells, then VC 1 with F and C 4 sends 4, and 4 empty slots follow
abbrev pub late_at_five : List Call
late_at_five =
    on_open 1 2 4 4 ∷ on_open 2 2 5
    24 ∷ (replicate 20 (on_slot (clean_for 2)) ++ (replicate 4 (on_slot (clean_for 1)) ++ replicate 4 (on_slot [])))

abbrev pub PeakKept : Type 0
PeakKept = (N z : ℕ) (o : Options) → Allowed N z o → (cs : List Call) (v k : ℕ) (a : Opening)
    → let h = (calls (fresh_run N z o) cs).events in
    opening_of v h ≡ some a → k + 1 < length (departures_of v h)
    → a.F ≤ ((departure_at v (k + 1) h).slot - (departure_at v k h).slot) * parts a
