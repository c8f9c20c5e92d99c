-- What a slot answers of its arrival, from the header and the exact leak rule alone: no S, no wrapped clock. The header is
-- that of the octets that the header check let through.
--
--   Judged          == verdict, VCI and D, as an answer holds them
--   judged kind z h cell == those of a cell that is let through after the events h, on a line of this kind, V being z
--   judged_as kind z h a  == those of what the header check answered, a: of a dropped cell verdict 4, VCI 0 and D 0
use Rattle.std.specs.Prelude.{ℕ, ◌-◌, not, ◌||◌, List, length}
use Rattle.std.proofs.Math.Option.{Option, none, some}
use Rattle.base_hec.specs.Modes.{Arriving}
use Rattle.meaning.specs.Plain.{when◌then◌else◌, ◌=?◌}
use Rattle.meaning.specs.Numbers.{nothing, unknown, dropped, lets_in}
use Rattle.meaning.specs.Header.{header_at, clp_in, no_user_cell, connection, names_connection}
use Rattle.meaning_runs.specs.Run.{Event, served}
use Rattle.meaning_runs.specs.Leak.{Opening, due_slot, verdict_by, opening_of}

pub record Judged : Type 0 where
  pub verdict : ℕ
  pub vci : ℕ
  pub D : ℕ

abbrev pub judged_of : ℕ → ℕ → ℕ → Judged
judged_of verdict vci D = record { verdict = verdict; vci = vci; D = D }

-- In slot t, of a cell with this VCI and this CLP, of the connection c with this opening. "a VC not open: unknown", with the VCI
-- as read; "A cell of an open path has V + VPI for its VCI". D is the due slot less the arrival slot, by the peak bucket's rule.
abbrev pub judged_under : ℕ → ℕ → ℕ → ℕ → Option Opening → Judged
judged_under t vci c clp none = judged_of unknown vci 0
judged_under t vci c clp (some o) =
    let verdict = verdict_by o clp t in
    judged_of verdict c (when lets_in verdict then due_slot o t - t else 0)

-- "VPI 0 with VCI 0 is no user cell: the slot counts as empty. VPI not 0, VCI of V or more, or a VC not open: unknown.",
-- but for VPI 1 to 255, which names a path: document 02 (vi)
unfoldable pub judged_by : ℕ → ℕ → ℕ → (ℕ → Option Opening) → List ℕ → Judged
judged_by kind z t openings cell =
    let h = header_at kind cell 0 in
    let c = connection z h in
    when length cell =? 0 || no_user_cell h then judged_of nothing 0 0
    else when not (names_connection z h) then judged_of unknown h.vci 0
    else judged_under t h.vci c (clp_in cell) (openings c)

abbrev pub judged : ℕ → ℕ → List Event → List ℕ → Judged
judged kind z h cell = judged_by kind z (served h) (λ c. opening_of c h) cell

-- document 02 (i): "A dropped cell (verdict 4, H) .. its answer has VCI 0"
abbrev pub judged_as : ℕ → ℕ → List Event → Arriving → Judged
judged_as kind z h a = when a.dropped then judged_of dropped 0 0 else judged kind z h a.cell
