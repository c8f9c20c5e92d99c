-- That no smaller numbers can be promised than demand 3's N-1 and request (xiii)'s burst: runs in which they are met.
--
--   LateIn                == in this run a cell of some connection leaves exactly N-1 slots after its due slot
--   LateAtEveryN          == such a run, for every N from 2 on, and every V that has two VCs
--   LeastLate             == so no smaller lateness than N-1 holds, at any N
--   Met                   == in this run as many cells of an opening of v leave in the slots x to x + w - 1 as the bound allows
--   AtMost N o m F w B    == at this N, in no run of a policer with these options, raw or not, on either kind of line, do more than
--                            B cells of an opening with m and F leave in w consecutive slots
use Rattle.std.specs.Prelude.{ℕ, ◌+◌, ◌-◌, ◌*◌, ◌/◌, ◌≤◌, ◌≡◌, Bool, true, List, [], ◌∷◌, ◌++◌, replicate}
use Rattle.meaning.specs.Numbers.{ranges_hold}
use Rattle.meaning.specs.Header.{by_vci}
use Rattle.meaning.specs.Calls.{Kind, Options, options_of, Allowed}
use Rattle.meaning_runs.specs.Run.{Call, on_open, on_close, on_slot, calls, fresh_run}
use Rattle.promise_limits.specs.Reached.{Reached, Within, clean_for}
use Rattle.promise_bound.specs.Bound.{OneOpening, gone, leaving, spread}

abbrev pub cell_of : ℕ → Call
cell_of v = on_slot (clean_for v)

abbrev pub absent_cell : Call
absent_cell = on_slot []

-- ── N-1 slots late, at every N ──
-- VC 2, with L 1,024 and F 1,025, is a 1,025th slower than the line. Its C lets it send in each of the first N × 1,024 slots:
-- its k-th cell is due k/1,024 slots after its arrival, so the last N-1 of them are due in the N-1 slots that follow. In
-- these VC 1 sends too, each cell due at once. So 2 × (N-1) cells are due in N-1 slots.
abbrev pub late_calls : ℕ → List Call
late_calls N =
    on_open 1 0 1 1
    ∷ on_open 2 10 1_025 (N * 1_024 + 1_024)
    ∷ (replicate (N * 1_024) (cell_of 2) ++ (replicate (N - 1) (cell_of 1) ++ replicate (N - 1) absent_cell))

pub record LateIn (N z : ℕ) (o : Options) (cs : List Call) : Type 0 where
  pub v : ℕ
  pub k : ℕ
  pub reached : Reached N z o cs v k

abbrev pub LateAtEveryN : Type 0
LateAtEveryN = (N z : ℕ) (raw : Bool) (kind : Kind) → ranges_hold N z ≡ true → 2 ≤ N → 3 ≤ z → LateIn N z (options_of raw kind) (late_calls N)

abbrev pub LeastLate : Type 0
LeastLate = (N w : ℕ) (raw : Bool) (kind : Kind) → ranges_hold N 3 ≡ true → Within N (options_of raw kind) w → N - 1 ≤ w

-- ── as many cells as the bound allows ──
pub record Met (N z : ℕ) (o : Options) (cs : List Call) (v m F C x w : ℕ) : Type 0 where
  pub opening : OneOpening v m F C (calls (fresh_run N z o) cs).events
  pub meets : leaving x w (gone opening) ≡ 1 + spread N m w / F

abbrev pub AtMost : ℕ → Options → ℕ → ℕ → ℕ → ℕ → Type 0
AtMost N o m F w B = (z : ℕ) → Allowed N z o → (cs : List Call) (v C x : ℕ)
    → (p : OneOpening v m F C (calls (fresh_run N z o) cs).events) → leaving x w (gone p) ≤ B

-- N 2: VC 1 with m 0, F 2, C 3; VC 2 with m 0, F 1, C 1; cells of 1, 1, 2, none, 1. VC 1 leaves in the slots 0, 3 and 4.
abbrev pub burst_at_two : List Call
burst_at_two = on_open 1 0 2 3 ∷ on_open 2 0 1 1 ∷ cell_of 1 ∷ cell_of 1 ∷ cell_of 2 ∷ absent_cell ∷ cell_of 1 ∷ []

-- N 5: VC 1 with m 2, F 10, C 13. Five others, all with m 0, have a cell each due in slot 9. VC 1's first cell comes in slot
-- 10 and is due at once, its j-th next one in slot 10 + j × F / L. VC 1 leaves in the slots 14, 15, 16, 17, 20 and 22.
abbrev pub burst_at_five : List Call
burst_at_five =
    on_open 1 2 10 13 ∷ on_open 2 0 9 13 ∷ on_open 3 0 8 11 ∷ on_open 4 0 7 9 ∷ on_open 5 0 6 7 ∷ on_open 6 0 1 1
    ∷ cell_of 2 ∷ cell_of 3 ∷ cell_of 4 ∷ cell_of 5 ∷ absent_cell
    ∷ cell_of 2 ∷ cell_of 3 ∷ cell_of 4 ∷ cell_of 5 ∷ cell_of 6
    ∷ cell_of 1 ∷ absent_cell ∷ cell_of 1 ∷ absent_cell ∷ absent_cell
    ∷ cell_of 1 ∷ absent_cell ∷ cell_of 1 ∷ absent_cell ∷ absent_cell
    ∷ cell_of 1 ∷ absent_cell ∷ cell_of 1 ∷ absent_cell
    ∷ []

-- burst_at_two, then VC 1 is closed after slot 6 and opened with F and C 5, and has a cell in slot 7: its first opening still
-- has its three cells
abbrev pub closed_and_reopened : List Call
closed_and_reopened = burst_at_two ++ (absent_cell ∷ absent_cell ∷ on_close 1 (by_vci 1) ∷ on_open 1 0 5 5 ∷ cell_of 1 ∷ [])
