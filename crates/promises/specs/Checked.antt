-- REQUEST (i) of document 02: header error control, over runs. A setup has answered 0, of a raw policer or not; then any
-- calls followed, and r is the run. The clauses say what the next call does, whatever is lent to it.
--
--   let_in s cell     == what the header check lets through of the octets lent (crate base_hec, specs/Modes.antt): the octets,
--                       mended or as they came; whether the cell is dropped; the mode that follows
--   unchecked_slot    == the slot of document 01; told: where the cell is dropped, verdict 4, VCI 0 and D 0
--   after r cell     == the run r, and then a slot that is lent these octets
--   plain_calls r cs  == the run r, and then the calls cs over the slot of document 01, with no header check
use Rattle.std.specs.Prelude.{ℕ, ◌≤◌, ◌<◌, ◌≡◌, ◌≢◌, ◌⊎◌, Bool, true, false, ◌||◌, List, [], ◌∷◌, length}
use Rattle.base_hec.specs.WrongBit.{flipped}
use Rattle.base_hec.specs.Modes.{Arriving, correction, detection}
use Rattle.meaning.specs.Plain.{◌=?◌}
use Rattle.meaning.specs.Numbers.{octets, dropped}
use Rattle.meaning.specs.State.{State, with_mode}
use Rattle.meaning.specs.Header.{Name}
use Rattle.meaning.specs.Words.{Second}
use Rattle.meaning.specs.Calls.{raw_number, Asked, setup}
use Rattle.meaning.specs.Slot.{unchecked_slot, told, slot}
use Rattle.meaning_runs.specs.Run.{Call, on_open_with, on_close, on_slot, ran, Run, run_of, shown, let_in, call, calls}
use Rattle.meaning_runs.specs.Leak.{opening_of}
use Rattle.meaning_runs.specs.Seen.{cells_in}

-- no cell, or one of 53 octets
abbrev pub Lent : List ℕ → Type 0
Lent cell = length cell =? 0 || length cell =? octets ≡ true

abbrev pub after : Run → List ℕ → Run
after r cell = call r (on_slot cell)

abbrev pub mode_of : Run → ℕ
mode_of r = r.state.ctl.mode

-- "In correction mode .. a single wrong bit is mended .. and any error leads to detection": one of the header's forty
pub record Mended (mode : ℕ) (cell : List ℕ) (a : Arriving) : Type 0 where
  pub bit : ℕ
  pub of_forty : bit < 40
  pub mends_in : mode ≡ correction
  pub mended : a.cell ≡ flipped bit cell
  pub leads_to : a.mode ≡ detection

pub record HeaderCheck (raw : Bool) (r : Run) : Type 0 where
  -- "Raw is a yes or no at setup"; "mode 0 correction, 1 detection"
  pub raw_is : r.state.ctl.raw ≡ raw_number raw
  pub mode_low : mode_of r ≤ 1
  -- every slot that is lent no cell or 53 octets is served, so none is refused with 3: it is document 01's, over what the
  -- check lets through, in the mode that it leads to; the event notes those octets
  pub serves : (cell : List ℕ) → Lent cell → (slot r.state cell).answer.number ≡ 0
  pub is_checked_lem : (cell : List ℕ) → Lent cell
      → let a = let_in r.state cell in
      slot r.state cell ≡ told a.dropped (unchecked_slot (with_mode r.state a.mode) a.cell)
  pub notes : (cell : List ℕ)
      → let w = slot r.state cell in
      (after r cell).events ≡ ran (let_in r.state cell).cell w.answer (shown w) ∷ r.events
  -- a cell that is not dropped is let through as it came, or, in correction alone, with a single bit of its header changed
  pub lets_in_lem : (cell : List ℕ) → (let_in r.state cell).dropped ≡ false
      → ((let_in r.state cell).cell ≡ cell) ⊎ Mended (mode_of r) cell (let_in r.state cell)
  -- a served slot leaves the mode that the machine says; a slot lent no cell, a refused slot, an open and a close keep it
  pub moves : (cell : List ℕ) → Lent cell → mode_of (after r cell) ≡ (let_in r.state cell).mode
  pub none_keeps : mode_of (after r []) ≡ mode_of r
  pub refused_keeps : (cell : List ℕ) → (slot r.state cell).answer.number ≢ 0 → mode_of (after r cell) ≡ mode_of r
  pub open_keeps : (who : ℕ) (name : Name) (m F C : ℕ) (x : Second) → mode_of (call r (on_open_with who name m F C x)) ≡ mode_of r
  pub close_keeps : (who : ℕ) (name : Name) → mode_of (call r (on_close who name)) ≡ mode_of r
  -- "A dropped cell (verdict 4, H)": no octets, VCI 0 and D 0. It is accepted, excess or unknown nowhere: no cell more is
  -- accepted, and no opening moves. No other cell has verdict 4.
  pub drops : (cell : List ℕ) → Lent cell → (let_in r.state cell).dropped ≡ true
      → let a = (slot r.state cell).answer in
      (a.verdict ≡ dropped) × (a.vci ≡ 0) × (a.d ≡ 0) × ((let_in r.state cell).cell ≡ [])
  pub adds_none : (cell : List ℕ) → Lent cell → (let_in r.state cell).dropped ≡ true
      → (cells_in (after r cell).events ≡ cells_in r.events)
      × ((v : ℕ) → opening_of v (after r cell).events ≡ opening_of v r.events)
  pub no_other : (cell : List ℕ) → (slot r.state cell).answer.verdict ≡ dropped → (let_in r.state cell).dropped ≡ true

abbrev pub HeaderCheckHolds : Type 0
HeaderCheckHolds = (N z : ℕ) (a : Asked) (lent : State)
    → (setup N z a lent).number ≡ 0
    → (cs : List Call) → HeaderCheck a.raw (calls (run_of (setup N z a lent).state []) cs)

-- ── "A policer that is not raw behaves octet for octet as before" ──
unfoldable pub plain_call : Run → Call → Run
plain_call r (on_open_with who name m F C x) = call r (on_open_with who name m F C x)
plain_call r (on_close who name) = call r (on_close who name)
plain_call r (on_slot cell) =
    let w = unchecked_slot r.state cell in
    run_of w.state (ran cell w.answer (shown w) ∷ r.events)

unfoldable pub plain_calls : Run → List Call → Run
plain_calls r [] = r
plain_calls r (c ∷ cs) = plain_calls (plain_call r c) cs

-- event for event, and state for state, octets, links, calendar and words included
abbrev pub NotRawAsBefore : Type 0
NotRawAsBefore = (N z : ℕ) (a : Asked) (lent : State) → a.raw ≡ false
    → (setup N z a lent).number ≡ 0
    → (cs : List Call)
    → let r = run_of (setup N z a lent).state [] in
    calls r cs ≡ plain_calls r cs
