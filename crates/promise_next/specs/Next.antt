-- REQUEST (ix) of document 02: how long until something leaves. "The card sleeps when it can. Answer how many slots from now, if none
-- arrives, the next cell leaves: 1 if the Output List has one, otherwise the ring distance from T to the nearest marked entry, 1 to
-- N-1, or that none waits." Two promises: what the bits say is what a walk over the entries says, and that is when a cell leaves.
--
--   next_in s            == the answer in the state s (crate meaning, specs/Next.antt): a number, and slots, 0 for none
--   full_walk s          == the same by a walk over the entries after T, one by one, that reads no bit
--   EqualsFullWalk      == in every state that the audit says yes to, the answer is 0 and what the walk says
--   LetsNone r c        == the call c after the run r lets no cell in: open, close, or a slot that is lent none, or whose cell is neither
--                          accepted nor tagged: no user cell, unknown, excess or dropped. A refused slot lets none in
--   NoneIn r cs         == none of the calls cs after the run r does: "if none arrives"
--   QuietSlot r j a     == a is the answer of the j-th slot from now on, j from 1 on, after the run r, if none arrives; opens, closes
--                          and refused slots may come between
--   SendsNothing a, Sends a   == the answer names no departing cell; it names one
--   Next N r            == what the answer after the run r promises
use Rattle.std.specs.Prelude.{ℕ, ◌+◌, ◌-◌, ◌%◌, ◌≤◌, ◌<◌, ◌≡◌, ◌≢◌, Bool, false, not, List, [], ◌∷◌}
use Rattle.meaning.specs.declared.Answer.{Answer}
use Rattle.meaning.specs.declared.Wait.{Wait}
use Rattle.meaning.specs.Plain.{when◌then◌else◌}
use Rattle.meaning.specs.Numbers.{empty, lets_in}
use Rattle.meaning.specs.State.{State, output_list}
use Rattle.meaning.specs.Lists.{is_empty, entry_at}
use Rattle.meaning.specs.Calls.{Asked, setup}
use Rattle.meaning.specs.Slot.{slot}
use Rattle.meaning.specs.Audit.{AuditHolds}
use Rattle.meaning.specs.Next.{first_in, wait_of, wait_for}
use Rattle.meaning_runs.specs.Run.{Call, on_open_with, on_close, on_slot, Run, run_of, call, calls, served}
use Rattle.promises.specs.Checked.{Lent}

abbrev pub next_in : State → Wait
next_in s = wait_for s.ctl s.calendar s.bits

-- ── the full walk ──
-- the entry d places after T, in ring order, holds a cell
abbrev pub holds_at : State → ℕ → Bool
holds_at s d = not (is_empty (entry_at s.calendar ((s.ctl.turn + d) % s.ctl.n)))

-- 1 to N-1, one after the other, up to the first that holds a cell; 0 where none does
unfoldable pub full_walk : State → ℕ
full_walk s = when not (is_empty (output_list s)) then 1 else first_in (holds_at s) (s.ctl.n - 1) 1

-- "The answer equals that of the full walk in every audited state."
abbrev pub EqualsFullWalk : Type 0
EqualsFullWalk = (s : State) → AuditHolds s → next_in s ≡ wait_of 0 (full_walk s)

-- ── when a cell leaves ──
abbrev pub LetsNone : Run → Call → Type 0
LetsNone r (on_open_with who name m F C second) = Unit {0}
LetsNone r (on_close who name) = Unit {0}
LetsNone r (on_slot cell) = lets_in (slot r.state cell).answer.verdict ≡ false

abbrev pub NoneIn : Run → List Call → Type 0
NoneIn r [] = Unit {0}
NoneIn r (c ∷ cs) = LetsNone r c × NoneIn (call r c) cs

-- slots that are lent no cell, and any opens and closes
abbrev pub NoCells : List Call → Type 0
NoCells [] = Unit {0}
NoCells (on_open_with who name m F C second ∷ cs) = NoCells cs
NoCells (on_close who name ∷ cs) = NoCells cs
NoCells (on_slot cell ∷ cs) = (cell ≡ []) × NoCells cs

pub record QuietSlot (r : Run) (j : ℕ) (a : Answer) : Type 0 where
  -- what is called before it, and how many of that are slots
  pub between : List Call
  pub none_in : NoneIn r between
  pub slots : served (calls r between).events + 1 ≡ served r.events + j
  -- the slot itself, which is served
  pub cell : List ℕ
  pub lent : Lent cell
  pub lets_none : LetsNone (calls r between) (on_slot cell)
  pub is : a ≡ (slot (calls r between).state cell).answer

-- "departing space (65,535 for none), departing VCI (0 for none)"
abbrev pub SendsNothing : Answer → Type 0
SendsNothing a = (a.space ≡ empty) × (a.departing ≡ 0)

abbrev pub Sends : Answer → Type 0
Sends a = (a.space ≢ empty) × (a.departing ≢ 0)

pub record Next (N : ℕ) (r : Run) : Type 0 where
  -- it is answered, so 3 is never given; "1 to N-1"
  pub answers : (next_in r.state).number ≡ 0
  pub at_most : (next_in r.state).slots ≤ N - 1
  -- "or that none waits": then no slot sends, however many come
  pub if_none : (next_in r.state).slots ≡ 0 → (j : ℕ) (a : Answer) → QuietSlot r j a → SendsNothing a
  -- it says k: the slots before the k-th send nothing, and the k-th sends
  pub not_before : (j : ℕ) (a : Answer) → QuietSlot r j a → j < (next_in r.state).slots → SendsNothing a
  pub then_sends : (a : Answer) → QuietSlot r (next_in r.state).slots a → Sends a
  -- slots that are lent no cell let none in
  pub no_cells : (cs : List Call) → NoCells cs → NoneIn r cs

-- of every run from a fresh state, whatever was called
abbrev pub NextHolds : Type 0
NextHolds = (N z : ℕ) (a : Asked) (lent : State)
    → (setup N z a lent).number ≡ 0
    → (cs : List Call)
    → Next N (calls (run_of (setup N z a lent).state []) cs)
