-- The laws of the engine alone, of any stored state that isn't refused. They say nothing of the policer.
--
--   E1 RuleIs    == the rule in plain words: earliness, verdict, due time, and the state afterwards
--   E2 NeverThree, TatLow  == a call that answers 0 never leaves a state that gets 3, whatever is asked of it next
--      NoRunGetsThree  == so from not started no run is refused with 3, whatever is asked and in whatever order
--   E3 FirstIs   == not started, the engine answers as if started with TAT 0, in all but earliness
use Rattle.std.specs.Prelude.{ℕ, ◌+◌, ◌-◌, ◌*◌, ◌^◌, ◌≤◌, ◌<◌, max, ◌≡◌, true, false, List, ◌↔◌, ◌≢◌}
use Rattle.std.proofs.Math.IntN.{sub_ℕ}
use Rattle.meaning.specs.Numbers.{accepted, excess}
use Rattle.call_time.specs.declared.Tat.{Tat}
use Rattle.call_time.specs.declared.Timed.{Timed}
use Rattle.call_time.specs.Schedule.{ahead, tat_of, expected_at, timed}
use Rattle.call_time.specs.Asked.{Ask, asked, asked_all}

-- r is the answer for a cell that arrives in slot a, at `now` in parts of 1/L slot, and is expected at e
pub record Ruled (F C a now e : ℕ) (r : Timed) : Type 0 where
  -- "early by TAT minus arrival, negative when late, 0 when on time"
  pub early_is : r.early ≡ sub_ℕ e now
  -- "nonconforming exactly when that is above the tolerance"
  pub conforms : (r.verdict ≡ accepted) ↔ (ahead r.early ≤ C - F)
  pub fails : (r.verdict ≡ excess) ↔ (C - F < ahead r.early)
  -- "moves TAT to the later of arrival and TAT, plus F"
  pub moves : r.verdict ≡ accepted → (r.due ≡ max now e) × (r.tat.tat ≡ r.due + F)
  -- "due time (0 when nonconforming)"
  pub stays : r.verdict ≡ excess → (r.due ≡ 0) × (r.tat.tat ≡ e)
  -- "arrival not after the previous one, conforming or not"
  pub came : (r.tat.arrival ≡ a) × (r.tat.started ≡ true)

abbrev pub RuleIs : Type 0
RuleIs = (s : Tat) (N m F C a : ℕ) → (timed s N m F C a).number ≡ 0
    → Ruled F C a (a * 2 ^ m) (expected_at s (a * 2 ^ m)) (timed s N m F C a)

abbrev pub NeverThree : Type 0
NeverThree = (s : Tat) (N m F C a : ℕ) → (timed s N m F C a).number ≡ 0
    → (N' m' F' C' a' : ℕ) → (timed (timed s N m F C a).tat N' m' F' C' a').number ≢ 3

-- and the TAT that a conforming cell leaves has at most 48 bits, with room to spare
abbrev pub TatLow : Type 0
TatLow = (s : Tat) (N m F C a : ℕ) → (timed s N m F C a).number ≡ 0 → (timed s N m F C a).verdict ≡ accepted
    → (timed s N m F C a).tat.tat < 2 ^ 47 + 2 ^ 26

-- any calls, refused ones among them, with any N, m, F, C and arrivals, and then one more
abbrev pub NoRunGetsThree : Type 0
NoRunGetsThree = (s : Tat) → s.started ≡ false → (before : List Ask) (q : Ask)
    → (asked (asked_all s before) q).number ≢ 3

abbrev pub FirstIs : Type 0
FirstIs = (s : Tat) (N m F C a p : ℕ) → s.started ≡ false → p < a → (timed s N m F C a).number ≡ 0
    → let r = timed s N m F C a in
    let q = timed (tat_of 0 p true) N m F C a in
    (q.number ≡ 0) × (q.verdict ≡ r.verdict) × (q.due ≡ r.due) × (q.tat ≡ r.tat)
