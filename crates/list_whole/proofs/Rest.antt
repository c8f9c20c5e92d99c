-- What is left of the listing: every step writes its beginning, and leaves the rest.
use Prim.Native.Nat.{ℕ, zero, suc, ◌+◌, ◌-◌, ◌≤◌, ◌<◌}
use mathlib.Core.Path.{◌≡◌, refl, sym, ap, ◌∙◌}
use mathlib.Core.Bool.{Bool, true, false}
use mathlib.Core.Logic.{◌⊎◌, ⊎_elim}
use mathlib.Core.List.{List, [], ◌++◌, append_assoc, append-nil}
use native.Mathlib.Omega.{arith}
use lib.Dec.{ltb}
use lib.ListN.{length}
use Rattle.meaning.specs.declared.Answer.{Answer}
use Rattle.meaning.specs.Plain.{when◌then◌else◌}
use Rattle.meaning.specs.Header.{by_vci, by_vpi}
use Rattle.meaning.specs.Words.{without_second}
use Rattle.list_lines.specs.Lines.{stop_line}
use Rattle.trace_record.specs.Trace.{TraceRecord, GM, VO, VX, CA, SL, VS, PO, PX, head_options, Stands, event, finish, refusal, stands_at}
use Rattle.trace_record.specs.Fits.{Fits, stands_fits}
use Rattle.list_meaning.specs.declared.Tally.{Tally}
use Rattle.list_meaning.specs.Trace.{Call, set_up, open_connection, close_connection, serve, Calls, finished, stopped, call, pauses, cell_of, record_calls, calls_at, calls_from}
use Rattle.list_meaning.specs.Listing.{recount, end_of, line_of, state_after, answers_after, ends_run, lines_of}
use Rattle.list_whole.specs.Run.{World, Step, no_tally, called, paused, ended, record_step, stands_step, step, after, text_of}
use Rattle.list_whole.proofs.Within.{within}
use Rattle.list_whole.proofs.Ran.{sided, step_idle, step_read}
use Rattle.list_whole.proofs.Recount.{recount_none, tally_recount}

-- the lines of the calls from where a run stands, unless it is done
abbrev rest_of : World → List Answer → Calls → List ℕ
rest_of w h cs = when w.done then [] else lines_of w.state h cs

-- t is what the run from w still writes: the calls of the pause and of the records that follow, after slots with the
-- answers h
pub record Rest (more : Bool) (trace : List ℕ) (w : World) (t : List ℕ) : Type 0 where
  pub fuel : ℕ
  pub answers : List Answer
  pub enough : length trace - w.at < fuel
  pub counts : w.tally ≡ recount answers
  pub is : t ≡ rest_of w answers (pauses w.left (calls_from fuel more trace w.at))

-- a step's text, and what is left after it
pub record Left (more : Bool) (trace : List ℕ) (s : Step) (t : List ℕ) : Type 0 where
  pub later : List ℕ
  pub cut : t ≡ s.text ++ later
  pub rest : Rest more trace s.world later

-- ---- a call

split_if : (b : Bool) (l e m : List ℕ) → l ++ (when b then e else m) ≡ (l ++ (when b then e else [])) ++ (when b then [] else m)
split_if true l e m = sym (append-nil (l ++ e))
split_if false l e m = ap (λ (x : List ℕ). x ++ m) (sym (append-nil l))

lines_called : (w : World) (h : List Answer) (c : Call) (at left : ℕ) (cs : Calls)
    → lines_of w.state h (call c cs)
    ≡ (called w c at left).text ++ rest_of (called w c at left).world (answers_after w.state h c) cs
unfolding lines_of called
lines_called w h c at left cs =
    ap (λ (x : Tally). line_of w.state c ++ (when ends_run w.state c then end_of x else lines_of (state_after w.state c) (answers_after w.state h c) cs)) (sym recount_none)
    ∙ split_if (ends_run w.state c) (line_of w.state c) (end_of no_tally) (lines_of (state_after w.state c) (answers_after w.state h c) cs)

module _ (more : Bool) (trace : List ℕ) where
  -- a call, then so many slots of a pause, then the record at `at`
  called_left : (w : World) (h : List Answer) (c : Call) (at left k : ℕ) → length trace - at < k → w.tally ≡ recount h
      → Left more trace (called w c at left) (lines_of w.state h (call c (pauses left (calls_from k more trace at))))
  unfolding called
  called_left w h c at left k n e =
      record {
        later = rest_of (called w c at left).world (answers_after w.state h c) (pauses left (calls_from k more trace at));
        cut = lines_called w h c at left (pauses left (calls_from k more trace at));
        rest = record {
          fuel = k;
          answers = answers_after w.state h c;
          enough = n;
          counts = tally_recount w.state w.tally h c e;
          is = refl;
        };
      }

  -- the end of a run
  ended_left : (w : World) (h : List Answer) (k : ℕ) (before : List ℕ) → length trace - w.at < k → w.tally ≡ recount h
      → Left more trace (ended w before) (before ++ end_of (recount h))
  unfolding ended
  ended_left w h k before n e =
      record {
        later = [];
        cut = ap (λ (x : Tally). before ++ end_of x) (sym e) ∙ sym (append-nil (before ++ end_of w.tally));
        rest = record { fuel = k; answers = h; enough = n; counts = e; is = refl };
      }

  module _ (w : World) (h : List Answer) (going : w.done ≡ false) (counts : w.tally ≡ recount h) where
    record_left : (r : TraceRecord) (next k : ℕ) → length trace - next < k
        → Left more trace (record_step trace w r next) (lines_of w.state h (record_calls trace r (calls_from k more trace next)))
    unfolding record_step record_calls pauses paused
    record_left (GM N z head) next k n = called_left w h (set_up N z (head_options head)) next 0 k n counts
    record_left (VO vci m F C) next k n = called_left w h (open_connection (by_vci vci) m F C without_second) next 0 k n counts
    record_left (VS vci m F C x) next k n = called_left w h (open_connection (by_vci vci) m F C x) next 0 k n counts
    record_left (PO vpi m F C) next k n = called_left w h (open_connection (by_vpi vpi) m F C without_second) next 0 k n counts
    record_left (VX vci) next k n = called_left w h (close_connection (by_vci vci)) next 0 k n counts
    record_left (PX vpi) next k n = called_left w h (close_connection (by_vpi vpi)) next 0 k n counts
    record_left (CA start) next k n = called_left w h (serve (cell_of trace start)) next 0 k n counts
    record_left (SL count) next k n =
        record {
          later = lines_of w.state h (pauses count (calls_from k more trace next));
          cut = refl;
          rest = record { fuel = k; answers = h; enough = n; counts = counts; is = rw going };
        }

    stands_left : (s : Stands) → Fits trace w.at s → (k : ℕ) → length trace - w.at < suc k
        → Left more trace (stands_step more trace w s) (lines_of w.state h (calls_at more trace (calls_from k more trace) w.at s))
    unfolding stands_step calls_at lines_of
    stands_left (event r next) f k n =
        let i = within trace w.at r next f in
        record_left r next k (omega (arith, i.0, i.1))
    stands_left finish f k n = finish_left more
      where
        finish_left : (b : Bool) → Left more trace (ended w (when b then stop_line w.at else [])) (lines_of w.state h (when b then stopped w.at else finished))
        finish_left true = ended_left w h (suc k) (stop_line w.at) n counts
        finish_left false = ended_left w h (suc k) [] n counts
    stands_left (refusal number place) f k n = ended_left w h (suc k) (stop_line place) n counts

  -- one step of a run that isn't done
  idle_left : (w : World) (t : List ℕ) → w.done ≡ false → 0 < w.left → Rest more trace w t
      → Left more trace (called w (serve []) w.at (w.left - 1)) t
  unfolding pauses
  idle_left w t d l r =
      let e : w.left ≡ suc (w.left - 1) = omega arith in
      let is : t ≡ lines_of w.state r.answers (pauses (suc (w.left - 1)) (calls_from r.fuel more trace w.at)) =
      r.is ∙ ap (λ (b : Bool). when b then [] else lines_of w.state r.answers (pauses w.left (calls_from r.fuel more trace w.at))) d
      ∙ ap (λ (n : ℕ). lines_of w.state r.answers (pauses n (calls_from r.fuel more trace w.at))) e in
      rw is (called_left w r.answers (serve []) w.at (w.left - 1) r.fuel r.enough r.counts)

  read_left : (w : World) (t : List ℕ) → w.done ≡ false → w.left ≡ 0 → Rest more trace w t
      → Left more trace (stands_step more trace w (stands_at trace w.at)) t
  unfolding pauses calls_from
  read_left w t d l r = go r.fuel r.enough r.is
    where
      go : (k : ℕ) → length trace - w.at < k → t ≡ rest_of w r.answers (pauses w.left (calls_from k more trace w.at))
          → Left more trace (stands_step more trace w (stands_at trace w.at)) t
      go zero n e = absurd (omega arith)
      go (suc k) n e =
          let is : t ≡ lines_of w.state r.answers (calls_at more trace (calls_from k more trace) w.at (stands_at trace w.at)) =
          e ∙ ap (λ (b : Bool). when b then [] else lines_of w.state r.answers (pauses w.left (calls_from (suc k) more trace w.at))) d
          ∙ ap (λ (n : ℕ). lines_of w.state r.answers (pauses n (calls_from (suc k) more trace w.at))) l in
          rw is (stands_left w r.answers d r.counts (stands_at trace w.at) (stands_fits trace w.at) k n)

  pub step_left : (w : World) (t : List ℕ) → w.done ≡ false → Rest more trace w t → Left more trace (step more trace w) t
  step_left w t d r =
      ⊎_elim
      (λ (l : 0 < w.left). rw (step_idle more trace w d l) (idle_left w t d l r))
      (λ (l : w.left ≤ 0). rw (step_read more trace w d (omega arith)) (read_left w t d (omega arith) r))
      (sided 0 w.left (ltb 0 w.left) refl)

  -- steps, none of them from a run that is done
  pub record Later (w : World) (k : ℕ) (t : List ℕ) : Type 0 where
    pub later : List ℕ
    pub cut : t ≡ text_of more trace k w ++ later
    pub rest : Rest more trace (after more trace k w) later

  pub steps_left : (w : World) (t : List ℕ) (k : ℕ) → ((j : ℕ) → j < k → (after more trace j w).done ≡ false)
      → Rest more trace w t → Later w k t
  unfolding after text_of
  steps_left w t zero g r = record { later = t; cut = refl; rest = r }
  steps_left w t (suc k) g r =
      let a = steps_left w t k (λ j h. g j (omega arith)) r in
      let b = step_left (after more trace k w) a.later (g k (omega arith)) a.rest in
      record {
        later = b.later;
        cut = a.cut ∙ ap (λ (x : List ℕ). text_of more trace k w ++ x) b.cut
            ∙ sym (append_assoc (text_of more trace k w) (step more trace (after more trace k w)).text b.later);
        rest = b.rest;
      }

  pub done_left : (w : World) (t : List ℕ) → w.done ≡ true → Rest more trace w t → t ≡ []
  done_left w t d r = r.is ∙ ap (λ (b : Bool). when b then [] else lines_of w.state r.answers (pauses w.left (calls_from r.fuel more trace w.at))) d
