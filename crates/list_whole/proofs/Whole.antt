-- However the fills cut it, what they hand over is the listing of the input; and a fill's promise allows one result.
use Prim.Native.Nat.{ℕ, zero, suc, ◌+◌, ◌-◌, ◌*◌, ◌≤◌, ◌<◌}
use mathlib.Core.Path.{◌≡◌, refl, sym, ap, subst, ◌∙◌}
use mathlib.Core.Bool.{Bool, true, false, not}
use mathlib.Core.Logic.{◌⊎◌, inl, inr, ⊎_elim}
use mathlib.Core.List.{List, [], ◌++◌, append_assoc, append-nil}
use native.Mathlib.Omega.{arith}
use borrow.Author.Tests.{eq-eqb}
use lib.Dec.{ltb}
use lib.ListN.{length, take, replicate, length-take, length-replicate}
use Rattle.meaning.specs.Plain.{when◌then◌else◌, ◌=?◌}
use Rattle.meaning.specs.Numbers.{ranges_hold, kind_in_range, octets, per_entry, words_in, bit_words, splits_hold}
use Rattle.meaning.specs.State.{State, state_of, lengths_hold, words_length, with_record}
use Rattle.meaning.specs.Calls.{Kind, UNI, NNI, kind_number, kind_of, Options, SetUp, set_up_of, zeros, setup, fresh_state, asked_for}
use Rattle.meaning.proofs.OperatorsLaws.{alone_holds}
use Rattle.list_lines.specs.Lines.{setup_line}
use Rattle.list_lines.specs.Put.{Put}
use Rattle.list_lines.proofs.Puts.{put_front, put_once}
use Rattle.trace_record.specs.Trace.{GM, VO, VX, CA, SL, VS, PO, PX, head_options, Stands, event, finish, refusal, stands_at}
use Rattle.trace_record.specs.Fits.{Fits, stands_fits}
use Rattle.list_meaning.specs.Trace.{set_up, Calls, stopped, call, pauses, record_calls, calls_at, calls_from, calls_of, limit, goes_further}
use Rattle.list_meaning.specs.Listing.{end_of, recount, line_of, state_after, answers_after, ends_run, lines_of, lent_for, listing_of}
use Rattle.list_whole.specs.Run.{World, world_of, after, text_of}
use Rattle.list_whole.specs.Fill.{room, FillOf, FillPromise, Fills, no_fill, fill_more, LentFor, start_run, sizes_at, sizes_of}
use Rattle.list_whole.proofs.Ran.{sided}
use Rattle.list_whole.proofs.Cut.{take-take, goes_on}
use Rattle.list_whole.proofs.Recount.{recount_none}
use Rattle.list_whole.proofs.Rest.{Rest, steps_left, done_left}
use Rattle.list_whole.proofs.Weight.{weight, Onward, weight_falls, steps_onward, not_both}

-- ---- memory of the right sizes

lent_holds : (N z : ℕ) (cells links calendar words bits arrived : List ℕ)
    → LentFor (record { n = N; v = z }) (world_of start_run cells links calendar words bits arrived)
    → lengths_hold N z cells links calendar words bits arrived ≡ true
unfolding lengths_hold words_length
lent_holds N z cells links calendar words bits arrived s =
    simp (eq-eqb _ _ s.cells_long_lem, eq-eqb _ _ s.links_long, eq-eqb _ _ s.calendar_long, eq-eqb _ _ s.words_long, eq-eqb _ _ s.bits_long, eq-eqb _ _ s.arrived_long)

-- setup as a trace's head has it
setup_as : (N z : ℕ) → Options → State → SetUp
setup_as N z o lent = setup N z (asked_for o) lent

-- the number of a line kind is that of a line kind, and of no other
kind_fits : (k : Kind) → kind_in_range (kind_number k) ≡ true
unfolding kind_in_range
kind_fits UNI = refl
kind_fits NNI = refl

kind_again : (k : Kind) → kind_of (kind_number k) ≡ k
kind_again UNI = refl
kind_again NNI = refl

-- setup on any memory of the right sizes
setup_fresh : (N z : ℕ) (o : Options) (lent : State) → ranges_hold N z ≡ true → splits_hold z o.splitvci o.splitpath ≡ true
    → lengths_hold N z lent.cells lent.links lent.calendar lent.words lent.bits lent.arrived ≡ true
    → setup_as N z o lent ≡ set_up_of 0 (fresh_state N z o)
unfolding setup setup_as
setup_fresh N z o lent r t l = simp (r, t, l, kind_fits o.kind, kind_again o.kind)

setup_ranges : (N z : ℕ) (o : Options) (lent : State) → ranges_hold N z ≡ false → setup_as N z o lent ≡ set_up_of 1 (with_record lent zeros)
unfolding setup setup_as
setup_ranges N z o lent r = simp r

-- the lines of a setup and of what follows, by what setup gives back
setup_lines : (N z : ℕ) → Calls → SetUp → List ℕ
setup_lines N z rest x =
    setup_line N z x.number ++ (when not (x.number =? 0) then end_of (recount []) else lines_of x.state [] rest)

lines_setup : (s : State) (N z : ℕ) (o : Options) (rest : Calls)
    → lines_of s [] (call (set_up N z o) rest) ≡ setup_lines N z rest (setup_as N z o s)
unfolding lines_of line_of ends_run state_after answers_after setup_lines setup_as
lines_setup s N z o rest = refl

refused_lines : (N z : ℕ) (rest : Calls) (a b : State) → setup_lines N z rest (set_up_of 1 a) ≡ setup_lines N z rest (set_up_of 1 b)
unfolding setup_lines
refused_lines N z rest a b = refl

module _ (cells links calendar words bits arrived : List ℕ) where
  setup_lines_lem : (N z : ℕ) (o : Options) (split : ranges_hold N z ≡ true → splits_hold z o.splitvci o.splitpath ≡ true) (rest : Calls) (b : Bool)
      → ranges_hold N z ≡ b
      → LentFor (when b then record { n = N; v = z } else record { n = 0; v = 0 }) (world_of start_run cells links calendar words bits arrived)
      → lines_of (state_of zeros cells links calendar words bits arrived) [] (call (set_up N z o) rest) ≡ lines_of (lent_for (call (set_up N z o) rest)) [] (call (set_up N z o) rest)
  unfolding lent_for
  setup_lines_lem N z o split rest true r s =
      let c : List ℕ = replicate (octets * N) 0 in
      let l : List ℕ = replicate N 0 in
      let k : List ℕ = replicate (per_entry * N) 0 in
      let w : List ℕ = replicate (words_in z) 0 in
      let g : List ℕ = replicate bit_words 0 in
      let a : List ℕ = replicate N 0 in
      let h : LentFor (record { n = N; v = z }) (world_of start_run c l k w g a) =
      record {
        cells_long_lem = length-replicate {A = ℕ} (octets * N) 0;
        links_long = length-replicate {A = ℕ} N 0;
        calendar_long = length-replicate {A = ℕ} (per_entry * N) 0;
        words_long = length-replicate {A = ℕ} (words_in z) 0;
        bits_long = length-replicate {A = ℕ} bit_words 0;
        arrived_long = length-replicate {A = ℕ} N 0;
      } in
      lines_setup (state_of zeros cells links calendar words bits arrived) N z o rest
      ∙ ap (setup_lines N z rest) (setup_fresh N z o (state_of zeros cells links calendar words bits arrived) r (split r) (lent_holds N z cells links calendar words bits arrived s)
      ∙ sym (setup_fresh N z o (state_of zeros c l k w g a) r (split r) (lent_holds N z c l k w g a h)))
      ∙ sym (lines_setup (state_of zeros c l k w g a) N z o rest)
  setup_lines_lem N z o split rest false r s =
      let c : List ℕ = replicate (octets * N) 0 in
      let l : List ℕ = replicate N 0 in
      let k : List ℕ = replicate (per_entry * N) 0 in
      let w : List ℕ = replicate (words_in z) 0 in
      let g : List ℕ = replicate bit_words 0 in
      let a : List ℕ = replicate N 0 in
      lines_setup (state_of zeros cells links calendar words bits arrived) N z o rest
      ∙ ap (setup_lines N z rest) (setup_ranges N z o (state_of zeros cells links calendar words bits arrived) r)
      ∙ refused_lines N z rest _ _
      ∙ sym (ap (setup_lines N z rest) (setup_ranges N z o (state_of zeros c l k w g a) r))
      ∙ sym (lines_setup (state_of zeros c l k w g a) N z o rest)

  stands_lines : (more : Bool) (trace : List ℕ) (go : ℕ → Calls) (s : Stands) → Fits trace 0 s
      → LentFor (sizes_at s) (world_of start_run cells links calendar words bits arrived)
      → lines_of (state_of zeros cells links calendar words bits arrived) [] (calls_at more trace go 0 s) ≡ lines_of (lent_for (calls_at more trace go 0 s)) [] (calls_at more trace go 0 s)
  unfolding calls_at record_calls sizes_at lines_of
  stands_lines more trace go (event (GM N z head) next) f s = setup_lines_lem N z (head_options head) (alone_holds N z) (go next) (ranges_hold N z) refl s
  stands_lines more trace go (event (VO vci m F C) next) f s = absurd (omega (arith, f.2))
  stands_lines more trace go (event (VS vci m F C x) next) f s = absurd (omega (arith, f.2))
  stands_lines more trace go (event (VX vci) next) f s = absurd (omega (arith, f.2))
  stands_lines more trace go (event (PO vpi m F C) next) f s = absurd (omega (arith, f.2))
  stands_lines more trace go (event (PX vpi) next) f s = absurd (omega (arith, f.2))
  stands_lines more trace go (event (CA start) next) f s = absurd (omega (arith, f.2.0))
  stands_lines more trace go (event (SL count) next) f s = absurd (omega (arith, f.2.0))
  stands_lines more trace go finish f s = absurd (omega (arith, f.0))
  stands_lines more trace go (refusal number place) f s = stop_lines place
    where
      stop_lines : (p : ℕ) → lines_of (state_of zeros cells links calendar words bits arrived) [] (stopped p) ≡ lines_of (lent_for (stopped p)) [] (stopped p)
      stop_lines p = refl

  -- on memory of the right sizes the listing is that of the input, whatever the memory holds
  pub lines_are : (input : List ℕ) → LentFor (sizes_of input) (world_of start_run cells links calendar words bits arrived)
      → lines_of (state_of zeros cells links calendar words bits arrived) [] (calls_of input) ≡ listing_of input
  unfolding listing_of calls_of calls_from sizes_of
  lines_are input s =
      stands_lines (goes_further input) (take limit input) _ (stands_at (take limit input) 0) (stands_fits (take limit input) 0) s

  pub start_rest : (input : List ℕ) → LentFor (sizes_of input) (world_of start_run cells links calendar words bits arrived)
      → Rest (goes_further input) (take limit input) (world_of start_run cells links calendar words bits arrived) (listing_of input)
  unfolding start_run calls_of pauses
  start_rest input s =
      record {
        fuel = limit + 1;
        answers = [];
        enough = omega (arith, length-take limit input);
        counts = recount_none;
        is = sym (lines_are input s);
      }

-- ---- fills

fill_text : (input : List ℕ) {out out' : List ℕ} {w w' : World} {used : ℕ} (f : FillPromise input w out w' out' used)
    → take used out' ≡ text_of (goes_further input) (take limit input) f.steps w
fill_text input f = put_front f.ran.put f.within

-- u was put by fills that leave the run at w, and later is what a run still writes of t
pub record Begun (input t u : List ℕ) (w : World) : Type 0 where
  pub later : List ℕ
  pub cut : t ≡ u ++ later
  pub rest : Rest (goes_further input) (take limit input) w later

fills_left : (input : List ℕ) {w : World} {out : List ℕ} {k : ℕ} {out' u : List ℕ} {w' : World} (t : List ℕ)
    → Rest (goes_further input) (take limit input) w t → Fills input w out k u w' out' → Begun input t u w'
fills_left input t r no_fill = record { later = t; cut = refl; rest = r }
fills_left input t r (fill_more {t = u} {out'' = out''} {w' = w'} used fs going f) =
    let b = fills_left input t r fs in
    let a = steps_left (goes_further input) (take limit input) w' b.later f.steps (λ j h. (f.ran.before j h).0) b.rest in
    record {
      later = a.later;
      cut = b.cut ∙ ap (λ (x : List ℕ). u ++ x) (a.cut ∙ ap (λ (x : List ℕ). x ++ a.later) (sym (fill_text input f)))
          ∙ sym (append_assoc u (take used out'') a.later);
      rest = subst (λ (x : World). Rest (goes_further input) (take limit input) x a.later) (sym f.ran.here) a.rest;
    }

-- what fills put is a beginning of the listing
pub fills_begin : (input cells links calendar words bits arrived : List ℕ) {k : ℕ} {out out' u : List ℕ} {w : World}
    → LentFor (sizes_of input) (world_of start_run cells links calendar words bits arrived)
    → Fills input (world_of start_run cells links calendar words bits arrived) out k u w out' → Begun input (listing_of input) u w
fills_begin input cells links calendar words bits arrived s f =
    fills_left input (listing_of input) (start_rest cells links calendar words bits arrived input s) f

pub begun_done : (input : List ℕ) {t u : List ℕ} {w : World} → (b : Begun input t u w) → w.done ≡ true → b.later ≡ []
begun_done input {w = w} b d = done_left (goes_further input) (take limit input) w b.later d b.rest

-- THE LISTING: whatever the buffer, fills from the start to the end put together are `listing_of` the input
pub fills_list : (input cells links calendar words bits arrived : List ℕ) {k : ℕ} {out out' u : List ℕ} {w : World}
    → LentFor (sizes_of input) (world_of start_run cells links calendar words bits arrived)
    → Fills input (world_of start_run cells links calendar words bits arrived) out k u w out' → w.done ≡ true → u ≡ listing_of input
fills_list input cells links calendar words bits arrived {u = u} s f d =
    let b = fills_begin input cells links calendar words bits arrived s f in
    sym (b.cut ∙ ap (λ (x : List ℕ). u ++ x) (begun_done input b d) ∙ append-nil u)

-- ---- one fill

module _ {more : Bool} {trace out a-out b-out : List ℕ} {w a-w b-w : World} {a-used b-used : ℕ} where
  not_fewer : FillOf more trace w out a-w a-out a-used → (b : FillOf more trace w out b-w b-out b-used) → (k : ℕ)
      → a-w ≡ after more trace k w → Put out 0 (text_of more trace k w) a-out a-used → k < b.steps
      → (a-w.done ≡ true) ⊎ (length out < a-used + room) → ⊥
  not_fewer a b k e p l (inl d) = not_both (sym (ap (λ (x : World). x.done) e) ∙ d) (b.ran.before k l).0
  not_fewer a b k e p l (inr n) = omega (arith, n, p.next, (b.ran.before k l).1)

-- two fills that one promise allows make the same steps
pub fill_steps : {more : Bool} {trace out a-out b-out : List ℕ} {w a-w b-w : World} {a-used b-used : ℕ}
    (a : FillOf more trace w out a-w a-out a-used) (b : FillOf more trace w out b-w b-out b-used) → a.steps ≡ b.steps
fill_steps a b =
    ⊎_elim
    (λ (l : a.steps < b.steps). absurd (not_fewer a b a.steps a.ran.here a.ran.put l a.full))
    (λ (l : b.steps ≤ a.steps).
    ⊎_elim
    (λ (m : b.steps < a.steps). absurd (not_fewer b a b.steps b.ran.here b.ran.put m b.full))
    (λ (m : a.steps ≤ b.steps). omega arith)
    (sided b.steps a.steps (ltb b.steps a.steps) refl))
    (sided a.steps b.steps (ltb a.steps b.steps) refl)

-- two results of a fill's promise coincide: the run with the memories, the buffer, and how much of it is used
pub fill_once : (input : List ℕ) {out a-out b-out : List ℕ} {w a-w b-w : World} {a-used b-used : ℕ}
    → FillPromise input w out a-w a-out a-used → FillPromise input w out b-w b-out b-used
    → (a-w ≡ b-w) × (a-out ≡ b-out) × (a-used ≡ b-used)
fill_once input {out} {a-out} {b-out} {w} {a-w} {b-w} {a-used} {b-used} a b =
    let e = fill_steps a b in
    let p : Put out 0 (text_of (goes_further input) (take limit input) b.steps w) a-out a-used =
    subst (λ (k : ℕ). Put out 0 (text_of (goes_further input) (take limit input) k w) a-out a-used) e a.ran.put in
    let o = put_once p b.ran.put in
    (a.ran.here ∙ ap (λ (k : ℕ). after (goes_further input) (take limit input) k w) e ∙ sym b.ran.here, o.0, o.1)

-- where there is room and the run isn't done, a fill leads on
fill_some : (input : List ℕ) {out out' : List ℕ} {w w' : World} {used : ℕ} → room ≤ length out → w.done ≡ false
    → (f : FillPromise input w out w' out' used) → 0 < f.steps
unfolding after text_of
fill_some input {out} {out'} {w} {w'} {used} r d f = go f.steps f.ran.here f.ran.put f.full
  where
    go : (k : ℕ) → w' ≡ after (goes_further input) (take limit input) k w
        → Put out 0 (text_of (goes_further input) (take limit input) k w) out' used
        → (w'.done ≡ true) ⊎ (length out < used + room) → 0 < k
    go zero e p (inl t) = absurd (not_both (sym (ap (λ (x : World). x.done) e) ∙ t) d)
    go zero e p (inr n) = absurd (omega (arith, n, p.next, r))
    go (suc k) e p (inl t) = omega arith
    go (suc k) e p (inr n) = omega arith

pub fill_falls : (input : List ℕ) {out out' : List ℕ} {w w' : World} {used : ℕ} → room ≤ length out → w.done ≡ false → w'.left ≤ 65_535
    → FillPromise input w out w' out' used → weight (length (take limit input)) w' < weight (length (take limit input)) w
fill_falls input {out} {out'} {w} {w'} r d l f =
    weight_falls (length (take limit input)) w w' d l
    (subst (λ (x : World). Onward (length (take limit input)) w x) (sym f.ran.here)
    (steps_onward (goes_further input) (take limit input) w f.steps (fill_some input r d f) (λ j h. (f.ran.before j h).0)))

-- ---- what the program reads of an input is enough

pub limit_enough : (input : List ℕ) → listing_of (take (limit + 1) input) ≡ listing_of input
unfolding listing_of calls_of goes_further
limit_enough input =
    let cut : take limit (take (limit + 1) input) ≡ take limit input = take-take input in
    let goes : ltb limit (length (take (limit + 1) input)) ≡ ltb limit (length input) = goes_on input in
    rw (cut, goes)
