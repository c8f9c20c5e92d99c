-- What one call promises is what its step does: the calls' own promises, turned into steps.
use Rattle.std.proofs.Common.{◌≡◌, ℕ, ◌+◌, ◌≤◌, Bool, true, false, not, List, [], ◌++◌, sym, ap, ◌∙◌, append-nil, arith, eq-eqb, ne_eqb}
use Rattle.meaning.specs.declared.Fresh.{Fresh}
use Rattle.meaning.specs.declared.Served.{Served}
use Rattle.meaning.specs.Plain.{when◌then◌else◌, ◌=?◌}
use Rattle.meaning.specs.State.{state_of, with_record, with_words}
use Rattle.meaning.specs.Header.{Name, number_in}
use Rattle.meaning.specs.Operators.{second_operator}
use Rattle.meaning.specs.Words.{Second}
use Rattle.meaning.specs.Calls.{Options, kind_number, asked_of, asked_for, SetUp, set_up_of, zeros, Called, called_of}
use Rattle.meaning.specs.Work.{Work, work_of}
use Rattle.meaning.specs.Promises.{setup_promise, open_promise, close_promise, slot_promise}
use Rattle.meaning.proofs.SetupLaws.{record_apart}
use Rattle.list_lines.specs.Lines.{setup_line, open_line, close_line, slot_line}
use Rattle.list_lines.specs.Put.{Put}
use Rattle.list_lines.proofs.Puts.{put_is, put_then}
use Rattle.list_meaning.specs.declared.Tally.{Tally}
use Rattle.list_whole.specs.declared.Run.{Run}
use Rattle.list_meaning.specs.Trace.{set_up, open_connection, close_connection, serve}
use Rattle.list_meaning.specs.Listing.{end_of, line_of, state_after, ends_run}
use Rattle.list_whole.specs.Run.{World, onward, world_of, counted, no_tally, tally_after, called}
use Rattle.list_whole.specs.Fill.{room, Did}

abbrev world_by : (at left : ℕ) → Tally → Work → World
world_by at left t w =
    record { state = w.state; at = at; left = left; done = false; tally = counted t w.answer }

pub serve_did : (run : Run) (at left : ℕ) (cells links calendar words bits arrived cell out : List ℕ) (used : ℕ)
    (r : Served) (cells' links' calendar' words' bits' arrived' : List ℕ) (tally : Tally) (out' : List ℕ) (used' : ℕ)
    → slot_promise (state_of run.ctl cells links calendar words bits arrived) cell (work_of (state_of r.ctl cells' links' calendar' words' bits' arrived') r.answer)
    → tally ≡ counted run.tally r.answer
    → Put out used (slot_line r.ctl.t r.answer) out' used'
    → used' ≤ used + 64
    → Did (called (world_of run cells links calendar words bits arrived) (serve cell) at left) 64 out used
    (world_of (onward r.ctl at left false tally) cells' links' calendar' words' bits' arrived') out' used'
unfolding called line_of state_after ends_run tally_after
serve_did run at left cells links calendar words bits arrived cell out used r cells' links' calendar' words' bits' arrived' tally out' used' e q p f =
    let text : Work → List ℕ = λ w. slot_line w.state.ctl.t w.answer in
    record {
      world =
          ap (λ (x : Tally). world_of (onward r.ctl at left false x) cells' links' calendar' words' bits' arrived') q
          ∙ ap (world_by at left run.tally) e;
      put = put_is (append-nil _ ∙ sym (ap text e)) p;
      few = f;
    }

-- counts that are all 0
pub no_counts : (t : Tally) → (t.accepted ≡ 0) × ((t.excess ≡ 0) × ((t.unknown ≡ 0) × (t.sent ≡ 0))) → t ≡ no_tally
no_counts t h =
    let e : record { accepted = t.accepted; excess = t.excess; unknown = t.unknown; sent = t.sent } ≡ no_tally = rw (h.0, h.1.0, h.1.1.0, h.1.1.1) in
    e

-- ---- open and close

module _ (run run' : Run) (next : ℕ) (cells links calendar words words' bits arrived out out' : List ℕ) (used used' number : ℕ)
    (going : run.done ≡ false) (moved : run' ≡ onward run.ctl next 0 run.done run.tally) (few : used' ≤ used + 64) where
  reworded : {k : Called} → called_of number words' ≡ k
      → world_of run' cells links calendar words' bits arrived
      ≡ record { state = with_words (state_of run.ctl cells links calendar words bits arrived) k.words; at = next; left = 0; done = false; tally = run.tally }
  unfolding with_words
  reworded e =
      ap (λ (x : Run). world_of x cells links calendar words' bits arrived) moved
      ∙ ap (λ (b : Bool). world_of (onward run.ctl next 0 b run.tally) cells links calendar words' bits arrived) going
      ∙ ap (λ (k : Called). world_of (onward run.ctl next 0 false run.tally) cells links calendar k.words bits arrived) e

  -- c is the connection's number, as its line shows it
  pub open_did : (name : Name) (c m F C : ℕ) (x : Second) → c ≡ number_in run.ctl.v name
      → open_promise run.ctl words second_operator name m F C x number words'
      → Put out used (open_line c number) out' used'
      → Did (called (world_of run cells links calendar words bits arrived) (open_connection name m F C x) next 0) room out used
      (world_of run' cells links calendar words' bits arrived) out' used'
  unfolding called line_of state_after ends_run tally_after
  open_did name c m F C x is e p =
      record {
        world = reworded e;
        put = put_is (append-nil _ ∙ sym (ap (λ (n : ℕ). open_line n number) is ∙ ap (λ (k : Called). open_line (number_in run.ctl.v name) k.number) e)) p;
        few = omega arith;
      }

  pub close_did : (name : Name) (c : ℕ) → c ≡ number_in run.ctl.v name
      → close_promise run.ctl words second_operator name number words'
      → Put out used (close_line c number) out' used'
      → Did (called (world_of run cells links calendar words bits arrived) (close_connection name) next 0) room out used
      (world_of run' cells links calendar words' bits arrived) out' used'
  unfolding called line_of state_after ends_run tally_after
  close_did name c is e p =
      record {
        world = reworded e;
        put = put_is (append-nil _ ∙ sym (ap (λ (n : ℕ). close_line n number) is ∙ ap (λ (k : Called). close_line (number_in run.ctl.v name) k.number) e)) p;
        few = omega arith;
      }

-- ---- setup

-- set up with what o chooses
module _ (run : Run) (N z : ℕ) (o : Options) (raw : Bool) (kind next : ℕ) (cells links calendar words bits arrived out : List ℕ) (used : ℕ)
    (r : Fresh) (cells' links' calendar' words' bits' arrived' : List ℕ) (is-raw : raw ≡ o.raw) (is-kind : kind ≡ kind_number o.kind)
    (given : setup_promise N z (asked_of raw kind o.splitvci o.splitpath) (state_of zeros cells links calendar words bits arrived) (set_up_of r.number (state_of r.ctl cells' links' calendar' words' bits' arrived'))) where
  e : setup_promise N z (asked_for o) (state_of run.ctl cells links calendar words bits arrived) (set_up_of r.number (state_of r.ctl cells' links' calendar' words' bits' arrived'))
  unfolding with_record
  e = rw (← is-raw, ← is-kind) (given ∙ sym (record_apart N z (asked_of raw kind o.splitvci o.splitpath) (state_of zeros cells links calendar words bits arrived) run.ctl))

  setup_text : SetUp → List ℕ
  setup_text x = setup_line N z x.number ++ (when not (x.number =? 0) then end_of no_tally else [])

  setup_world : SetUp → World
  setup_world x = record { state = x.state; at = next; left = 0; done = not (x.number =? 0); tally = no_tally }

  pub setup_did : (out' : List ℕ) (used' : ℕ) → r.number ≡ 0
      → Put out used (setup_line N z r.number) out' used' → used' ≤ used + 64
      → Did (called (world_of run cells links calendar words bits arrived) (set_up N z o) next 0) room out used
      (world_of (onward r.ctl next 0 false no_tally) cells' links' calendar' words' bits' arrived') out' used'
  unfolding called line_of state_after ends_run tally_after setup_text setup_world
  setup_did out' used' q p f =
      let t : not (r.number =? 0) ≡ false = simp (eq-eqb r.number 0 q) in
      record {
        world =
            ap (λ (b : Bool). world_of (onward r.ctl next 0 b no_tally) cells' links' calendar' words' bits' arrived') (sym t)
            ∙ ap setup_world e;
        put = put_is (sym (ap setup_text e) ∙ ap (λ (b : Bool). setup_line N z r.number ++ (when b then end_of no_tally else [])) t ∙ append-nil _) p;
        few = omega arith;
      }

  pub setup_ends : (out'' : List ℕ) (line : ℕ) (out' : List ℕ) (used' : ℕ) → (r.number ≡ 0 → ⊥)
      → Put out used (setup_line N z r.number) out'' line → line ≤ used + 64
      → Put out'' line (end_of no_tally) out' used' → used' ≤ line + 80
      → Did (called (world_of run cells links calendar words bits arrived) (set_up N z o) next 0) room out used
      (world_of (onward r.ctl next 0 true no_tally) cells' links' calendar' words' bits' arrived') out' used'
  unfolding called line_of state_after ends_run tally_after setup_text setup_world
  setup_ends out'' line out' used' q p f p2 f2 =
      let t : not (r.number =? 0) ≡ true = simp (ne_eqb r.number 0 q) in
      record {
        world =
            ap (λ (b : Bool). world_of (onward r.ctl next 0 b no_tally) cells' links' calendar' words' bits' arrived') (sym t)
            ∙ ap setup_world e;
        put = put_is (sym (ap setup_text e) ∙ ap (λ (b : Bool). setup_line N z r.number ++ (when b then end_of no_tally else [])) t) (put_then p p2);
        few = omega arith;
      }
