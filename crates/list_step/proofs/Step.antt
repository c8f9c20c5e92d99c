-- The cases of a step: by what stands at the run's place.
use Rattle.std.proofs.Common.{◌≡◌, ℕ, ◌+◌, ◌-◌, ◌≤◌, Bool, true, false, List, [], length, take, drop, sym, refl, ap, ◌∙◌, subst, arith}
use Rattle.meaning.specs.Numbers.{octets}
use Rattle.list_lines.specs.Lines.{stop_line}
use Rattle.trace_record.specs.declared.Event.{Event}
use Rattle.trace_record.specs.declared.Event.TheVariants.{Cell}
use Rattle.trace_record.specs.declared.Found.{Found}
use Rattle.trace_record.specs.declared.Found.TheVariants.{Read, End, Unreadable}
use Rattle.trace_record.specs.Trace.{CA, SL, finish, refusal, record_of, said_of}
use Rattle.list_lines.proofs.Puts.{put_is, put_none, put_once}
use Rattle.list_whole.specs.declared.Memory.{Memory}
use Rattle.list_whole.specs.declared.Run.{Run}
use Rattle.list_meaning.specs.Trace.{serve, cell_of}
use Rattle.list_whole.specs.Run.{World, Step, onward, world_of, called, paused, ended, record_step, stands_step}
use Rattle.list_whole.specs.Fill.{room, Did, CellWithin}
use Rattle.list_whole.specs.Lent.{world_in}

-- what is neither a record nor unreadable is the end
pub end_said : (f : Found) → ((e : Event) (next : ℕ) → f ≡ Read e next → ⊥) → ((place : ℕ) → f ≡ Unreadable place → ⊥) → finish ≡ said_of f
end_said (Read e next) h k = absurd (h e next refl)
end_said End h k = refl
end_said (Unreadable place) h k = absurd (k place refl)

-- the end, where the input goes on and where it doesn't; a refusal
pub more_step : (more : Bool) (trace : List ℕ) (w : World) → more ≡ true → ended w (stop_line w.at) ≡ stands_step more trace w finish
unfolding stands_step
more_step more trace w e = rw e

pub end_step : (more : Bool) (trace : List ℕ) (w : World) → more ≡ false → ended w [] ≡ stands_step more trace w finish
unfolding stands_step
end_step more trace w e = rw e

pub stop_step : (more : Bool) (trace : List ℕ) (w : World) (number place : ℕ)
    → ended w (stop_line place) ≡ stands_step more trace w (refusal number place)
unfolding stands_step
stop_step more trace w number place = refl

-- the octets of a cell that an event names
pub cell_within : (trace : List ℕ) (e : Event) (start : ℕ) → e ≡ Cell start → CellWithin trace (record_of e) → start + octets ≤ length trace
cell_within trace e start q h = subst (λ (x : Event). CellWithin trace (record_of x)) q h

pub did_is : {s s' : Step} {most used used' : ℕ} {out out' : List ℕ} {w : World} → s ≡ s'
    → Did s most out used w out' used' → Did s' most out used w out' used'
did_is {s} {s'} {most} {used} {used'} {out} {out'} {w} e d = subst (λ (x : Step). Did x most out used w out' used') e d

-- two results of a step's promise coincide: the run with the memories, the buffer, and how much of it is used
pub did_once : {s : Step} {most used a-used b-used : ℕ} {out a-out b-out : List ℕ} {a-w b-w : World}
    → Did s most out used a-w a-out a-used → Did s most out used b-w b-out b-used
    → (a-w ≡ b-w) × (a-out ≡ b-out) × (a-used ≡ b-used)
did_once a b =
    let p = put_once a.put b.put in
    (a.world ∙ sym b.world, p.0, p.1)

-- a cell's slot, lent the part of the trace that holds its octets
pub did_cell : (trace : List ℕ) (w : World) (start next used used' : ℕ) (out out' : List ℕ) (w' : World)
    → Did (called w (serve (take (start + octets - start) (drop start trace))) next 0) 64 out used w' out' used'
    → Did (record_step trace w (CA start) next) room out used w' out' used'
unfolding record_step cell_of
did_cell trace w start next used used' out out' w' d =
    let e : start + octets - start ≡ octets = omega arith in
    let s : ℕ → Step = λ n. called w (serve (take n (drop start trace))) next 0 in
    record {
      world = d.world ∙ ap (λ (n : ℕ). (s n).world) e;
      put = put_is (sym (ap (λ (n : ℕ). (s n).text) e)) d.put;
      few = omega (arith, d.few);
    }

pub did_pause : (trace : List ℕ) (run run' : Run) (next slots used : ℕ) (cells links calendar words bits arrived out : List ℕ)
    → run' ≡ onward run.ctl next slots run.done run.tally
    → Did (record_step trace (world_of run cells links calendar words bits arrived) (SL slots) next) room out used
    (world_of run' cells links calendar words bits arrived) out used
unfolding record_step paused
did_pause trace run run' next slots used cells links calendar words bits arrived out e =
    record { world = ap (λ (x : Run). world_of x cells links calendar words bits arrived) e; put = put_none out used; few = omega arith }

-- a step that was made with the parts in a struct, where each part ended as the struct has it
pub did_back : {s : Step} {most used used' : ℕ} {out out' : List ℕ} {run : Run} (m : Memory) {c l k w g a : List ℕ}
    → c ≡ m.cells.now → l ≡ m.links.now → k ≡ m.calendar.now → w ≡ m.words.now → g ≡ m.bits.now → a ≡ m.arrived.now
    → Did s most out used (world_in run m) out' used'
    → Did s most out used (world_of run c l k w g a) out' used'
did_back m e1 e2 e3 e4 e5 e6 d = rw (e1, e2, e3, e4, e5, e6) d
