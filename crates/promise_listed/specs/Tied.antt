-- A state of the new form and one of the old that differ in the links alone, and in what each holds of free spaces. A proof device.
--
--   beneath n b s list   == the state s as the old form has it: its own links; n and b stand where it reads nothing
--   Chains   == the links lead through the Output List o and the queues q, entry by entry
--   Tied     == both links lead through the same lists, the old ones also through the Free List, which holds the free spaces
--   Led      == the outcome of a step of the old form is that of the new one, and both are tied again; P holds of the Free List's ends
use Rattle.std.specs.Prelude.{ℕ, ◌+◌, ◌*◌, ◌≤◌, ◌<◌, ◌≡◌, ◌≢◌, List, length}
use Rattle.meaning.specs.Plain.{when◌then◌else◌, ◌=?◌, Out, refused, next}
use Rattle.meaning.specs.Numbers.{most_n, bit_words}
use Rattle.meaning.specs.State.{State, state_of, Ends, output_list}
use Rattle.meaning.specs.Lists.{entry_at}
use Rattle.meaning.specs.Work.{Work, work_of}
use Rattle.meaning_listed.specs.Listed.{ListedWork, work_with}
use Rattle.theory_chains.specs.Strung.{inside, self, cnt, Strung}
use Rattle.theory_memory.specs.Held.{free_at}

abbrev pub beneath : ℕ → List ℕ → State → List ℕ → State
beneath n b s list =
    let r = s.ctl in
    state_of
    (record {
      n = r.n;
      v = r.v;
      t = r.t;
      turn = r.turn;
      rotation = r.rotation;
      free = n;
      outhead = r.outhead;
      outtail = r.outtail;
      raw = r.raw;
      mode = r.mode;
      kind = r.kind;
      splitvci = r.splitvci;
      splitpath = r.splitpath;
    }) s.cells list s.calendar s.words b s.arrived

abbrev pub over : ℕ → List ℕ → Work → List ℕ → Ends → ListedWork
over n b w list free = work_with (work_of (beneath n b w.state list) w.answer) free

pub record Chains (N : ℕ) (links calendar : List ℕ) (out : Ends) (o : List ℕ) (q : ℕ → List ℕ) : Type 0 where
  pub long : length links ≡ N
  pub out_is : Strung self links out o
  pub queues_are : (e : ℕ) → e < N → Strung self links (entry_at calendar e) (q e)

pub record Tied (N turn : ℕ) (links calendar : List ℕ) (out : Ends) (bits list : List ℕ) (free : Ends) : Type 0 where
  pub o : List ℕ
  pub q : ℕ → List ℕ
  pub fl : List ℕ
  pub most : N ≤ most_n
  pub turn_low : turn < N
  pub calendar_long : length calendar ≡ 2 * N
  pub bits_long : length bits ≡ bit_words
  pub new : Chains N links calendar out o q
  pub old : Chains N list calendar out o q
  pub free_is : Strung self list free fl
  pub frees : (k : ℕ) → cnt self k fl ≡ free_at bits k
  pub within : (k e : ℕ) → e < N → cnt self k fl + cnt self k o + cnt self k (q e) ≤ inside k N
  pub apart : (k e d : ℕ) → e < N → d < N → e ≢ d → cnt self k (q e) + cnt self k (q d) ≤ 1

abbrev pub TiedAt : State → List ℕ → Ends → Type 0
TiedAt s list free = Tied s.ctl.n s.ctl.turn s.links s.calendar (output_list s) s.bits list free

-- the queues with another one at entry e
abbrev pub upd : (ℕ → List ℕ) → ℕ → List ℕ → ℕ → List ℕ
upd q e l d = when d =? e then l else q d

pub record Led (n : ℕ) (b : List ℕ) (P : Ends → Type 0) (w : Work) (y : Out ListedWork) : Type 0 where
  pub list : List ℕ
  pub free : Ends
  pub is : y ≡ next (over n b w list free)
  pub tied : TiedAt w.state list free
  pub holds : P free

abbrev pub Follows : ℕ → List ℕ → (Ends → Type 0) → Out Work → Out ListedWork → Type 0
Follows n b P refused y = Unit {0}
Follows n b P (next w) y = Led n b P w y
