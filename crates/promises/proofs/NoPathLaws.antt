-- With no path open the UNI answers as document 01 has it: a header with VPI not 0 names nothing, or a path that is closed, and both
-- are unknown with the VCI as read. If none was ever opened, every accepted cell is a VC's, and so is every departed one.
use Prim.Native.Nat.{ℕ, zero, suc, ◌+◌, ◌≤◌, ◌<◌}
use mathlib.Core.Path.{◌≡◌, refl, sym, ap, ◌∙◌, subst}
use mathlib.Core.Logic.{◌≢◌}
use mathlib.Core.Bool.{Bool, true, false, not, ◌&&◌, ◌||◌}
use mathlib.Core.List.{List, [], ◌∷◌, ◌++◌}
use mathlib.Core.Option.{Option, none, some}
use native.Mathlib.Decide.{ℕ_discrete, dec_lt}
use native.Mathlib.Omega.{arith}
use borrow.Author.Tests.{eq-eqb, ne_eqb, eqb-true, eqb-false, lt-ltb, le-ltb, le-leb, lt-leb, leb-false}
use lib.ListN.{length, length-append}
use Rattle.meaning.specs.declared.Answer.{Answer}
use Rattle.meaning.specs.Plain.{when◌then◌else◌, ◌<?◌, ◌≤?◌, ◌=?◌}
use Rattle.meaning.specs.Numbers.{octets, uni, nothing, unknown, dropped, empty, lets_in}
use Rattle.meaning.specs.State.{State}
use Rattle.meaning.specs.Header.{Header, vpi_high, header_of, header_at, clp_in, no_user_cell, connection, names_connection}
use Rattle.meaning.specs.Calls.{Options, kind_number, Allowed}
use Rattle.meaning.specs.Arrival.{sent_as}
use Rattle.meaning.specs.Work.{Work}
use Rattle.meaning.specs.Slot.{slot}
use Rattle.meaning.proofs.NamesLaws.{vc_number, vc_named, path_number}
use Rattle.meaning_runs.specs.Run.{Call, on_open_with, on_close, on_slot, Event, opened, closed, ran, Run, shown, let_in, call_at, call, calls, fresh_run, served}
use Rattle.meaning_runs.specs.Leak.{Opening, after_cell, accepts, opening_of}
use Rattle.meaning_runs.specs.Seen.{Cell, Departure, cell_under, cells_in, departures_in, of_connection, cells_of, departures_of}
use Rattle.meaning_runs.specs.Judged.{Judged, judged_of, judged_under, judged_by, judged}
use Rattle.meaning_runs.proofs.OutLaws.{if_holds}
use Rattle.theory_queues.specs.Queue.{All}
use Rattle.theory_queues.proofs.QueueLaws.{all_map, all_append}
use Rattle.theory_queues.proofs.OrderLaws.{of_connection_yes, of_connection_append, of_connection_none}
use Rattle.theory_invariant.specs.Invariant.{Inv}
use Rattle.theory_invariant.proofs.CheckLaws.{slot_refused}
use Rattle.theory_invariant.proofs.RunLaws.{Kept, call_kept, run_kept}
use Rattle.promises.specs.Checked.{Lent}
use Rattle.promises.specs.Paths.{vpi_before, vci_before, judged_before, NoPathOpen, NoPathOpened, AnsweredBefore, NoPaths}
use Rattle.promises.proofs.VerdictLaws.{says}
use Rattle.promises.proofs.Demand3Laws.{demanded}
use Rattle.promises.proofs.PathLaws.{path_low, NamedDeparture, departures_named}

never : false ≡ true → ⊥
never e = let y : ◌≡◌ {A = ℕ} 0 1 = cc in omega arith

-- ── the openings of paths ──
pub none_open : (z : ℕ) (h : List Event) → NoPathOpened z h → NoPathOpen z h
unfolding opening_of
none_open z [] n p low high = refl
none_open z (opened who c m F C x number ∷ h) n p low high = go (number =? 0) refl (none_open z h n.1 p low high)
  where
    go : (b : Bool) → number =? 0 ≡ b → opening_of (z + p) h ≡ none → opening_of (z + p) (opened who c m F C x number ∷ h) ≡ none
    go true e rest = rw (e, ne_eqb c (z + p) (λ y. omega (arith, y, n.0 (eqb-true number 0 e)))) rest
    go false e rest = rw e rest
none_open z (closed who c number ∷ h) n p low high =
    if_holds (λ (o : Option Opening). o ≡ none) (number =? 0 && c =? (z + p)) _ _ (λ _. refl) (λ _. none_open z h n p low high)
none_open z (ran cell a out ∷ h) n p low high =
    if_holds (λ (o : Option Opening). o ≡ none) (accepts (z + p) a) _ _
    (λ _. ap (after_cell (served h) (clp_in cell) a.verdict) (none_open z h n p low high)) (λ _. none_open z h n p low high)

-- ── one cell ──
module _ (z t : ℕ) (op : ℕ → Option Opening) (shut : (p : ℕ) → 1 ≤ p → p ≤ 255 → op (z + p) ≡ none) (hd : Header) (clp : ℕ) where
  abbrev now : Judged
  now =
      when not (names_connection z hd) then judged_of unknown hd.vci 0
      else judged_under t hd.vci (connection z hd) clp (op (connection z hd))

  abbrev before : Judged
  before =
      when not (hd.vpi =? 0) || z ≤? hd.vci then judged_of unknown hd.vci 0
      else judged_under t hd.vci hd.vci clp (op hd.vci)

  -- VPI 0, VCI not 0
  of_vc : hd.vpi ≡ 0 → hd.vci ≢ 0 → now ≡ before
  of_vc e ne =
      rw (vc_named z hd e, vc_number z hd e, eq-eqb hd.vpi 0 e, le-leb 1 hd.vci (omega (arith, ne))) (go (dec_lt hd.vci z))
    where
      go : Dec (hd.vci < z)
          → (when not (true && hd.vci <? z) then judged_of unknown hd.vci 0 else judged_under t hd.vci hd.vci clp (op hd.vci))
          ≡ (when not true || z ≤? hd.vci then judged_of unknown hd.vci 0 else judged_under t hd.vci hd.vci clp (op hd.vci))
      go (yes y) = rw (lt-ltb hd.vci z y, lt-leb z hd.vci y)
      go (no y) = rw (le-ltb hd.vci z (omega (arith, y)), le-leb z hd.vci (omega (arith, y)))

  -- VPI not 0
  of_path : hd.vpi ≢ 0 → now ≡ before
  of_path ne = rw (ne_eqb hd.vpi 0 ne) (go (names_connection z hd) refl)
    where
      go : (b : Bool) → names_connection z hd ≡ b → now ≡ judged_of unknown hd.vci 0
      go false e = rw e
      go true e =
          rw e
          (ap (judged_under t hd.vci (connection z hd) clp)
          (ap op (path_number z hd ne) ∙ shut hd.vpi (omega (arith, ne)) (omega (arith, path_low z hd e))))

  pub as_before : (lent : Bool)
      → (when lent || (hd.vpi =? 0 && hd.vci =? 0) then judged_of nothing 0 0
      else when not (names_connection z hd) then judged_of unknown hd.vci 0
      else judged_under t hd.vci (connection z hd) clp (op (connection z hd)))
      ≡ (when lent || (hd.vpi =? 0 && hd.vci =? 0) then judged_of nothing 0 0
      else when not (hd.vpi =? 0) || z ≤? hd.vci then judged_of unknown hd.vci 0
      else judged_under t hd.vci hd.vci clp (op hd.vci))
  as_before true = refl
  as_before false = go (hd.vpi =? 0) (hd.vci =? 0) refl refl
    where
      go : (a b : Bool) → hd.vpi =? 0 ≡ a → hd.vci =? 0 ≡ b
          → (when a && b then judged_of nothing 0 0 else now) ≡ (when a && b then judged_of nothing 0 0 else before)
      go true true e f = refl
      go true false e f = of_vc (eqb-true hd.vpi 0 e) (eqb-false hd.vci 0 f)
      go false b e f = of_path (eqb-false hd.vpi 0 e)

pub judged_before_lem : (z : ℕ) (h : List Event) (cell : List ℕ) → NoPathOpen z h → judged uni z h cell ≡ judged_before z h cell
unfolding judged_by no_user_cell header_at header_of vpi_high
judged_before_lem z h cell shut =
    as_before z (served h) (λ c. opening_of c h) shut (header_at uni cell 0) (clp_in cell) (length cell =? 0)

-- a cell that is let in is a VC's
or_right : (a b : Bool) → a || b ≡ false → b ≡ false
or_right true b e = absurd (never (sym e))
or_right false b e = e

before_low : (z : ℕ) (h : List Event) (cell : List ℕ) → lets_in (judged_before z h cell).verdict ≡ true
    → (judged_before z h cell).vci < z
unfolding lets_in
before_low z h cell =
    if_holds P (length cell =? 0 || (vpi =? 0 && vci =? 0)) _ _ (λ _ e. absurd (never e))
    (λ _. if_holds P (not (vpi =? 0) || z ≤? vci) _ _ (λ _ e. absurd (never e))
    (λ n. under (leb-false z vci (or_right (not (vpi =? 0)) (z ≤? vci) n)) (opening_of vci h)))
  where
    vpi : ℕ
    vpi = vpi_before cell

    vci : ℕ
    vci = vci_before cell

    P : Judged → Type 0
    P j = lets_in j.verdict ≡ true → j.vci < z

    under : vci < z → (o : Option Opening) → P (judged_under (served h) vci vci (clp_in cell) o)
    under low none e = absurd (never e)
    under low (some o) e = low

abbrev Low : ℕ → Cell → Type 0
Low z c = c.vci < z

-- ── a departure ──
all_last : {A : Type 0} (P : A → Type 0) (l : List A) (x : A) → All P (l ++ (x ∷ [])) → P x
all_last P [] x a = a.0
all_last P (y ∷ l) x a = all_last P l x a.1

module _ (N z : ℕ) (h : List Event) (s : State) (k : Inv N z uni h s) (low : All (Low z) (cells_in h)) where
  -- where all accepted cells are VCs', nothing of a path leaves
  none_left : (v : ℕ) → z ≤ v → length (departures_of v h) ≡ 0
  unfolding cells_of
  none_left v high =
      let cells : cells_of v h ≡ [] =
      of_connection_none (λ c. c.vci) v (cells_in h)
      (all_map (Low z) (λ c. c.vci ≡ v → ⊥) (λ c a e. omega (arith, a, e, high)) (cells_in h) low) in
      go (length (departures_of v h)) refl (ap length cells)
    where
      go : (n : ℕ) → length (departures_of v h) ≡ n → length (cells_of v h) ≡ 0 → n ≡ 0
      go zero e f = refl
      go (suc n) e f = absurd (omega (arith, f, (demanded N z uni h s k).was_accepted v 0 (omega (arith, e))))

  departs_before : (l : List Departure) (d : Departure) → departures_in h ≡ l ++ (d ∷ [])
      → (vpi_before d.octets ≡ 0) × (d.vci ≡ vci_before d.octets)
  unfolding departures_of header_at header_of vpi_high
  departs_before l d e = go (ℕ_discrete hd.vpi 0)
    where
      hd : Header
      hd = header_at uni d.octets 0

      is_named_lem : NamedDeparture uni z d
      is_named_lem = all_last (NamedDeparture uni z) l d (subst (All (NamedDeparture uni z)) e (departures_named N z uni h s k))

      one_left : 0 < length (departures_of d.vci h)
      one_left =
          omega (
            arith,
            ap (λ (x : List Departure). length (of_connection (λ y. y.vci) d.vci x)) e,
            ap length (of_connection_append (λ y. y.vci) d.vci l (d ∷ [])),
            length-append (of_connection (λ y. y.vci) d.vci l) (of_connection (λ y. y.vci) d.vci (d ∷ [])),
            ap length (of_connection_yes (λ y. y.vci) d.vci d [] refl),
          )

      go : Dec (hd.vpi ≡ 0) → (vpi_before d.octets ≡ 0) × (d.vci ≡ vci_before d.octets)
      go (yes y) = (y, sym is_named_lem.1 ∙ vc_number z hd y)
      go (no y) =
          absurd (omega (
            arith,
            one_left,
            none_left d.vci (omega (arith, sym is_named_lem.1 ∙ path_number z hd y)),
          ))

-- ── a run at the UNI ──
under_vci : (t : ℕ) (a : Answer) (octets : List ℕ) (o : Option Opening) → (cell_under t a octets o).vci ≡ a.vci
under_vci t a octets none = refl
under_vci t a octets (some o) = refl

module _ (N z : ℕ) (r : Run) (k : Kept N z uni r) where
  abbrev s : State
  s = r.state

  abbrev h : List Event
  h = r.events

  abbrev answer : List ℕ → Answer
  answer cell = (slot s cell).answer

  abbrev said : List ℕ → Judged
  said cell = judged_of (answer cell).verdict (answer cell).vci (answer cell).d

  pub next_before : NoPathOpen z r.events → (cell : List ℕ) → Lent cell → (let_in r.state cell).dropped ≡ false
      → let a = (slot r.state cell).answer in
      judged_of a.verdict a.vci a.d ≡ judged_before z r.events (let_in r.state cell).cell
  next_before shut cell lent f = through ∙ judged_before_lem z h (let_in s cell).cell shut
    where
      through : said cell ≡ judged uni z h (let_in s cell).cell
      through = says N z uni h s k.inv cell lent ∙ rw f

  refused_is : (cell : List ℕ) → length cell =? 0 || length cell =? octets ≡ false
      → ((answer cell).number ≡ 9) × ((answer cell).verdict ≡ nothing)
  refused_is cell e =
      let w = slot_refused N z uni h s k.inv cell e in
      (ap (λ (x : Work). x.answer.number) w, ap (λ (x : Work). x.answer.verdict) w)

  dropped_is : (cell : List ℕ) → Lent cell → (let_in s cell).dropped ≡ true → (answer cell).verdict ≡ dropped
  dropped_is cell lent f = ap (λ (j : Judged). j.verdict) (says N z uni h s k.inv cell lent) ∙ rw f

  answered : NoPathOpen z h → (cell : List ℕ) → (answer cell).number ≡ 0 → (answer cell).verdict ≢ dropped
      → said cell ≡ judged_before z h (let_in s cell).cell
  answered shut cell number ne = go (length cell =? 0 || length cell =? octets) (let_in s cell).dropped refl refl
    where
      go : (l d : Bool) → length cell =? 0 || length cell =? octets ≡ l → (let_in s cell).dropped ≡ d
          → said cell ≡ judged_before z h (let_in s cell).cell
      go false d e f = absurd (omega (arith, number, (refused_is cell e).0))
      go true true e f = absurd (ne (dropped_is cell e f))
      go true false e f = next_before shut cell e f

  new_low : NoPathOpen z h → (cell : List ℕ) → lets_in (answer cell).verdict ≡ true → (answer cell).vci < z
  unfolding lets_in
  new_low shut cell lets = go (length cell =? 0 || length cell =? octets) (let_in s cell).dropped refl refl
    where
      go : (l d : Bool) → length cell =? 0 || length cell =? octets ≡ l → (let_in s cell).dropped ≡ d → (answer cell).vci < z
      go false d e f = absurd (never (sym (ap lets_in (refused_is cell e).1) ∙ lets))
      go true true e f = absurd (never (sym (ap lets_in (dropped_is cell e f)) ∙ lets))
      go true false e f =
          let q = next_before shut cell e f in
          omega (
            arith,
            ap (λ (j : Judged). j.vci) q,
            before_low z h (let_in s cell).cell (sym (ap (λ (j : Judged). lets_in j.verdict) q) ∙ lets),
          )

  cells_low : NoPathOpen z h → All (Low z) (cells_in h) → (cell : List ℕ) → All (Low z) (cells_in (call r (on_slot cell)).events)
  unfolding call call_at slot cells_in
  cells_low shut low cell =
      if_holds (All (Low z)) (lets_in (answer cell).verdict) _ _
      (λ e. all_append (Low z) (cells_in h) _ low (
        omega (
          arith,
          new_low shut cell e,
          under_vci (served h) (answer cell) (sent_as (answer cell).verdict (let_in s cell).cell) (opening_of (answer cell).vci h),
        ),
        tt,
      ))
      (λ _. low)

  departing : (cell : List ℕ) → (answer cell).space ≢ empty
      → departures_in (call r (on_slot cell)).events
      ≡ departures_in h ++ (record { slot = served h; vci = (answer cell).departing; octets = shown (slot s cell) } ∷ [])
  unfolding call call_at slot departures_in
  departing cell ne = rw (ne_eqb (answer cell).space empty ne)

  departs : (cell : List ℕ) → All (Low z) (cells_in (call r (on_slot cell)).events) → (answer cell).space ≢ empty
      → (vpi_before (shown (slot s cell)) ≡ 0) × ((answer cell).departing ≡ vci_before (shown (slot s cell)))
  departs cell low ne =
      departs_before N z (call r (on_slot cell)).events (call r (on_slot cell)).state
      (call_kept N z uni r (on_slot cell) k).inv low (departures_in h)
      (record { slot = served h; vci = (answer cell).departing; octets = shown (slot s cell) }) (departing cell ne)

-- what is kept from call to call
abbrev Before : ℕ → Run → Type 0
Before z r = NoPathOpened z r.events → AnsweredBefore z r.events × All (Low z) (cells_in r.events)

module _ (N z : ℕ) where
  call_before : (r : Run) (c : Call) → Kept N z uni r → Before z r → Before z (call r c)
  unfolding call call_at slot cells_in
  call_before r (on_open_with who name m F C x) k p n = p n.1
  call_before r (on_close who name) k p n = p n
  call_before r (on_slot cell) k p n =
      let shut = none_open z r.events n in
      let rest = p n in
      let low = cells_low N z r k shut rest.1 cell in
      ((answered N z r k shut cell, departs N z r k cell low, rest.0), low)

  calls_before : (r : Run) (cs : List Call) → Kept N z uni r → Before z r → Before z (calls r cs)
  unfolding calls
  calls_before r [] k p = p
  calls_before r (c ∷ cs) k p = calls_before (call r c) cs (call_kept N z uni r c k) (call_before r c k p)

  fresh_before : (o : Options) → Before z (fresh_run N z o)
  unfolding fresh_run cells_in
  fresh_before o n = (tt, tt)

  pub no_paths : (o : Options) → Allowed N z o → kind_number o.kind ≡ uni → (cs : List Call)
      → NoPaths z (calls (fresh_run N z o) cs)
  unfolding calls
  no_paths o range e cs =
      record {
        next_slot = next_before N z (calls (fresh_run N z o) cs) (kept cs);
        all_slots = λ n. (calls_before (fresh_run N z o) cs (kept []) (fresh_before o) n).0;
      }
    where
      kept : (cs : List Call) → Kept N z uni (calls (fresh_run N z o) cs)
      kept cs = subst (λ (j : ℕ). Kept N z j (calls (fresh_run N z o) cs)) e (run_kept N z o range cs)
