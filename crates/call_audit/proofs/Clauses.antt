-- From what the walks establish to the clauses of document 01, and back (to-clauses, clauses-kept): the budgets are 1 for
-- each space that is not free and waiting for each open connection, so what uses them up is what the clauses count.
use Prim.Native.Nat.{ℕ, zero, suc, ◌+◌, ◌*◌, ◌≤◌, ◌<◌}
use mathlib.Core.Path.{◌≡◌, refl, sym, ap, ◌∙◌}
use mathlib.Core.Bool.{true}
use mathlib.Core.List.{List, [], ◌∷◌, ◌++◌}
use native.Mathlib.Omega.{arith}
use native.Mathlib.Decide.{dec_lt}
use lib.ListN.{length, get_or}
use Rattle.meaning.specs.declared.Record.{Record}
use Rattle.meaning.specs.Numbers.{connections_in, empty}
use Rattle.meaning.specs.State.{Ends, state_of}
use Rattle.meaning.specs.Bits.{spaces_fit}
use Rattle.meaning.specs.Lists.{entry_at}
use Rattle.meaning.specs.Audit.{Chain, count, joined, AuditHolds}
use Rattle.call_audit.specs.Budgets.{inside, waits_at, AllFit}
use Rattle.call_audit.specs.Marks.{MarksAre}
use Rattle.mem_walks.specs.Walk.{name_of, ends_of}
use Rattle.mem_walks.specs.Stored.{Queues, Stored}
use Rattle.mem_walks.proofs.BudgetLaws.{is, is_same, count_append, count_joined}
use Rattle.call_audit.proofs.WaitsLaws.{inside_yes, inside_no}
use Rattle.call_audit.proofs.ShapeLaws.{Shaped}
use Rattle.call_audit.proofs.NameLaws.{named_of, waits_of_lem, used_up}

-- The queues, entry by entry

head_at : (calendar : List ℕ) (e : ℕ) → (entry_at calendar e).head ≡ get_or calendar (2 * e) 0
unfolding entry_at
head_at calendar e = refl

module _ (l calendar : List ℕ) where
  queues_at : (e k j : ℕ) (qs : List (List ℕ)) → Queues l calendar e qs → k < length qs → j ≡ e + k
      → Chain l (entry_at calendar j) (get_or qs k [])
  queues_at e k j [] h g z = absurd (omega arith)
  queues_at e zero j (q ∷ qs) h g z = let y : j ≡ e = omega arith in rw y h.0
  queues_at e (suc k) j (q ∷ qs) h g z = queues_at (suc e) k j qs h.1 (omega arith) (omega arith)

  queues_of : (e : ℕ) (qs : List (List ℕ))
      → ((k j : ℕ) → k < length qs → j ≡ e + k → Chain l (entry_at calendar j) (get_or qs k [])) → Queues l calendar e qs
  queues_of e [] f = tt
  queues_of e (q ∷ qs) f =
      (f zero e (omega arith) (omega arith), queues_of (suc e) qs (λ k j h z. f (suc k) j (omega arith) (omega arith)))

  -- a queue whose head is 65,535 is empty, where 65,535 is no space
  empty_of : (e : Ends) (q : List ℕ) → Chain l e q → e.head ≡ empty → count empty q ≡ 0 → q ≡ []
  empty_of e [] c h z = refl
  empty_of e (x ∷ xs) c h z = absurd (omega (arith, is_same empty, ap (λ (k : ℕ). is empty k) (sym c.0 ∙ h)))

  head_of : (e : Ends) (q : List ℕ) → Chain l e q → q ≡ [] → e.head ≡ empty
  head_of e [] c h = c.0
  head_of e (x ∷ xs) c h = absurd (omega (arith, ap length h))

module _ (r : Record) (cells links calendar words bits arrived : List ℕ) (s : AuditHolds (state_of r cells links calendar words bits arrived)) where
  pub clauses_turn : get_or calendar (2 * r.turn) 0 ≡ empty
  clauses_turn =
      sym (head_at calendar r.turn)
      ∙ head_of links calendar (entry_at calendar r.turn) (get_or s.queues r.turn [])
      (s.queues_are r.turn s.turn_low) s.turn_empty

module _ (r : Record) (cells links calendar words bits arrived b w : List ℕ)
    (ones : (x : ℕ) → get_or b x 0 ≡ inside bits x r.n) (waits : (k : ℕ) → get_or w k 0 ≡ waits_at words r.v k) where
  abbrev pub Kept : Type 0
  Kept =
      Stored links calendar (name_of r.kind r.v cells) r.n (ends_of r.outhead r.outtail) b w

  pub to_clauses : Shaped r cells links calendar words bits arrived
      → spaces_fit r.n r.free bits ≡ true
      → MarksAre r.n calendar bits
      → AllFit r.n r.v words
      → get_or calendar (2 * r.turn) 0 ≡ empty → Kept → AuditHolds (state_of r cells links calendar words bits arrived)
  to_clauses h fit marks f e s =
      let queued = s.output ++ joined s.queues in
      let past : count empty queued ≡ 0 =
      s.spaces empty ∙ ones empty ∙ inside_no bits empty r.n (omega (arith, h.n_most)) in
      let small : connections_in r.v ≤ empty = omega (arith, h.v_most) in
      let at : (j : ℕ) → j < r.n → Chain links (entry_at calendar j) (get_or s.queues j []) =
      λ j g. queues_at links calendar 0 j j s.queues s.queues_are (omega (arith, s.queues_many)) (omega arith) in
      let none : count empty (get_or s.queues r.turn []) ≡ 0 =
      omega (
        arith,
        past,
        count_append empty s.output (joined s.queues),
        count_joined empty s.queues r.turn,
      ) in
      let turn = entry_at calendar r.turn in
      let turn-queue = get_or s.queues r.turn [] in
      record {
        ranges = h.ranges;
        lengths = h.lengths;
        turn_low = h.turn_low;
        rotation_low = h.rotation_low;
        raw_low = h.raw_low;
        mode_low = h.mode_low;
        kind_low = h.kind_low;
        splits = h.splits;
        connections_fit = f;
        spaces_fit_lem = fit;
        marks_are = marks;
        output = s.output;
        queues = s.queues;
        output_is = s.output_is;
        queues_many = s.queues_many;
        queues_are = at;
        once = λ x g. s.spaces x ∙ ones x ∙ inside_yes bits x r.n g;
        no_other = λ x g. s.spaces x ∙ ones x ∙ inside_no bits x r.n g;
        turn_empty = empty_of links calendar turn turn-queue (at r.turn h.turn_low) (head_at calendar r.turn ∙ e) none;
        named = named_of r.kind r.v cells words queued small (λ k. s.cells k ∙ waits k);
        waits = waits_of_lem r.kind r.v cells words queued small (λ k. s.cells k ∙ waits k);
      }

  module _ (s : AuditHolds (state_of r cells links calendar words bits arrived)) where
    each : (x : ℕ) → Dec (x < r.n) → count x (s.output ++ joined s.queues) ≡ get_or b x 0
    each x (yes g) = s.once x g ∙ sym (ones x ∙ inside_yes bits x r.n g)
    each x (no g) = s.no_other x (omega arith) ∙ sym (ones x ∙ inside_no bits x r.n (omega arith))

    pub clauses_kept : Kept
    clauses_kept =
        record {
          output = s.output;
          queues = s.queues;
          output_is = s.output_is;
          queues_many = s.queues_many;
          queues_are = queues_of links calendar 0 s.queues
              (λ k j h z. let y : j ≡ k = omega arith in rw y (s.queues_are k (omega (arith, s.queues_many))));
          spaces = λ x. each x (dec_lt x r.n);
          cells = λ k. used_up r.kind r.v cells words (s.output ++ joined s.queues) s.named s.waits k
              ∙ sym (waits k);
        }
