-- The invariant implies the audit's clauses: the calendar's queues, from the next slot on, turned back to entry after
-- entry.
use Prim.Native.Nat.{ℕ, ◌+◌, ◌-◌, ◌%◌, ◌≤◌, ◌<◌}
use mathlib.Core.Path.{◌≡◌, refl, sym, ap, ap₂, ◌∙◌}
use mathlib.Core.Bool.{Bool, true, false, not, ◌&&◌}
use mathlib.Core.List.{List, [], ◌∷◌, ◌++◌, map}
use mathlib.Core.Option.{Option, none, some}
use native.Mathlib.Nat.{mod-lt, mod-eq_of_lt, add-mod_right}
use native.Mathlib.Decide.{dec_lt}
use native.Mathlib.Omega.{arith}
use borrow.Author.Tests.{eq-eqb, leb-true}
use lib.ListN.{length, get_or, take, drop, take-append-drop}
use Rattle.meaning.specs.Plain.{when◌then◌else◌, ◌<?◌, ◌=?◌}
use Rattle.meaning.specs.Numbers.{connections_in, unused, kind_in_range, cell_start, open_place, splits_hold}
use Rattle.meaning.specs.State.{State, output_list}
use Rattle.meaning.specs.Bits.{is_free_space, spaces_fit}
use Rattle.meaning.specs.Header.{Header, header_at, connection, names_open}
use Rattle.meaning.specs.Words.{Connection, connection_at, connection_fits}
use Rattle.meaning.specs.Lists.{is_empty, entry_at}
use Rattle.meaning.specs.Audit.{Chain, count, joined, connection_in, AuditHolds}
use Rattle.meaning.proofs.NamesLaws.{names_low, names_used}
use Rattle.meaning_runs.specs.Run.{Event, served}
use Rattle.meaning_runs.specs.Leak.{Opening, opening_of}
use Rattle.theory_queues.specs.Queue.{sum, sums, All, flat, turn}
use Rattle.theory_queues.proofs.QueueLaws.{map_append, map_length, sum_append, sums_flat, sum_get_or, turn_at, get_d_past, all_map, all_append, all_both, alls_flat, alls_turn}
use Rattle.theory_chains.specs.Strung.{is, self, cnt}
use Rattle.theory_chains.proofs.CountLaws.{inside_yes, inside_no, inside_le}
use Rattle.theory_chains.proofs.AuditLaws.{count_is, chain_is, joined_map, map_self}
use Rattle.theory_table.specs.Stored.{ConnectionIs}
use Rattle.theory_memory.specs.Held.{Queued, space_of, vci_of, Held}
use Rattle.theory_memory.proofs.FreeLaws.{free_yes, free_no}
use Rattle.theory_memory.proofs.ShownLaws.{header_in_lem}
use Rattle.theory_invariant.specs.Invariant.{is_of, waits, Under, Sits, Inv}
use Rattle.theory_invariant.proofs.RoundLaws.{count_append, joined_append, get_d_map, round, round_length, round_low, round_high, pick}
use Rattle.theory_invariant.proofs.SlotLaws.{ranges_at, lengths_at}
use Rattle.theory_invariant.proofs.CallLaws.{fits}

module _ (N z kind : ℕ) (h : List Event) (s : State) (i : Inv N z kind h s) where
  abbrev op : ℕ → Option Opening
  op v = opening_of v h

  -- all queued cells, in the order they leave in
  abbrev all : List Queued
  all = i.out ++ flat (turn i.cal)

  abbrev b : ℕ
  b = s.ctl.turn + 1

  abbrev r : List (List ℕ)
  r = map (map space_of) (turn i.cal)

  r_long : length r ≡ N
  r_long = map_length (map space_of) (turn i.cal) ∙ i.stage.has.wide

  abbrev k : ℕ
  k = N - b

  b_low : b ≤ N
  b_low = omega (arith, i.stage.turn_low)

  abbrev queues : List (List ℕ)
  queues = round k r

  queue_at : (j : ℕ) → get_or r j [] ≡ map space_of (get_or (turn i.cal) j [])
  queue_at j = get_d_map (map space_of) (turn i.cal) j refl

  once_each : (m : ℕ) → cnt space_of m i.out + sums (λ c. is m c.space) (turn i.cal) ≤ 1
  once_each m = omega (arith, i.stage.has.parted m, inside_le m N)

  -- entry e holds the queue that is due e - b slots after the next, modulo N
  entry_is : (e : ℕ) → e < N → Chain s.links (entry_at s.calendar e) (get_or queues e [])
  entry_is e he = go (dec_lt e b)
    where
      at : (j : ℕ) → j < N → (b + j) % N ≡ e → get_or queues e [] ≡ get_or r j []
          → Chain s.links (entry_at s.calendar e) (get_or queues e [])
      at j hj place same =
          rw (same, queue_at j)
          (chain_is space_of s.links (entry_at s.calendar e) (get_or (turn i.cal) j [])
          (λ m. omega (arith, once_each m, sum_get_or (λ c. is m c.space) (turn i.cal) j))
          (rw place at (i.stage.has.queues_are j hj)))

      go : Dec (e < b) → Chain s.links (entry_at s.calendar e) (get_or queues e [])
      go (yes p) =
          at (k + e) (omega (arith, b_low))
          (ap (λ (m : ℕ). m % N) (omega (arith, b_low)) ∙ add-mod_right e N ∙ mod-eq_of_lt he)
          (round_low k e r [] (omega (arith, r_long, b_low)))
      go (no p) =
          at (e - b) (omega (arith, b_low)) (ap (λ (m : ℕ). m % N) (omega (arith, b_low)) ∙ mod-eq_of_lt he)
          (round_high k e r [] (omega (arith, r_long)) (omega (arith, r_long, b_low)) (omega (arith, r_long, b_low))
          ∙ ap (λ (m : ℕ). get_or r m []) (omega (arith, r_long, b_low)))

  -- counts don't see where the calendar begins
  joined_mapped : (f : ℕ → ℕ) (m : ℕ) → count m (map f (joined queues)) ≡ count m
      (map f (map space_of (flat (turn i.cal))))
  joined_mapped f m =
      ap (λ l. count m (map f l)) (joined_append (drop k r) (take k r))
      ∙ apart (joined (drop k r)) (joined (take k r))
      ∙ swap
      ∙ sym (apart (joined (take k r)) (joined (drop k r)))
      ∙ ap (λ l. count m (map f l))
      (sym (joined_append (take k r) (drop k r)) ∙ ap joined (take-append-drop k r) ∙ joined_map space_of (turn i.cal))
    where
      apart : (x y : List ℕ) → count m (map f (x ++ y)) ≡ count m (map f x) + count m (map f y)
      apart x y = ap (count m) (map_append f x y) ∙ count_append m (map f x) (map f y)

      swap : count m (map f (joined (drop k r))) + count m (map f (joined (take k r))) ≡ count m
          (map f (joined (take k r))) + count m (map f (joined (drop k r)))
      swap = omega arith

  joined_count : (m : ℕ) → count m (joined queues) ≡ sums (λ c. is m c.space) (turn i.cal)
  joined_count m =
      ap (count m) (sym (map_self (joined queues)))
      ∙ joined_mapped self m
      ∙ ap (count m) (map_self (map space_of (flat (turn i.cal))))
      ∙ count_is space_of m (flat (turn i.cal))
      ∙ sums_flat (λ c. is m c.space) (turn i.cal)

  queued_parts : (m : ℕ) → count m (map space_of i.out ++ joined queues)
      ≡ cnt space_of m i.out + sums (λ c. is m c.space) (turn i.cal)
  queued_parts m =
      count_append m (map space_of i.out) (joined queues) ∙ omega (arith, joined_count m, count_is space_of m i.out)

  queued_count : (m : ℕ) → count m (map space_of i.out ++ joined queues) ≡ cnt space_of m all
  queued_count m =
      queued_parts m
      ∙ omega (
        arith,
        sum_append (λ c. is m c.space) i.out (flat (turn i.cal)),
        sums_flat (λ c. is m c.space) (turn i.cal),
      )

  -- a space is queued once where it isn't free, and below N
  below_count : (m : ℕ) → m < N → count m (map space_of i.out ++ joined queues) ≡ (when is_free_space s.bits m then 0 else 1)
  below_count m low = go (is_free_space s.bits m) refl
    where
      go : (f : Bool) → is_free_space s.bits m ≡ f → count m (map space_of i.out ++ joined queues) ≡ (when f then 0 else 1)
      go true e =
          omega (arith, queued_parts m, i.stage.has.parted m, free_yes s.bits m e, inside_yes m N low)
      go false e =
          omega (arith, queued_parts m, i.stage.has.parted m, free_no s.bits m e, inside_yes m N low)

  above_count : (m : ℕ) → N ≤ m → count m (map space_of i.out ++ joined queues) ≡ 0
  above_count m high = omega (arith, queued_parts m, i.stage.has.parted m, inside_no m N high)

  -- what the memory says of a queued cell
  abbrev Known : Queued → Type 0
  Known c = Held s.cells c × Sits kind z op c

  known_out : All Known i.out
  known_out = all_both (Held s.cells) (Sits kind z op) i.out i.stage.has.held_out i.sits_out

  known_cal : All Known (flat (turn i.cal))
  known_cal =
      all_both (Held s.cells) (Sits kind z op) (flat (turn i.cal))
      (alls_flat (Held s.cells) (turn i.cal) i.stage.has.held_cal)
      (alls_flat (Sits kind z op) (turn i.cal) (alls_turn (Sits kind z op) i.cal i.sits_cal))

  all_known : All Known all
  all_known = all_append Known i.out (flat (turn i.cal)) known_out known_cal

  header_of : (c : Queued) → Known c → header_at kind s.cells (cell_start c.space) ≡ header_at kind c.cell.octets 0
  header_of c p = header_in_lem kind s.cells c.space ∙ ap (λ l. header_at kind l 0) p.0

  opened_word : (v : ℕ) (q : ℕ) (a : Option Opening) (c : Queued) → Under a c.cell
      → ConnectionIs N (connections_in z) (served h) v (connection_at s.words v) q a → (connection_at s.words v).opened ≡ 1
  opened_word v q none c u t = absurd u
  opened_word v q (some a) c u t = ap (λ (y : Connection). y.opened) t.is

  names_open_lem : (c : Queued) → Known c → names_open z s.words (header_at kind s.cells (cell_start c.space)) ≡ true
  unfolding names_open connection_at
  names_open_lem c p = rw (header_of c p, p.1.0, p.1.1, eq-eqb (get_or s.words (open_place (vci_of c)) 0) 1 word)
    where
      hd : Header
      hd = header_at kind c.cell.octets 0

      used : unused z (vci_of c) ≡ false
      used = ap (unused z) (sym p.1.1) ∙ names_used z hd p.1.0

      word : get_or s.words (open_place (vci_of c)) 0 ≡ 1
      word = opened_word (vci_of c) (waits (vci_of c) i.out (turn i.cal)) (op (vci_of c)) c p.1.2
          (i.stage.table (vci_of c) used (omega (arith, p.1.1, names_low z hd p.1.0)))

  all_names : All (λ c. names_open z s.words (header_at kind s.cells (cell_start c.space)) ≡ true) all
  all_names =
      all_map Known (λ c. names_open z s.words (header_at kind s.cells (cell_start c.space)) ≡ true) names_open_lem all
      all_known

  vci_of_lem : (c : Queued) → Known c → connection_in kind z s.cells c.space ≡ vci_of c
  unfolding connection_in
  vci_of_lem c p = ap (connection z) (header_of c p) ∙ p.1.1

  -- a connection's queued cells, counted by the headers in the memory
  counted : (v : ℕ) (q : List Queued) → All Known q → count v (map (connection_in kind z s.cells) (map space_of q)) ≡ sum (is_of v) q
  unfolding is
  counted v [] a = refl
  counted v (c ∷ q) a =
      ap (λ (x : ℕ). (when v =? x then 1 else 0) + count v (map (connection_in kind z s.cells) (map space_of q))) (vci_of_lem c a.0)
      ∙ ap (λ (n : ℕ). (when v =? vci_of c then 1 else 0) + n) (counted v q a.1)

  counted_all : (v : ℕ) → count v (map (connection_in kind z s.cells) (map space_of i.out ++ joined queues)) ≡ waits v i.out
      (turn i.cal)
  counted_all v =
      ap (count v) (map_append (connection_in kind z s.cells) (map space_of i.out) (joined queues))
      ∙ count_append v (map (connection_in kind z s.cells) (map space_of i.out)) (map (connection_in kind z s.cells) (joined queues))
      ∙ omega (
        arith,
        joined_mapped (connection_in kind z s.cells) v,
        counted v i.out known_out,
        counted v (flat (turn i.cal)) known_cal,
        sums_flat (is_of v) (turn i.cal),
      )

  waiting_word : (v q : ℕ) (a : Option Opening) → (connection_at s.words v).opened ≡ 1
      → ConnectionIs N (connections_in z) (served h) v (connection_at s.words v) q a → (connection_at s.words v).waiting ≡ q
  waiting_word v q none e t = absurd (omega (arith, e, t))
  waiting_word v q (some a) e t = ap (λ (y : Connection). y.waiting) t.is

  next_empty : get_or queues s.ctl.turn [] ≡ []
  next_empty =
      round_low k s.ctl.turn r [] (omega (arith, r_long, b_low))
      ∙ queue_at (k + s.ctl.turn)
      ∙ ap (map space_of) (turn_at i.cal (k + s.ctl.turn)
      ∙ get_d_past i.cal (k + s.ctl.turn) (omega (arith, i.good.long, b_low)))

  pub audit_holds : AuditHolds s
  unfolding kind_in_range
  audit_holds =
      record {
        ranges = ranges_at N z kind h s i;
        lengths = lengths_at N z kind h s i;
        turn_low = omega (arith, i.stage.turn_low, i.stage.n_is);
        rotation_low = rw (i.stage.rotation_is, i.stage.v_is)
            (mod-lt (served h + (connections_in z - 1)) {m = connections_in z} (omega arith));
        raw_low = i.raw_low;
        mode_low = i.mode_low;
        splits = ap (λ (v : ℕ). splits_hold v s.ctl.splitvci s.ctl.splitpath) i.stage.v_is ∙ i.splits;
        kind_low = leb-true s.ctl.kind 1 kind_fits;
        connections_fit = λ v h1 h2. ap (λ (n : ℕ). connection_fits n (connection_at s.words v)) i.stage.n_is
            ∙ fits N z kind h s i v (at_z v h2) (omega (arith, i.stage.v_is));
        spaces_fit_lem = ap (λ (n : ℕ). spaces_fit n s.ctl.free s.bits) i.stage.n_is ∙ i.stage.has.spaces_fit_lem;
        marks_are = λ e he. i.stage.has.marks_are e he
            ∙ ap (λ (n : ℕ). e <? n && not (is_empty (entry_at s.calendar e))) (sym i.stage.n_is);
        output = map space_of i.out;
        queues = queues;
        output_is = chain_is space_of s.links (output_list s) i.out (λ m. omega (arith, once_each m))
            i.stage.has.out_is;
        queues_many = round_length k r (omega (arith, r_long)) ∙ r_long ∙ sym i.stage.n_is;
        queues_are = λ e he. entry_is e (omega (arith, i.stage.n_is));
        once = λ x hx. below_count x (omega (arith, i.stage.n_is));
        no_other = λ x hx. above_count x (omega (arith, i.stage.n_is));
        turn_empty = next_empty;
        named = λ x hx. ap₂ (λ (v k : ℕ). names_open v s.words (header_at k s.cells (cell_start x))) i.stage.v_is i.stage.kind_is
            ∙ pick (λ (y : ℕ). names_open z s.words (header_at kind s.cells (cell_start y)) ≡ true) x all all_names
            (omega (arith, queued_count x));
        waits = λ v h1 h2 e. waiting_word v (waits v i.out (turn i.cal)) (op v) e
            (i.stage.table v (at_z v h2) (omega (arith, i.stage.v_is))) ∙ sym (counted_all v)
            ∙ ap₂ (λ (k n : ℕ). count v (map (connection_in k n s.cells) (map space_of i.out ++ joined queues)))
            (sym i.stage.kind_is) (sym i.stage.v_is);
      }
    where
      at_z : (v : ℕ) → unused s.ctl.v v ≡ false → unused z v ≡ false
      at_z v e = ap (λ (n : ℕ). unused n v) (sym i.stage.v_is) ∙ e

      kind_fits : kind_in_range s.ctl.kind ≡ true
      kind_fits = ap kind_in_range i.stage.kind_is ∙ i.stage.kind_fits
