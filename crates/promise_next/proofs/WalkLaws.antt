-- In a state that the audit says yes to, the answer is the walk's: each bit tells its entry, and heads and tails of chains of spaces
-- below N pass the tests of refusal 3.
use Prim.Native.Nat.{ℕ, zero, suc, ◌+◌, ◌-◌, ◌*◌, ◌%◌, ◌≤◌, ◌<◌}
use mathlib.Core.Path.{◌≡◌, refl, sym, ap, ◌∙◌}
use mathlib.Core.Bool.{Bool, true, false, not, ◌&&◌}
use mathlib.Core.List.{List, [], ◌∷◌}
use native.Mathlib.Nat.{mod-lt}
use native.Mathlib.Decide.{dec_lt, ℕ_discrete}
use native.Mathlib.Omega.{arith}
use borrow.Author.Tests.{eq-eqb, ne_eqb, lt-ltb}
use lib.ListN.{length, get_or}
use Rattle.meaning.specs.Plain.{when◌then◌else◌, ◌=?◌}
use Rattle.meaning.specs.Numbers.{octets, per_entry, bit_words}
use Rattle.meaning.specs.State.{State, Ends, output_list, words_length, lengths_hold}
use Rattle.meaning.specs.Bits.{is_marked}
use Rattle.meaning.specs.Lists.{empty_list, is_empty, ends_fit, entry_at}
use Rattle.meaning.specs.Audit.{Leads, Chain, count, joined, AuditHolds}
use Rattle.meaning.specs.Next.{first_in, next_mark, wait_of, wait_for}
use Rattle.meaning.proofs.ListsLaws.{fit_marked, fit_empty}
use Rattle.theory_table.proofs.LeakLaws.{and_left, and_right}
use Rattle.theory_invariant.specs.Invariant.{Ranges}
use Rattle.theory_invariant.proofs.FreshLaws.{ranges_are}
use Rattle.theory_invariant.proofs.RoundLaws.{count_append}
use Rattle.promise_next.specs.Next.{next_in, holds_at, full_walk, EqualsFullWalk}
use Rattle.promise_next.proofs.FirstLaws.{First, first_in_lem, first_same}

-- ── head and tail of a chain are among its spaces ──
head_in : (x : ℕ) (xs : List ℕ) → 1 ≤ count x (x ∷ xs)
head_in x xs = rw (eq-eqb x x refl) (omega arith)

tail_in : (l : List ℕ) (t x : ℕ) (xs : List ℕ) → Leads l t x xs → 1 ≤ count t (x ∷ xs)
tail_in l t x [] e = rw (eq-eqb t x (sym e)) (omega arith)
tail_in l t x (y ∷ ys) e = omega (arith, tail_in l t y ys e.2)

low : (N x : ℕ) (xs : List ℕ) → ((k : ℕ) → N ≤ k → count k xs ≡ 0) → 1 ≤ count x xs → x < N
low N x xs f h = go (dec_lt x N)
  where
    go : Dec (x < N) → x < N
    go (yes p) = p
    go (no p) = absurd (omega (arith, f x (omega arith)))

chain_fits : (N : ℕ) (l : List ℕ) (e : Ends) (xs : List ℕ) → Chain l e xs → ((k : ℕ) → N ≤ k → count k xs ≡ 0) → ends_fit N e ≡ true
chain_fits N l e [] c f = ap (ends_fit N) {x = e} {y = empty_list} (λ i. record { head = c.0 i; tail = c.1 i }) ∙ fit_empty N
chain_fits N l e (x ∷ xs) c f =
    fit_marked N e.head e.tail (omega (arith, c.0, low N x (x ∷ xs) f (head_in x xs)))
    (low N e.tail (x ∷ xs) f (tail_in l e.tail x xs c.1))

-- one queue's part of all of them
in_joined : (k : ℕ) (qs : List (List ℕ)) (e : ℕ) → count k (get_or qs e []) ≤ count k (joined qs)
in_joined k [] e = omega arith
in_joined k (q ∷ qs) zero = omega (arith, count_append k q (joined qs))
in_joined k (q ∷ qs) (suc e) = omega (arith, count_append k q (joined qs), in_joined k qs e)

module _ (s : State) (a : AuditHolds s) where
  abbrev N : ℕ
  N = s.ctl.n

  abbrev T : ℕ
  T = s.ctl.turn

  r : Ranges N s.ctl.v
  r = ranges_are N s.ctl.v a.ranges

  -- the lengths that are judged
  abbrev four : Bool
  four = length s.cells =? octets * N && length s.links =? N && length s.calendar =? per_entry * N && words_length s.ctl.v s.words

  five_hold : four && length s.bits =? bit_words ≡ true
  unfolding lengths_hold
  five_hold = and_left (four && length s.bits =? bit_words) (length s.arrived =? N) a.lengths

  bits_are : length s.bits =? bit_words ≡ true
  bits_are = and_right four (length s.bits =? bit_words) five_hold

  calendar_is : length s.calendar =? per_entry * N ≡ true
  calendar_is =
      and_right (length s.cells =? octets * N && length s.links =? N) (length s.calendar =? per_entry * N)
      (and_left (length s.cells =? octets * N && length s.links =? N && length s.calendar =? per_entry * N) (words_length s.ctl.v s.words)
      (and_left four (length s.bits =? bit_words) five_hold))

  -- heads and tails
  out_fits : ends_fit N (output_list s) ≡ true
  out_fits =
      chain_fits N s.links (output_list s) a.output a.output_is
      (λ k h. omega (arith, a.no_other k h, count_append k a.output (joined a.queues)))

  ring_low : (d : ℕ) → (T + d) % N < N
  ring_low d = mod-lt (T + d) r.N_low

  entry_fits : (d : ℕ) → ends_fit N (entry_at s.calendar ((T + d) % N)) ≡ true
  entry_fits d =
      chain_fits N s.links (entry_at s.calendar ((T + d) % N)) (get_or a.queues ((T + d) % N) []) (a.queues_are ((T + d) % N) (ring_low d))
      (λ k h. omega (
        arith,
        a.no_other k h,
        count_append k a.output (joined a.queues),
        in_joined k a.queues ((T + d) % N),
      ))

  -- each bit tells its entry
  mark_is : (d : ℕ) → is_marked s.bits ((T + d) % N) ≡ holds_at s d
  mark_is d =
      a.marks_are ((T + d) % N) (omega (arith, ring_low d, r.N_high))
      ∙ ap (λ (b : Bool). b && holds_at s d) (lt-ltb ((T + d) % N) N (ring_low d))

  next_is : next_mark N T s.bits ≡ first_in (holds_at s) (N - 1) 1
  unfolding next_mark
  next_is = first_same (λ d. is_marked s.bits ((T + d) % N)) (holds_at s) (N - 1) 1 mark_is

  by_output : (o : Bool) (d : ℕ) → First (holds_at s) (N - 1) 1 d
      → (when not o then wait_of 0 1 else when d =? 0 then wait_of 0 0
      else when not (ends_fit N (entry_at s.calendar ((T + d) % N)) && holds_at s d) then wait_of 3 0 else wait_of 0 d)
      ≡ wait_of 0 (when not o then 1 else d)
  by_output false d f = refl
  by_output true d f = go (ℕ_discrete d 0)
    where
      go : Dec (d ≡ 0) → (when d =? 0 then wait_of 0 0
          else when not (ends_fit N (entry_at s.calendar ((T + d) % N)) && holds_at s d) then wait_of 3 0 else wait_of 0 d)
          ≡ wait_of 0 d
      go (yes e) = rw (eq-eqb d 0 e) (ap (wait_of 0) (sym e))
      go (no e) = rw (ne_eqb d 0 e, entry_fits d, (f.found e).2) refl

  as_walked : next_in s ≡ wait_of 0 (full_walk s)
  unfolding wait_for full_walk
  as_walked =
      rw (a.ranges, calendar_is, bits_are, lt-ltb T N a.turn_low, out_fits, next_is)
      (by_output (is_empty (output_list s)) (first_in (holds_at s) (N - 1) 1) (first_in_lem (holds_at s) (N - 1) 1 (omega arith)))

pub equals_full_walk : EqualsFullWalk
equals_full_walk = as_walked
