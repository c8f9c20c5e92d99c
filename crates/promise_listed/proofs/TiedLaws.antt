-- Both forms stay tied: through the clock, when the head of the Free List is taken for a cell, when entry T joins the Output List, and
-- when the head of the Output List departs. What is read of the Free List passes its tests.
use Prim.Native.Nat.{ℕ, ◌+◌, ◌≤◌, ◌<◌}
use mathlib.Core.Path.{◌≡◌, refl, sym, ap, ◌∙◌, subst}
use mathlib.Core.Logic.{◌≢◌}
use mathlib.Core.Bool.{true, false, true≢false}
use mathlib.Core.List.{List, [], ◌∷◌, ◌++◌}
use native.Mathlib.Decide.{ℕ_discrete}
use native.Mathlib.Omega.{arith}
use Rattle.meaning.specs.Plain.{next}
use Rattle.meaning.specs.Numbers.{empty}
use Rattle.meaning.specs.State.{Ends, ends_of}
use Rattle.meaning.specs.Bits.{is_free_space, taken, given, unmarked, marked as set-mark}
use Rattle.meaning.specs.Lists.{empty_list, is_empty, ends_fit, entry_at, write_entry, take_head, join_head, join_tail}
use Rattle.meaning.proofs.BitsLaws.{taken_length, given_length}
use Rattle.meaning.proofs.MarksLaws.{marked_length, unmarked_length}
use Rattle.meaning.proofs.ListsLaws.{entry_length}
use Rattle.theory_queues.proofs.QueueLaws.{sum_append}
use Rattle.theory_chains.specs.Strung.{is, inside, self, cnt, Strung}
use Rattle.theory_chains.proofs.CountLaws.{is_same, inside_le}
use Rattle.theory_chains.proofs.StrungLaws.{TakenOff, take_off, ends_fit_lem, marked, bare, head_lt}
use Rattle.theory_chains.proofs.JoinLaws.{join_tail_lem, beside_head, beside_tail}
use Rattle.theory_memory.proofs.FreeLaws.{free_yes, is_free, taken_at, given_at, marked_at, unmarked_at}
use Rattle.promise_listed.specs.Tied.{Chains, Tied, upd}
use Rattle.promise_listed.proofs.ChainLaws.{head_ends, tail_ends, same_ends, upd_own, upd_other, placed, sent, given_behind}

-- a list that is not empty, taken apart
pub record Some (l : List ℕ) : Type 0 where
  pub first : ℕ
  pub rest : List ℕ
  pub is : l ≡ first ∷ rest

module _ {N turn : ℕ} {links calendar : List ℕ} {out : Ends} {bits list : List ℕ} {free : Ends}
    (t : Tied N turn links calendar out bits list free) where
  pub low : N ≤ empty
  low = omega (arith, t.most)

  -- ── the clock ──
  pub retimed : (T : ℕ) → T < N → Tied N T links calendar out bits list free
  retimed T h =
      record {
        o = t.o;
        q = t.q;
        fl = t.fl;
        most = t.most;
        turn_low = h;
        calendar_long = t.calendar_long;
        bits_long = t.bits_long;
        new = t.new;
        old = t.old;
        free_is = t.free_is;
        frees = t.frees;
        within = t.within;
        apart = t.apart;
      }

  -- ── the Free List ──
  within_free : (k : ℕ) → cnt self k t.fl ≤ inside k N
  within_free k = omega (arith, t.within k turn t.turn_low)

  pub free_fits : ends_fit N free ≡ true
  free_fits = ends_fit_lem self N low list free t.fl within_free t.free_is

  -- where a space is free, the Free List is not empty, and its head is free
  pub some_listed : (x : ℕ) → is_free_space bits x ≡ true → Some t.fl
  some_listed x e = go t.fl (omega (arith, t.frees x, free_yes bits x e))
    where
      go : (l : List ℕ) → cnt self x l ≡ 1 → Some l
      go [] p = absurd (omega arith)
      go (y ∷ ys) p = record { first = y; rest = ys; is = refl }

  module _ (f : Some t.fl) where
    strung : Strung self list free (f.first ∷ f.rest)
    strung = subst (λ (l : List ℕ). Strung self list free l) f.is t.free_is

    pub counted : (k : ℕ) → cnt self k t.fl ≡ is k free.head + cnt self k f.rest
    counted k = ap (λ (l : List ℕ). cnt self k l) f.is ∙ ap (λ (y : ℕ). is k y + cnt self k f.rest) (sym strung.0)

    within_some : (k : ℕ) → cnt self k (f.first ∷ f.rest) ≤ inside k N
    within_some k = omega (arith, within_free k, ap (λ (l : List ℕ). cnt self k l) f.is)

    pub head_is_free : is_free_space bits free.head ≡ true
    head_is_free =
        is_free bits free.head (omega (arith, t.frees free.head, counted free.head, is_same free.head))

    pub some_marked : is_empty free ≡ false
    some_marked = marked self N low list free f.first f.rest within_some strung

    pub head_taken : TakenOff self N low list free f.rest
    head_taken = take_off self N low list free f.first f.rest within_some strung

    -- ── a cell takes the head and joins entry e ──
    module _ (e : ℕ) (he : e < N) (left : Ends) (rest : Strung self list left f.rest) where
      abbrev x : ℕ
      x = free.head

      abbrev q' : ℕ → List ℕ
      q' = upd t.q e (x ∷ t.q e)

      alone : (k : ℕ) → is k x + cnt self k (t.q e) ≤ inside k N
      alone k = omega (arith, t.within k e he, counted k)

      none : cnt self x t.o ≡ 0
      none = omega (arith, t.within x e he, counted x, is_same x, inside_le x N)

      nowhere : (d : ℕ) → d < N → cnt self x (t.q d) ≡ 0
      nowhere d h = omega (arith, t.within x d h, counted x, is_same x, inside_le x N)

      own : (k : ℕ) → cnt self k (q' e) ≡ is k x + cnt self k (t.q e)
      own k = ap (λ (l : List ℕ). cnt self k l) (upd_own t.q e (x ∷ t.q e))

      other : (k d : ℕ) → d ≢ e → cnt self k (q' d) ≡ cnt self k (t.q d)
      other k d ne = ap (λ (l : List ℕ). cnt self k l) (upd_other t.q e (x ∷ t.q e) d ne)

      at : (k d i : ℕ) → d ≡ i → cnt self k (q' d) ≡ cnt self k (q' i)
      at k d i p = ap (λ (j : ℕ). cnt self k (q' j)) p

      within' : (k d : ℕ) → d < N → Dec (d ≡ e) → cnt self k f.rest + cnt self k t.o + cnt self k (q' d) ≤ inside k N
      within' k d h (yes p) = omega (arith, at k d e p, own k, t.within k e he, counted k)
      within' k d h (no p) = omega (arith, other k d p, t.within k d h, counted k)

      apart' : (k d i : ℕ) → d < N → i < N → d ≢ i → Dec (d ≡ e) → Dec (i ≡ e) → cnt self k (q' d) + cnt self k (q' i) ≤ 1
      apart' k d i h j ne (yes p) (yes r) = absurd (ne (p ∙ sym r))
      apart' k d i h j ne (yes p) (no r) =
          omega (
            arith,
            at k d e p,
            own k,
            other k i r,
            counted k,
            inside_le k N,
            t.within k e he,
            t.within k i j,
            t.apart k e i he j (λ z. r (sym z)),
          )
      apart' k d i h j ne (no p) (yes r) =
          omega (
            arith,
            at k i e r,
            own k,
            other k d p,
            counted k,
            inside_le k N,
            t.within k e he,
            t.within k d h,
            t.apart k d e h he p,
          )
      apart' k d i h j ne (no p) (no r) = omega (arith, other k d p, other k i r, t.apart k d i h j ne)

      pub tied_placed : Tied N turn (join_head links (entry_at calendar e) free.head).links
          (write_entry calendar e (join_head links (entry_at calendar e) free.head).ends) out (set-mark (taken bits free.head) e)
          (join_head list (entry_at calendar e) free.head).links left
      tied_placed =
          record {
            o = t.o;
            q = q';
            fl = f.rest;
            most = t.most;
            turn_low = t.turn_low;
            calendar_long = entry_length calendar e (join_head links (entry_at calendar e) x).ends ∙ t.calendar_long;
            bits_long = marked_length (taken bits x) e ∙ taken_length bits x ∙ t.bits_long;
            new = placed N low links calendar out t.o t.q t.new t.calendar_long e x he alone none nowhere;
            old = subst (λ (ends : Ends). Chains N (join_head list (entry_at calendar e) x).links (write_entry calendar e ends) out t.o q')
                (head_ends list links (entry_at calendar e) x)
                (placed N low list calendar out t.o t.q t.old t.calendar_long e x he alone none nowhere);
            free_is = beside_head self self list (entry_at calendar e) left x f.rest
                (omega (arith, t.within x e he, counted x, is_same x, inside_le x N)) rest;
            frees = λ k. omega (arith, t.frees k, counted k, marked_at (taken bits x) e k, taken_at bits x k head_is_free);
            within = λ k d h. within' k d h (ℕ_discrete d e);
            apart = λ k d i h j ne. apart' k d i h j ne (ℕ_discrete d e) (ℕ_discrete i e);
          }

  -- ── entry T joins the Output List ──
  within_queue : (e : ℕ) → e < N → (k : ℕ) → cnt self k (t.q e) ≤ inside k N
  within_queue e h k = omega (arith, t.within k e h)

  pub queue_some : (T : ℕ) → T < N → is_empty (entry_at calendar T) ≡ false → Some (t.q T)
  queue_some T h e = go (t.q T) (t.new.queues_are T h)
    where
      go : (l : List ℕ) → Strung self links (entry_at calendar T) l → Some l
      go [] s = absurd (true≢false (sym (bare self N low links (entry_at calendar T) s) ∙ e))
      go (y ∷ ys) s = record { first = y; rest = ys; is = refl }

  module _ (T : ℕ) (h_t : T < N) (f : Some (t.q T)) where
    abbrev sent_q : ℕ → List ℕ
    sent_q = upd t.q T []

    own_none : (k : ℕ) → cnt self k (sent_q T) ≡ 0
    own_none k = ap (λ (l : List ℕ). cnt self k l) (upd_own t.q T [])

    other_kept : (k d : ℕ) → d ≢ T → cnt self k (sent_q d) ≡ cnt self k (t.q d)
    other_kept k d ne = ap (λ (l : List ℕ). cnt self k l) (upd_other t.q T [] d ne)

    same_at : (k d i : ℕ) → d ≡ i → cnt self k (sent_q d) ≡ cnt self k (sent_q i)
    same_at k d i p = ap (λ (j : ℕ). cnt self k (sent_q j)) p

    behind : (k : ℕ) → cnt self k (t.o ++ t.q T) ≡ cnt self k t.o + cnt self k (t.q T)
    behind k = sum_append (is k) t.o (t.q T)

    within_sent : (k d : ℕ) → d < N → Dec (d ≡ T)
        → cnt self k t.fl + cnt self k (t.o ++ t.q T) + cnt self k (sent_q d) ≤ inside k N
    within_sent k d h (yes p) = omega (arith, behind k, same_at k d T p, own_none k, t.within k T h_t)
    within_sent k d h (no p) =
        omega (
          arith,
          behind k,
          other_kept k d p,
          t.within k T h_t,
          t.within k d h,
          t.apart k d T h h_t p,
          inside_le k N,
        )

    apart_sent : (k d i : ℕ) → d < N → i < N → d ≢ i → Dec (d ≡ T) → Dec (i ≡ T) → cnt self k (sent_q d) + cnt self k (sent_q i) ≤ 1
    apart_sent k d i h j ne (yes p) (yes r) = absurd (ne (p ∙ sym r))
    apart_sent k d i h j ne (yes p) (no r) =
        omega (arith, same_at k d T p, own_none k, other_kept k i r, within_queue i j k, inside_le k N)
    apart_sent k d i h j ne (no p) (yes r) =
        omega (arith, same_at k i T r, own_none k, other_kept k d p, within_queue d h k, inside_le k N)
    apart_sent k d i h j ne (no p) (no r) = omega (arith, other_kept k d p, other_kept k i r, t.apart k d i h j ne)

    within_out : (k e : ℕ) → e < N → cnt self k t.o + cnt self k (t.q e) ≤ inside k N
    within_out k e h = omega (arith, t.within k e h)

    pub tied_sent : Tied N turn (join_tail links out (entry_at calendar T)).links (write_entry calendar T empty_list)
        (join_tail links out (entry_at calendar T)).ends (unmarked bits T) (join_tail list out (entry_at calendar T)).links free
    tied_sent =
        record {
          o = t.o ++ t.q T;
          q = sent_q;
          fl = t.fl;
          most = t.most;
          turn_low = t.turn_low;
          calendar_long = entry_length calendar T empty_list ∙ t.calendar_long;
          bits_long = unmarked_length bits T ∙ t.bits_long;
          new = sent N low links calendar out t.o t.q t.new t.calendar_long T h_t f.first f.rest f.is within_out;
          old = subst (λ (ends : Ends). Chains N (join_tail list out (entry_at calendar T)).links (write_entry calendar T empty_list) ends
              (t.o ++ t.q T) sent_q) (tail_ends list links out (entry_at calendar T))
              (sent N low list calendar out t.o t.q t.old t.calendar_long T h_t f.first f.rest f.is within_out);
          free_is = beside_tail self self list out (entry_at calendar T) free t.o t.fl
              (λ k. omega (arith, t.within k T h_t, inside_le k N)) t.old.out_is t.free_is;
          frees = λ k. t.frees k ∙ sym (unmarked_at bits T k);
          within = λ k d h. within_sent k d h (ℕ_discrete d T);
          apart = λ k d i h j ne. apart_sent k d i h j ne (ℕ_discrete d T) (ℕ_discrete i T);
        }

  -- ── the head of the Output List departs, and its space goes behind the Free List ──
  pub out_some : is_empty out ≡ false → Some t.o
  out_some e = go t.o t.new.out_is
    where
      go : (l : List ℕ) → Strung self links out l → Some l
      go [] s = absurd (true≢false (sym (bare self N low links out s) ∙ e))
      go (y ∷ ys) s = record { first = y; rest = ys; is = refl }

  module _ (f : Some t.o) where
    stands : (k : ℕ) → cnt self k t.o ≡ is k f.first + cnt self k f.rest
    stands k = ap (λ (l : List ℕ). cnt self k l) f.is

    within_first : (k : ℕ) → cnt self k (f.first ∷ f.rest) ≤ inside k N
    within_first k = omega (arith, stands k, t.within k turn t.turn_low)

    new_strung : Strung self links out (f.first ∷ f.rest)
    new_strung = subst (λ (l : List ℕ). Strung self links out l) f.is t.new.out_is

    old_strung : Strung self list out (f.first ∷ f.rest)
    old_strung = subst (λ (l : List ℕ). Strung self list out l) f.is t.old.out_is

    pub new_taken : TakenOff self N low links out f.rest
    new_taken = take_off self N low links out f.first f.rest within_first new_strung

    old_taken : TakenOff self N low list out f.rest
    old_taken = take_off self N low list out f.first f.rest within_first old_strung

    left_same : old_taken.left ≡ new_taken.left
    left_same = same_ends list links old_taken.left new_taken.left f.rest old_taken.rest new_taken.rest

    pub taken_too : take_head N list out
        ≡ next (record { space = out.head; left = new_taken.left })
    taken_too =
        old_taken.goes
        ∙ ap (λ (ends : Ends). next (record { space = out.head; left = ends })) left_same

    first_low : f.first < N
    first_low = head_lt self N low f.first f.rest within_first

    same_first : (k : ℕ) → is k out.head ≡ is k f.first
    same_first k = ap (is k) new_strung.0

    pub tied_left : is_free_space bits out.head ≡ false → Tied N turn links calendar new_taken.left (given bits out.head)
        (join_tail list free (ends_of out.head out.head)).links (join_tail list free (ends_of out.head out.head)).ends
    tied_left taken' =
        record {
          o = f.rest;
          q = t.q;
          fl = t.fl ++ (out.head ∷ []);
          most = t.most;
          turn_low = t.turn_low;
          calendar_long = t.calendar_long;
          bits_long = given_length bits out.head ∙ t.bits_long;
          new = record { long = t.new.long; out_is = new_taken.rest; queues_are = t.new.queues_are };
          old = given_behind N low list calendar new_taken.left f.rest t.q
              (record {
                long = t.old.long;
                out_is = subst (λ (ends : Ends). Strung self list ends f.rest) left_same old_taken.rest;
                queues_are = t.old.queues_are;
              }) t.calendar_long free (ends_of out.head out.head) t.fl t.free_is
              (λ k. omega (arith, stands k, t.within k turn t.turn_low, inside_le k N))
              (λ k e h. omega (arith, t.within k e h, inside_le k N));
          free_is = join_tail_lem self list N t.old.long low free (ends_of out.head out.head) t.fl out.head []
              (λ k. omega (arith, stands k, same_first k, t.within k turn t.turn_low))
              t.free_is (refl, refl, tt);
          frees = λ k. omega (
            arith,
            longer k,
            t.frees k,
            given_at bits out.head k (omega (arith, first_low, new_strung.0, t.most)) t.bits_long taken',
          );
          within = λ k e h. omega (arith, longer k, stands k, same_first k, t.within k e h);
          apart = t.apart;
        }
      where
        longer : (k : ℕ) → cnt self k (t.fl ++ (out.head ∷ [])) ≡ cnt self k t.fl + is k out.head
        longer k = sum_append (is k) t.fl (out.head ∷ []) ∙ omega arith
