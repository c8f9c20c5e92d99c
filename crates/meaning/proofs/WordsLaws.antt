-- The words of a VC, read and written: what is written is read again, words of other VCs stay, a second write wins,
-- storing what is stored changes nothing; and a write of three or four words as a write of all twelve.
use Prim.Native.Nat.{ℕ, ◌+◌, ◌*◌, ◌≤◌, ◌<◌}
use mathlib.Core.Path.{◌≡◌, refl, sym, ◌∙◌, ap}
use mathlib.Core.Logic.{◌≢◌}
use mathlib.Core.List.{List}
use native.Mathlib.Nat.{add-zero}
use native.Mathlib.Omega.{arith}
use lib.ListN.{length, get_or, set, length-set}
use lib.Seq.{get_or-set_same, get_or-set_other, set-get_or}
use Rattle.meaning.specs.Numbers.{open_place, m_place, f_place, c_place, s_place, last_place, waiting_place, words_per_connection, connection_place}
use Rattle.meaning.specs.Numbers.{second_mplace, second_fplace, second_cplace, second_splace, tag_place}
use Rattle.meaning.specs.Bucket.{with_s}
use Rattle.meaning.specs.Words.{Connection, connection_at, write_connection, with_waiting}

-- a write at another place is not seen
past : (l : List ℕ) (i j a r : ℕ) → j ≢ i → get_or l j 0 ≡ r → get_or (set l i a) j 0 ≡ r
past l i j a r ne e = get_or-set_other l i j a 0 ne ∙ e

-- where the open word and waiting are read
pub opened_at : (words : List ℕ) (vci : ℕ) → (connection_at words vci).opened ≡ get_or words (words_per_connection * vci) 0
unfolding connection_at
opened_at words vci = rw (add-zero (words_per_connection * vci))

pub waiting_at : (words : List ℕ) (vci : ℕ) → (connection_at words vci).waiting ≡ get_or words (waiting_place vci) 0
unfolding connection_at
waiting_at words vci = refl

module _ (l : List ℕ) (v : ℕ) (vc : Connection) where
  abbrev l1 : List ℕ
  l1 = set l (open_place v) vc.opened

  abbrev l2 : List ℕ
  l2 = set l1 (m_place v) vc.bucket.m

  abbrev l3 : List ℕ
  l3 = set l2 (f_place v) vc.bucket.F

  abbrev l4 : List ℕ
  l4 = set l3 (c_place v) vc.bucket.C

  abbrev l5 : List ℕ
  l5 = set l4 (s_place v) vc.bucket.S

  abbrev l6 : List ℕ
  l6 = set l5 (last_place v) vc.last

  abbrev l7 : List ℕ
  l7 = set l6 (waiting_place v) vc.waiting

  abbrev l8 : List ℕ
  l8 = set l7 (second_mplace v) vc.second.m

  abbrev l9 : List ℕ
  l9 = set l8 (second_fplace v) vc.second.F

  abbrev l10 : List ℕ
  l10 = set l9 (second_cplace v) vc.second.C

  abbrev l11 : List ℕ
  l11 = set l10 (second_splace v) vc.second.S

  pub write_length : length (write_connection l v vc) ≡ length l
  unfolding write_connection
  write_length = simp length-set

  -- the second bucket's words are written last, and not seen at the other places
  past_second : (j : ℕ) (r : ℕ) → (second_mplace v ≤ j → j < second_mplace v + 5 → ⊥) → get_or l7 j 0 ≡ r
      → get_or (write_connection l v vc) j 0 ≡ r
  unfolding write_connection
  past_second j r out e =
      past l11 (tag_place v) j vc.tag _ (λ e. out (omega arith) (omega arith))
      (past l10 (second_splace v) j vc.second.S _ (λ e. out (omega arith) (omega arith))
      (past l9 (second_cplace v) j vc.second.C _ (λ e. out (omega arith) (omega arith))
      (past l8 (second_fplace v) j vc.second.F _ (λ e. out (omega arith) (omega arith))
      (past l7 (second_mplace v) j vc.second.m _ (λ e. out (omega arith) (omega arith)) e))))

  -- a place outside the VC's words keeps its word
  pub write_other : (j : ℕ) → (words_per_connection * v ≤ j → j < words_per_connection * v + words_per_connection → ⊥) → get_or (write_connection l v vc) j 0 ≡ get_or l j 0
  write_other j out =
      past_second j _ (λ a b. out (omega arith) (omega arith))
      (past l6 (waiting_place v) j vc.waiting _ (λ e. out (omega arith) (omega arith))
      (past l5 (last_place v) j vc.last _ (λ e. out (omega arith) (omega arith))
      (past l4 (s_place v) j vc.bucket.S _ (λ e. out (omega arith) (omega arith))
      (past l3 (c_place v) j vc.bucket.C _ (λ e. out (omega arith) (omega arith))
      (past l2 (f_place v) j vc.bucket.F _ (λ e. out (omega arith) (omega arith))
      (past l1 (m_place v) j vc.bucket.m _ (λ e. out (omega arith) (omega arith))
      (past l (open_place v) j vc.opened _ (λ e. out (omega arith) (omega arith)) refl)))))))

  module _ (inside : connection_place v + words_per_connection ≤ length l) where
    at_waiting : get_or (write_connection l v vc) (waiting_place v) 0 ≡ vc.waiting
    at_waiting =
        past_second (waiting_place v) _ (λ a b. omega arith)
        (get_or-set_same l6 (waiting_place v) vc.waiting 0 (simp length-set (omega arith)))

    at_last : get_or (write_connection l v vc) (last_place v) 0 ≡ vc.last
    at_last =
        past_second (last_place v) _ (λ a b. omega arith)
        (past l6 (waiting_place v) (last_place v) vc.waiting _ (λ e. omega arith)
        (get_or-set_same l5 (last_place v) vc.last 0 (simp length-set (omega arith))))

    at_S : get_or (write_connection l v vc) (s_place v) 0 ≡ vc.bucket.S
    at_S =
        past_second (s_place v) _ (λ a b. omega arith)
        (past l6 (waiting_place v) (s_place v) vc.waiting _ (λ e. omega arith)
        (past l5 (last_place v) (s_place v) vc.last _ (λ e. omega arith)
        (get_or-set_same l4 (s_place v) vc.bucket.S 0 (simp length-set (omega arith)))))

    at_C : get_or (write_connection l v vc) (c_place v) 0 ≡ vc.bucket.C
    at_C =
        past_second (c_place v) _ (λ a b. omega arith)
        (past l6 (waiting_place v) (c_place v) vc.waiting _ (λ e. omega arith)
        (past l5 (last_place v) (c_place v) vc.last _ (λ e. omega arith)
        (past l4 (s_place v) (c_place v) vc.bucket.S _ (λ e. omega arith)
        (get_or-set_same l3 (c_place v) vc.bucket.C 0 (simp length-set (omega arith))))))

    at_F : get_or (write_connection l v vc) (f_place v) 0 ≡ vc.bucket.F
    at_F =
        past_second (f_place v) _ (λ a b. omega arith)
        (past l6 (waiting_place v) (f_place v) vc.waiting _ (λ e. omega arith)
        (past l5 (last_place v) (f_place v) vc.last _ (λ e. omega arith)
        (past l4 (s_place v) (f_place v) vc.bucket.S _ (λ e. omega arith)
        (past l3 (c_place v) (f_place v) vc.bucket.C _ (λ e. omega arith)
        (get_or-set_same l2 (f_place v) vc.bucket.F 0 (simp length-set (omega arith)))))))

    at_m : get_or (write_connection l v vc) (m_place v) 0 ≡ vc.bucket.m
    at_m =
        past_second (m_place v) _ (λ a b. omega arith)
        (past l6 (waiting_place v) (m_place v) vc.waiting _ (λ e. omega arith)
        (past l5 (last_place v) (m_place v) vc.last _ (λ e. omega arith)
        (past l4 (s_place v) (m_place v) vc.bucket.S _ (λ e. omega arith)
        (past l3 (c_place v) (m_place v) vc.bucket.C _ (λ e. omega arith)
        (past l2 (f_place v) (m_place v) vc.bucket.F _ (λ e. omega arith)
        (get_or-set_same l1 (m_place v) vc.bucket.m 0 (simp length-set (omega arith))))))))

    at_open : get_or (write_connection l v vc) (open_place v) 0 ≡ vc.opened
    at_open =
        past_second (open_place v) _ (λ a b. omega arith)
        (past l6 (waiting_place v) (open_place v) vc.waiting _ (λ e. omega arith)
        (past l5 (last_place v) (open_place v) vc.last _ (λ e. omega arith)
        (past l4 (s_place v) (open_place v) vc.bucket.S _ (λ e. omega arith)
        (past l3 (c_place v) (open_place v) vc.bucket.C _ (λ e. omega arith)
        (past l2 (f_place v) (open_place v) vc.bucket.F _ (λ e. omega arith)
        (past l1 (m_place v) (open_place v) vc.bucket.m _ (λ e. omega arith)
        (get_or-set_same l (open_place v) vc.opened 0 (omega arith))))))))

    at_tag : get_or (write_connection l v vc) (tag_place v) 0 ≡ vc.tag
    unfolding write_connection
    at_tag = get_or-set_same l11 (tag_place v) vc.tag 0 (simp length-set (omega arith))

    at_second_S : get_or (write_connection l v vc) (second_splace v) 0 ≡ vc.second.S
    unfolding write_connection
    at_second_S =
        past l11 (tag_place v) (second_splace v) vc.tag _ (λ e. omega arith)
        (get_or-set_same l10 (second_splace v) vc.second.S 0 (simp length-set (omega arith)))

    at_second_C : get_or (write_connection l v vc) (second_cplace v) 0 ≡ vc.second.C
    unfolding write_connection
    at_second_C =
        past l11 (tag_place v) (second_cplace v) vc.tag _ (λ e. omega arith)
        (past l10 (second_splace v) (second_cplace v) vc.second.S _ (λ e. omega arith)
        (get_or-set_same l9 (second_cplace v) vc.second.C 0 (simp length-set (omega arith))))

    at_second_F : get_or (write_connection l v vc) (second_fplace v) 0 ≡ vc.second.F
    unfolding write_connection
    at_second_F =
        past l11 (tag_place v) (second_fplace v) vc.tag _ (λ e. omega arith)
        (past l10 (second_splace v) (second_fplace v) vc.second.S _ (λ e. omega arith)
        (past l9 (second_cplace v) (second_fplace v) vc.second.C _ (λ e. omega arith)
        (get_or-set_same l8 (second_fplace v) vc.second.F 0 (simp length-set (omega arith)))))

    at_second_m : get_or (write_connection l v vc) (second_mplace v) 0 ≡ vc.second.m
    unfolding write_connection
    at_second_m =
        past l11 (tag_place v) (second_mplace v) vc.tag _ (λ e. omega arith)
        (past l10 (second_splace v) (second_mplace v) vc.second.S _ (λ e. omega arith)
        (past l9 (second_cplace v) (second_mplace v) vc.second.C _ (λ e. omega arith)
        (past l8 (second_fplace v) (second_mplace v) vc.second.F _ (λ e. omega arith)
        (get_or-set_same l7 (second_mplace v) vc.second.m 0 (simp length-set (omega arith))))))

    -- what is written is read again
    pub write_read : connection_at (write_connection l v vc) v ≡ vc
    unfolding connection_at
    write_read = λ i.
        record {
          opened = at_open i;
          bucket = record { m = at_m i; F = at_F i; C = at_C i; S = at_S i };
          last = at_last i;
          waiting = at_waiting i;
          second = record { m = at_second_m i; F = at_second_F i; C = at_second_C i; S = at_second_S i };
          tag = at_tag i;
        }

-- the words of other VCs stay
pub write_read_other : (l : List ℕ) (v : ℕ) (vc : Connection) (u : ℕ) → u ≢ v → connection_at (write_connection l v vc) u ≡ connection_at l u
unfolding connection_at
write_read_other l v vc u ne = λ i.
    record {
      opened = same 0 (omega arith) i;
      bucket = record { m = same 1 (omega arith) i; F = same 2 (omega arith) i; C = same 3 (omega arith) i; S = same 4 (omega arith) i };
      last = same 5 (omega arith) i;
      waiting = same 6 (omega arith) i;
      second = record { m = same 7 (omega arith) i; F = same 8 (omega arith) i; C = same 9 (omega arith) i; S = same 10 (omega arith) i };
      tag = same 11 (omega arith) i;
    }
  where
    same : (k : ℕ) → k < words_per_connection → get_or (write_connection l v vc) (words_per_connection * u + k) 0 ≡ get_or l (words_per_connection * u + k) 0
    same k h = write_other l v vc (words_per_connection * u + k) (λ a b. ne (omega arith))

-- a word stored again
kept : (l : List ℕ) (q a : ℕ) → get_or l q 0 ≡ a → set l q a ≡ l
kept l q a e = ap (λ (k : ℕ). set l q k) (sym e) ∙ set-get_or l q 0

-- the second bucket's words stored again, but for its S: l₀ is as they were read
second_kept : (l₀ l : List ℕ) (v S : ℕ) → ((k : ℕ) → 7 ≤ k → get_or l (connection_place v + k) 0 ≡ get_or l₀ (connection_place v + k) 0)
    → set (set (set (set (set l (second_mplace v) (get_or l₀ (second_mplace v) 0)) (second_fplace v) (get_or l₀ (second_fplace v) 0)) (second_cplace v) (get_or l₀ (second_cplace v) 0)) (second_splace v) S) (tag_place v) (get_or l₀ (tag_place v) 0)
    ≡ set l (second_splace v) S
second_kept l₀ l v S same =
    rw (
      kept l (second_mplace v) _ (same 7 (omega arith)),
      kept l (second_fplace v) _ (same 8 (omega arith)),
      kept l (second_cplace v) _ (same 9 (omega arith)),
      kept (set l (second_splace v) S) (tag_place v) _
          (past l (second_splace v) (tag_place v) S _ (λ e. omega arith) (same 11 (omega arith))),
    )

-- a write of what changes, where the other words are stored again
pub write_fall : (l : List ℕ) (v S t S₂ : ℕ)
    → write_connection l v (record {
      opened = (connection_at l v).opened;
      bucket = with_s (connection_at l v).bucket S;
      last = t;
      waiting = (connection_at l v).waiting;
      second = with_s (connection_at l v).second S₂;
      tag = (connection_at l v).tag;
    })
    ≡ set (set (set l (s_place v) S) (last_place v) t) (second_splace v) S₂
unfolding write_connection connection_at
write_fall l v S t S₂ =
    simp set-get_or
    (rw (kept fallen (waiting_place v) _ (same 6 (omega arith))) (second_kept l fallen v S₂ (λ k h. same k (omega arith))))
  where
    fallen : List ℕ
    fallen = set (set l (s_place v) S) (last_place v) t

    same : (k : ℕ) → 6 ≤ k → get_or (set (set l (s_place v) S) (last_place v) t) (connection_place v + k) 0 ≡ get_or l (connection_place v + k) 0
    same k h =
        past (set l (s_place v) S) (last_place v) (connection_place v + k) t _ (λ e. omega arith)
        (past l (s_place v) (connection_place v + k) S _ (λ e. omega arith) refl)

pub write_fill : (l : List ℕ) (v S t k S₂ : ℕ)
    → write_connection l v (record {
      opened = (connection_at l v).opened;
      bucket = with_s (connection_at l v).bucket S;
      last = t;
      waiting = k;
      second = with_s (connection_at l v).second S₂;
      tag = (connection_at l v).tag;
    })
    ≡ set (set (set (set l (s_place v) S) (last_place v) t) (waiting_place v) k) (second_splace v) S₂
unfolding write_connection connection_at
write_fill l v S t k S₂ =
    simp set-get_or (second_kept l (set (set (set l (s_place v) S) (last_place v) t) (waiting_place v) k) v S₂ same)
  where
    same : (q : ℕ) → 7 ≤ q
        → get_or (set (set (set l (s_place v) S) (last_place v) t) (waiting_place v) k) (connection_place v + q) 0 ≡ get_or l (connection_place v + q) 0
    same q h =
        past (set (set l (s_place v) S) (last_place v) t) (waiting_place v) (connection_place v + q) k _ (λ e. omega arith)
        (past (set l (s_place v) S) (last_place v) (connection_place v + q) t _ (λ e. omega arith)
        (past l (s_place v) (connection_place v + q) S _ (λ e. omega arith) refl))

pub write_waiting : (l : List ℕ) (v k : ℕ) → write_connection l v (with_waiting (connection_at l v) k) ≡ set l (waiting_place v) k
unfolding write_connection connection_at
write_waiting l v k =
    simp set-get_or
    (second_kept l (set l (waiting_place v) k) v (get_or l (second_splace v) 0) (λ q h. same q h)
    ∙ kept (set l (waiting_place v) k) (second_splace v) _ (same 10 (omega arith)))
  where
    same : (q : ℕ) → 7 ≤ q → get_or (set l (waiting_place v) k) (connection_place v + q) 0 ≡ get_or l (connection_place v + q) 0
    same q h = past l (waiting_place v) (connection_place v + q) k _ (λ e. omega arith) refl

pub write_stored : (l : List ℕ) (v : ℕ) → write_connection l v (connection_at l v) ≡ l
unfolding write_connection connection_at
write_stored l v = simp set-get_or
