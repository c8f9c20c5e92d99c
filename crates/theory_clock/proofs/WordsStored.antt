-- The stored words of the connections: each is read as its stored self, and one written is stored. Two lists of words in which
-- every connection reads alike are the same.
use Prim.Native.Nat.{ℕ, zero, suc, ◌+◌, ◌*◌, ◌/◌, ◌%◌, ◌≤◌, ◌<◌}
use mathlib.Core.Path.{◌≡◌, refl, sym, ◌∙◌, ap}
use mathlib.Core.List.{List, [], ◌∷◌}
use native.Mathlib.Omega.{arith}
use native.Mathlib.Decide.{ℕ_discrete}
use lib.ListN.{length, get_or}
use lib.Seq.{ext_get_or}
use Rattle.meaning.specs.Numbers.{open_place, words_per_connection}
use Rattle.meaning.specs.Words.{Connection, connection_at, write_connection}
use Rattle.meaning.proofs.WordsLaws.{write_length, write_read, write_read_other}
use Rattle.theory_clock.specs.Stored.{stored_connection, stored_words}

-- word k of a connection
word : ℕ → Connection → ℕ
word k vc =
    let b = vc.bucket in
    let b2 = vc.second in
    get_or (vc.opened ∷ b.m ∷ b.F ∷ b.C ∷ b.S ∷ vc.last ∷ vc.waiting ∷ b2.m ∷ b2.F ∷ b2.C ∷ b2.S ∷ vc.tag ∷ []) k 0

word_at : (l : List ℕ) (v k : ℕ) → k < words_per_connection → get_or l (words_per_connection * v + k) 0 ≡ word k (connection_at l v)
unfolding word connection_at
word_at l v zero h = refl
word_at l v (suc zero) h = refl
word_at l v (suc (suc zero)) h = refl
word_at l v (suc (suc (suc zero))) h = refl
word_at l v (suc (suc (suc (suc zero)))) h = refl
word_at l v (suc (suc (suc (suc (suc zero))))) h = refl
word_at l v (suc (suc (suc (suc (suc (suc zero)))))) h = refl
word_at l v (suc (suc (suc (suc (suc (suc (suc zero))))))) h = refl
word_at l v (suc (suc (suc (suc (suc (suc (suc (suc zero)))))))) h = refl
word_at l v (suc (suc (suc (suc (suc (suc (suc (suc (suc zero))))))))) h = refl
word_at l v (suc (suc (suc (suc (suc (suc (suc (suc (suc (suc zero)))))))))) h = refl
word_at l v (suc (suc (suc (suc (suc (suc (suc (suc (suc (suc (suc zero))))))))))) h = refl
word_at l v (suc (suc (suc (suc (suc (suc (suc (suc (suc (suc (suc (suc k)))))))))))) h = absurd (omega arith)

pub words_same : (R : ℕ) (a b : List ℕ) → length a ≡ words_per_connection * R → length b ≡ words_per_connection * R
    → ((v : ℕ) → v < R → connection_at a v ≡ connection_at b v) → a ≡ b
words_same R a b la lb same = ext_get_or 0 a b (la ∙ sym lb) each
  where
    each : (j : ℕ) → j < length a → get_or a j 0 ≡ get_or b j 0
    each j h =
        ap (λ (n : ℕ). get_or a n 0) split
        ∙ word_at a (j / words_per_connection) (j % words_per_connection) (omega arith)
        ∙ ap (word (j % words_per_connection)) (same (j / words_per_connection) (omega arith))
        ∙ sym (word_at b (j / words_per_connection) (j % words_per_connection) (omega arith))
        ∙ ap (λ (n : ℕ). get_or b n 0) (sym split)
      where
        split : j ≡ words_per_connection * (j / words_per_connection) + j % words_per_connection
        split = omega arith

pub stored_length : (R : ℕ) (l : List ℕ) → length (stored_words R l) ≡ length l
unfolding stored_words
stored_length zero l = refl
stored_length (suc R) l = write_length (stored_words R l) R (stored_connection (connection_at l R)) ∙ stored_length R l

pub stored_read : (R : ℕ) (l : List ℕ) (v : ℕ) → v < R → words_per_connection * R ≤ length l
    → connection_at (stored_words R l) v ≡ stored_connection (connection_at l v)
unfolding stored_words
stored_read zero l v h long = absurd (omega arith)
stored_read (suc R) l v h long = go (ℕ_discrete v R) (λ b. stored_read R l v b (omega arith))
  where
    go : Dec (v ≡ R) → (v < R → connection_at (stored_words R l) v ≡ stored_connection (connection_at l v))
        → connection_at (write_connection (stored_words R l) R (stored_connection (connection_at l R))) v ≡ stored_connection (connection_at l v)
    go (yes e) rest =
        rw e (write_read (stored_words R l) R (stored_connection (connection_at l R)) (omega (arith, stored_length R l)))
    go (no ne) rest = write_read_other (stored_words R l) R (stored_connection (connection_at l R)) v ne ∙ rest (omega arith)

pub stored_write : (R : ℕ) (l : List ℕ) (v : ℕ) (vc : Connection) → v < R → length l ≡ words_per_connection * R
    → stored_words R (write_connection l v vc) ≡ write_connection (stored_words R l) v (stored_connection vc)
stored_write R l v vc h long =
    words_same R _ _
    (stored_length R (write_connection l v vc) ∙ write_length l v vc ∙ long)
    (write_length (stored_words R l) v (stored_connection vc) ∙ stored_length R l ∙ long)
    (λ u b. go u b (ℕ_discrete u v))
  where
    go : (u : ℕ) → u < R → Dec (u ≡ v)
        → connection_at (stored_words R (write_connection l v vc)) u ≡ connection_at (write_connection (stored_words R l) v (stored_connection vc)) u
    go u b (yes e) =
        stored_read R (write_connection l v vc) u b (omega (arith, write_length l v vc))
        ∙ rw e
        (ap stored_connection (write_read l v vc (omega arith))
        ∙ sym (write_read (stored_words R l) v (stored_connection vc) (omega (arith, stored_length R l))))
    go u b (no ne) =
        stored_read R (write_connection l v vc) u b (omega (arith, write_length l v vc))
        ∙ ap stored_connection (write_read_other l v vc u ne)
        ∙ sym (stored_read R l u b (omega arith))
        ∙ sym (write_read_other (stored_words R l) v (stored_connection vc) u ne)

pub opened_stored : (R : ℕ) (l : List ℕ) (v : ℕ) → v < R → words_per_connection * R ≤ length l
    → get_or (stored_words R l) (open_place v) 0 ≡ get_or l (open_place v) 0
unfolding connection_at stored_connection
opened_stored R l v h long = ap (λ (vc : Connection). vc.opened) (stored_read R l v h long)
