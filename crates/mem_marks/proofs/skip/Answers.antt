-- `mem_marks::skip` meets its contract: a four whose OR is 0 has four words more that are.
use Rattle.std.proofs.Common.{◌≡◌, ℕ, ◌*◌, ◌+◌, ◌/◌, ◌≤◌, ◌<◌, List, [], get_or, length, ap, sym, arith}
use native.Mathlib.Decide.{dec_lt}
use Rattle.mem_marks.proofs.FourLaws.{four_none}
use Rattle.mem_marks.proofs.skip.Goals as goal

pub loop-k-preserved : goal.loop-k-preserved
loop-k-preserved c =
    let fours = c.as_chunks.result.0.now in
    let words = c.args.words.now in
    let k = c.loop-k.k in
    let low : k < length words / 4 = omega (arith, c.loop-k-test.true, c.as_chunks.ensures.front_len) in
    let four = four_none words (length words / 4) k (get_or fours k []) low (ap (λ (l : List (List ℕ)). get_or l k []) (sym c.as_chunks.ensures.front)) c.if-a-b-ne0.false in
    λ w h. go words k c.loop-k.invariant four w h (dec_lt w (4 * k))
  where
    go : (words : List ℕ) (k : ℕ) → ((w : ℕ) → w < 4 * k → get_or words w 0 ≡ 0) → ((w : ℕ) → 4 * k ≤ w → w < 4 * k + 4 → get_or words w 0 ≡ 0)
        → (w : ℕ) → w < 4 * (k + 1) → Dec (w < 4 * k) → get_or words w 0 ≡ 0
    go words k f g w h (yes l) = f w l
    go words k f g w h (no l) = g w (omega arith) (omega arith)
