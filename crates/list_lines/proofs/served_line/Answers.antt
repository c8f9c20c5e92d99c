-- `list_lines::served_line` puts a served slot's line: five parts, joined by `put_then`, are the line by `slot_words`.
use native.Mathlib.Omega.{arith}
use mathlib.Core.Path.{ap, sym}
use mathlib.Core.List.{[], ◌∷◌}
use Prim.Native.Nat.{ℕ}
use Rattle.list_lines.specs.Lines.{served_line}
use Rattle.list_lines.proofs.Words.{word_shown, slot_words}
use Rattle.list_lines.proofs.Puts.{put_is, put_then}
use Rattle.list_lines.proofs.served_line.Goals as goal

pub returns : goal.returns
unfolding served_line
returns c =
    record {
      put = put_is (slot_words _ _ _ _ _)
          (put_then (put_then (put_then (put_then c.number-b.ensures.put (put_is (ap (λ (x : ℕ). x ∷ 32 ∷ []) (sym c.letter.ensures)) c.text-c.ensures))
          (put_is (word_shown _ _ _ (rw (c.then_some-vci.ensures, c.shows_vci.ensures, c.from.ensures))) c.word-e.ensures.put)) (put_is (word_shown _ _ _ (rw (c.then_some-d.ensures, c.lets_in.ensures, c.from-2.ensures))) c.word-f.ensures.put)) (put_is (word_shown _ _ _ (rw (c.then_some-departing.ensures, c.from-3.ensures))) c.word.ensures.put));
      upper_bound = omega (arith, c.number-b.ensures.upper_bound, c.text-c.ensures.next, c.word-e.ensures.upper_bound, c.word-f.ensures.upper_bound, c.word.ensures.upper_bound);
    }
