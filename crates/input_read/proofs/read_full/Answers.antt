-- `input_read::read_full`: what stands at the buffer's start is what was read.
use Rattle.std.proofs.Common.{◌≡◌, ◌≤◌, ℕ, ◌+◌, ◌-◌, List, ◌++◌, rules, arith, length, take, sym, ap, ◌∙◌, subst, drop_at, length-take-le}
use Rattle.std.specs.Io.KnownBytes.{Consumes}
use Rattle.std.proofs.KnownBytes.{Consumes-trans}
use borrow.Rule.Slice.PartMut.{put_mid, post_of}
use lib.Seq.{take-add, take-append-le}
use lib.ListN.{drop}
use Rattle.std.proofs.lemmas.Slice.{take-put_mid_below}
use Rattle.input_read.proofs.read_full.Goals as goal

take-add-put_mid : (a k n : ℕ) (xs ys : List ℕ) → a ≤ length xs → n ≤ length ys → take a xs ++ take n ys ≡ take (a + n) (put_mid a k xs ys)
take-add-put_mid a k n xs ys within fits =
    let after = post_of a k xs in
    sym (take-add a n (put_mid a k xs ys)
    ∙ ap (λ l. l ++ take n (drop a (put_mid a k xs ys))) (take-put_mid_below a k xs ys a (omega arith) within)
    ∙ ap (λ l. take a xs ++ take n l) (drop_at (take a xs) (ys ++ after) a (length-take-le a xs within))
    ∙ ap (λ l. take a xs ++ l) (take-append-le n ys after fits))

pub loop-done-preserved : goal.loop-done-preserved
loop-done-preserved g c =
    let at = c.loop-done.done in
    let room = length c.loop-done.buf - at in
    let within = c.loop-done.invariant.1 in
    let joined = take-add-put_mid at room c.in-Ok.n c.loop-done.buf c.read.new.buf within c.in-Ok.ensures.bound.0 in
    (search rules, search rules, search rules, subst (Consumes _ _) joined (Consumes-trans _ _ _ _ _ c.loop-done.invariant.3 c.in-Ok.ensures.bytes.0))
