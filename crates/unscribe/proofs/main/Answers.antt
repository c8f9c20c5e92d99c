-- The program `unscribe`: a memory as long as the longest input has its length by a law, since it is too long to count out.
use Rattle.std.proofs.Common.{◌≡◌, ℕ, sym, length, length-take-le}
use Rattle.std.proofs.lemmas.List.{length-replicate}
use Rattle.std.proofs.Math.ListN.{replicate}
use Rattle.unscribe.proofs.main.Goals as goal

long : (n : ℕ) → n ≡ length (replicate {A = ℕ} n 0)
long n = sym (length-replicate n 0)

pub slice_bounds-read_whole-end : goal.slice_bounds-read_whole-end
slice_bounds-read_whole-end c = long 524289

pub slice_bounds-input-end : goal.slice_bounds-input-end
slice_bounds-input-end c = c.in-Some.ensures.in_bounds

pub slice_bounds-show-end : goal.slice_bounds-show-end
slice_bounds-show-end c = sym (length-take-le _ _ c.in-Some.ensures.in_bounds)
