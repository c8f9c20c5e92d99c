-- The program `salvage`: a memory as long as the input that is kept has its length by a law, since it is too long to count out.
use Rattle.std.proofs.Common.{◌≡◌, ℕ, sym, length}
use Rattle.std.proofs.lemmas.List.{length-replicate}
use Rattle.std.proofs.Math.ListN.{replicate}
use Rattle.salvage.proofs.main.Goals as goal

long : (n : ℕ) → n ≡ length (replicate {A = ℕ} n 0)
long n = sym (length-replicate n 0)

pub slice_bounds-read_full-end : goal.slice_bounds-read_full-end
slice_bounds-read_full-end c = long 524288

pub slice_bounds-input-end : goal.slice_bounds-input-end
slice_bounds-input-end c = c.read_full-long.ensures.in_bounds

pub slice_bounds-mend-end : goal.slice_bounds-mend-end
slice_bounds-mend-end c = sym c.read_full-long.ensures.part_long
