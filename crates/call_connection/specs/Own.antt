-- The refusals that are open's own, or 0: 5, 6 and 11, in this order. They are judged by the open word and by what is given.
use Rattle.std.specs.Prelude.{ℕ, not}
use Rattle.meaning.specs.Plain.{◌=?◌}
use Rattle.meaning.specs.Bucket.{bucket_of, obeys_rules}
use Rattle.meaning.specs.Words.{Second, second_obeys}
use Rattle.leaf_refusal.specs.Order.{refuse_of, first_of}

abbrev pub own_refusal : ℕ → ℕ → ℕ → ℕ → ℕ → Second → ℕ
own_refusal N opened m F C x =
    let already = refuse_of 5 (opened =? 1) in
    let against = refuse_of 6 (not (obeys_rules N (bucket_of m F C 0))) in
    let beyond = refuse_of 11 (not (second_obeys (bucket_of x.m x.F x.C 0) x.tag)) in
    first_of (first_of already against) beyond
