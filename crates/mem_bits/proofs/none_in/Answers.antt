-- `mem_bits::none_in` meets its contract: the OR of the words is 0 exactly where each of them is.
use Rattle.std.proofs.Common.{rules, ◌≡◌, refl, bit_or, fold, sym, ◌∙◌}
use borrow.Author.Tests.{eqb-true, eq-eqb}
use Rattle.mem_bits.proofs.OrLaws.{or_words, words_or}
use Rattle.mem_bits.proofs.none_in.Goals as goal

pub returns : goal.returns
returns c =
    let words = c.args.words.now in
    let all : c.fold.result ≡ fold bit_or 0 words = search rules in
    (λ e. (or_words 0 words (sym all ∙ eqb-true c.fold.result 0 e)).1, λ f. eq-eqb c.fold.result 0 (all ∙ words_or 0 words refl f))
