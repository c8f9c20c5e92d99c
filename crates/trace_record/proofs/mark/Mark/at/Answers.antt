-- `Mark::at`: two octets from the place on, high octet first, are looked up.
use Rattle.std.proofs.Common.{List, ◌≡◌, ◌∙◌, sym, ap, ℕ, ◌+◌, ◌-◌, ◌≤◌, ◌<◌, length, arith}
use Rattle.std.proofs.Math.ListN.{get_or, drop}
use Rattle.std.proofs.lemmas.List.{get_or-take, get_or-drop}
use Rattle.trace_record.specs.Trace.{be16}
use Rattle.trace_record.proofs.mark.Mark.at.Goals as goal

pub returns : goal.returns
unfolding be16
returns c m = (λ h. (inside, sym is ∙ (c.of_letters.ensures m).0 h), λ h. (c.of_letters.ensures m).1 (is ∙ h.1))
  where
    inside : c.args.at + 2 ≤ length c.args.trace.now
    inside = omega (arith, c.in_ok-get.ensures.lookup.0.3, c.in-len2-up.len_at_least)

    here : (i j : ℕ) → j ≡ c.args.at + i → i < length c.args.trace.now - c.args.at → get_or c.in_ok-get.field-0.now i 0 ≡ get_or c.args.trace.now j 0
    here i j e l =
        ap (λ (xs : List ℕ). get_or xs i 0) c.in_ok-get.ensures.lookup.0.2
        ∙ get_or-take (length c.args.trace.now - c.args.at) (drop c.args.at c.args.trace.now) i 0 l
        ∙ get_or-drop c.args.at c.args.trace.now i 0 ∙ ap (λ (k : ℕ). get_or c.args.trace.now k 0) (sym e)

    is : c.from_be_bytes.result ≡ be16 c.args.trace.now c.args.at
    is =
        omega (
          arith,
          c.from_be_bytes.ensures,
          here 0 c.args.at (omega arith) (omega (arith, inside)),
          here 1 (c.args.at + 1) (omega arith) (omega (arith, inside)),
        )
