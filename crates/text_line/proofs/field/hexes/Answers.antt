-- `hexes`: the digits from here on, put behind the octets so far, are all digits put behind the first.
use Rattle.std.proofs.Common.{◌≡◌, ℕ, suc, ◌+◌, ◌-◌, ◌*◌, List, take, sym, ap, ◌∙◌, arith}
use Rattle.text_meaning.specs.Grammar.{hexes}
use Rattle.text_line.proofs.OctetLaws.{finds_none, no_high, no_low, one_more, all_read}
use Rattle.text_line.proofs.HexLaws.{put_one}
use Rattle.text_line.proofs.field.hexes.Goals as goal

pub returns-in_err-high-clause-found : goal.returns-in_err-high-clause-found
returns-in_err-high-clause-found c =
    let h = c.loop-k in let o = take h.k h.rec in
    let e : c.args.at + 53 - h.k ≡ suc (c.args.at + 53 - (h.k + 1)) = omega arith in
    finds_none _ _ c.from_residual.ensures
    (sym h.invariant.0 ∙ ap (λ (j : ℕ). hexes j o h.rest.now) e ∙ no_high _ o h.rest.now c.in_err-high.ensures.found)

pub returns-in_err-low-clause-found : goal.returns-in_err-low-clause-found
returns-in_err-low-clause-found c =
    let h = c.loop-k in let o = take h.k h.rec in
    let e : c.args.at + 53 - h.k ≡ suc (c.args.at + 53 - (h.k + 1)) = omega arith in
    finds_none _ _ c.from_residual-in_err-low.ensures
    (sym h.invariant.0 ∙ ap (λ (j : ℕ). hexes j o h.rest.now) e ∙ no_low _ o h.rest.now c.in_ok-high.ensures.found c.in_err-low.ensures.found)

pub loop-k-preserved : goal.loop-k-preserved
loop-k-preserved c =
    let h = c.loop-k in let o = take h.k h.rec in
    let e : c.args.at + 53 - h.k ≡ suc (c.args.at + 53 - (h.k + 1)) = omega arith in
    let p = put_one h.rec h.k (c.in_ok-high.high * 16 + c.in_ok-low.low) (omega arith) in (
      ap (λ (x : List ℕ). hexes (c.args.at + 53 - (h.k + 1)) x c.in_ok-low.after.now) p
          ∙ sym (one_more _ o h.rest.now c.in_ok-high.ensures.found c.in_ok-low.ensures.found) ∙ sym (ap (λ (j : ℕ). hexes j o h.rest.now) e) ∙ h.invariant.0,
      omega (arith, c.in_ok-high.ensures.on.1, c.in_ok-low.ensures.on.1),
    )

pub returns-clause-found : goal.returns-clause-found
returns-clause-found c = let h = c.loop-k in all_read h.k (c.args.at + 53) h.rec h.rest.now (omega arith) h.invariant.0
