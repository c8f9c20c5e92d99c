-- `burst_way::way_of` meets its contract: step 1, field by field, and back again; the mask is that of the kind tested.
use Rattle.std.proofs.Common.{ℕ, ◌+◌, ◌%◌, ◌∙◌, ap, refl, rules, eq-eqb, ne_eqb}
use Rattle.meaning.specs.Numbers.{connections_in}
use Rattle.leaf_header.specs.Name.{mask_for}
use Rattle.burst_way.proofs.WayLaws.{way_records}
use Rattle.burst_way.proofs.way_of.Goals as goal

pub returns-then-r-eq0 : goal.returns-then-r-eq0
unfolding mask_for
returns-then-r-eq0 c =
    let a = c.args in
    let both = way_records a.r a.n _ _ _ _ 16777215 c.requires.0 refl
    (c.after-turn.ensures ∙ ap (λ (x : ℕ). (x + 1) % a.n) c.from.ensures)
    (c.connections-all.ensures ∙ ap connections_in c.from-v.ensures)
    (c.after-rotation.ensures ∙ ap (λ (x : ℕ). (x + 1) % c.connections-all.result) c.from-2.ensures)
    (let g = c.well_formed in search rules) c.requires.3 c.requires.4 in
    record {
      slot = rw (c.from-v.ensures, c.from-3.ensures, c.from-4.ensures, c.from-5.ensures) both.0;
      last = rw (c.from-v.ensures, c.from-3.ensures, c.from-4.ensures, c.from-5.ensures) both.1;
      mask = rw (eq-eqb _ 0 c.if-r-eq0.true);
    }

pub returns-else-r-eq0 : goal.returns-else-r-eq0
unfolding mask_for
returns-else-r-eq0 c =
    let a = c.args in
    let both = way_records a.r a.n _ _ _ _ 268435455 c.requires.0 refl
    (c.after-turn.ensures ∙ ap (λ (x : ℕ). (x + 1) % a.n) c.from.ensures)
    (c.connections-all.ensures ∙ ap connections_in c.from-v.ensures)
    (c.after-rotation.ensures ∙ ap (λ (x : ℕ). (x + 1) % c.connections-all.result) c.from-2.ensures)
    (let g = c.well_formed in search rules) c.requires.3 c.requires.4 in
    record {
      slot = rw (c.from-v.ensures, c.from-3.ensures, c.from-4.ensures, c.from-5.ensures) both.0;
      last = rw (c.from-v.ensures, c.from-3.ensures, c.from-4.ensures, c.from-5.ensures) both.1;
      mask = rw (ne_eqb _ 0 c.if-r-eq0.false);
    }
