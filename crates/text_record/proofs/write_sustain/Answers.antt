-- `text_record::write_sustain`: an opening, and the second bucket and the flag behind it.
use Rattle.std.proofs.Common.{[], ◌∷◌, ◌++◌, replicate, refl, ◌∙◌}
use Rattle.meaning.specs.Words.{second_of}
use Rattle.trace_record.specs.Trace.{mark_vs}
use Rattle.text_meaning.specs.Shapes.{of32}
use Rattle.text_meaning.specs.Events.{opening_of}
use Rattle.text_record.proofs.Cases.{as_put, sustain_later, two_parts}
use Rattle.text_record.proofs.write_sustain.Goals as goal

pub returns : goal.returns
returns c =
    let a = c.args in
    let p = two_parts (replicate 23 0) (opening_of mark_vs a.vci a.m a.f a.c) (a.m2 ∷ (of32 a.f2 ++ (of32 a.c2 ++ (a.tag ∷ [])))) c.copy_from_slice.new.self c.copy_from_slice-2.new.self 13 10
    (c.copy_from_slice.ensures.after ∙ c.opening.ensures) (c.copy_from_slice-2.ensures.after ∙ c.second.ensures) refl refl refl in
    c.put_later.ensures _ (as_put p (sustain_later _ _ _ _ (second_of a.m2 a.f2 a.c2 a.tag)))
