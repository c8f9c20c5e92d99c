-- `list_write::lend` lends the front parts of its memory: `sizes_of` answers N and V within their ranges, so the parts are there
-- and of the right lengths, and they come back in front of what stood behind them.
use mathlib.Core.Path.{refl, sym, ◌∙◌}
use Rattle.list_write.proofs.Parts.{front_lent, lent_back}
use Rattle.list_write.proofs.lend.Goals as goal

pub slice_bounds-hand_over-end-2 : goal.slice_bounds-hand_over-end-2
slice_bounds-hand_over-end-2 g c =
    let a = c.args in
    let z = c.sizes_of-sizes in
    rw (c.from-n.ensures) (sym (front_lent z.result z.result.n z.result.v a.cells.now a.links.now a.calendar.now a.words.now a.bits.now a.arrived.now refl refl z.ensures.n_le_most_n c.requires.ample).cells_long_lem)

pub slice_bounds-hand_over-end-4 : goal.slice_bounds-hand_over-end-4
slice_bounds-hand_over-end-4 g c =
    let a = c.args in
    let z = c.sizes_of-sizes in
    rw (c.from-n.ensures) (sym (front_lent z.result z.result.n z.result.v a.cells.now a.links.now a.calendar.now a.words.now a.bits.now a.arrived.now refl refl z.ensures.n_le_most_n c.requires.ample).links_long)

pub slice_bounds-hand_over-end-6 : goal.slice_bounds-hand_over-end-6
slice_bounds-hand_over-end-6 g c =
    let a = c.args in
    let z = c.sizes_of-sizes in
    rw (c.from-n.ensures) (sym (front_lent z.result z.result.n z.result.v a.cells.now a.links.now a.calendar.now a.words.now a.bits.now a.arrived.now refl refl z.ensures.n_le_most_n c.requires.ample).calendar_long)

pub slice_bounds-hand_over-end-8 : goal.slice_bounds-hand_over-end-8
slice_bounds-hand_over-end-8 g c =
    let a = c.args in
    let z = c.sizes_of-sizes in
    rw (c.from.ensures) (sym (front_lent z.result z.result.n z.result.v a.cells.now a.links.now a.calendar.now a.words.now a.bits.now a.arrived.now refl refl z.ensures.n_le_most_n c.requires.ample).words_long)

pub slice_bounds-hand_over-end-10 : goal.slice_bounds-hand_over-end-10
slice_bounds-hand_over-end-10 g c =
    let a = c.args in
    let z = c.sizes_of-sizes in
    rw (c.from-n.ensures) (sym (front_lent z.result z.result.n z.result.v a.cells.now a.links.now a.calendar.now a.words.now a.bits.now a.arrived.now refl refl z.ensures.n_le_most_n c.requires.ample).arrived_long)

pub hand_over-requires : goal.hand_over-requires
hand_over-requires g c =
    let a = c.args in
    let z = c.sizes_of-sizes in
    record {
      lent_for = rw (← z.ensures.value) (front_lent z.result c.from-n.result c.from.result a.cells.now a.links.now a.calendar.now a.words.now a.bits.now a.arrived.now c.from-n.ensures c.from.ensures z.ensures.n_le_most_n c.requires.ample);
      room_in_bounds = c.requires.room_in_bounds;
    }

pub returns : goal.returns
returns g c =
    let a = c.args in
    let z = c.sizes_of-sizes in
    let o = c.hand_over in
    let f = front_lent z.result c.from-n.result c.from.result a.cells.now a.links.now a.calendar.now a.words.now a.bits.now a.arrived.now c.from-n.ensures c.from.ensures z.ensures.n_le_most_n c.requires.ample in
    record {
      listed = lent_back a.input.now a.out.now o.new.out o.result z.result c.from-n.result c.from.result a.cells.now a.links.now a.calendar.now a.words.now a.bits.now a.arrived.now
          o.new.cells o.new.links o.new.calendar o.new.words o.new.bits o.new.arrived c.from-n.ensures c.from.ensures z.ensures.value
          (record {
            cells_long_lem = o.auto.cells ∙ f.cells_long_lem;
            links_long = o.auto.links ∙ f.links_long;
            calendar_long = o.auto.calendar ∙ f.calendar_long;
            words_long = o.auto.words ∙ f.words_long;
            bits_long = o.auto.bits ∙ f.bits_long;
            arrived_long = o.auto.arrived ∙ f.arrived_long;
          })
          o.ensures.handed;
      written = o.ensures.written;
    }
