-- `mem_words::connection_fits` meets its contract: a closed connection fits, and an open one by its open word, its buckets and waiting, in turn.
use mathlib.Core.Path.{◌≡◌, refl, sym, ◌∙◌}
use mathlib.Core.Bool.{◌&&◌}
use native.Mathlib.Omega.{arith}
use Rattle.meaning.specs.Words.{connection_at, bucket_fits, second_in_range}
use Rattle.mem_words.proofs.Fits.{connection_closed, connection_open_breaks, connection_last, connection_stop, opened_at}
use Rattle.mem_words.proofs.connection_fits.Goals as goal
use Rattle.mem_words.proofs.connection_fits.Goals.{then-bucket_fits, else-bucket_fits}

pub returns-in-0 : goal.returns-in-0
returns-in-0 c = connection_closed _ _ (opened_at _ _ ∙ rw (← c.from-base.ensures) c.in-0.is)

pub returns-then-second_fits : goal.returns-then-second_fits
unfolding connection_at
returns-then-second_fits c =
    let a = c.args in
    let v : c.if-bucket_fits.value
    ≡ (bucket_fits a.n (connection_at a.words.now a.conn).bucket
    && second_in_range (connection_at a.words.now a.conn).second (connection_at a.words.now a.conn).tag) =
    elim c.if-bucket_fits.branch [
      | then-bucket_fits w ↦ rw (sym c.bucket_fits.ensures ∙ w.if-bucket_fits.true) (w.value-is ∙ w.second_fits.ensures)
      | else-bucket_fits w ↦ w.value-is ∙ w.if-bucket_fits.false ∙ rw (sym c.bucket_fits.ensures ∙ w.if-bucket_fits.false) refl
    ] in
    let one = opened_at a.words.now a.conn ∙ rw (← c.from-base.ensures) c.in-1.is in
    rw (c.from-base.ensures, c.from.ensures) (connection_last a.n (connection_at a.words.now a.conn) _ one v c.if-second_fits.true)

pub returns-else-second_fits : goal.returns-else-second_fits
unfolding connection_at
returns-else-second_fits c =
    let a = c.args in
    let v : c.if-bucket_fits.value
    ≡ (bucket_fits a.n (connection_at a.words.now a.conn).bucket
    && second_in_range (connection_at a.words.now a.conn).second (connection_at a.words.now a.conn).tag) =
    elim c.if-bucket_fits.branch [
      | then-bucket_fits w ↦ rw (sym c.bucket_fits.ensures ∙ w.if-bucket_fits.true) (w.value-is ∙ w.second_fits.ensures)
      | else-bucket_fits w ↦ w.value-is ∙ w.if-bucket_fits.false ∙ rw (sym c.bucket_fits.ensures ∙ w.if-bucket_fits.false) refl
    ] in
    let one = opened_at a.words.now a.conn ∙ rw (← c.from-base.ensures) c.in-1.is in
    connection_stop a.n (connection_at a.words.now a.conn) _ one v c.if-second_fits.false

pub returns-in_default : goal.returns-in_default
returns-in_default c =
    connection_open_breaks _ _ (rw (opened_at c.args.words.now c.args.conn, ← c.from-base.ensures) (omega arith))
