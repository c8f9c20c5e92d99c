-- The promise of each function over the reader determines its result: two results that it allows coincide. No function over
-- it changes a lent octet, since the trace is lent to be read.
use Prim.Native.Nat.{ℕ}
use mathlib.Core.Path.{◌≡◌, sym, ◌∙◌}
use mathlib.Core.List.{List}
use denote.Ref.{Bor}
use Rattle.trace_record.specs.declared.Found.{Found}
use Rattle.trace_record.specs.Promises.{event_promise}
use Rattle.trace_record.proofs.Once.{event_once}
use Rattle.trace_reader.specs.Promises.{make_promise, next_promise, on_promise, here_promise}
use Rattle.trace_reader.specs.declared.Reader.{Reader}

pub make_once : (trace : Bor (List ℕ)) (at : ℕ) (a b : Reader) → make_promise trace at a → make_promise trace at b → a ≡ b
make_once trace at a b p q = p ∙ sym q

pub read_next_once : (r : Reader) (a b : Found) → next_promise r a → next_promise r b → a ≡ b
read_next_once r a b p q = event_once _ _ a b p q

pub move_on_once : (r : Reader) (found : Found) (a b : Reader) → on_promise r found a → on_promise r found b → a ≡ b
move_on_once r found a b p q = p ∙ sym q

pub place_once : (r : Reader) (a b : ℕ) → here_promise r a → here_promise r b → a ≡ b
place_once r a b p q = p ∙ sym q

pub read_at_once : (trace : List ℕ) (at : ℕ) (a b : Found) → event_promise trace at a → event_promise trace at b → a ≡ b
read_at_once trace at a b p q = event_once trace at a b p q
