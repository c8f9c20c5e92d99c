-- What a fill has made so far, and that a place without a record ends it.
use Prim.Native.Nat.{ℕ, ◌+◌, ◌≤◌}
use mathlib.Core.Path.{◌≡◌, refl, subst}
use mathlib.Core.List.{List}
use lib.ListN.{length}
use native.Mathlib.Omega.{arith}
use Rattle.meaning.specs.Numbers.{octets}
use Rattle.trace_record.specs.declared.Event.{Event}
use Rattle.trace_record.specs.declared.Event.TheVariants.{Cell}
use Rattle.trace_record.specs.declared.Found.{Found}
use Rattle.trace_record.specs.declared.Found.TheVariants.{Read, End, Unreadable}
use Rattle.trace_record.specs.Trace.{Stands, record_of, said_of}
use Rattle.list_lines.specs.Put.{Put}
use Rattle.text_print.specs.Print.{CellWithin}
use Rattle.text_print.specs.Fill.{Lines, NoRecord}

-- the lines so far, in a buffer that keeps its length
pub record Made (trace : List ℕ) (at : ℕ) (out₀ : List ℕ) (place : ℕ) (out : List ℕ) (used : ℕ) : Type 0 where
  pub text : List ℕ
  pub lines : Lines trace (length out₀) at text place
  pub put : Put out₀ 0 text out used
  pub within : used ≤ length out₀
  pub same : length out ≡ length out₀

no_record_of : (f : Found) → ((e : Event) (next : ℕ) → f ≡ Read e next → ⊥) → NoRecord (said_of f)
no_record_of (Read e next) h = absurd (h e next refl)
no_record_of End h = omega arith
no_record_of (Unreadable place) h = omega arith

pub no_record : (f : Found) (x : Stands) → said_of f ≡ x → ((e : Event) (next : ℕ) → f ≡ Read e next → ⊥) → NoRecord x
no_record f x e h = subst NoRecord e (no_record_of f h)

-- the octets of a cell that an event names
pub cell_within : (trace : List ℕ) (e : Event) (start : ℕ) → e ≡ Cell start → CellWithin trace (record_of e) → start + octets ≤ length trace
cell_within trace e start q h = subst (λ (x : Event). CellWithin trace (record_of x)) q h
