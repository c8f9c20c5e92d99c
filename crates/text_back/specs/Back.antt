-- Document 02 (viii): "Reading what was written gives the events back, adjoining pauses added together". To be read first:
-- the theorems stand in proofs/ReadBack.antt (`read_back`), proofs/Texts.antt (`written_back`) and proofs/Printed.antt.
--
--   Sayable at e      == e is what some record says that the reader reads at place at
--   Later es          == events that never stand first
--   Begun es          == events of which the first sets up, as GM, GR and GN do, and no other
--   ReadBack es       == of events es, merged and written: what the reader reads in those octets
--   WrittenBack t o n == of a text t, written into the output o as n octets: what the reader reads in those
use Rattle.std.specs.Prelude.{ℕ, ◌≤◌, ◌≡◌, true, List, [], ◌∷◌, take}
use Rattle.text_meaning.specs.Events.{Event, octets_all, merge}
use Rattle.text_meaning.specs.Writing.{good, events, write_text}
use Rattle.text_record.specs.Record.{Given, given_event, allowed_at}
use Rattle.text_trip.specs.Reading.{read}

-- "or that the reader would refuse": a pause of none is no event, and a cell has 53 octets
pub record Sayable (at : ℕ) (e : Event) : Type 0 where
  pub given : Given
  pub says : given_event given ≡ e
  pub allowed : allowed_at at given ≡ true

abbrev pub Later : List Event → Type 0
Later [] = 0 ≤ 0
Later (e ∷ es) = Sayable 1 e × Later es

abbrev pub Begun : List Event → Type 0
Begun [] = ⊥
Begun (e ∷ es) = Sayable 0 e × Later es

-- the octets are read throughout, and what is read is es, adjoining pauses added together
pub record ReadBack (es : List Event) : Type 0 where
  pub found : List Event
  pub reads : read (octets_all (merge es)) ≡ good found
  pub same : merge found ≡ merge es

-- the same of the octets that a text's writer left, as many as it says
pub record WrittenBack (text output : List ℕ) (n : ℕ) : Type 0 where
  pub says : List Event
  pub found : List Event
  pub told : events text ≡ good says
  pub reads : read (take n (write_text text output).output) ≡ good found
  pub same : merge found ≡ merge says
