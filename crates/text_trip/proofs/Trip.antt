-- Writing what was read: of a trace that is readable throughout, the octets of its events are the trace, and merging keeps
-- them exactly when each SL directly followed by an SL is full.
use Prim.Native.Nat.{ℕ, zero, suc, ◌+◌, ◌≤◌, ◌<◌}
use mathlib.Core.Path.{◌≡◌, refl, sym, ap, ◌∙◌}
use mathlib.Core.List.{List, [], ◌∷◌, ◌++◌}
use native.Mathlib.Omega.{arith}
use lib.ListN.{length, get_or, drop}
use lib.Seq.{drop-length}
use Rattle.trace_record.specs.Trace.{Stands, event, finish, refusal, stands_at}
use Rattle.text_meaning.specs.Events.{Event, told, pause, octets_of, octets_all, merge, event_of}
use Rattle.text_meaning.specs.Writing.{Said, good, bad, onto}
use Rattle.text_trip.specs.Settled.{Single, Settled}
use Rattle.text_trip.specs.Reading.{read_at, read_from, read}
use Rattle.text_trip.proofs.Records.{Read, Same, stands_same}
use Rattle.text_trip.proofs.Settled.{settled_same, same_settled}

-- events that come to the octets x
abbrev Comes : List ℕ → Said → Type 0
Comes x (good es) = (octets_all es ≡ x) × Single es
Comes x (bad p) = 0 ≤ 0

comes_onto : (e : Event) (x y : List ℕ) (q : Said) → Read e → octets_of e ++ y ≡ x → Comes y q → Comes x (onto e q)
unfolding onto octets_all
comes_onto (told o) x y (good es) r h c = (ap (λ (z : List ℕ). octets_of (told o) ++ z) c.0 ∙ h, c.1)
comes_onto (pause n) x y (good es) r h c = (ap (λ (z : List ℕ). octets_of (pause n) ++ z) c.0 ∙ h, (r.0, r.1, c.1))
comes_onto e x y (bad p) r h c = omega arith

module _ (s : List ℕ) (b : (i : ℕ) → get_or s i 0 < 256) where
  comes_at : (k at : ℕ) (q : Stands) → Same s b at q → ((i : ℕ) → Comes (drop i s) (read_from k s i)) → Comes (drop at s) (read_at (read_from k s) s q)
  unfolding read_at octets_all
  comes_at k at (event r next) h on = comes_onto (event_of s r) (drop at s) (drop next s) (read_from k s next) h.2 h.0 (on next)
  comes_at k at finish h on = (sym (ap (λ (i : ℕ). drop i s) h ∙ drop-length s), omega arith)
  comes_at k at (refusal number place) h on = omega arith

  comes_from : (k at : ℕ) → Comes (drop at s) (read_from k s at)
  unfolding read_from
  comes_from zero at = omega arith
  comes_from (suc k) at = comes_at k at (stands_at s at) (stands_same s b at) (comes_from k)

  as_read : (q : Said) {es : List Event} → Comes s q → q ≡ good es → (octets_all es ≡ s) × Single es
  as_read (good fs) {es} c e = let f : fs ≡ es = cc in rw f at c
  as_read (bad p) {es} c e = let z : ◌≡◌ {A = ℕ} 0 1 = cc in absurd (omega arith)

  -- "writing what was read gives the same octets for every trace already in that form", and for no other
  pub trip : (es : List Event) → read s ≡ good es → (Settled es → octets_all (merge es) ≡ s) × (octets_all (merge es) ≡ s → Settled es)
  unfolding read
  trip es e =
      let c = as_read (read_from (length s + 1) s 0) (comes_from (length s + 1) 0) e in
      ((λ t. settled_same es t ∙ c.0), (λ t. same_settled es c.1 (t ∙ sym c.0)))
