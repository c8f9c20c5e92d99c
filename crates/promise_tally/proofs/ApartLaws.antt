-- A stretch has its own listing: what its calls say is what they say in the whole run, but that slots are counted from its beginning, and
-- that of an opening from before no due time is known.
use Prim.Native.Nat.{ℕ, zero, suc, ◌+◌, ◌<◌}
use mathlib.Core.Path.{◌≡◌, refl, sym, ap, ◌∙◌}
use mathlib.Core.Bool.{Bool, true, false}
use mathlib.Core.List.{List, [], ◌∷◌, ◌++◌, map, append_assoc, append-nil}
use mathlib.Core.Option.{Option, none, some}
use native.Mathlib.Omega.{arith}
use lib.ListN.{length, get_or, length-append}
use lib.Seq.{get_or-append-add}
use Rattle.meaning.specs.declared.Answer.{Answer}
use Rattle.meaning.specs.Plain.{when◌then◌else◌, ◌=?◌}
use Rattle.meaning.specs.Numbers.{empty, lets_in}
use Rattle.meaning.specs.State.{State}
use Rattle.meaning.specs.Arrival.{sent_as}
use Rattle.meaning_runs.specs.Run.{Call, on_open_with, on_close, on_slot, Event, opened, closed, ran, Run, run_of, call_at, call, calls, served}
use Rattle.meaning_runs.specs.Leak.{Opening, opening_of}
use Rattle.meaning_runs.specs.Seen.{Cell, Departure, cell_under, of_connection, cells_in, departures_in, cells_of, departures_of, absent_cell, no_departure, cell_at, departure_at}
use Rattle.theory_queues.proofs.QueueLaws.{map_append, map_length}
use Rattle.theory_queues.proofs.OrderLaws.{of_connection_append, of_connection_map}
use Rattle.promise_tally.proofs.DelayLaws.{Stamp, stamp_of, later, leaves_later}

-- ── the events of a stretch stand before those of the run ──
call_apart : (s : State) (own h : List Event) (c : Call)
    → call (run_of s (own ++ h)) c ≡ run_of (call (run_of s own) c).state ((call (run_of s own) c).events ++ h)
unfolding call call_at
call_apart s own h (on_open_with who name m F C x) = refl
call_apart s own h (on_close who name) = refl
call_apart s own h (on_slot cell) = refl

pub calls_apart : (s : State) (own h : List Event) (cs : List Call)
    → calls (run_of s (own ++ h)) cs ≡ run_of (calls (run_of s own) cs).state ((calls (run_of s own) cs).events ++ h)
unfolding calls
calls_apart s own h [] = refl
calls_apart s own h (c ∷ cs) =
    ap (λ (r : Run). calls r cs) (call_apart s own h c)
    ∙ calls_apart (call (run_of s own) c).state (call (run_of s own) c).events h cs

-- ── slots, cells and departures of both ──
pub served_apart : (own h : List Event) → served (own ++ h) ≡ served own + served h
unfolding served
served_apart [] h = omega arith
served_apart (opened who c m F C x number ∷ own) h = served_apart own h
served_apart (closed who c number ∷ own) h = served_apart own h
served_apart (ran cell a out ∷ own) h = omega (arith, served_apart own h)

stamp_under : (t : ℕ) (a : Answer) (octets : List ℕ) (o : Option Opening)
    → stamp_of (cell_under t a octets o) ≡ record { vci = a.vci; arrival = t; D = a.d }
stamp_under t a octets none = refl
stamp_under t a octets (some o) = refl

cells_in_apart : (own h : List Event)
    → map stamp_of (cells_in (own ++ h)) ≡ map stamp_of (cells_in h) ++ map (later (served h)) (map stamp_of (cells_in own))
unfolding cells_in
cells_in_apart [] h = sym (append-nil (map stamp_of (cells_in h)))
cells_in_apart (opened who c m F C x number ∷ own) h = cells_in_apart own h
cells_in_apart (closed who c number ∷ own) h = cells_in_apart own h
cells_in_apart (ran octets a out ∷ own) h = go (lets_in a.verdict) (cells_in_apart own h)
  where
    under : List Event → Cell
    under l = cell_under (served l) a (sent_as a.verdict octets) (opening_of a.vci l)

    go : (b : Bool) → map stamp_of (cells_in (own ++ h)) ≡ map stamp_of (cells_in h) ++ map (later (served h)) (map stamp_of (cells_in own))
        → map stamp_of (when b then cells_in (own ++ h) ++ (under (own ++ h) ∷ []) else cells_in (own ++ h))
        ≡ map stamp_of (cells_in h) ++ map (later (served h)) (map stamp_of (when b then cells_in own ++ (under own ∷ []) else cells_in own))
    go true e =
        map_append stamp_of (cells_in (own ++ h)) (under (own ++ h) ∷ [])
        ∙ ap (λ l. l ++ (stamp_of (under (own ++ h)) ∷ [])) e
        ∙ append_assoc (map stamp_of (cells_in h)) (map (later (served h)) (map stamp_of (cells_in own))) (stamp_of (under (own ++ h)) ∷ [])
        ∙ ap (λ s. map stamp_of (cells_in h) ++ (map (later (served h)) (map stamp_of (cells_in own)) ++ (s ∷ []))) same
        ∙ ap (λ l. map stamp_of (cells_in h) ++ l)
        (sym (map_append (later (served h)) (map stamp_of (cells_in own)) (stamp_of (under own) ∷ []))
        ∙ ap (map (later (served h))) (sym (map_append stamp_of (cells_in own) (under own ∷ []))))
      where
        same : stamp_of (under (own ++ h)) ≡ later (served h) (stamp_of (under own))
        same =
            stamp_under (served (own ++ h)) a (sent_as a.verdict octets) (opening_of a.vci (own ++ h))
            ∙ ap (λ (t : ℕ). record { vci = a.vci; arrival = t; D = a.d }) (served_apart own h)
            ∙ ap (later (served h)) (sym (stamp_under (served own) a (sent_as a.verdict octets) (opening_of a.vci own)))
    go false e = e

departures_in_apart : (own h : List Event) → departures_in (own ++ h) ≡ departures_in h ++ map (leaves_later (served h)) (departures_in own)
unfolding departures_in
departures_in_apart [] h = sym (append-nil (departures_in h))
departures_in_apart (opened who c m F C x number ∷ own) h = departures_in_apart own h
departures_in_apart (closed who c number ∷ own) h = departures_in_apart own h
departures_in_apart (ran octets a out ∷ own) h = go (a.space =? empty) (departures_in_apart own h)
  where
    seen : ℕ → Departure
    seen t = record { slot = t; vci = a.departing; octets = out }

    go : (b : Bool) → departures_in (own ++ h) ≡ departures_in h ++ map (leaves_later (served h)) (departures_in own)
        → (when b then departures_in (own ++ h) else (departures_in (own ++ h) ++ (seen (served (own ++ h)) ∷ [])))
        ≡ departures_in h ++ map (leaves_later (served h)) (when b then departures_in own else (departures_in own ++ (seen (served own) ∷ [])))
    go true e = e
    go false e =
        ap (λ l. l ++ (seen (served (own ++ h)) ∷ [])) e
        ∙ append_assoc (departures_in h) (map (leaves_later (served h)) (departures_in own)) (seen (served (own ++ h)) ∷ [])
        ∙ ap (λ (t : ℕ). departures_in h ++ (map (leaves_later (served h)) (departures_in own) ++ (seen t ∷ []))) (served_apart own h)
        ∙ ap (λ l. departures_in h ++ l) (sym (map_append (leaves_later (served h)) (departures_in own) (seen (served own) ∷ [])))

module _ (v : ℕ) (own h : List Event) where
  pub cells_apart : map stamp_of (cells_of v (own ++ h)) ≡ map stamp_of (cells_of v h) ++ map (later (served h)) (map stamp_of (cells_of v own))
  unfolding cells_of
  cells_apart =
      sym (of_connection_map vci_of stamp_of v (cells_in (own ++ h)))
      ∙ ap (of_connection vci_of v) (cells_in_apart own h)
      ∙ of_connection_append vci_of v (map stamp_of (cells_in h)) (map (later (served h)) (map stamp_of (cells_in own)))
      ∙ ap (λ l. l ++ of_connection vci_of v (map (later (served h)) (map stamp_of (cells_in own)))) (of_connection_map vci_of stamp_of v (cells_in h))
      ∙ ap (λ l. map stamp_of (of_connection (λ c. c.vci) v (cells_in h)) ++ l)
      (of_connection_map vci_of (later (served h)) v (map stamp_of (cells_in own))
      ∙ ap (map (later (served h))) (of_connection_map vci_of stamp_of v (cells_in own)))
    where
      vci_of : Stamp → ℕ
      vci_of s = s.vci

  pub departures_apart : departures_of v (own ++ h) ≡ departures_of v h ++ map (leaves_later (served h)) (departures_of v own)
  unfolding departures_of
  departures_apart =
      ap (of_connection (λ d. d.vci) v) (departures_in_apart own h)
      ∙ of_connection_append (λ d. d.vci) v (departures_in h) (map (leaves_later (served h)) (departures_in own))
      ∙ ap (λ l. of_connection (λ d. d.vci) v (departures_in h) ++ l)
      (of_connection_map (λ d. d.vci) (leaves_later (served h)) v (departures_in own))

  pub cells_many : length (cells_of v (own ++ h)) ≡ length (cells_of v h) + length (cells_of v own)
  cells_many =
      sym (map_length stamp_of (cells_of v (own ++ h)))
      ∙ ap length cells_apart
      ∙ length-append (map stamp_of (cells_of v h)) (map (later (served h)) (map stamp_of (cells_of v own)))
      ∙ omega (arith, map_length stamp_of (cells_of v h), map_length (later (served h)) (map stamp_of (cells_of v own)), map_length stamp_of (cells_of v own))

  pub departures_many : length (departures_of v (own ++ h)) ≡ length (departures_of v h) + length (departures_of v own)
  departures_many =
      ap length departures_apart
      ∙ length-append (departures_of v h) (map (leaves_later (served h)) (departures_of v own))
      ∙ omega (arith, map_length (leaves_later (served h)) (departures_of v own))

-- ── the k-th of the stretch ──
map_at : {A B : Type 0} (f : A → B) (l : List A) (k : ℕ) (a : A) (b : B) → k < length l → get_or (map f l) k b ≡ f (get_or l k a)
map_at f [] k a b h = absurd (omega (arith, h))
map_at f (x ∷ l) zero a b h = refl
map_at f (x ∷ l) (suc k) a b h = map_at f l k a b (omega (arith, h))

module _ (v : ℕ) (own h : List Event) (k : ℕ) where
  pub cell_apart : k < length (cells_of v own)
      → stamp_of (cell_at v (length (cells_of v h) + k) (own ++ h)) ≡ later (served h) (stamp_of (cell_at v k own))
  cell_apart low =
      sym (map_at stamp_of (cells_of v (own ++ h)) (m + k) absent_cell blank (omega (arith, cells_many v own h, low)))
      ∙ ap (λ (l : List Stamp). get_or l (m + k) blank) (cells_apart v own h)
      ∙ ap (λ (j : ℕ). get_or (map stamp_of (cells_of v h) ++ map (later (served h)) (map stamp_of (cells_of v own))) (j + k) blank)
      (sym (map_length stamp_of (cells_of v h)))
      ∙ get_or-append-add (map stamp_of (cells_of v h)) (map (later (served h)) (map stamp_of (cells_of v own))) k blank
      ∙ map_at (later (served h)) (map stamp_of (cells_of v own)) k blank blank (omega (arith, low, map_length stamp_of (cells_of v own)))
      ∙ ap (later (served h)) (map_at stamp_of (cells_of v own) k absent_cell blank low)
    where
      m : ℕ
      m = length (cells_of v h)

      blank : Stamp
      blank = stamp_of absent_cell

  pub departure_apart : k < length (departures_of v own)
      → departure_at v (length (departures_of v h) + k) (own ++ h) ≡ leaves_later (served h) (departure_at v k own)
  departure_apart low =
      ap (λ (l : List Departure). get_or l (length (departures_of v h) + k) no_departure) (departures_apart v own h)
      ∙ get_or-append-add (departures_of v h) (map (leaves_later (served h)) (departures_of v own)) k no_departure
      ∙ map_at (leaves_later (served h)) (departures_of v own) k no_departure no_departure low
