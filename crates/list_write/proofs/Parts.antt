-- What was handed over out of the front parts of larger memories: the parts came back in front of what stood behind them.
use Prim.Native.Nat.{ℕ, ◌*◌, ◌≤◌}
use mathlib.Core.Path.{◌≡◌, sym, subst}
use mathlib.Core.Bool.{Bool}
use mathlib.Core.List.{List, ◌++◌}
use lib.ListN.{take, drop}
use native.Mathlib.Omega.{arith}
use lib.Seq.{take_at, drop_at, length-take-le}
use Rattle.meaning.specs.Numbers.{most_n, most_v, octets, per_entry, words_in}
use Rattle.list_whole.specs.declared.Run.{Run}
use Rattle.list_whole.specs.declared.Sizes.{Sizes}
use Rattle.list_whole.specs.Run.{World, world_of}
use Rattle.list_whole.specs.declared.Memory.{Memory}
use Rattle.list_whole.specs.Lent.{world_in}
use Rattle.list_whole.specs.Fill.{LentFor, start_run, sizes_of}
use Rattle.list_write.specs.Listed.{Left, Handed, front_of, behind_of, Ample, Listed}

-- ample memories have the parts that N and V ask for
pub front_long : (z : Sizes) (w : World) → (z.n ≤ most_n) × (z.v ≤ most_v) → Ample w → LentFor z (front_of z w)
front_long z w m a =
    record {
      cells_long_lem = length-take-le (octets * z.n) w.state.cells (omega (arith, m.0, a.cells_long_lem));
      links_long = length-take-le z.n w.state.links (omega (arith, m.0, a.links_long));
      calendar_long = length-take-le (per_entry * z.n) w.state.calendar (omega (arith, m.0, a.calendar_long));
      words_long = length-take-le (words_in z.v) w.state.words (omega (arith, m.1, a.words_long));
      bits_long = a.bits_long;
      arrived_long = length-take-le z.n w.state.arrived (omega (arith, m.0, a.arrived_long));
    }

-- the same of the parts as they are lent, by N and V as they were read
pub front_lent : (z : Sizes) (n v : ℕ) (cells links calendar words bits arrived : List ℕ) → n ≡ z.n → v ≡ z.v → (z.n ≤ most_n) × (z.v ≤ most_v)
    → Ample (world_of start_run cells links calendar words bits arrived)
    → LentFor z (world_of start_run (take (octets * n) cells) (take n links) (take (per_entry * n) calendar) (take (words_in v) words) bits (take n arrived))
front_lent z n v cells links calendar words bits arrived e f m a = rw (e, f) (front_long z (world_of start_run cells links calendar words bits arrived) m a)

module _ (input out out' : List ℕ) (answer : Bool) (z : Sizes) (cells links calendar words bits arrived c l k w g a : List ℕ) where
  -- the memories with the parts c, l, k, w and a in front, and the words of bits g
  abbrev rejoined : Left
  rejoined run =
      world_of run (c ++ drop (octets * z.n) cells) (l ++ drop z.n links) (k ++ drop (per_entry * z.n) calendar) (w ++ drop (words_in z.v) words) g (a ++ drop z.n arrived)

  module _ (long : LentFor z (world_of start_run c l k w g a)) where
    front_is : Handed input (front_of z (world_of start_run cells links calendar words bits arrived)) out (λ (run : Run). world_of run c l k w g a) out' answer
        → Handed input (front_of z (world_of start_run cells links calendar words bits arrived)) out (λ (run : Run). front_of z (rejoined run)) out' answer
    front_is h =
        let w₀ = front_of z (world_of start_run cells links calendar words bits arrived) in
        let l' = l ++ drop z.n links in
        let k' = k ++ drop (per_entry * z.n) calendar in
        let w' = w ++ drop (words_in z.v) words in
        let a' = a ++ drop z.n arrived in
        subst (λ (x : List ℕ). Handed input w₀ out (λ (run : Run). world_of run x (take z.n l') (take (per_entry * z.n) k') (take (words_in z.v) w') g (take z.n a')) out' answer)
        (sym (take_at c (drop (octets * z.n) cells) (octets * z.n) long.cells_long_lem))
        (subst (λ (x : List ℕ). Handed input w₀ out (λ (run : Run). world_of run c x (take (per_entry * z.n) k') (take (words_in z.v) w') g (take z.n a')) out' answer)
        (sym (take_at l (drop z.n links) z.n long.links_long))
        (subst (λ (x : List ℕ). Handed input w₀ out (λ (run : Run). world_of run c l x (take (words_in z.v) w') g (take z.n a')) out' answer)
        (sym (take_at k (drop (per_entry * z.n) calendar) (per_entry * z.n) long.calendar_long))
        (subst (λ (x : List ℕ). Handed input w₀ out (λ (run : Run). world_of run c l k x g (take z.n a')) out' answer)
        (sym (take_at w (drop (words_in z.v) words) (words_in z.v) long.words_long))
        (subst (λ (x : List ℕ). Handed input w₀ out (λ (run : Run). world_of run c l k w g x) out' answer)
        (sym (take_at a (drop z.n arrived) z.n long.arrived_long)) h))))

    behind_is : behind_of z (rejoined start_run) ≡ behind_of z (world_of start_run cells links calendar words bits arrived)
    behind_is =
        rw (
          drop_at c (drop (octets * z.n) cells) (octets * z.n) long.cells_long_lem,
          drop_at l (drop z.n links) z.n long.links_long,
          drop_at k (drop (per_entry * z.n) calendar) (per_entry * z.n) long.calendar_long,
          drop_at w (drop (words_in z.v) words) (words_in z.v) long.words_long,
          drop_at a (drop z.n arrived) z.n long.arrived_long,
        )

    pub lent_listed : z ≡ sizes_of input
        → Handed input (front_of z (world_of start_run cells links calendar words bits arrived)) out (λ (run : Run). world_of run c l k w g a) out' answer
        → Listed input (world_of start_run cells links calendar words bits arrived) out rejoined out' answer
    lent_listed e h =
        let w₀ = world_of start_run cells links calendar words bits arrived in
        record {
          handed = subst (λ (x : Sizes). Handed input (front_of x w₀) out (λ (run : Run). front_of x (rejoined run)) out' answer) e (front_is h);
          kept = subst (λ (x : Sizes). behind_of x (rejoined start_run) ≡ behind_of x w₀) e behind_is;
        }

-- the same, by N and V as they were read
pub lent_back : (input out out' : List ℕ) (answer : Bool) (z : Sizes) (n v : ℕ) (cells links calendar words bits arrived c l k w g a : List ℕ)
    → n ≡ z.n → v ≡ z.v → z ≡ sizes_of input → LentFor z (world_of start_run c l k w g a)
    → Handed input (world_of start_run (take (octets * n) cells) (take n links) (take (per_entry * n) calendar) (take (words_in v) words) bits (take n arrived)) out
    (λ (run : Run). world_of run c l k w g a) out' answer
    → Listed input (world_of start_run cells links calendar words bits arrived) out
    (λ (run : Run). world_of run (c ++ drop (octets * n) cells) (l ++ drop n links) (k ++ drop (per_entry * n) calendar) (w ++ drop (words_in v) words) g (a ++ drop n arrived)) out' answer
lent_back input out out' answer z n v cells links calendar words bits arrived c l k w g a en ev ez long h =
    rw (en, ev)
    (lent_listed input out out' answer z cells links calendar words bits arrived c l k w g a long ez
    (subst (λ (x : ℕ). Handed input (world_of start_run (take (octets * z.n) cells) (take z.n links) (take (per_entry * z.n) calendar) (take (words_in x) words) bits (take z.n arrived)) out (λ (run : Run). world_of run c l k w g a) out' answer) ev
    (subst (λ (x : ℕ). Handed input (world_of start_run (take (octets * x) cells) (take x links) (take (per_entry * x) calendar) (take (words_in v) words) bits (take x arrived)) out (λ (run : Run). world_of run c l k w g a) out' answer) en h)))

-- what was handed over with the parts in a struct, where each part ended as the struct has it
pub handed_back : {input out out' : List ℕ} {before : World} {answer : Bool} (m : Memory) {c l k w g a : List ℕ}
    → c ≡ m.cells.now → l ≡ m.links.now → k ≡ m.calendar.now → w ≡ m.words.now → g ≡ m.bits.now → a ≡ m.arrived.now
    → Handed input before out (λ (run : Run). world_in run m) out' answer
    → Handed input before out (λ (run : Run). world_of run c l k w g a) out' answer
handed_back m e1 e2 e3 e4 e5 e6 h = rw (e1, e2, e3, e4, e5, e6) h
