-- The line without its memory: the calendar as a list of queues, one for each coming slot, and the Output List. A proof
-- device: no promise mentions it.
--
--   sum f q, sums f r   == f added up over a queue, over all queues; with `one` the number of cells
--   All P q, Alls P r   == P of every cell
--   flat r              == the cells of all queues, queue after queue
--   turn r              == a slot later: one more queue, empty, at the end
--   put D c r           == the cell c joins the queue D at its head
--   Fits r, Loose r     == each rest of the calendar holds at most as many cells as it has queues; at most one less
--   Timed n r           == the first queue's cells are due in slot n, the next one's in n + 1, and so on
--   Late w n o          == cells that leave in the slots n, n + 1, .. leave at most w after they are due
--   Good w n r o        == what holds after every slot, n being the next one
--   Rising f lo hi l    == f grows along the list, from lo on and below hi
use Rattle.std.specs.Prelude.{ℕ, zero, suc, ◌+◌, ◌≤◌, ◌<◌, ◌≡◌, List, [], ◌∷◌, ◌++◌, length}

abbrev pub sum : {C : Type 0} → (C → ℕ) → List C → ℕ
sum f [] = 0
sum f (c ∷ cs) = f c + sum f cs

abbrev pub sums : {C : Type 0} → (C → ℕ) → List (List C) → ℕ
sums f [] = 0
sums f (q ∷ r) = sum f q + sums f r

abbrev pub one : {C : Type 0} → C → ℕ
one c = 1

abbrev pub All : {C : Type 0} → (C → Type 0) → List C → Type 0
All P [] = Unit {0}
All P (c ∷ cs) = P c × All P cs

abbrev pub Alls : {C : Type 0} → (C → Type 0) → List (List C) → Type 0
Alls P [] = Unit {0}
Alls P (q ∷ r) = All P q × Alls P r

abbrev pub flat : {C : Type 0} → List (List C) → List C
flat [] = []
flat (q ∷ r) = q ++ flat r

abbrev pub first : {C : Type 0} → List (List C) → List C
first [] = []
first (q ∷ r) = q

abbrev pub turn : {C : Type 0} → List (List C) → List (List C)
turn r = r ++ [] ∷ []

abbrev pub put : {C : Type 0} → ℕ → C → List (List C) → List (List C)
put D c [] = []
put zero c (q ∷ r) = (c ∷ q) ∷ r
put (suc D) c (q ∷ r) = q ∷ put D c r

-- w empty queues
abbrev pub bare : {C : Type 0} → ℕ → List (List C)
bare zero = []
bare (suc w) = [] ∷ bare w

abbrev pub Fits : {C : Type 0} → List (List C) → Type 0
Fits [] = Unit {0}
Fits (q ∷ r) = (sum one q + sums one r ≤ suc (length r)) × Fits r

abbrev pub Loose : {C : Type 0} → List (List C) → Type 0
Loose [] = Unit {0}
Loose (q ∷ r) = (sum one q + sums one r ≤ length r) × Loose r

abbrev pub Rising : {C : Type 0} → (C → ℕ) → ℕ → ℕ → List C → Type 0
Rising f lo hi [] = lo ≤ hi
Rising f lo hi (x ∷ xs) = (lo ≤ f x) × Rising f (suc (f x)) hi xs

module _ {C : Type 0} (due : C → ℕ) where
  abbrev pub Timed : ℕ → List (List C) → Type 0
  Timed n [] = Unit {0}
  Timed n (q ∷ r) = All (λ c. due c ≡ n) q × Timed (suc n) r

  abbrev pub Late : ℕ → ℕ → List C → Type 0
  Late w n [] = Unit {0}
  Late w n (c ∷ cs) = (n ≤ due c + w) × Late w (suc n) cs

  -- after every slot: w is N-1, r the calendar from the slot n on, o the Output List
  pub record Good (w n : ℕ) (r : List (List C)) (o : List C) : Type 0 where
    pub long : length r ≡ w
    pub fits : Fits r
    pub room : sums one r + sum one o ≤ w
    pub timed : Timed n r
    pub late : Late w n o
    pub ripe : All (λ c. due c < n) o

  -- within slot n, after the arrival: N queues, from the slot n on
  pub record Arrived (w n : ℕ) (r : List (List C)) (o : List C) : Type 0 where
    pub long : length r ≡ suc w
    pub fits : Fits r
    pub room : sums one r + sum one o ≤ suc w
    pub timed : Timed n r
    pub late : Late w n o
    pub ripe : All (λ c. due c < n) o

  -- within slot n, after the transfer: the calendar from n + 1 on, and all that was due in the Output List
  pub record Moved (w n : ℕ) (r : List (List C)) (o : List C) : Type 0 where
    pub long : length r ≡ w
    pub fits : Fits r
    pub room : sums one r + sum one o ≤ suc w
    pub timed : Timed (suc n) r
    pub late : Late w n o
    pub ripe : All (λ c. due c ≤ n) o
