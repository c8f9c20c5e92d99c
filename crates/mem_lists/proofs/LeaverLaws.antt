-- Who departs: the connection that the header names, in memory as it is and once a cell has been accepted; and what
-- departs, by whether its list holds more.
use Prim.Native.Nat.{ℕ, ◌*◌, ◌≤◌}
use mathlib.Core.Path.{◌≡◌, refl, sym, ◌∙◌, ap}
use mathlib.Core.Logic.{◌≢◌}
use mathlib.Core.Bool.{Bool, true, false, ◌&&◌}
use mathlib.Core.List.{List}
use native.Mathlib.Omega.{arith}
use borrow.Author.Tests.{eqb-true, eqb-false, le-leb, eq-eqb, ne_eqb}
use lib.ListN.{get_or}
use Rattle.meaning.specs.Plain.{when◌then◌else◌, ◌≤?◌, ◌=?◌}
use Rattle.meaning.specs.Numbers.{cell_start, open_place, waiting_place, words_per_connection, kind_in_range}
use Rattle.meaning.specs.Header.{Header, header_at, connection, names_connection, names_open}
use Rattle.meaning.specs.Words.{connection_at}
use Rattle.meaning.proofs.WordsLaws.{opened_at, waiting_at}
use Rattle.meaning.proofs.NamesLaws.{names_not_0}
use Rattle.leaf_header.specs.Name.{numbered}
use Rattle.leaf_header.proofs.NameLaws.{second, numbered_yes, numbered_no, numbered_off}
use Rattle.mem_lists.specs.Spaces.{may_leave, Stored, Counted}
use Rattle.mem_lists.specs.Leaver.{may_go, goes_as, leaver_of, leaver_after}

pos_of : (k : ℕ) → k ≢ 0 → 1 ≤ k
pos_of k ne = omega arith

-- ---- a connection's open word and waiting, tested one after the other
module _ (N : ℕ) (words : List ℕ) (u : ℕ) where
  abbrev waits : ℕ
  waits = get_or words (waiting_place u) 0

  pub go_counts : get_or words (words_per_connection * u) 0 ≡ 1 → waits ≢ 0 → (waits ≤? N) ≡ may_go N words u
  unfolding may_go
  go_counts e ne = simp (eq-eqb _ _ (opened_at words u ∙ e), waiting_at words u, le-leb 1 waits (pos_of waits ne))

  pub go_none : get_or words (words_per_connection * u) 0 ≡ 1 → waits ≡ 0 → false ≡ may_go N words u
  unfolding may_go
  go_none e none = simp (eq-eqb _ _ (opened_at words u ∙ e), waiting_at words u, none)

  pub go_closed : get_or words (words_per_connection * u) 0 ≢ 1 → false ≡ may_go N words u
  unfolding may_go
  go_closed ne = simp (ne_eqb (connection_at words u).opened 1 (λ e. ne (sym (opened_at words u) ∙ e)))

-- ---- the header names a connection, or none
goes_in : (N : ℕ) (words : List ℕ) (c : ℕ) → c ≢ 0 → goes_as N words c ≡ (when may_go N words c then c else 0)
unfolding goes_as
goes_in N words c some = rw (ne_eqb c 0 some)

goes_0 : (N : ℕ) (words : List ℕ) → goes_as N words 0 ≡ 0
unfolding goes_as
goes_0 N words = refl

module _ (N z kind : ℕ) (cells words : List ℕ) (x : ℕ) where
  abbrev h : Header
  h = header_at kind cells (cell_start x)

  leave_go : kind_in_range kind ≡ true → names_connection z h ≡ true → may_leave N z kind cells words x ≡ may_go N words (connection z h)
  unfolding may_leave names_open may_go connection_at
  leave_go k e = rw (k, e)

  leave_none : kind_in_range kind && names_connection z h ≡ false → may_leave N z kind cells words x ≡ false
  unfolding may_leave names_open
  leave_none e = go (kind_in_range kind) (names_connection z h) refl refl e
    where
      go : (a b : Bool) → kind_in_range kind ≡ a → names_connection z h ≡ b → a && b ≡ false
          → (kind_in_range kind && (names_connection z h && get_or words (open_place (connection z h)) 0 =? 1)) && 1 ≤? (connection_at words (connection z h)).waiting && (connection_at words (connection z h)).waiting ≤? N ≡ false
      go true true p q f = absurd (let w : ◌≡◌ {A = ℕ} 0 1 = cc in omega arith)
      go true false p q f = rw (p, q)
      go false b p q f = rw p

  -- what a header names, if a cell of it may depart
  pub leaver_is : goes_as N words (numbered kind z h) ≡ leaver_of N z kind cells words x
  unfolding leaver_of
  leaver_is = go (kind_in_range kind) (names_connection z h) refl refl
    where
      go : (a b : Bool) → kind_in_range kind ≡ a → names_connection z h ≡ b
          → goes_as N words (numbered kind z h) ≡ (when may_leave N z kind cells words x then connection z h else 0)
      go true true p q =
          rw (numbered_yes kind z h p q, leave_go p q) (goes_in N words (connection z h) (names_not_0 z h q))
      go true false p q = rw (numbered_no kind z h q, leave_none (rw (p, q))) (goes_0 N words)
      go false b p q = rw (numbered_off kind z h p, leave_none (rw p)) (goes_0 N words)

  -- a connection of which a cell may depart has a number
  pub leave_some : may_leave N z kind cells words x ≡ true → connection z h ≢ 0
  leave_some e zero = go (kind_in_range kind && names_connection z h) refl
    where
      go : (d : Bool) → kind_in_range kind && names_connection z h ≡ d → ⊥
      go true f = names_not_0 z h (second (kind_in_range kind) (names_connection z h) f) zero
      go false f =
          let y : ◌≡◌ {A = Bool} true false = sym e ∙ leave_none f in
          let w : ◌≡◌ {A = ℕ} 0 1 = cc in omega arith

-- ---- once a cell of the connection own has been accepted into space s
go_own : (N own : ℕ) (words words' : List ℕ) → Counted N own words words' → may_go N words' own ≡ true
unfolding may_go
go_own N own words words' k =
    simp (eq-eqb _ _ k.open_own, le-leb _ _ k.some_own, le-leb _ _ k.most_own)

go_other : (N own : ℕ) (words words' : List ℕ) → Counted N own words words'
    → (u : ℕ) → u ≢ own → may_go N words u ≡ may_go N words' u
unfolding may_go
go_other N own words words' k u ne = rw (k.opened_others u ne, k.waiting_others u ne)

module _ (N z kind own s : ℕ) (cells words cells' words' : List ℕ) (x : ℕ) (some : own ≢ 0)
    (stored : Stored z kind own s cells cells') (counted : Counted N own words words')
  where
    abbrev was : ℕ
    was = numbered kind z (header_at kind cells (cell_start x))

    abbrev is : ℕ
    is = numbered kind z (header_at kind cells' (cell_start x))

    own_goes : own ≡ goes_as N words' own
    own_goes = sym (goes_in N words' own some ∙ rw (go_own N own words words' counted))

    pub after_own : x ≡ s → own ≡ leaver_of N z kind cells' words' x
    after_own e =
        let here : is ≡ own = ap (λ (y : ℕ). numbered kind z (header_at kind cells' (cell_start y))) e ∙ stored.named_own in
        (own_goes ∙ ap (goes_as N words') (sym here)) ∙ leaver_is N z kind cells' words' x

    kept : x ≢ s → was ≡ is
    kept ne = ap (numbered kind z) (sym (stored.others x ne))

    pub after_same : x ≢ s → was ≡ own → own ≡ leaver_of N z kind cells' words' x
    after_same ne e = (own_goes ∙ ap (goes_as N words') (sym e ∙ kept ne)) ∙ leaver_is N z kind cells' words' x

    goes_other : (u : ℕ) → u ≢ own → goes_as N words u ≡ goes_as N words' u
    unfolding goes_as
    goes_other u ne = rw (go_other N own words words' counted u ne)

    pub after_other : x ≢ s → was ≢ own → goes_as N words was ≡ leaver_of N z kind cells' words' x
    after_other ne other = (goes_other was other ∙ ap (goes_as N words') (kept ne)) ∙ leaver_is N z kind cells' words' x

    pub leaver_after_is : leaver_after N z kind cells words own s x ≡ leaver_of N z kind cells' words' x
    unfolding leaver_after
    leaver_after_is = go (x =? s) (was =? own) refl refl
      where
        go : (d e : Bool) → (x =? s) ≡ d → (was =? own) ≡ e
            → leaver_after N z kind cells words own s x ≡ leaver_of N z kind cells' words' x
        go true e p q = rw p (after_own (eqb-true _ _ p))
        go false true p q = rw (p, q) (after_same (eqb-false _ _ p) (eqb-true _ _ q))
        go false false p q = rw (p, q) (after_other (eqb-false _ _ p) (eqb-false _ _ q))
