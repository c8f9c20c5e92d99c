-- Document 02 (xi), of every record and all words: an open or close as another operator is 16, whatever the words hold, and no open or
-- close writes a word of a connection that isn't the caller's. Assumes nothing.
use Prim.Native.Nat.{ℕ}
use mathlib.Core.Path.{◌≡◌, refl, sym, ap, ◌∙◌}
use mathlib.Core.Logic.{◌≢◌}
use mathlib.Core.Bool.{Bool, true, false, not, ◌&&◌}
use mathlib.Core.List.{List}
use native.Mathlib.Omega.{arith}
use borrow.Author.Tests.{eqb-true, leb-true, lt-ltb, le-ltb}
use Rattle.meaning.specs.declared.Record.{Record}
use Rattle.meaning.specs.Plain.{when◌then◌else◌, ◌<?◌, ◌≤?◌, ◌=?◌}
use Rattle.meaning.specs.Numbers.{most_n, least_v, most_v, ranges_hold, splits_hold, paths}
use Rattle.meaning.specs.State.{words_length}
use Rattle.meaning.specs.Header.{Name, by_vci, by_vpi, named, number_in}
use Rattle.meaning.specs.Operators.{first_operator, second_operator, owner_of, owns}
use Rattle.meaning.specs.Bucket.{bucket_of, obeys_rules}
use Rattle.meaning.specs.Words.{Second, connection_at, connection_fits, second_obeys, opened_connection, closed_connection, debt}
use Rattle.meaning.specs.Calls.{Kind, options_of, Allowed, Called, called_of, shared_refusal, open_call, close_call}
use Rattle.meaning.proofs.NamesLaws.{both, one_name}
use Rattle.meaning.proofs.WordsLaws.{write_read_other}

true_false : {A : Type 0} → ◌≡◌ {A = Bool} true false → A
true_false e = absurd (let z : ◌≡◌ {A = ℕ} 0 1 = cc in omega arith)

-- ── one operator ──
last : (a b : Bool) → a && b ≡ true → b ≡ true
last true b e = e
last false true e = refl
last false false e = e

-- with both splits 1 a setup is allowed where N and V are in their ranges
pub alone_holds : (N z : ℕ) → ranges_hold N z ≡ true → splits_hold z 1 1 ≡ true
unfolding ranges_hold splits_hold
alone_holds N z e =
    let f = first (1 ≤? N && N ≤? most_n && least_v ≤? z) (z ≤? most_v) e in
    let g = leb-true least_v z (last (1 ≤? N && N ≤? most_n) (least_v ≤? z) f) in
    rw (lt-ltb 1 z (omega (arith, g)))
  where
    first : (a b : Bool) → a && b ≡ true → a ≡ true
    first true b e = refl
    first false b e = e

pub alone_allowed : (N z : ℕ) (raw : Bool) (kind : Kind) → ranges_hold N z ≡ true → Allowed N z (options_of raw kind)
alone_allowed N z raw kind e = (e, alone_holds N z e)

-- then every connection is the second's
pub alone_owns : (r : Record) (name : Name) → r.splitvci ≡ 1 → r.splitpath ≡ 1 → named r.v name ≡ true → owns r second_operator name ≡ true
unfolding owns owner_of named
alone_owns r (by_vci vci) e f is = rw (e, le-ltb vci 1 (leb-true 1 vci (both (1 ≤? vci) (vci <? r.v) is).0))
alone_owns r (by_vpi vpi) e f is = rw (f, le-ltb vpi 1 (leb-true 1 vpi (both (1 ≤? vpi) (vpi <? paths) is).0))

-- a path is judged by the split path number alone
pub path_owner : (splitvci splitpath vpi : ℕ)
    → owner_of splitvci splitpath (by_vpi vpi) ≡ (when vpi <? splitpath then first_operator else second_operator)
unfolding owner_of
path_owner splitvci splitpath vpi = refl

-- ── 16, before any word is read ──
module _ (r : Record) (words : List ℕ) (who : ℕ) (name : Name) (ranges : ranges_hold r.n r.v ≡ true)
    (splits : splits_hold r.v r.splitvci r.splitpath ≡ true) (long : words_length r.v words ≡ true)
    (is : named r.v name ≡ true) (foreign : owns r who name ≡ false) where
  pub shared_sixteen : shared_refusal r words who name ≡ 16
  unfolding shared_refusal
  shared_sixteen = rw (ranges, splits, long, is, foreign)

  pub open_foreign : (m F C : ℕ) (x : Second) → open_call r words who name m F C x ≡ called_of 16 words
  unfolding open_call
  open_foreign m F C x = rw shared_sixteen

  pub close_foreign : close_call r words who name ≡ called_of 16 words
  unfolding close_call
  close_foreign = rw shared_sixteen

-- ── what is written is the caller's ──
abbrev in_order : Bool → Bool → Bool → Bool → Bool → Bool → ℕ
in_order a s b d o e =
    when not a then 1 else when not s then 1 else when not b then 2 else when not d then 4 else when not o then 16 else when not e then 3 else 0

owned_by : (a s b d o e : Bool) → in_order a s b d o e ≡ 0 → (d ≡ true) × (o ≡ true)
owned_by true true true true true e h = (refl, refl)
owned_by true true true true false e h = absurd (omega (arith, h))
owned_by true true true false o e h = absurd (omega (arith, h))
owned_by true true false d o e h = absurd (omega (arith, h))
owned_by true false b d o e h = absurd (omega (arith, h))
owned_by false s b d o e h = absurd (omega (arith, h))

module _ (r : Record) (words : List ℕ) (who : ℕ) (name : Name) where
  -- none of the shared refusals: it names a connection, and that is the caller's
  pub shared_owned : shared_refusal r words who name ≡ 0 → (named r.v name ≡ true) × (owns r who name ≡ true)
  unfolding shared_refusal
  shared_owned h =
      owned_by (ranges_hold r.n r.v) (splits_hold r.v r.splitvci r.splitpath) (words_length r.v words) (named r.v name)
      (owns r who name) (connection_fits r.n (connection_at words (number_in r.v name))) h

  module _ (other : Name) (is : named r.v other ≡ true) (foreign : owns r who other ≡ false) where
    abbrev c : ℕ
    c = number_in r.v name

    abbrev v : ℕ
    v = number_in r.v other

    apart : shared_refusal r words who name ≡ 0 → v ≢ c
    apart h e =
        let own = shared_owned h in
        true_false (sym own.1 ∙ ap (owns r who) (sym (one_name r.v other name is own.0 e)) ∙ foreign)

    Keeps : Called → Type 0
    Keeps x = connection_at x.words v ≡ connection_at words v

    -- refusals leave the words; what is written is elsewhere
    kept : (b : Bool) → shared_refusal r words who name =? 0 ≡ b → (k : ℕ) (rest : Called) → (v ≢ c → Keeps rest)
        → Keeps (when not b then called_of k words else rest)
    unfolding Keeps
    kept true e k rest f = f (apart (eqb-true (shared_refusal r words who name) 0 e))
    kept false e k rest f = refl

    choose : (b : Bool) (x y : Called) → Keeps x → Keeps y → Keeps (when b then x else y)
    choose true x y p q = p
    choose false x y p q = q

    pub open_keeps : (m F C : ℕ) (x : Second)
        → connection_at (open_call r words who name m F C x).words (number_in r.v other) ≡ connection_at words (number_in r.v other)
    unfolding open_call Keeps
    open_keeps m F C x =
        let b = bucket_of m F C 0 in
        kept (shared_refusal r words who name =? 0) refl (shared_refusal r words who name) _
        (λ ne. choose ((connection_at words c).opened =? 1) _ _ refl
        (choose (not (obeys_rules r.n b)) _ _ refl
        (choose (not (second_obeys (bucket_of x.m x.F x.C 0) x.tag)) _ _ refl
        (write_read_other words c (opened_connection r.t b x) v ne))))

    pub close_keeps : connection_at (close_call r words who name).words (number_in r.v other) ≡ connection_at words (number_in r.v other)
    unfolding close_call Keeps
    close_keeps =
        kept (shared_refusal r words who name =? 0) refl (shared_refusal r words who name) _
        (λ ne. choose ((connection_at words c).opened =? 0) _ _ refl
        (choose (not ((connection_at words c).waiting =? 0 && debt r.t (connection_at words c) =? 0)) _ _ refl
        (write_read_other words c closed_connection v ne)))
