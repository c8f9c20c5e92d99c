-- Connections and their numbers (document 02 (vi)): a connection's number is below V + 256 and neither 0 nor V, and no two
-- connections have the same one, so that VCs and paths never share a bucket. Where the VPI is 0 all is as document 01 has it.
use Prim.Native.Nat.{ℕ, ◌+◌, ◌<◌}
use mathlib.Core.Path.{◌≡◌, refl, ap}
use mathlib.Core.Logic.{◌≢◌}
use mathlib.Core.Bool.{Bool, true, false, ◌&&◌, ◌||◌}
use mathlib.Core.List.{List}
use native.Mathlib.Omega.{arith}
use borrow.Author.Tests.{eq-eqb, ne_eqb, ltb-true, leb-true}
use Rattle.meaning.specs.Plain.{◌<?◌, ◌≤?◌, ◌=?◌}
use Rattle.meaning.specs.Numbers.{paths, connections_in, unused}
use Rattle.meaning.specs.Header.{Header, header_of, header_at, clp_in, Name, by_vci, by_vpi, named, number_in, name_in, connection, names_connection}

pub both : (a b : Bool) → a && b ≡ true → (a ≡ true) × (b ≡ true)
both true b e = (refl, e)
both false b e = absurd (let z : ◌≡◌ {A = ℕ} 0 1 = cc in omega arith)

vci_from : (z vci : ℕ) → named z (by_vci vci) ≡ true → 0 < vci
unfolding named
vci_from z vci e = let p = leb-true 1 vci (both (1 ≤? vci) (vci <? z) e).0 in omega (arith, p)

vci_below : (z vci : ℕ) → named z (by_vci vci) ≡ true → vci < z
unfolding named
vci_below z vci e = ltb-true vci z (both (1 ≤? vci) (vci <? z) e).1

vpi_from : (z vpi : ℕ) → named z (by_vpi vpi) ≡ true → 0 < vpi
unfolding named
vpi_from z vpi e = let p = leb-true 1 vpi (both (1 ≤? vpi) (vpi <? paths) e).0 in omega (arith, p)

vpi_below : (z vpi : ℕ) → named z (by_vpi vpi) ≡ true → vpi < paths
unfolding named
vpi_below z vpi e = ltb-true vpi paths (both (1 ≤? vpi) (vpi <? paths) e).1

-- ── a number that is used ──
pub used_is : (z c : ℕ) → c ≢ 0 → c ≢ z → unused z c ≡ false
unfolding unused
used_is z c a b = rw (ne_eqb c 0 a, ne_eqb c z b)

or_true : (b : Bool) → (b || true) ≡ true
or_true true = refl
or_true false = refl

pub unused_0 : (z c : ℕ) → c ≡ 0 → unused z c ≡ true
unfolding unused
unused_0 z c e = rw (eq-eqb c 0 e)

pub unused_z : (z c : ℕ) → c ≡ z → unused z c ≡ true
unfolding unused
unused_z z c e = rw (eq-eqb c z e, or_true (c =? 0))

pub used_not_0 : (z c : ℕ) → unused z c ≡ false → c ≢ 0
unfolding unused
used_not_0 z c e a = absurd (let f : unused z c ≡ true = rw (eq-eqb c 0 a) in let k : ◌≡◌ {A = ℕ} 0 1 = cc in omega arith)

pub used_not_z : (z c : ℕ) → unused z c ≡ false → c ≢ z
unfolding unused
used_not_z z c e a =
    absurd (let f : unused z c ≡ true = rw (eq-eqb c z a, or_true (c =? 0)) in let k : ◌≡◌ {A = ℕ} 0 1 = cc in omega arith)

-- ── the number of a connection ──
pub number_low : (z : ℕ) (name : Name) → named z name ≡ true → number_in z name < connections_in z
unfolding number_in
number_low z (by_vci vci) e = let p = vci_below z vci e in omega (arith, p)
number_low z (by_vpi vpi) e = let p = vpi_below z vpi e in omega (arith, p)

pub number_not_0 : (z : ℕ) (name : Name) → named z name ≡ true → number_in z name ≢ 0
unfolding number_in
number_not_0 z (by_vci vci) e f = let p = vci_from z vci e in omega (arith, p, f)
number_not_0 z (by_vpi vpi) e f = let p = vpi_from z vpi e in omega (arith, p, f)

pub number_not_z : (z : ℕ) (name : Name) → named z name ≡ true → number_in z name ≢ z
unfolding number_in
number_not_z z (by_vci vci) e f = let p = vci_below z vci e in omega (arith, p, f)
number_not_z z (by_vpi vpi) e f = let p = vpi_from z vpi e in omega (arith, p, f)

pub number_used : (z : ℕ) (name : Name) → named z name ≡ true → unused z (number_in z name) ≡ false
number_used z name e = used_is z (number_in z name) (number_not_0 z name e) (number_not_z z name e)

-- VCs and paths never share a bucket: no two of them have the same number
pub one_name : (z : ℕ) (a b : Name) → named z a ≡ true → named z b ≡ true → number_in z a ≡ number_in z b → a ≡ b
unfolding number_in
one_name z (by_vci x) (by_vci y) p q e = ap by_vci e
one_name z (by_vci x) (by_vpi y) p q e = let k = vci_below z x p in absurd (omega (arith, k, e))
one_name z (by_vpi x) (by_vci y) p q e = let k = vci_below z y q in absurd (omega (arith, k, e))
one_name z (by_vpi x) (by_vpi y) p q e = let k : x ≡ y = omega (arith, e) in ap by_vpi k

-- ── the connection that a header names ──
pub names_low : (z : ℕ) (h : Header) → names_connection z h ≡ true → connection z h < connections_in z
unfolding names_connection connection
names_low z h e = number_low z (name_in h) e

pub names_not_0 : (z : ℕ) (h : Header) → names_connection z h ≡ true → connection z h ≢ 0
unfolding names_connection connection
names_not_0 z h e = number_not_0 z (name_in h) e

pub names_used : (z : ℕ) (h : Header) → names_connection z h ≡ true → unused z (connection z h) ≡ false
unfolding names_connection connection
names_used z h e = number_used z (name_in h) e

-- VPI 0: as document 01 has it
pub vc_number : (z : ℕ) (h : Header) → h.vpi ≡ 0 → connection z h ≡ h.vci
unfolding connection number_in name_in
vc_number z h e = rw (eq-eqb h.vpi 0 e)

pub vc_named : (z : ℕ) (h : Header) → h.vpi ≡ 0 → names_connection z h ≡ (1 ≤? h.vci && h.vci <? z)
unfolding names_connection named name_in
vc_named z h e = rw (eq-eqb h.vpi 0 e)

-- another VPI: the path's number, whatever the VCI
pub path_number : (z : ℕ) (h : Header) → h.vpi ≢ 0 → connection z h ≡ z + h.vpi
unfolding connection number_in name_in
path_number z h e = rw (ne_eqb h.vpi 0 e)

pub path_named : (z : ℕ) (h : Header) → h.vpi ≢ 0 → names_connection z h ≡ (1 ≤? h.vpi && h.vpi <? paths)
unfolding names_connection named name_in
path_named z h e = rw (ne_eqb h.vpi 0 e)

-- two headers with the same VPI and VCI name the same
pub same_connection : (z : ℕ) (h k : Header) → h.vpi ≡ k.vpi → h.vci ≡ k.vci → connection z h ≡ connection z k
unfolding connection name_in
same_connection z h k p q = rw (p, q)

pub same_named : (z : ℕ) (h k : Header) → h.vpi ≡ k.vpi → h.vci ≡ k.vci → names_connection z h ≡ names_connection z k
unfolding names_connection name_in
same_named z h k p q = rw (p, q)

-- CLP stands where it stands on either kind of line
pub clp_is : (kind : ℕ) (cell : List ℕ) → (header_at kind cell 0).clp ≡ clp_in cell
unfolding header_at header_of clp_in
clp_is kind cell = refl
