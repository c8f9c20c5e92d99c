-- Fill after fill is the whole: what a fill puts is what comes next, and each leads on. So what is handed to both outputs is
-- what stands made in the two memories.
use Prim.Native.Nat.{ℕ, suc, ◌+◌, ◌≤◌, ◌<◌, min}
use mathlib.Core.Path.{◌≡◌, refl, sym, ap, subst, ◌∙◌}
use mathlib.Core.Bool.{Bool, true, false}
use mathlib.Core.List.{List, [], ◌∷◌, ◌++◌, append_assoc, append-nil}
use native.Mathlib.Decide.{dec_lt}
use native.Mathlib.Omega.{arith}
use lib.ListN.{length, take, drop, length-append}
use lib.Seq.{take_all, take_at, drop_at}
use Rattle.std.specs.declared.option.Option.{Option}
use Rattle.std.specs.Prelude.{Result, Ok, Err, OnOk}
use Rattle.std.specs.Result.{is_err}
use Rattle.std.specs.Io.KnownBytes.{Appends}
use Rattle.std.proofs.KnownBytes.{Appends-nil, Appends-trans}
use Rattle.list_lines.specs.Put.{Put}
use Rattle.list_lines.proofs.Puts.{put_is, put_front}
use Rattle.text_scribe.specs.Scribe.{said_of, error_of, ScribePromise}
use Rattle.text_scribe.specs.Handed.{Fills, no_fill, then_fill, Passed, Handed, Taken}

never : {A : Type 0} → false ≡ true → A
never e = let z : ◌≡◌ {A = ℕ} 0 1 = cc in absurd (omega arith)

-- so many octets were handed over: what was sent, what is left, and what the writer took
pub record Sofar (all out₀ : List ℕ) (a : Option (List ℕ)) (left out : List ℕ) (a' : Option (List ℕ)) : Type 0 where
  pub count : ℕ
  pub sent : List ℕ
  pub fills : Fills all out₀ count sent out
  pub is : all ≡ sent ++ left
  pub taken : Appends a a' sent

pub sofar_none : (all out₀ : List ℕ) (a : Option (List ℕ)) → Sofar all out₀ a all out₀ a
sofar_none all out₀ a = record { count = 0; sent = []; fills = no_fill; is = refl; taken = Appends-nil a }

no_octets : (l : List ℕ) → length l ≡ 0 → l ≡ []
no_octets [] h = refl
no_octets (x ∷ l) h = absurd (omega (arith, h))

module _ {all out₀ : List ℕ} {a : Option (List ℕ)} {left out : List ℕ} {a' : Option (List ℕ)} (s : Sofar all out₀ a left out a') where
  module _ (h : length left ≡ 0) where
    whole : all ≡ s.sent ++ []
    whole = s.is ∙ ap (λ (l : List ℕ). s.sent ++ l) (no_octets left h)

    pub sofar_all : Passed all out₀ true out
    sofar_all = record { count = s.count; sent = s.sent; rest = []; fills = s.fills; begins = whole; whole = λ _. refl; some = λ e. never (sym e) }

    pub taken_all : Appends a a' all
    taken_all = subst (Appends a a') (sym (whole ∙ append-nil s.sent)) s.taken

  -- one fill more
  module _ (part left' : List ℕ) {out' : List ℕ} {room used : ℕ} (e : left ≡ part ++ left') (f : length part ≡ min room (length left)) (more : 0 < length left)
      (size : room ≡ length out₀) (p : Put out 0 part out' used) (same : length out ≡ length out₀) where
    next : drop (length s.sent) all ≡ left
    next = ap (drop (length s.sent)) s.is ∙ drop_at s.sent left (length s.sent) refl

    front : take (length out₀) left ≡ part
    front = go (dec_lt room (length left))
      where
        k : length part ≡ length part + 0
        k = omega arith

        go : Dec (room < length left) → take (length out₀) left ≡ part
        go (yes h) =
            let m : length out₀ ≡ length part = omega (arith, f, size) in
            ap (λ (i : ℕ). take i left) m ∙ ap (take (length part)) e ∙ take_at part left' (length part) refl
        go (no h) =
            let z : length left' ≡ 0 = omega (arith, f, ap length e, length-append part left') in
            let w : left ≡ part = e ∙ ap (λ (l : List ℕ). part ++ l) (no_octets left' z) ∙ append-nil part in
            take_all (length out₀) left (omega (arith, size)) ∙ w

    long : used ≡ length part
    long = omega (arith, p.next)

    pub used_within : used ≤ length out
    used_within = omega (arith, long, f, size, same)

    put : take used out' ≡ part
    put = put_front p used_within

    fills : Fills all out₀ (suc s.count) (s.sent ++ take used out') out'
    fills = then_fill used out' s.fills (omega (arith, ap length s.is, length-append s.sent left, more)) (put_is (ap (take (length out₀)) next ∙ front) p)

    on : all ≡ (s.sent ++ take used out') ++ left'
    on = s.is ∙ ap (λ (l : List ℕ). s.sent ++ l) e ∙ sym (append_assoc s.sent part left') ∙ ap (λ (l : List ℕ). (s.sent ++ l) ++ left') (sym put)

    pub sofar_more : {a'' : Option (List ℕ)} → Appends a' a'' (take used out') → Sofar all out₀ a left' out' a''
    sofar_more w = record { count = suc s.count; sent = s.sent ++ take used out'; fills = fills; is = on; taken = Appends-trans _ _ _ _ _ s.taken w }

    -- it was the last, since a write failed
    pub sofar_cut : Passed all out₀ false out'
    sofar_cut = record { count = suc s.count; sent = s.sent ++ take used out'; rest = left'; fills = fills; begins = on; whole = λ g. never g; some = λ _. omega arith }

-- a write that didn't fail took all
pub took : {T E : Type 0} (r : Result T E) (failed : Bool) (P : Type 0) → failed ≡ is_err r → failed ≡ false → OnOk r P → P
took (Ok x) failed P e f p = p
took (Err x) failed P e f p = never (sym (sym e ∙ f))

-- ---- both outputs

passed_none : (all out : List ℕ) → all ≡ [] → Passed all out true out
passed_none all out e =
    record { count = 0; sent = []; rest = []; fills = no_fill; begins = e; whole = λ _. refl; some = λ f. never (sym f) }

-- what is put nowhere is nothing
nothing : {l os l' : List ℕ} → Put l 0 os l' 0 → os ≡ []
nothing {os = []} p = refl
nothing {os = x ∷ os} p = absurd (omega (arith, p.next))

module _ {input whole line whole' line' : List ℕ} (long : ℕ) where
  -- the trace was made
  module _ (p : ScribePromise input whole line (Ok long) whole' line') (n : long ≤ length whole) where
    pub handed_trace : {out out' : List ℕ} {answer : Bool} → Passed (take long whole') out answer out' → Handed input whole line out answer whole' line' out'
    handed_trace {out} {out'} {answer} t =
        record {
          made = Ok long;
          promise = p;
          good = answer;
          middle = out';
          trace = subst (λ (l : List ℕ). Passed l out answer out') (put_front p.trace n) t;
          error = λ g. subst (λ (b : Bool). Passed (error_of (said_of input) (length whole)) out' b out') (sym g) (passed_none _ out' (nothing p.error));
          cut = λ g. (g, refl);
        }

    pub taken_trace : (a a' b : Option (List ℕ)) → Appends a a' (take long whole') → Taken input (length whole) a a' b b
    taken_trace a a' b w =
        record { trace = subst (Appends a a') (put_front p.trace n) w; error = subst (Appends b b) (sym (nothing p.error)) (Appends-nil b) }

  -- the line was made
  module _ (p : ScribePromise input whole line (Err long) whole' line') (n : long ≤ length line) where
    pub handed_line : {out out' : List ℕ} {answer : Bool} → Passed (take long line') out answer out' → Handed input whole line out answer whole' line' out'
    handed_line {out} {out'} {answer} t =
        record {
          made = Err long;
          promise = p;
          good = true;
          middle = out;
          trace = passed_none _ out (nothing p.trace);
          error = λ _. subst (λ (l : List ℕ). Passed l out answer out') (put_front p.error n) t;
          cut = λ g. never (sym g);
        }

    pub taken_line : (a b b' : Option (List ℕ)) → Appends b b' (take long line') → Taken input (length whole) a a b b'
    taken_line a b b' w =
        record { trace = subst (Appends a a) (sym (nothing p.trace)) (Appends-nil a); error = subst (Appends b b') (put_front p.error n) w }
