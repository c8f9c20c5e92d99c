-- Fill after fill is the text: what a fill puts is what the text has from there, and where no record stands the text ends.
use Prim.Native.Nat.{ℕ, zero, suc, ◌+◌, ◌≤◌, ◌<◌}
use mathlib.Core.Path.{◌≡◌, refl, sym, ap, subst, ◌∙◌}
use mathlib.Core.Bool.{Bool, true, false}
use mathlib.Core.Logic.{◌⊎◌, ⊎_elim}
use mathlib.Core.List.{List, [], ◌++◌, append_assoc, append-nil}
use lib.ListN.{length, take}
use native.Mathlib.Omega.{arith}
use Rattle.std.specs.declared.option.Option.{Option}
use Rattle.std.specs.Prelude.{Result, Ok, Err, OnOk}
use Rattle.std.specs.Result.{is_err, is_ok}
use Rattle.std.specs.Io.KnownBytes.{Appends}
use Rattle.std.proofs.KnownBytes.{Appends-nil, Appends-trans}
use Rattle.trace_record.specs.Trace.{TraceRecord, Stands, event, finish, refusal, stands_at}
use Rattle.list_lines.proofs.Puts.{put_front}
use Rattle.text_print.specs.declared.Printed.{Printed}
use Rattle.text_print.specs.Print.{line_room, text_from, text_of}
use Rattle.text_print.specs.Fill.{Lines, none, then as then_line, NoRecord, FillPromise}
use Rattle.text_print.proofs.Whole.{lines_then, text_over}
use Rattle.text_print.proofs.Within.{read_within}
use Rattle.text_show.specs.Shown.{standing, end_at, end_from, end_of, Fills, no_fill, then_fill, Handed}

none_stands : (x : Stands) → standing x ≡ false → NoRecord x
none_stands (event r n) e = let z : ◌≡◌ {A = ℕ} 0 1 = cc in absurd (omega arith)
none_stands finish e = omega arith
none_stands (refusal number place) e = omega arith

some_stands : (x : Stands) → standing x ≡ true → NoRecord x → ⊥
some_stands (event r n) e h = h
some_stands finish e h = let z : ◌≡◌ {A = ℕ} 0 1 = cc in omega arith
some_stands (refusal number place) e h = let z : ◌≡◌ {A = ℕ} 0 1 = cc in omega arith

module _ (trace : List ℕ) where
  abbrev long : ℕ
  long = length trace + 1

  -- ---- where the lines end

  end_by : (at : ℕ) (f g : ℕ → ℕ) → ((n : ℕ) → at < n → n ≤ length trace → f n ≡ g n) → (x : Stands) → stands_at trace at ≡ x
      → end_at f at x ≡ end_at g at x
  unfolding end_at
  end_by at f g h (event r n) e = let w = read_within trace at r n e in h n w.1 w.2
  end_by at f g h finish e = refl
  end_by at f g h (refusal number place) e = refl

  end_past : (at : ℕ) (f : ℕ → ℕ) → length trace < at → (x : Stands) → stands_at trace at ≡ x → at ≡ end_at f at x
  unfolding end_at
  end_past at f h (event r n) e = let w = read_within trace at r n e in absurd (omega (arith, h, w.1, w.2))
  end_past at f h finish e = refl
  end_past at f h (refusal number place) e = refl

  end_enough : (k at : ℕ) → length trace < k + at → end_from k trace at ≡ end_from (suc k) trace at
  unfolding end_from
  end_enough zero at h = end_past at (end_from zero trace) (omega arith) (stands_at trace at) refl
  end_enough (suc k) at h = end_by at (end_from k trace) (end_from (suc k) trace) (λ n l m. end_enough k n (omega arith)) (stands_at trace at) refl

  end_step : (k at : ℕ) (r : TraceRecord) (n : ℕ) → length trace < k + at → stands_at trace at ≡ event r n → end_from k trace at ≡ end_from k trace n
  unfolding end_from end_at
  end_step zero at r n h e = let w = read_within trace at r n e in absurd (omega (arith, h, w.1, w.2))
  end_step (suc k) at r n h e = let w = read_within trace at r n e in rw e (end_enough k n (omega (arith, h, w.1)))

  over_by : (f : ℕ → ℕ) (at : ℕ) (x : Stands) → NoRecord x → end_at f at x ≡ at
  unfolding end_at
  over_by f at (event r n) h = absurd h
  over_by f at finish h = refl
  over_by f at (refusal number place) h = refl

  end_over : (k at : ℕ) → NoRecord (stands_at trace at) → end_from k trace at ≡ at
  unfolding end_from
  end_over zero at h = refl
  end_over (suc k) at h = over_by (end_from k trace) at (stands_at trace at) h

  end_lines : {wide at : ℕ} {text : List ℕ} {at' : ℕ} → Lines trace wide at text at' → (at ≤ at') × (end_from long trace at ≡ end_from long trace at')
  end_lines none = (omega arith, refl)
  end_lines {wide} {at} (then_line {text} {at'} r n l room e) =
      let w = read_within trace at' r n e in let i = end_lines l in
      (omega (arith, i.0, w.1), i.1 ∙ end_step long at' r n (omega arith) e)

  lines_within : {wide at : ℕ} {text : List ℕ} {at' : ℕ} → at ≤ length trace → Lines trace wide at text at' → at' ≤ length trace
  lines_within h none = h
  lines_within h (then_line {at' = at'} r n l room e) = (read_within trace at' r n e).2

  -- with room, a fill where a record stands leads on
  leads_by : {wide at : ℕ} {text : List ℕ} {at' : ℕ} → standing (stands_at trace at) ≡ true → line_room ≤ wide → Lines trace wide at text at'
      → NoRecord (stands_at trace at') ⊎ (wide < length text + line_room) → at < at'
  leads_by {at = at} s h none f = ⊎_elim (λ n. absurd (some_stands (stands_at trace at) s n)) (λ l. absurd (omega (arith, l, h))) f
  leads_by {at = at} s h (then_line {at' = at'} r n l room e) f = omega (arith, (end_lines l).0, (read_within trace at' r n e).1)

  pub fill_leads : {at : ℕ} {out out' : List ℕ} {r : Printed} → standing (stands_at trace at) ≡ true → line_room ≤ length out
      → FillPromise trace at out r out' → at < r.at
  fill_leads s h p = leads_by s h p.lines p.full

  -- ---- the fills so far

  pub record Sofar (out : List ℕ) (at : ℕ) (out' : List ℕ) : Type 0 where
    pub count : ℕ
    pub text : List ℕ
    pub fills : Fills trace out count text at out'
    pub begins : text_of trace ≡ text ++ text_from long trace at
    pub ends : end_of trace ≡ end_from long trace at
    pub within : at ≤ length trace

  pub sofar_none : (out : List ℕ) → Sofar out 0 out
  unfolding text_of end_of
  sofar_none out = record { count = 0; text = []; fills = no_fill; begins = refl; ends = refl; within = omega arith }

  pub sofar_more : {out out' out'' : List ℕ} {at : ℕ} {r : Printed} → Sofar out at out' → standing (stands_at trace at) ≡ true
      → FillPromise trace at out' r out'' → Sofar out r.at out''
  sofar_more {out'' = out''} {at} {r} d s p =
      let l = lines_then trace long (omega arith) p.lines in
      record {
        count = suc d.count;
        text = d.text ++ take r.used out'';
        fills = then_fill r out'' d.fills s p;
        begins = d.begins
            ∙ ap (λ (x : List ℕ). d.text ++ x) (l.1 ∙ ap (λ (x : List ℕ). x ++ text_from long trace r.at) (sym (put_front p.put p.within)))
            ∙ sym (append_assoc d.text (take r.used out'') (text_from long trace r.at));
        ends = d.ends ∙ (end_lines p.lines).1;
        within = lines_within d.within p.lines;
      }

  -- where a write failed
  pub sofar_some : {out out' : List ℕ} {at : ℕ} → Sofar out at out' → Handed trace out false at out'
  sofar_some {at = at} d =
      record {
        count = d.count;
        text = d.text;
        rest = text_from long trace at;
        fills = d.fills;
        begins = d.begins;
        within = d.within;
        whole = λ e. absurd (let z : ◌≡◌ {A = ℕ} 0 1 = cc in omega arith);
      }

  -- where no record stands all of it was handed over
  pub sofar_all : {out out' : List ℕ} {at : ℕ} → Sofar out at out' → standing (stands_at trace at) ≡ false → Handed trace out true at out'
  sofar_all {at = at} d s =
      let n = none_stands (stands_at trace at) s in
      record {
        count = d.count;
        text = d.text;
        rest = text_from long trace at;
        fills = d.fills;
        begins = d.begins;
        within = d.within;
        whole = λ _. (text_over trace long at n, sym (d.ends ∙ end_over long at n), s);
      }

  -- ---- which octets the writer took: so far what the fills put

  pub record Going (a a' : Option (List ℕ)) (out : List ℕ) (at : ℕ) (out' : List ℕ) : Type 0 where
    pub sofar : Sofar out at out'
    pub lines : Appends a a' sofar.text

  pub going_none : (a : Option (List ℕ)) (out : List ℕ) → Going a a out 0 out
  unfolding sofar_none
  going_none a out = record { sofar = sofar_none out; lines = Appends-nil a }

  pub going_more : {a a' : Option (List ℕ)} (a'' : Option (List ℕ)) {out out' out'' : List ℕ} {at : ℕ} {r : Printed} → Going a a' out at out'
      → standing (stands_at trace at) ≡ true → FillPromise trace at out' r out'' → Appends a' a'' (take r.used out'') → Going a a'' out r.at out''
  unfolding sofar_more
  going_more a'' d s p w = record { sofar = sofar_more d.sofar s p; lines = Appends-trans _ _ _ _ _ d.lines w }

  pub going_all : {a a' : Option (List ℕ)} {out out' : List ℕ} {at : ℕ} → Going a a' out at out' → standing (stands_at trace at) ≡ false
      → Appends a a' (text_of trace)
  going_all {a} {a'} {at = at} d s =
      let n = none_stands (stands_at trace at) s in
      let e : text_of trace ≡ d.sofar.text =
      d.sofar.begins ∙ ap (λ (x : List ℕ). d.sofar.text ++ x) (text_over trace long at n) ∙ append-nil d.sofar.text in
      subst (Appends a a') (sym e) d.lines

-- a write that didn't fail took all
pub took : {T E : Type 0} (r : Result T E) (failed : Bool) (P : Type 0) → failed ≡ is_err r → failed ≡ false → OnOk r P → P
took (Ok x) failed P e f p = p
took (Err x) failed P e f p = let z : true ≡ false = sym e ∙ f in let y : ◌≡◌ {A = ℕ} 0 1 = cc in absurd (omega arith)

pub took_well : {T E : Type 0} (r : Result T E) (good : Bool) (P : Type 0) → good ≡ is_ok r → good ≡ true → OnOk r P → P
took_well (Ok x) good P e f p = p
took_well (Err x) good P e f p = let z : false ≡ true = sym e ∙ f in let y : ◌≡◌ {A = ℕ} 0 1 = cc in absurd (omega arith)
