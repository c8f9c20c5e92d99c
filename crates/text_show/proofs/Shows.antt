-- What was handed over, with the refusal behind it: none where a write failed or the input ends, else the line of the place.
use Prim.Native.Nat.{ℕ, ◌≤◌, ◌<◌, min}
use mathlib.Core.Path.{◌≡◌, refl, sym, ap, subst, ◌∙◌}
use mathlib.Core.Bool.{Bool, true, false, not}
use mathlib.Core.List.{List, []}
use lib.ListN.{length, take}
use native.Mathlib.Decide.{dec_lt}
use native.Mathlib.Omega.{arith}
use lib.Seq.{take_all}
use Rattle.std.specs.declared.option.Option.{Option}
use Rattle.std.specs.Io.KnownBytes.{Appends}
use Rattle.std.proofs.KnownBytes.{Appends-nil}
use Rattle.meaning.specs.Plain.{when◌then◌else◌}
use Rattle.list_lines.specs.Lines.{stop_line}
use Rattle.list_lines.specs.Put.{Put}
use Rattle.list_lines.proofs.Puts.{put_none, put_front}
use Rattle.text_print.specs.Print.{line_room, text_of}
use Rattle.text_show.specs.Shown.{limit, at_end, stop_of, Handed, Shown, ShowPromise, Taken}

never : {A : Type 0} → false ≡ true → A
never e = let z : ◌≡◌ {A = ℕ} 0 1 = cc in absurd (omega arith)

over : (b : Bool) → not b ≡ false → b ≡ true
over true e = refl
over false e = sym e

off : (b : Bool) → not b ≡ true → b ≡ false
off true e = sym e
off false e = refl

module _ {trace out out' : List ℕ} {at : ℕ} (total : ℕ) (good : Bool) (d : Handed trace out good at out') where
  -- a write failed
  pub shown_cut : not good ≡ true → Shown trace total out false out'
  shown_cut e =
      record {
        good = good;
        at = at;
        middle = out';
        stop = [];
        handed = d;
        put = put_none out' 0;
        told = (λ g. never (sym (off good e) ∙ g), λ _. refl);
        whole = λ f. never f;
      }

  -- the lines go to the input's end
  pub shown_end : not good ≡ false → at_end at total ≡ true → Shown trace total out true out'
  unfolding stop_of
  shown_end e h =
      let w = d.whole (over good e) in
      let s : stop_of trace total ≡ [] =
      ap (λ (n : ℕ). when at_end n total then [] else stop_line n) (sym w.1) ∙ ap (λ (b : Bool). when b then [] else stop_line at) h in
      record {
        good = good;
        at = at;
        middle = out';
        stop = [];
        handed = d;
        put = put_none out' 0;
        told = (λ _. sym s, λ _. refl);
        whole = λ _. over good e;
      }

  -- they end before it
  pub shown_stop : {out'' : List ℕ} {used : ℕ} (answer : Bool) → not good ≡ false → at_end at total ≡ false → Put out' 0 (stop_line at) out'' used
      → Shown trace total out answer out''
  unfolding stop_of
  shown_stop answer e h p =
      let w = d.whole (over good e) in
      let s : stop_of trace total ≡ stop_line at =
      ap (λ (n : ℕ). when at_end n total then [] else stop_line n) (sym w.1) ∙ ap (λ (b : Bool). when b then [] else stop_line at) h in
      record {
        good = good;
        at = at;
        middle = out';
        stop = stop_line at;
        handed = d;
        put = record { list = p.list; next = omega arith };
        told = (λ _. sym s, λ g. never (sym g ∙ over good e));
        whole = λ _. over good e;
      }

  -- ---- which octets the writers took

  stop_here : not good ≡ false → (b : Bool) → at_end at total ≡ b → stop_of trace total ≡ (when b then [] else stop_line at)
  unfolding stop_of
  stop_here e b h =
      ap (λ (n : ℕ). when at_end n total then [] else stop_line n) (sym (d.whole (over good e)).1)
      ∙ ap (λ (x : Bool). when x then [] else stop_line at) h

  pub taken_end : {a a' b : Option (List ℕ)} → not good ≡ false → at_end at total ≡ true → (good ≡ true → Appends a a' (text_of trace))
      → Taken trace total a a' b b
  taken_end {b = b} e h w = record { lines = w (over good e); stop = subst (Appends b b) (sym (stop_here e true h)) (Appends-nil b) }

  pub taken_stop : {a a' b b' : Option (List ℕ)} {out'' : List ℕ} {used : ℕ} → not good ≡ false → at_end at total ≡ false
      → (good ≡ true → Appends a a' (text_of trace))
      → Put out' 0 (stop_line at) out'' used → used ≤ length out' → Appends b b' (take used out'') → Taken trace total a a' b b'
  taken_stop {b = b} {b'} e h w p l v =
      record { lines = w (over good e); stop = subst (Appends b b') (put_front p l ∙ sym (stop_here e false h)) v }

-- the octets that are read
front_is : (input : List ℕ) → take (min (length input) limit) input ≡ take limit input
front_is input = go (dec_lt limit (length input))
  where
    go : Dec (limit < length input) → take (min (length input) limit) input ≡ take limit input
    go (yes h) = let e : min (length input) limit ≡ limit = omega arith in ap (λ (n : ℕ). take n input) e
    go (no h) = take_all (min (length input) limit) input (omega arith) ∙ sym (take_all limit input (omega arith))

pub too_short : (input out : List ℕ) → length out < line_room → ShowPromise input out false out
too_short input out h = record { shown = λ l. absurd (omega arith); short = λ _. (refl, refl) }

module _ (input : List ℕ) (n : ℕ) (e : n ≡ min (length input) limit) where
  read_is : take n input ≡ take limit input
  read_is = ap (λ (k : ℕ). take k input) e ∙ front_is input

  pub show_front : (out out' : List ℕ) (answer : Bool) → line_room ≤ length out → Shown (take n input) (length input) out answer out' → ShowPromise input out answer out'
  show_front out out' answer h d =
      record { shown = λ _. subst (λ (x : List ℕ). Shown x (length input) out answer out') read_is d; short = λ l. absurd (omega arith) }

  pub taken_front : (a a' b b' : Option (List ℕ)) → Taken (take n input) (length input) a a' b b' → Taken (take limit input) (length input) a a' b b'
  taken_front a a' b b' t = subst (λ (x : List ℕ). Taken x (length input) a a' b b') read_is t
