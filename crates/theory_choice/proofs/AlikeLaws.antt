-- Two runs whose cells take different free spaces: as long as the same was said, spaces apart, and the same cells wait, the next call
-- says the same and leaves the same waiting.
use Prim.Native.Nat.{ℕ}
use mathlib.Core.Path.{◌≡◌, refl, sym, ap, ap₂, ◌∙◌, subst, fun_ext}
use mathlib.Core.Logic.{◌≢◌}
use mathlib.Core.Bool.{Bool, true, false, ◌||◌}
use mathlib.Core.List.{List, [], ◌∷◌, map}
use mathlib.Core.Option.{Option}
use borrow.Author.Tests.{eq-eqb, ne_eqb}
use lib.ListN.{length}
use Rattle.base_hec.specs.Modes.{Arriving, arriving}
use Rattle.meaning.specs.declared.Answer.{Answer}
use Rattle.meaning.specs.Plain.{when◌then◌else◌, ◌=?◌}
use Rattle.meaning.specs.Numbers.{empty, dropped}
use Rattle.meaning.specs.State.{with_words}
use Rattle.meaning.specs.Header.{Name, number_in}
use Rattle.meaning.specs.Operators.{owns}
use Rattle.meaning.specs.Words.{Second}
use Rattle.meaning.specs.Calls.{open_call, close_call}
use Rattle.meaning.specs.Bits.{is_free_space}
use Rattle.meaning.specs.Work.{Work, work_of, bare_answer, answer_of}
use Rattle.meaning.specs.Slot.{slot_at}
use Rattle.meaning_runs.specs.Run.{Call, on_open_with, on_close, on_slot, Event, opened, closed, ran, Run, run_of, shown, let_in, call_at, served}
use Rattle.meaning_runs.specs.Leak.{Opening, accepts, opening_of}
use Rattle.meaning_runs.specs.Seen.{Cell}
use Rattle.meaning_runs.specs.Judged.{Judged, judged_of, judged_by, judged_as}
use Rattle.meaning_runs.proofs.ModeLaws.{raw_kept, owns_kept, mode_moved}
use Rattle.meaning_listed.specs.Runs.{answer_but, but_space}
use Rattle.theory_invariant.specs.Invariant.{Inv, Waiting, waiting}
use Rattle.theory_invariant.specs.Came.{half, noted}
use Rattle.theory_invariant.specs.Gone.{new_in, ready, onwards, LeftAs}
use Rattle.theory_invariant.proofs.CheckLaws.{Checked, served_at, refused_at}
use Rattle.theory_invariant.proofs.OpenLaws.{open_kept, close_kept}
use Rattle.theory_invariant.proofs.RunLaws.{nine}
use Rattle.theory_invariant.proofs.CallLaws.{unchanged}
use Rattle.theory_choice.proofs.AnswerLaws.{open_answers, waiting_for, close_answers, open_answers_lem, close_answers_lem}

-- ── what events say of slots and openings, they say without spaces ──
served_but : (h : List Event) → served (map but_space h) ≡ served h
unfolding served
served_but [] = refl
served_but (opened who c m F C x number ∷ h) = served_but h
served_but (closed who c number ∷ h) = served_but h
served_but (ran cell a out ∷ h) = rw (served_but h)

opening_but : (v : ℕ) (h : List Event) → opening_of v (map but_space h) ≡ opening_of v h
unfolding opening_of accepts
opening_but v [] = refl
opening_but v (opened who c m F C x number ∷ h) = rw (opening_but v h)
opening_but v (closed who c number ∷ h) = rw (opening_but v h)
opening_but v (ran cell a out ∷ h) = rw (opening_but v h, served_but h)

module _ (h k : List Event) (said : map but_space h ≡ map but_space k) where
  same_served : served h ≡ served k
  same_served = sym (served_but h) ∙ ap served said ∙ served_but k

  same_opening : (v : ℕ) → opening_of v h ≡ opening_of v k
  same_opening v = sym (opening_but v h) ∙ ap (opening_of v) said ∙ opening_but v k

  same_openings : ◌≡◌ {A = ℕ → Option Opening} (λ v. opening_of v h) (λ v. opening_of v k)
  same_openings = fun_ext same_opening

  same_judged : (kind z : ℕ) (a : Arriving) → judged_as kind z h a ≡ judged_as kind z k a
  same_judged kind z a =
      ap₂ (λ (n : ℕ) (f : ℕ → Option Opening). when a.dropped then judged_of dropped 0 0 else judged_by kind z n f a.cell)
      same_served same_openings

  same_new : (cell : List ℕ) (a b : Answer) → half a.verdict a.vci a.d ≡ half b.verdict b.vci b.d
      → new_in h cell a ≡ new_in k cell b
  same_new cell a b e =
      ap (λ (t : Answer). noted (served h) t cell (λ v. opening_of v h)) e
      ∙ ap₂ (λ (n : ℕ) (f : ℕ → Option Opening). noted n (half b.verdict b.vci b.d) cell f) same_served same_openings

-- ── answer and line cell without the space ──
shown_none : (w : Work) → w.answer.space ≡ empty → shown w ≡ []
unfolding shown
shown_none w e = rw (eq-eqb w.answer.space empty e)

but_none : (a : Answer) → a.number ≡ 0 → a.space ≡ empty → a.departing ≡ 0 → answer_but a ≡ half a.verdict a.vci a.d
but_none a e f g = rw (e, eq-eqb a.space empty f, g)

but_some : (a : Answer) (v : ℕ) → a.number ≡ 0 → a.space ≢ empty → a.departing ≡ v
    → answer_but a ≡ answer_of 0 a.verdict a.vci a.d 0 v
but_some a v e f g = rw (e, ne_eqb a.space empty f, g)

left_alike : (o : List Cell) (w v : Work) → w.answer.number ≡ 0 → v.answer.number ≡ 0
    → half w.answer.verdict w.answer.vci w.answer.d ≡ half v.answer.verdict v.answer.vci v.answer.d
    → LeftAs o w → LeftAs o v → (answer_but w.answer ≡ answer_but v.answer) × (shown w ≡ shown v)
left_alike [] w v m n e l k = (
  but_none w.answer m l.0 l.1 ∙ e ∙ sym (but_none v.answer n k.0 k.1),
  shown_none w l.0 ∙ sym (shown_none v k.0),
)
left_alike (c ∷ o) w v m n e l k = (
  but_some w.answer c.vci m l.0 l.1
      ∙ ap (λ (a : Answer). answer_of 0 a.verdict a.vci a.d 0 c.vci) e
      ∙ sym (but_some v.answer c.vci n k.0 k.1),
  l.2 ∙ sym k.2,
)

-- ── two runs ──
pub record Alike (N z kind : ℕ) (r q : Run) : Type 0 where
  pub inv : Inv N z kind r.events r.state
  pub inv' : Inv N z kind q.events q.state
  pub said : map but_space r.events ≡ map but_space q.events
  pub waits : waiting inv ≡ waiting inv'
  pub raws : r.state.ctl.raw ≡ q.state.ctl.raw
  pub modes : r.state.ctl.mode ≡ q.state.ctl.mode
  pub owners : (who : ℕ) (name : Name) → owns r.state.ctl who name ≡ owns q.state.ctl who name

module _ (N z kind : ℕ) (r q : Run) (al : Alike N z kind r q) where
  abbrev after : Run → List ℕ → Work → Run
  after p cell w = run_of w.state (ran cell w.answer (shown w) ∷ p.events)

  -- a slot that is served in both
  module _ (a : Arriving) (w v : Work) (g : Checked N z kind r.events (waiting al.inv) a w)
      (g' : Checked N z kind q.events (waiting al.inv) a v)
      (raws : w.state.ctl.raw ≡ v.state.ctl.raw) (modes : w.state.ctl.mode ≡ v.state.ctl.mode)
      (owners : (who : ℕ) (name : Name) → owns w.state.ctl who name ≡ owns v.state.ctl who name) where
    says_same : judged_of w.answer.verdict w.answer.vci w.answer.d ≡ judged_of v.answer.verdict v.answer.vci v.answer.d
    says_same = g.says ∙ same_judged r.events q.events al.said kind z a ∙ sym g'.says

    half_same : half w.answer.verdict w.answer.vci w.answer.d ≡ half v.answer.verdict v.answer.vci v.answer.d
    half_same = ap (λ (j : Judged). half j.verdict j.vci j.D) says_same

    new_same : new_in r.events a.cell w.answer ≡ new_in q.events a.cell v.answer
    new_same = same_new r.events q.events al.said a.cell w.answer v.answer half_same

    told_same : (answer_but w.answer ≡ answer_but v.answer) × (shown w ≡ shown v)
    told_same =
        left_alike (ready (new_in r.events a.cell w.answer) (waiting al.inv)) w v g.number g'.number half_same g.left
        (subst (λ l. LeftAs (ready l (waiting al.inv)) v) (sym new_same) g'.left)

    served_alike : Alike N z kind (after r a.cell w) (after q a.cell v)
    served_alike =
        record {
          inv = g.inv;
          inv' = g'.inv;
          said = ap₂ (λ (e : Event) (l : List Event). e ∷ l)
              (ap₂ (λ (t : Answer) (o : List ℕ). ran a.cell t o) told_same.0 told_same.1) al.said;
          waits = g.waits_on_lem ∙ ap (λ l. onwards l (waiting al.inv)) new_same ∙ sym g'.waits_on_lem;
          raws = raws;
          modes = modes;
          owners = owners;
        }

  -- a slot that is refused in both, with 9
  nine_alike : (cell : List ℕ) → Alike N z kind (after r cell (work_of r.state (bare_answer 9))) (after q cell (work_of q.state (bare_answer 9)))
  unfolding nine unchanged shown
  nine_alike cell =
      record {
        inv = nine N z kind r.events r.state cell al.inv;
        inv' = nine N z kind q.events q.state cell al.inv';
        said = ap (λ (l : List Event). ran cell (bare_answer 9) [] ∷ l) al.said;
        waits = al.waits;
        raws = al.raws;
        modes = al.modes;
        owners = al.owners;
      }

  -- the same is let in
  same_in : (cell : List ℕ) → let_in r.state cell ≡ let_in q.state cell
  same_in cell = ap₂ (λ (raw mode : ℕ). arriving raw mode cell) al.raws al.modes

  module _ (x y : ℕ) (free : is_free_space r.state.bits x ≡ true) (free' : is_free_space q.state.bits y ≡ true) where
    slot_alike : (cell : List ℕ) → Alike N z kind (call_at x r (on_slot cell)) (call_at y q (on_slot cell))
    unfolding call_at
    slot_alike cell =
        subst (λ (a : Arriving). Alike N z kind (after r (let_in r.state cell).cell w) (after q a.cell v)) (same_in cell)
        (go (length cell =? 0 || length cell =? 53) refl)
      where
        w : Work
        w = slot_at x r.state cell

        v : Work
        v = slot_at y q.state cell

        go : (b : Bool) → length cell =? 0 || length cell =? 53 ≡ b
            → Alike N z kind (after r (let_in r.state cell).cell w) (after q (let_in r.state cell).cell v)
        go true e =
            let g = served_at N z kind r.events r.state al.inv cell x free e in
            let g' = served_at N z kind q.events q.state al.inv' cell y free' e in
            served_alike (let_in r.state cell) w v g
            (subst (λ (b : Waiting). Checked N z kind q.events b (let_in r.state cell) v) (sym al.waits)
            (subst (λ (a : Arriving). Checked N z kind q.events (waiting al.inv') a v) (sym (same_in cell)) g'))
            (raw_kept x r.state cell ∙ al.raws ∙ sym (raw_kept y q.state cell))
            (mode_moved x r.state cell g.number ∙ ap (λ (a : Arriving). a.mode) (same_in cell)
            ∙ sym (mode_moved y q.state cell g'.number))
            (λ who name. owns_kept x r.state cell who name ∙ al.owners who name ∙ sym (owns_kept y q.state cell who name))
        go false e =
            subst (λ (t : Work). Alike N z kind (after r (let_in r.state cell).cell t) (after q (let_in r.state cell).cell v))
            (sym (refused_at N z kind r.events r.state al.inv cell x e))
            (subst (λ (t : Work). Alike N z kind (after r (let_in r.state cell).cell (work_of r.state (bare_answer 9)))
            (after q (let_in r.state cell).cell t))
            (sym (refused_at N z kind q.events q.state al.inv' cell y e))
            (nine_alike (let_in r.state cell).cell))

    -- open and close read no space
    v_same : r.state.ctl.v ≡ q.state.ctl.v
    v_same = al.inv.stage.v_is ∙ sym al.inv'.stage.v_is

    open_alike : (who : ℕ) (name : Name) (m F C : ℕ) (b : Second)
        → Alike N z kind (call_at x r (on_open_with who name m F C b)) (call_at y q (on_open_with who name m F C b))
    unfolding call_at with_words
    open_alike who name m F C b =
        let g = open_kept N z kind r.events r.state al.inv who name m F C b in
        let g' = open_kept N z kind q.events q.state al.inv' who name m F C b in
        record {
          inv = g.inv;
          inv' = g'.inv;
          said = ap₂ (λ (e : Event) (l : List Event). e ∷ l)
              (ap₂ (λ (v n : ℕ). opened who (number_in v name) m F C b n) v_same number_same) al.said;
          waits = g.waits_on_lem ∙ al.waits ∙ sym g'.waits_on_lem;
          raws = al.raws;
          modes = al.modes;
          owners = al.owners;
        }
      where
        number_same : (open_call r.state.ctl r.state.words who name m F C b).number
            ≡ (open_call q.state.ctl q.state.words who name m F C b).number
        number_same =
            open_answers_lem N z kind r.events r.state al.inv who name m F C b
            ∙ ap₂ (λ (own : Bool) (a : Option Opening). open_answers N z own name m F C b a) (al.owners who name)
            (same_opening r.events q.events al.said (number_in z name))
            ∙ sym (open_answers_lem N z kind q.events q.state al.inv' who name m F C b)

    close_alike : (who : ℕ) (name : Name) → Alike N z kind (call_at x r (on_close who name)) (call_at y q (on_close who name))
    unfolding call_at with_words
    close_alike who name =
        let g = close_kept N z kind r.events r.state al.inv who name in
        let g' = close_kept N z kind q.events q.state al.inv' who name in
        record {
          inv = g.inv;
          inv' = g'.inv;
          said = ap₂ (λ (e : Event) (l : List Event). e ∷ l) (ap₂ (λ (v n : ℕ). closed who (number_in v name) n) v_same number_same) al.said;
          waits = g.waits_on_lem ∙ al.waits ∙ sym g'.waits_on_lem;
          raws = al.raws;
          modes = al.modes;
          owners = al.owners;
        }
      where
        number_same : (close_call r.state.ctl r.state.words who name).number ≡ (close_call q.state.ctl q.state.words who name).number
        number_same =
            close_answers_lem N z kind r.events r.state al.inv who name
            ∙ ap₂ (λ (own : Bool) (n : ℕ). close_answers z own name n (waiting_for (number_in z name) (waiting al.inv)) (opening_of (number_in z name) r.events))
            (al.owners who name) (same_served r.events q.events al.said)
            ∙ ap₂ (λ (b : Waiting) (o : Option Opening). close_answers z (owns q.state.ctl who name) name (served q.events) (waiting_for (number_in z name) b) o) al.waits
            (same_opening r.events q.events al.said (number_in z name))
            ∙ sym (close_answers_lem N z kind q.events q.state al.inv' who name)

    pub call_alike : (c : Call) → Alike N z kind (call_at x r c) (call_at y q c)
    call_alike (on_open_with who name m F C b) = open_alike who name m F C b
    call_alike (on_close who name) = close_alike who name
    call_alike (on_slot cell) = slot_alike cell
