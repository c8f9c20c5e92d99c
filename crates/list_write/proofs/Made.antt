-- What was handed over fill by fill, and what is promised of it.
use Prim.Native.Nat.{ℕ, suc, ◌<◌}
use mathlib.Core.Path.{◌≡◌, sym, ap, subst, ◌∙◌}
use mathlib.Core.Bool.{Bool, true, false}
use mathlib.Core.List.{List, ◌++◌, append-nil}
use lib.ListN.{take}
use Rattle.std.specs.Prelude.{Result, Ok, Err, OnOk}
use Rattle.std.specs.Result.{is_err}
use Rattle.list_meaning.specs.Listing.{listing_of}
use Rattle.list_whole.specs.declared.Run.{Run}
use Rattle.list_whole.specs.Run.{World, world_of}
use Rattle.list_whole.specs.Fill.{FillPromise, Fills, fill_more, LentFor, start_run, sizes_of}
use Rattle.list_whole.proofs.Whole.{fills_begin, begun_done}
use Rattle.list_write.specs.Listed.{Left, Handed}

-- the fills so far
pub record Made (input : List ℕ) (w₀ w : World) (out₀ out : List ℕ) : Type 0 where
  pub count : ℕ
  pub text : List ℕ
  pub fills : Fills input w₀ out₀ count text w out

-- one more
abbrev pub more : {input out₀ out out' : List ℕ} {w₀ w w' : World} (used : ℕ) → Made input w₀ w out₀ out → w.done ≡ false
    → FillPromise input w out w' out' used → Made input w₀ w' out₀ out'
more {out' = out'} used m d f =
    record { count = suc m.count; text = m.text ++ take used out'; fills = fill_more used m.fills d f }

-- the fills so far, of a run that began as `start` answered, are what is promised
pub handed : (input cells links calendar words bits arrived out : List ℕ) (run₀ run : Run) (left : Left) (out' : List ℕ) (answer : Bool) → run₀ ≡ start_run
    → LentFor (sizes_of input) (world_of start_run cells links calendar words bits arrived)
    → (m : Made input (world_of run₀ cells links calendar words bits arrived) (left run) out out') → 0 < m.count
    → (answer ≡ true → (left run).done ≡ true)
    → Handed input (world_of start_run cells links calendar words bits arrived) out left out' answer
handed input cells links calendar words bits arrived out run₀ run left out' answer s l m p d =
    let f : Fills input (world_of start_run cells links calendar words bits arrived) out m.count m.text (left run) out' =
    subst (λ (x : Run). Fills input (world_of x cells links calendar words bits arrived) out m.count m.text (left run) out') s m.fills in
    let b = fills_begin input cells links calendar words bits arrived l f in
    record {
      run = run;
      count = m.count;
      text = m.text;
      rest = b.later;
      some = p;
      fills = f;
      begins = b.cut;
      whole = λ e. (d e, begun_done input b (d e));
    }

-- where the run is done, they put the whole listing
pub listed : (input cells links calendar words bits arrived out : List ℕ) {run₀ : Run} {w : World} {out' : List ℕ} → run₀ ≡ start_run
    → LentFor (sizes_of input) (world_of start_run cells links calendar words bits arrived)
    → (m : Made input (world_of run₀ cells links calendar words bits arrived) w out out') → w.done ≡ true → m.text ≡ listing_of input
listed input cells links calendar words bits arrived out {w = w} {out' = out'} s l m d =
    let f : Fills input (world_of start_run cells links calendar words bits arrived) out m.count m.text w out' =
    subst (λ (x : Run). Fills input (world_of x cells links calendar words bits arrived) out m.count m.text w out') s m.fills in
    let b = fills_begin input cells links calendar words bits arrived l f in
    sym (b.cut ∙ ap (λ (r : List ℕ). m.text ++ r) (begun_done input b d) ∙ append-nil m.text)

-- a write that didn't fail took all
pub took : {T E : Type 0} (r : Result T E) (failed : Bool) (P : Type 0) → failed ≡ is_err r → failed ≡ false → OnOk r P → P
took (Ok x) failed P e f p = p
took (Err x) failed P e f p = cc
