-- What `merge` returns, in each of its ends.
use mathlib.Core.Path.{◌≡◌, refl, sym, ap, subst, ◌∙◌}
use mathlib.Core.Bool.{Bool, true, false, false≢true}
use mathlib.Core.List.{List, ◌++◌}
use Prim.Native.Nat.{ℕ, ◌+◌, ◌≤◌, ◌<◌}
use native.Mathlib.Omega.{arith}
use lib.ListN.{length, get_or, take, drop, length-append}
use lib.Seq.{length-take-le}
use Rattle.octets.specs.Octets.{laid}
use Rattle.octets.specs.Theorems.{Bytes}
use Rattle.octets.proofs.Laws.{laid_next, laid-length}
use Rattle.std.specs.Prelude.{Result, Ok, Err, is_err}
use Rattle.refusal.specs.declared.Refusal.{Refusal}
use Rattle.refusal.specs.Numbers.{number_of, code_of}
use Rattle.score.specs.Run.{opening}
use Rattle.outline.specs.Outline.{Outline, opened, run}
use Rattle.outline.specs.Struct.{outline_of, ended as outcome}
use Rattle.outline.specs.declared.Stopped.{Stopped}
use Rattle.refusal.proofs.Numbers.{refused-above}
use Rattle.outline.specs.declared.Course.{Course}
use Rattle.timeline.specs.Merged.{merged_records, all_bytes, merge_of}
use Rattle.timeline.specs.Theorems.{Plays}
use Rattle.timeline.specs.Answered.{OneHeader, BothPlay, Fits, Answered}
use Rattle.timeline.proofs.Merging.{ended, eight, alone}
use Rattle.timeline.proofs.Whole.{ends-plays, plays-ends}
use Rattle.merge.specs.Left.{LeftAt}
use Rattle.merge.specs.Walk.{begin, all_of, Fitting, length_of, Walks}
use Rattle.merge.proofs.Starting.{all-is, starts}

module _ (a b before : List ℕ) where
  pub differs : (OneHeader a b → ⊥) → Answered a b before 28 0 before
  differs f = record {
    differ = (λ _. f, λ _. refl);
    alone = (λ e. absurd (omega arith), λ p. absurd (f p.0));
    fails = (λ e. absurd (omega arith), λ p. absurd (f p.0));
    merged = (λ e. absurd (omega arith), λ p. absurd (f p.0));
    refused = λ _. (refl, refl);
    success = λ e. absurd (omega arith);
  }

  module _ (h : OneHeader a b) where
    pub not-alone : (BothPlay a b → ⊥) → Answered a b before 29 0 before
    not-alone f = record {
      differ = (λ e. absurd (omega arith), λ g. absurd (g h));
      alone = (λ _. (h, f), λ _. refl);
      fails = (λ e. absurd (omega arith), λ p. absurd (f p.1));
      merged = (λ e. absurd (omega arith), λ p. absurd (f p.1));
      refused = λ _. (refl, refl);
      success = λ e. absurd (omega arith);
    }

    module _ (p : BothPlay a b) where
      pub not-merged : (Fits a b (length before) → ⊥) → Answered a b before 30 0 before
      not-merged f = record {
        differ = (λ e. absurd (omega arith), λ g. absurd (g h));
        alone = (λ e. absurd (omega arith), λ g. absurd (g.1 p));
        fails = (λ _. (h, p, f), λ _. refl);
        merged = (λ e. absurd (omega arith), λ g. absurd (f g.2));
        refused = λ _. (refl, refl);
        success = λ e. absurd (omega arith);
      }

      pub is-merged : {long : ℕ} {after : List ℕ} → Fits a b (length before) → long ≡ length (merge_of a b)
          → after ≡ merge_of a b ++ drop (length (merge_of a b)) before → Answered a b before 0 long after
      is-merged f l e = record {
        differ = (λ z. absurd (omega arith), λ g. absurd (g h));
        alone = (λ z. absurd (omega arith), λ g. absurd (g.1 p));
        fails = (λ z. absurd (omega arith), λ g. absurd (g.2 f));
        merged = (λ _. (h, p, f), λ _. refl);
        refused = λ g. absurd (g refl);
        success = λ _. (l, e);
      }

-- ---- a score alone, by its end
-- it is refused, or it is not
ends-0 : (x : Result ℕ Stopped) → is_err x ≡ false → (outcome x).refusal ≡ 0
ends-0 (Ok n) e = refl
ends-0 (Err s) e = absurd (false≢true (sym e))

ends-above : (x : Result ℕ Stopped) → is_err x ≡ true → (outcome x).refusal ≡ 0 → ⊥
ends-above (Ok n) e = absurd (false≢true e)
ends-above (Err s) e = refused-above s.refusal

pub plays : (s : List ℕ) (x : Result ℕ Stopped) → (outcome x).refusal ≡ (run s).number → is_err x ≡ false → Plays s
plays s x e f = (alone s).outlined.1 (sym e ∙ ends-0 x f)

pub plays-not : (s : List ℕ) (x : Result ℕ Stopped) → (outcome x).refusal ≡ (run s).number → is_err x ≡ true
    → Plays s → ⊥
plays-not s x e f p = ends-above x f (e ∙ (alone s).outlined.0 p)

-- ---- the walk's words for a merge that plays and fits
module _ (a b : List ℕ) (ha : Bytes a) (hb : Bytes b) (same : take 8 a ≡ take 8 b) (pa : Plays a) (pb : Plays b) where
  abbrev rs : List (List ℕ)
  rs = merged_records a b

  header-long : length (take 8 a) ≡ 8
  header-long = length-take-le 8 a (eight a pa.room (ended a pa.room pa.ends))

  pub merge-long : length (merge_of a b) ≡ 8 + length (all_bytes rs)
  unfolding merge_of
  merge-long = omega (arith, length-append (take 8 a) (all_bytes rs), header-long)

  abbrev Good : ℕ → Type 0
  Good room = Fitting (opening a).N (opening a).Na (opened a) rs room

  pub fits_good : (room : ℕ) → Fits a b room → Good room
  fits_good room f = record {
    ends = plays-ends a b ha hb same pa pb f.0;
    fits = omega (arith, f.1, merge-long);
  }

  pub good_fits : (room : ℕ) → Good room → Fits a b room
  good_fits room g = (ends-plays a b ha hb same pa pb g.ends, omega (arith, g.fits, merge-long))

  pub short : (room : ℕ) → room < 8 → Fits a b room → ⊥
  short room l f = let x = f.1 in omega (arith, x, l, merge-long)

  module _ (before : List ℕ) where
    front : (p : List ℕ) → laid before 0 p ≡ p ++ drop (length p) before
    front p = let z : 0 + length p ≡ length p = omega arith in ap (λ (n : ℕ). p ++ drop n before) z

    -- the header and then the records are the merge
    put_all : (x y : List ℕ) → 8 + length (all_bytes rs) ≤ length before → x ≡ laid before 0 (take 8 a)
        → y ≡ laid x 8 (all_bytes rs) → y ≡ merge_of a b ++ drop (length (merge_of a b)) before
    unfolding merge_of
    put_all x y l e i =
        i
        ∙ ap (λ (d : List ℕ). laid d 8 (all_bytes rs)) e
        ∙ laid_next before 0 (take 8 a) (omega (arith, header-long, l)) 8 (all_bytes rs) (omega (arith, header-long))
        ∙ front (take 8 a ++ all_bytes rs)

    pub header-same : {x : List ℕ} → 8 ≤ length before → x ≡ laid before 0 (take 8 a) → length x ≡ length before
    header-same l e = ap length e ∙ laid-length before 0 (take 8 a) (omega (arith, header-long, l))

    -- the second walk, after the first one found that all is well
    pub second_walk : (x y : List ℕ) (r : Result ℕ Refusal) → Good (length before) → x ≡ laid before 0 (take 8 a)
        → Walks (opening a).N (opening a).Na (opened a) rs x true r y
        → Answered a b before (code_of r) (length_of r) y
    second_walk x y r g e w =
        let k : 8 ≤ length before = omega (arith, g.fits) in
        let l = header-same k e in
        let g' : Good (length x) = subst (λ (n : ℕ). Good n) (sym l) g in
        go x y r g e w l g'
      where
        go : (x y : List ℕ) (r : Result ℕ Refusal) → Good (length before) → x ≡ laid before 0 (take 8 a)
            → Walks (opening a).N (opening a).Na (opened a) rs x true r y → length x ≡ length before → Good (length x)
            → Answered a b before (code_of r) (length_of r) y
        go x y (Ok n) g e w l g' =
            is-merged a b before same (pa, pb) (good_fits (length before) g) (w.walked.1 ∙ sym merge-long)
            (put_all x y g.fits e (w.written refl refl))
        go x y (Err k) g e w l g' = absurd (w.walked.0 g')

    -- the first walk refuses
    pub first_stops : (y : List ℕ) (k : Refusal) → Walks (opening a).N (opening a).Na (opened a) rs before false (Err k) y
        → Answered a b before (number_of k) 0 y
    first_stops y k w =
        rw (w.walked.1, w.silent refl)
        (not-merged a b before same (pa, pb) (λ x. w.walked.0 (fits_good (length before) x)))

-- ---- the walk over the numbers that the code reads
module _ (a b : List ℕ) (ha : Bytes a) (hb : Bytes b) (same : take 8 a ≡ take 8 b) (pa : Plays a) (pb : Plays b)
    (N Na : ℕ) (c : Course) (e : N ≡ get_or a 0 0) (i : Na ≡ get_or a 1 0) (j : outline_of c ≡ opened a) where
  pub walk_ready : (n : ℕ) → 8 ≤ n → (8 ≤ n) × LeftAt N Na a b (begin c) (all_of N Na (outline_of c) a b)
  walk_ready n l = rw (e, i) (l, starts a b ha hb same pa pb c j)

  pub walk_is : {x y : List ℕ} {w : Bool} {r : Result ℕ Refusal}
      → Walks N Na (outline_of c) (all_of N Na (outline_of c) a b) x w r y
      → Walks (opening a).N (opening a).Na (opened a) (merged_records a b) x w r y
  walk_is {x} {y} {w} {r} h =
      let one : Walks (get_or a 0 0) (get_or a 1 0) (outline_of c) (all_of (get_or a 0 0) (get_or a 1 0) (outline_of c) a b) x w r y
      = rw (e, i) at h in
      let two : Walks (get_or a 0 0) (get_or a 1 0) (opened a) (all_of (get_or a 0 0) (get_or a 1 0) (opened a) a b) x w r y
      = subst (λ (o : Outline). Walks (get_or a 0 0) (get_or a 1 0) o (all_of (get_or a 0 0) (get_or a 1 0) o a b) x w r y) j one in
      subst (λ (rs : List (List ℕ)). Walks (opening a).N (opening a).Na (opened a) rs x w r y)
      (all-is a b ha hb same) two
