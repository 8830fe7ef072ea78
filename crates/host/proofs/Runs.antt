-- A block of frames is n frames one after the other: `Blocks`.
use mathlib.Core.Path.{◌≡◌, refl, sym, ap, subst, ◌∙◌}
use mathlib.Core.Bool.{Bool, true, false, cond, ◌&&◌}
use mathlib.Core.List.{List, [], ◌∷◌, map}
use Prim.Native.Nat.{ℕ, zero, suc, ◌<◌}
use native.Mathlib.Omega.{arith}
use lib.Dec.{eqb}
use lib.Ieee.{Float}
use lib.ListN.{length, take, get_or}
use borrow.Author.Tests.{eqb-true, eqb-false, eq-eqb}
use Rattle.instrument.specs.Strings.{Play, Strings, play, plays}
use Rattle.host.specs.Frames.{frame_number, one_sample, frame_leaves, silent_frame, frame_out, Run, stop}
use Rattle.host.specs.Frames.{later, run, frames, after_frames}
use Rattle.host.specs.Theorems.{input_at, Runs, Blocks}

-- an accepted frame leaves the strings of a mix of one sample
frame-mix : (s : Strings) (x : Float) → frame_number x ≡ 0 → frame_leaves s x ≡ play s (one_sample x)
unfolding frame_leaves
frame-mix s x e =
    let leave : Bool → Strings = λ b j. cond b (play s (one_sample x) j) (s j) in
    ap leave (eq-eqb (frame_number x) 0 e)

-- ---- the first frame, and those after it
none_done : (s : Strings) (x : Float) (xs : List Float) → (frame_number x ≡ 0 → ⊥)
    → Runs s (x ∷ xs) (stop (frame_number x) s)
none_done s x xs f = record {
  many = refl;
  each = λ i l. absurd (omega (arith, l));
  states = λ j. refl;
  mixes = λ j. refl;
  whole = λ e. absurd (f e);
  ended = λ g. (omega arith, refl);
}

module _ (s : Strings) (x : Float) (xs : List Float) (e : frame_number x ≡ 0) (r : Run)
    (h : Runs (frame_leaves s x) xs r) where
  each_more : (i : ℕ) → i < suc r.done
      → (frame_number (input_at (x ∷ xs) i) ≡ 0)
      × (get_or (later (frame_out s x) r).frames i silent_frame
      ≡ frame_out (after_frames s (x ∷ xs) i) (input_at (x ∷ xs) i))
  each_more zero l = (e, refl)
  each_more (suc i) l = h.each i (omega arith)

  one_more : Runs s (x ∷ xs) (later (frame_out s x) r)
  one_more = record {
    many = ap suc h.many;
    each = each_more;
    states = h.states;
    mixes = λ j.
        h.mixes j
        ∙ ap (λ (t : Strings). plays t (map one_sample (take r.done xs)) j) (frame-mix s x e);
    whole = λ n. ap suc (h.whole n);
    ended = λ g.
        let p = h.ended g in
        (omega (arith, p.0), p.1);
  }

pub runs : (xs : List Float) (s : Strings) → Runs s xs (run s xs)
runs [] s = record {
  many = refl;
  each = λ i l. absurd (omega (arith, l));
  states = λ j. refl;
  mixes = λ j. refl;
  whole = λ e. refl;
  ended = λ g. absurd (g refl);
}
runs (x ∷ xs) s = go (eqb (frame_number x) 0) refl (runs xs (frame_leaves s x))
  where
    go : (b : Bool) → eqb (frame_number x) 0 ≡ b
        → Runs (frame_leaves s x) xs (run (frame_leaves s x) xs)
        → Runs s (x ∷ xs) (cond b (later (frame_out s x) (run (frame_leaves s x) xs)) (stop (frame_number x) s))
    go true i h =
        one_more s x xs (eqb-true (frame_number x) 0 i) (run (frame_leaves s x) xs) h
    go false i h = none_done s x xs (eqb-false (frame_number x) 0 i)

-- ---- 9
even : (s : Strings) (xs : List Float) (l r : ℕ) → (l ≡ length xs) × (r ≡ length xs)
    → frames s xs l r ≡ run s xs
unfolding frames
even s xs l r p =
    ap (λ (b : Bool). cond (b && eqb r (length xs)) (run s xs) (stop 9 s)) (eq-eqb l (length xs) p.0)
    ∙ ap (λ (b : Bool). cond b (run s xs) (stop 9 s)) (eq-eqb r (length xs) p.1)

uneven : (s : Strings) (xs : List Float) (l r : ℕ) → ((l ≡ length xs) × (r ≡ length xs) → ⊥)
    → frames s xs l r ≡ stop 9 s
unfolding frames
uneven s xs l r f = go (eqb l (length xs)) (eqb r (length xs)) refl refl
  where
    go : (a b : Bool) → eqb l (length xs) ≡ a → eqb r (length xs) ≡ b
        → cond (a && b) (run s xs) (stop 9 s) ≡ stop 9 s
    go true true i j = absurd (f (eqb-true l (length xs) i, eqb-true r (length xs) j))
    go true false i j = refl
    go false b i j = refl

pub blocks : Blocks
blocks = record { runs = λ s xs. runs xs s; even = even; uneven = uneven }
