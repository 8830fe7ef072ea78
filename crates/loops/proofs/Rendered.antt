-- Laws of a buffer that is rendered in place: its start, one sample more, and its end.
-- Assumes nothing.
use mathlib.Core.Path.{◌≡◌, refl, sym, ap, ◌∙◌}
use mathlib.Core.List.{List, [], ◌∷◌, ◌++◌, append_assoc, append-nil}
use Prim.Native.Nat.{ℕ, suc, ◌+◌, ◌≤◌, ◌<◌}
use native.Mathlib.Omega.{arith}
use native.Mathlib.Numerals.{add-one}
use lib.IntN.{ℤ, pos, nat_abs}
use lib.ListN.{length, take, drop, get_or, set, length-set}
use lib.Seq.{drop-cons, drop-set-lt, take-suc-set, take_all, drop-length}
use Rattle.integer.specs.Rounding.{M}
use Rattle.samples.specs.Samples.{loudest}
use Rattle.rule.specs.State.{State, step, sounds, block_after, block_out}
use Rattle.loops.specs.Rendered.{Rendered}

pub begun : (xs : List ℤ) (v : State) → loudest xs ≤ M → Rendered xs v xs v 0
begun xs v h = record { within = omega arith; long = refl; left = refl; out = refl; quiet = h }

module _ (xs : List ℤ) (v : State) (b : List ℤ) (u : State) (i : ℕ) (t : Rendered xs v b u i) where
  -- the sample that comes next
  module _ (h : i < length b) where
    split : drop i b ≡ get_or b i (pos 0) ∷ drop (suc i) b
    split = drop-cons b i (pos 0) h

    pub sample : nat_abs (get_or b i (pos 0)) ≤ M
    sample = omega (arith, rw split at t.quiet)

    rest : (y : ℤ) → drop (i + 1) (set b i y) ≡ drop (suc i) b
    rest y = rw add-one (drop-set-lt (suc i) b i y (omega arith))

    done : (y : ℤ) → take (i + 1) (set b i y) ≡ take i b ++ (y ∷ [])
    done y = rw add-one (take-suc-set b i y h)

    -- it is stepped, and its output stored in its place
    pub rendered : (w : State) (y : ℤ) → w ≡ step u (get_or b i (pos 0)) → y ≡ sounds u
        → Rendered xs v (set b i y) w (i + 1)
    rendered w y e f = record {
      within = omega (arith, t.long);
      long = length-set b i y ∙ t.long;
      left = rw (rest y, e) (rw split at t.left);
      out =
          ap (λ (l : List ℤ). take (i + 1) (set b i y) ++ block_out w l) (rest y)
          ∙ ap (λ (l : List ℤ). l ++ block_out w (drop (suc i) b)) (done y)
          ∙ append_assoc (take i b) (y ∷ []) (block_out w (drop (suc i) b))
          ∙ ap (λ (s : State). take i b ++ (y ∷ block_out s (drop (suc i) b))) e
          ∙ ap (λ (z : ℤ). take i b ++ (z ∷ block_out (step u (get_or b i (pos 0))) (drop (suc i) b))) f
          ∙ (rw split at t.out);
      quiet = rw (rest y) (omega (arith, rw split at t.quiet));
    }

  module _ (h : length b ≤ i) where
    none_left : drop i b ≡ []
    none_left = let e : i ≡ length b = omega (arith, t.long, t.within) in rw e (drop-length b)

    pub all_after : u ≡ block_after v xs
    all_after = rw none_left at t.left

    pub all-out : b ≡ block_out v xs
    all-out =
        sym (take_all i b h)
        ∙ sym (append-nil (take i b))
        ∙ ap (λ (l : List ℤ). take i b ++ block_out u l) (sym none_left)
        ∙ t.out
