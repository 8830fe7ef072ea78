-- Numbers of 24 bits and samples: but for −8,388,608 they are the same, and clipping makes the one the other.
-- Assumes nothing.
use mathlib.Core.Path.{◌≡◌, refl, ap}
use mathlib.Core.List.{List, [], ◌∷◌, map}
use Prim.Native.Nat.{ℕ, zero, suc, ◌≤◌, ◌<◌}
use native.Mathlib.Omega.{arith}
use native.Mathlib.Decide.{dec_lt}
use lib.IntN.{ℤ, pos, negsuc, nat_abs}
use lib.ListN.{get_or, get_or-map}
use Rattle.integer.specs.Rounding.{M, clip}
use Rattle.integer.proofs.View.{Zs, absv, negv}
use Rattle.integer.proofs.Rounding.{clip_abs, clip-kept}
use Rattle.allpass.specs.Bounds.{Within, none, more}
use Rattle.octets.specs.Octets.{half}
use Rattle.octets.specs.Theorems.{Fits, AllFit, none, more}

pub fits : (x : ℤ) → nat_abs x ≤ M → Fits 3 x
fits x h = record {
  least = omega (Zs, absv x, negv (pos (half 3)));
  most = omega (Zs, absv x);
}

pub all-fits : {xs : List ℤ} → Within M xs → AllFit 3 xs
all-fits none = none
all-fits (more {x} h w) = more (fits x h) (all-fits w)

-- but for −8,388,608 they are samples
pub quiet : (x : ℤ) → Fits 3 x → (x ≡ negsuc 8388607 → ⊥) → nat_abs x ≤ M
quiet (pos n) f g = omega (Zs, f.most)
quiet (negsuc n) f g = go (dec_lt n 8388607)
  where
    go : Dec (n < 8388607) → suc n ≤ M
    go (yes h) = omega arith
    go (no h) =
        let e : n ≡ 8388607 = omega (Zs, f.least, negv (pos (half 3))) in
        absurd (g (ap negsuc e))

pub all_quiet : {xs : List ℤ} → AllFit 3 xs → ((i : ℕ) → get_or xs i (pos 0) ≡ negsuc 8388607 → ⊥) → Within M xs
all_quiet none g = none
all_quiet (more {x} f fs) g = more (quiet x f (g 0)) (all_quiet fs (λ (i : ℕ). g (suc i)))

pub fit_at : {xs : List ℤ} → AllFit 3 xs → (i : ℕ) → Fits 3 (get_or xs i (pos 0))
fit_at none i = fits (pos 0) (omega arith)
fit_at (more f fs) zero = f
fit_at (more f fs) (suc i) = fit_at fs i

-- ---- clipped
pub all-kept : {xs : List ℤ} → Within M xs → map clip xs ≡ xs
all-kept none = refl
all-kept (more {x} h w) = rw (clip-kept x h, all-kept w)

pub all-clipped : (xs : List ℤ) → Within M (map clip xs)
all-clipped [] = none
all-clipped (x ∷ xs) = more (clip_abs x) (all-clipped xs)

pub clipped-at : (xs : List ℤ) (i : ℕ) → get_or (map clip xs) i (pos 0) ≡ clip (get_or xs i (pos 0))
unfolding clip
clipped-at xs i = get_or-map clip xs i (pos 0)
