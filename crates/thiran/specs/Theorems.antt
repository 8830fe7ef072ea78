-- What documents 01 and 02 (L5) say of the coefficients at each delay that an order takes. Statements alone:
-- proofs/Theorems.antt has them. Assumes nothing.
use Rattle.std.specs.Prelude.{◌≡◌, ℕ, ◌≤◌, pos, nat_abs, ◌+ℤ◌, ◌-ℤ◌, ◌*ℤ◌, ◌<ℤ◌}
use Rattle.integer.specs.Rounding.{Nearest}
use Rattle.thiran.specs.Formula.{a, Same, fraction}
use Rattle.thiran.specs.Coefficients.{coefficient, coefficients, norm}

-- "Each filter coefficient is the whole number nearest to 65,536 times the fraction in Thiran's formula";
-- "In both orders |A1| + |A2| is at most 32,768"; "the limit 32,768 on the sum of magnitudes .. for N = 1, 2
-- and 3" (L5)
pub record Rounded (N d : ℕ) : Type 0 where
  pub above : (k : ℕ) → 1 ≤ k → pos 0 <ℤ (a N d k).bottom
  pub rounded : (k : ℕ) → 1 ≤ k
      → Nearest (pos 65536 *ℤ (a N d k).top) (nat_abs (a N d k).bottom) (coefficient N d k)
  pub small : norm (coefficients N d) ≤ 32768

-- "Order 1: a1 = (1 − D)/(1 + D); a2 = 0"
pub record Order1 (d : ℕ) : Type 0 where
  pub a1 : Same (a 1 d 1) (fraction (pos 4096 -ℤ pos d) (pos 4096 +ℤ pos d))
  pub a2 : (a 1 d 2).top ≡ pos 0
  pub a3 : (a 1 d 3).top ≡ pos 0

-- "Order 2: a1 = −2(D − 2)/(D + 1); a2 = (D − 1)(D − 2)/((D + 1)(D + 2))"
pub record Order2 (d : ℕ) : Type 0 where
  pub a1 : Same (a 2 d 1) (fraction (pos 2 *ℤ (pos 8192 -ℤ pos d)) (pos d +ℤ pos 4096))
  pub a2 :
      Same (a 2 d 2)
      (fraction ((pos d -ℤ pos 4096) *ℤ (pos d -ℤ pos 8192)) ((pos d +ℤ pos 4096) *ℤ (pos d +ℤ pos 8192)))
  pub a3 : (a 2 d 3).top ≡ pos 0

-- Order 3 (L5): a1 = −3(D − 3)/(D + 1); a2 = 3(D − 2)(D − 3)/((D + 1)(D + 2));
-- a3 = −(D − 1)(D − 2)(D − 3)/((D + 1)(D + 2)(D + 3))
pub record Order3 (d : ℕ) : Type 0 where
  pub a1 : Same (a 3 d 1) (fraction (pos 3 *ℤ (pos 12288 -ℤ pos d)) (pos d +ℤ pos 4096))
  pub a2 :
      Same (a 3 d 2)
      (fraction (pos 3 *ℤ ((pos d -ℤ pos 8192) *ℤ (pos d -ℤ pos 12288)))
      ((pos d +ℤ pos 4096) *ℤ (pos d +ℤ pos 8192)))
  pub a3 :
      Same (a 3 d 3)
      (fraction ((pos d -ℤ pos 4096) *ℤ (pos d -ℤ pos 8192) *ℤ (pos 12288 -ℤ pos d))
      ((pos d +ℤ pos 4096) *ℤ (pos d +ℤ pos 8192) *ℤ (pos d +ℤ pos 12288)))
