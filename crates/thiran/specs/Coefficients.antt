-- The coefficients of the allpass filter in units of 1/65,536, as document 01 has them under "Coefficients".
-- Definitions alone. Assumes nothing.
use Rattle.std.specs.Prelude.{List, [], ◌∷◌, ℕ, zero, suc, ◌+◌, ℤ, pos, nat_abs, ◌*ℤ◌}
use Rattle.integer.specs.Rounding.{nearest}
use Rattle.thiran.specs.Formula.{a}

-- "A1 and A2 are 65,536 times a1 and a2, rounded to the nearest whole number, a half going upward"
unfoldable pub coefficient : ℕ → ℕ → ℕ → ℤ
coefficient N d k = nearest (pos 65536 *ℤ (a N d k).top) (nat_abs (a N d k).bottom)

-- n of them, from index k on
abbrev pub coefficients_from : ℕ → ℕ → ℕ → ℕ → List ℤ
coefficients_from N d k zero = []
coefficients_from N d k (suc n) = coefficient N d k ∷ coefficients_from N d (suc k) n

-- A1, .. , AN
unfoldable pub coefficients : ℕ → ℕ → List ℤ
coefficients N d = coefficients_from N d 1 N

-- |A1| + .. + |AN|
abbrev pub norm : List ℤ → ℕ
norm [] = 0
norm (x ∷ xs) = nat_abs x + norm xs
