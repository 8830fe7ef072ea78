-- Thiran's formula, 002 equation (3), for any order N and index k, as a fraction in d = 4,096 D:
--     a_k = (−1)^k (N over k) ∏_{n=0}^{N} (D − N + n) / (D − N + k + n).
-- Definitions alone. Assumes nothing.
use Rattle.std.specs.Prelude.{◌≡◌, ℕ, zero, suc, ◌+◌, ◌*◌, ℤ, pos, neg_ℤ, ◌-ℤ◌, ◌*ℤ◌}

-- (N over k)
abbrev pub choose : ℕ → ℕ → ℕ
choose N zero = 1
choose zero (suc k) = 0
choose (suc N) (suc k) = choose N k + choose N (suc k)

-- (−1)^k z
abbrev pub sign : ℕ → ℤ → ℤ
sign zero z = z
sign (suc k) z = neg_ℤ (sign k z)

-- f 0 × f 1 × .. , n factors
abbrev pub product : (ℕ → ℤ) → ℕ → ℤ
product f zero = pos 1
product f (suc n) = product f n *ℤ f n

-- "A delay D is d/4,096 of a sample": D − N + i, times 4,096
unfoldable pub factor : ℕ → ℕ → ℕ → ℤ
factor N d i = pos (d + 4096 * i) -ℤ pos (4096 * N)

pub record Fraction : Type 0 where
  pub top : ℤ
  pub bottom : ℤ

-- (3); n runs from 0 to N in both products
unfoldable pub a : ℕ → ℕ → ℕ → Fraction
a N d k =
    let count = suc N in
    record {
      top = sign k (pos (choose N k)) *ℤ product (λ n. factor N d n) count;
      bottom = product (λ n. factor N d (k + n)) count;
    }

-- two fractions are equal, multiplied crosswise; said only of such as have bottoms above 0
pub record Same (x y : Fraction) : Type 0 where
  pub cross : x.top *ℤ y.bottom ≡ y.top *ℤ x.bottom

abbrev pub fraction : ℤ → ℤ → Fraction
fraction p q = record { top = p; bottom = q }
