-- Equation (3) without what cancels, (N over k) ∏_{i<k} (N − D − i) / (D + 1 + i), of every N and k.
-- Assumes nothing.
use mathlib.Core.Path.{◌≡◌, sym, ap, ◌∙◌}
use Prim.Native.Nat.{ℕ, suc, ◌+◌, ◌*◌, ◌≤◌, ◌<◌}
use native.Mathlib.Omega.{arith}
use lib.IntN.{ℤ, pos, neg_ℤ, nat_abs, ◌-ℤ◌, ◌*ℤ◌}
use lib.Signed.{◌<ℤ◌}
use Rattle.integer.specs.Rounding.{nearest}
use Rattle.integer.proofs.View.{absv, onev, -v, negv, Zs}
use Rattle.integer.proofs.Ring.{*-assoc}
use Rattle.integer.proofs.Rounding.{nearest-same}
use Rattle.refusal.specs.Orders.{lowest}
use Rattle.thiran.specs.Formula.{choose, sign, product, factor, a, Same, fraction}
use Rattle.thiran.specs.Coefficients.{coefficient}
use Rattle.thiran.proofs.Products.{product-same, product-split, product_turned, product-above}

-- N − D − i and D + 1 + i, times 4,096
abbrev pub turned : ℕ → ℕ → ℕ → ℤ
turned N d i = pos (4096 * N) -ℤ pos (d + 4096 * i)

abbrev pub raised : ℕ → ℕ → ℤ
raised d i = pos (d + 4096 * suc i)

factor_turned : (N d i : ℕ) → neg_ℤ (factor N d i) ≡ turned N d i
unfolding factor
factor_turned N d i =
    let x = pos (d + 4096 * i) in
    let y = pos (4096 * N) in
    omega (Zs, negv (x -ℤ y), -v x y, -v y x)

factor_raised : (N d i : ℕ) → raised d i ≡ factor N d (suc N + i)
unfolding factor
factor_raised N d i = omega (Zs, -v (pos (d + 4096 * (suc N + i))) (pos (4096 * N)))

module _ (N d k : ℕ) where
  abbrev F : ℕ → ℤ
  F = factor N d

  abbrev P : ℤ
  P = product (λ n. F n) (suc N)

  abbrev Q : ℤ
  Q = product (λ n. F (k + n)) (suc N)

  -- both sides are the product of the first N + 1 + k factors
  both : P *ℤ product (raised d) k ≡ product F k *ℤ Q
  both =
      let e : suc N + k ≡ k + suc N = omega arith in
      ap (λ (z : ℤ). P *ℤ z) (product-same (raised d) (λ i. F (suc N + i)) k (factor_raised N d))
      ∙ sym (product-split F (suc N) k)
      ∙ ap (product F) e
      ∙ product-split F k (suc N)

  pub cancelled : Same (a N d k) (fraction (pos (choose N k) *ℤ product (turned N d) k) (product (raised d) k))
  unfolding a
  cancelled =
      let c = pos (choose N k) in
      let s = sign k c in
      record {
        cross =
            *-assoc s P (product (raised d) k)
            ∙ ap (λ (z : ℤ). s *ℤ z) both
            ∙ sym (*-assoc s (product F k) Q)
            ∙ ap (λ (z : ℤ). z *ℤ Q) (product_turned F c k)
            ∙ ap (λ (z : ℤ). (c *ℤ z) *ℤ Q)
            (product-same (λ i. neg_ℤ (F i)) (turned N d) k (factor_turned N d));
      }

  module _ (l : lowest N ≤ d) (h : 1 ≤ k) where
    pub above : pos 0 <ℤ (a N d k).bottom
    unfolding a factor
    above =
        product-above (λ n. F (k + n)) (suc N)
        (λ n. omega (Zs, -v (pos (d + 4096 * (k + n))) (pos (4096 * N))))

    pub above_0 : 0 < nat_abs (a N d k).bottom
    above_0 = let b = above in omega (Zs, absv (a N d k).bottom)

    -- a coefficient by any fraction that is equal to (3)
    pub coefficient-same : (t : ℤ) (q : ℕ) → 0 < q → Same (a N d k) (fraction t (pos q))
        → coefficient N d k ≡ nearest (pos 65536 *ℤ t) q
    unfolding coefficient
    coefficient-same t q g s =
        let p = (a N d k).top in
        let r = (a N d k).bottom in
        let b = above in
        let e : pos (nat_abs r) ≡ r = omega (Zs, absv r, onev r) in
        nearest-same (pos 65536 *ℤ p) (pos 65536 *ℤ t) (nat_abs r) q above_0 g
        (*-assoc (pos 65536) p (pos q)
        ∙ ap (λ (z : ℤ). pos 65536 *ℤ z) s.cross
        ∙ sym (*-assoc (pos 65536) t r)
        ∙ ap (λ (z : ℤ). (pos 65536 *ℤ t) *ℤ z) (sym e))
