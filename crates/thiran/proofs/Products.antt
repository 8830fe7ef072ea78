-- Laws of specs/Formula.antt's products: in two parts, of pairs, with the signs turned, above 0.
-- Assumes nothing.
use mathlib.Core.Path.{◌≡◌, refl, sym, ap, ◌∙◌}
use Prim.Native.Nat.{ℕ, zero, suc, ◌+◌}
use native.Mathlib.Omega.{arith}
use native.Mathlib.Nat.{mul-pos}
use lib.IntN.{ℤ, pos, negsuc, neg_ℤ, ◌*ℤ◌, *ℤ_comm}
use lib.Signed.{◌<ℤ◌}
use Rattle.integer.specs.Parts.{up, dn}
use Rattle.integer.proofs.View.{*v, negv, Zs}
use Rattle.integer.proofs.Ring.{*-assoc, times}
use Rattle.thiran.specs.Formula.{sign, product}

-- ---- of two factors
pub neg-* : (x y : ℤ) → neg_ℤ x *ℤ y ≡ neg_ℤ (x *ℤ y)
neg-* x y =
    let u = (negv x).0 in
    let w = (negv x).1 in
    omega (
      Zs,
      *v (neg_ℤ x) y,
      *v x y,
      negv (x *ℤ y),
      times (up y) u,
      times (dn y) u,
      times (up y) w,
      times (dn y) w,
    )

pub *-neg : (x y : ℤ) → x *ℤ neg_ℤ y ≡ neg_ℤ (x *ℤ y)
*-neg x y = *ℤ_comm x (neg_ℤ y) ∙ neg-* y x ∙ ap neg_ℤ (*ℤ_comm y x)

pub *-left : (x y z : ℤ) → x *ℤ (y *ℤ z) ≡ y *ℤ (x *ℤ z)
*-left x y z = sym (*-assoc x y z) ∙ ap (λ (w : ℤ). w *ℤ z) (*ℤ_comm x y) ∙ *-assoc y x z

-- for `simp`: it brings two products of the same factors into the same order
pub ruleset sorts = (*-assoc, *ℤ_comm, *-left)

-- ---- of n factors
pub product-same : (f g : ℕ → ℤ) (n : ℕ) → ((i : ℕ) → f i ≡ g i) → product f n ≡ product g n
product-same f g zero e = refl
product-same f g (suc n) e = cc (product-same f g n e, e n)

-- the first m, and the n after them
pub product-split : (f : ℕ → ℤ) (m n : ℕ)
    → product f (m + n) ≡ product f m *ℤ product (λ i. f (m + i)) n
product-split f m zero =
    let e : m + 0 ≡ m = omega arith in
    ap (product f) e ∙ omega (Zs, *v (product f m) (pos 1))
product-split f m (suc n) =
    let e : m + suc n ≡ suc (m + n) = omega arith in
    ap (product f) e
    ∙ ap (λ (z : ℤ). z *ℤ f (m + n)) (product-split f m n)
    ∙ *-assoc (product f m) (product (λ i. f (m + i)) n) (f (m + n))

pub product_pairs : (f g : ℕ → ℤ) (n : ℕ) → product (λ i. f i *ℤ g i) n ≡ product f n *ℤ product g n
product_pairs f g zero = refl
product_pairs f g (suc n) =
    ap (λ (z : ℤ). z *ℤ (f n *ℤ g n)) (product_pairs f g n) ∙ crossed (product f n) (product g n) (f n) (g n)
  where
    crossed : (x y z w : ℤ) → (x *ℤ y) *ℤ (z *ℤ w) ≡ (x *ℤ z) *ℤ (y *ℤ w)
    crossed x y z w = simp sorts

-- (−1)^k times k factors is k factors with their signs turned
pub product_turned : (f : ℕ → ℤ) (z : ℤ) (k : ℕ)
    → sign k z *ℤ product f k ≡ z *ℤ product (λ i. neg_ℤ (f i)) k
product_turned f z zero = refl
product_turned f z (suc k) =
    neg-* (sign k z) (product f k *ℤ f k)
    ∙ ap neg_ℤ (sym (*-assoc (sign k z) (product f k) (f k)))
    ∙ sym (*-neg (sign k z *ℤ product f k) (f k))
    ∙ ap (λ (x : ℤ). x *ℤ neg_ℤ (f k)) (product_turned f z k)
    ∙ *-assoc z (product (λ i. neg_ℤ (f i)) k) (neg_ℤ (f k))

pub product-above : (f : ℕ → ℤ) (n : ℕ) → ((i : ℕ) → pos 0 <ℤ f i) → pos 0 <ℤ product f n
product-above f zero h = record { lt = tt }
product-above f (suc n) h = both (product f n) (f n) (product-above f n h) (h n)
  where
    both : (x y : ℤ) → pos 0 <ℤ x → pos 0 <ℤ y → pos 0 <ℤ (x *ℤ y)
    both (pos x) (pos y) h k = omega (Zs, mul-pos {m = x} {n = y} (omega Zs) (omega Zs))
    both (pos x) (negsuc y) h k = absurd (omega Zs)
    both (negsuc x) y h k = absurd (omega Zs)
