-- The code's fractions (specs/Steps.antt) are those of equation (3), and fit 64 bits up to the highest order.
-- Assumes nothing.
use mathlib.Core.Path.{◌≡◌, refl, sym, ap, ◌∙◌}
use Prim.Native.Nat.{ℕ, zero, suc, ◌+◌, ◌*◌, ◌-◌, ◌^◌, ◌≤◌, ◌<◌}
use native.Mathlib.Omega.{arith}
use native.Mathlib.Nat.{mul-le-mul, mul-pos, pow-suc, pow-le-pow_right}
use lib.Dec.{lit<, lit≤}
use lib.IntN.{ℤ, pos, nat_abs, ◌-ℤ◌, ◌*ℤ◌}
use Rattle.integer.specs.Rounding.{nearest}
use Rattle.integer.proofs.View.{*v, -v, near, Zs}
use Rattle.integer.proofs.Ring.{*-assoc, abs-*}
use Rattle.refusal.specs.Orders.{orders, lowest, Takes}
use Rattle.thiran.specs.Formula.{choose, product, a, Same, fraction}
use Rattle.thiran.specs.Coefficients.{coefficient}
use Rattle.thiran.specs.Steps.{part, Roundable}
use Rattle.thiran.proofs.Products.{product_pairs, *-left, sorts}
use Rattle.thiran.proofs.Cancelled.{turned, raised, cancelled, coefficient-same}

-- (k + 1) (N over k + 1) = (N − k) (N over k)
choose-next : (N k : ℕ) → suc k * choose N (suc k) + k * choose N k ≡ N * choose N k
choose-next zero zero = refl
choose-next zero (suc k) = omega arith
choose-next (suc N) zero = omega (arith, choose-next N zero)
choose-next (suc N) (suc k) = omega (arith, choose-next N k, choose-next N (suc k))

-- 1 × 2 × .. × k
abbrev factorial : ℕ → ℤ
factorial k = product (λ i. pos (suc i)) k

-- N (N − 1) .. , k factors
falling : (N k : ℕ) → product (λ i. pos N -ℤ pos i) k ≡ factorial k *ℤ pos (choose N k)
falling N zero = refl
falling N (suc k) =
    let n = pos N -ℤ pos k in
    let c = choose N k in
    let m = pos (choose N (suc k)) in
    let i = ap (λ (z : ℕ). c * z) (-v (pos N) (pos k)) in
    let e : pos c *ℤ n ≡ pos (suc k) *ℤ m = omega (Zs, choose-next N k, *v (pos c) n) in
    ap (λ (z : ℤ). z *ℤ n) (falling N k)
    ∙ *-assoc (factorial k) (pos c) n
    ∙ ap (λ (z : ℤ). factorial k *ℤ z) e
    ∙ sym (*-assoc (factorial k) (pos (suc k)) m)

-- ---- the code's fraction is that of (3), times 1 × 2 × .. × k above and below
module _ (N d : ℕ) where
  abbrev pub upper : ℕ → ℤ
  upper i = (pos N -ℤ pos i) *ℤ turned N d i

  abbrev lower : ℕ → ℤ
  lower i = pos (suc i) *ℤ raised d i

  part-top : (k : ℕ) → (part N d k).top ≡ product upper k
  part-top zero = refl
  part-top (suc k) = ap (λ (z : ℤ). z *ℤ upper k) (part-top k)

  part-bottom : (k : ℕ) → pos (part N d k).bottom ≡ product lower k
  part-bottom zero = refl
  part-bottom (suc k) = ap (λ (z : ℤ). z *ℤ lower k) (part-bottom k)

  part_same : (k : ℕ) → Same (a N d k) (fraction (part N d k).top (pos (part N d k).bottom))
  part_same k =
      let p = (a N d k).top in
      let q = (a N d k).bottom in
      let x = product (turned N d) k in
      let y = product (raised d) k in
      record {
        cross =
            ap (λ (z : ℤ). p *ℤ z) (part-bottom k ∙ product_pairs (λ i. pos (suc i)) (raised d) k)
            ∙ *-left p (factorial k) y
            ∙ ap (λ (z : ℤ). factorial k *ℤ z) (cancelled N d k).cross
            ∙ joined (factorial k) (pos (choose N k)) x q
            ∙ ap (λ (z : ℤ). (z *ℤ x) *ℤ q) (sym (falling N k))
            ∙ ap (λ (z : ℤ). z *ℤ q) (sym (part-top k ∙ product_pairs (λ i. pos N -ℤ pos i) (turned N d) k));
      }
    where
      joined : (x y z w : ℤ) → x *ℤ ((y *ℤ z) *ℤ w) ≡ ((x *ℤ y) *ℤ z) *ℤ w
      joined x y z w = simp sorts

  pub bottom-above : (k : ℕ) → 0 < (part N d k).bottom
  bottom-above zero = lit< tt
  bottom-above (suc k) =
      let h : 0 < suc k * (d + 4096 * suc k) = omega arith in
      mul-pos (bottom-above k) h

  pub coefficient-part : (k : ℕ) → lowest N ≤ d → 1 ≤ k
      → coefficient N d k ≡ nearest (pos 65536 *ℤ (part N d k).top) (part N d k).bottom
  coefficient-part k l h =
      coefficient-same N d k l h (part N d k).top (part N d k).bottom (bottom-above k) (part_same k)

-- ---- sizes: what one step multiplies by, at most
abbrev widest : ℕ
widest = orders * (4096 * orders - 2048)

abbrev tallest : ℕ
tallest = orders * (8192 * orders + 2048)

module _ (N d : ℕ) (t : Takes N d) where
  pub upper_small : (k : ℕ) → k < orders → nat_abs (upper N d k) ≤ widest
  upper_small k h =
      let n = pos N -ℤ pos k in
      let x = turned N d k in
      rw (abs-* n x)
      (mul-le-mul
      (near n {B = orders} (omega (arith, -v (pos N) (pos k))))
      (near x {B = 4096 * orders - 2048} (omega (arith, -v (pos (4096 * N)) (pos (d + 4096 * k))))))

  pub lower_small : (k : ℕ) → k < orders → suc k * (d + 4096 * suc k) ≤ tallest
  lower_small k h =
      let l : d + 4096 * suc k ≤ 8192 * orders + 2048 = omega arith in
      mul-le-mul {n₁ = suc k} {n₂ = orders} h l

  top_small : (k : ℕ) → k ≤ orders → nat_abs (part N d k).top ≤ widest ^ k
  top_small zero h = lit≤ tt
  top_small (suc k) h =
      rw (abs-* (part N d k).top (upper N d k), pow-suc)
      (mul-le-mul (top_small k (omega arith)) (upper_small k h))

  bottom-small : (k : ℕ) → k ≤ orders → (part N d k).bottom ≤ tallest ^ k
  bottom-small zero h = lit≤ tt
  bottom-small (suc k) h = rw pow-suc (mul-le-mul (bottom-small k (omega arith)) (lower_small k h))

  pub roundable : (k : ℕ) → k ≤ orders → Roundable (part N d k)
  roundable k h =
      let p = pow-le-pow_right {n = widest} (lit< tt) h in
      let q = pow-le-pow_right {n = tallest} (lit< tt) h in
      record { above = bottom-above N d k; small = omega (arith, top_small k h, bottom-small k h) }
