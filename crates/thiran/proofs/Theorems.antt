-- What specs/Theorems.antt states: of every order N and delay d that N takes, and of orders 1, 2 and 3.
-- Assumes nothing.
use mathlib.Core.Path.{◌≡◌, ap}
use Prim.Native.Nat.{ℕ, ◌+◌, ◌*◌, ◌-◌, ◌≤◌}
use native.Mathlib.Omega.{arith}
use lib.Dec.{lit≤}
use lib.IntN.{ℤ, pos, neg_ℤ, nat_abs, ◌-ℤ◌, ◌*ℤ◌, neg_ℤ-neg_ℤ, zero-*ℤ, *ℤ_comm}
use Rattle.integer.proofs.View.{*v, -v, negv, Zs}
use Rattle.integer.proofs.Ring.{*-assoc}
use Rattle.integer.proofs.Rounding.{nearest-is}
use Rattle.refusal.specs.Orders.{Takes}
use Rattle.thiran.specs.Formula.{choose, product, factor, a, Same, fraction}
use Rattle.thiran.specs.Coefficients.{coefficient}
use Rattle.thiran.specs.Theorems.{Rounded, Order1, Order2, Order3}
use Rattle.thiran.proofs.Products.{neg-*, *-neg}
use Rattle.thiran.proofs.Cancelled.{turned, raised, cancelled, above, above_0}
use Rattle.thiran.proofs.Small.{norm-coefficients}

pub theorem : (N d : ℕ) → Takes N d → Rounded N d
unfolding coefficient
theorem N d t = record {
  above = λ k h. above N d k t.low h;
  rounded = λ k h.
      nearest-is (pos 65536 *ℤ (a N d k).top) (nat_abs (a N d k).bottom) (above_0 N d k t.low h);
  small = norm-coefficients N d t;
}

-- ---- the formulas: `cancelled` at an order and an index
at : (N d k : ℕ) {p q : ℤ} → pos (choose N k) *ℤ product (turned N d) k ≡ p → product (raised d) k ≡ q
    → Same (a N d k) (fraction p q)
at N d k e i = rw (e, i) at (cancelled N d k)

one-* : (z : ℤ) → pos 1 *ℤ z ≡ z
one-* z = omega (Zs, *v (pos 1) z)

-- N − D − i is (N − i) − D
lowered : (N d i : ℕ) → i ≤ N → turned N d i ≡ pos (4096 * (N - i)) -ℤ pos d
lowered N d i h = omega (Zs, -v (pos (4096 * N)) (pos (d + 4096 * i)), -v (pos (4096 * (N - i))) (pos d))

opposite : (x y z : ℤ) → (x -ℤ z) *ℤ (y -ℤ z) ≡ (z -ℤ y) *ℤ (z -ℤ x)
opposite x y z =
    let u = z -ℤ x in
    let w = z -ℤ y in
    let e : x -ℤ z ≡ neg_ℤ u = omega (Zs, -v x z, -v z x, negv u) in
    let i : y -ℤ z ≡ neg_ℤ w = omega (Zs, -v y z, -v z y, negv w) in
    cc (neg-* u (neg_ℤ w), *-neg u w, neg_ℤ-neg_ℤ (u *ℤ w), *ℤ_comm u w)

pub order_1 : (d : ℕ) → Order1 d
unfolding a
order_1 d = record {
  a1 = at 1 d 1 (simp one-* (lowered 1 d 0 (lit≤ tt))) (ap pos (omega arith));
  a2 = zero-*ℤ (product (factor 1 d) 2);
  a3 = zero-*ℤ (product (factor 1 d) 2);
}

pub order_2 : (d : ℕ) → Order2 d
unfolding a
order_2 d =
    let l0 = lowered 2 d 0 (lit≤ tt) in
    let l1 = lowered 2 d 1 (lit≤ tt) in
    record {
      a1 = at 2 d 1 (simp one-* (ap (λ (z : ℤ). pos 2 *ℤ z) l0)) (ap pos (omega arith));
      a2 = at 2 d 2 (simp one-* (cc (opposite (pos 8192) (pos 4096) (pos d)))) (ap pos (omega arith));
      a3 = zero-*ℤ (product (factor 2 d) 3);
    }

pub order_3 : (d : ℕ) → Order3 d
order_3 d =
    let l0 = lowered 3 d 0 (lit≤ tt) in
    let l1 = lowered 3 d 1 (lit≤ tt) in
    let l2 = lowered 3 d 2 (lit≤ tt) in
    record {
      a1 = at 3 d 1 (simp one-* (ap (λ (z : ℤ). pos 3 *ℤ z) l0)) (ap pos (omega arith));
      a2 = at 3 d 2 (simp one-* (cc (opposite (pos 12288) (pos 8192) (pos d)))) (ap pos (omega arith));
      a3 = at 3 d 3 (
          simp one-* (cc (
            l0,
            l1,
            l2,
            opposite (pos 8192) (pos 4096) (pos d),
            *-assoc (turned 3 d 0) (turned 3 d 1) (turned 3 d 2),
            *ℤ_comm (turned 3 d 0) (turned 3 d 1 *ℤ turned 3 d 2),
          ))) (ap pos (omega arith));
    }
