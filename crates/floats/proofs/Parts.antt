-- The nearest whole number of half a float, and of a float scaled by a power of two.
use Rattle.std.proofs.Common.{◌≡◌, ℕ, zero, suc, ◌+◌, ◌-◌, ◌*◌, ◌/◌, ◌^◌, ◌<◌, ◌≤◌, ℤ, pos, ◌*ℤ◌, neg_ℤ, sym, refl, ap, ◌∙◌, mul-le-mul_right, mod-lt, mul_assoc, lt_of_mul-lt-mul_right, mul-lt-mul_of_pos_right, mul-pos, pow-suc, mul-zero, div-add-mod', arith}
use lib.Ieee.{Float}
use Rattle.integer.specs.Rounding.{nearest}
use Rattle.integer.proofs.View.{Zs, negv, +v}
use Rattle.integer.proofs.Ring.{*-assoc}
use Rattle.integer.proofs.Rounding.{nearest-only, nearest-same}
use Rattle.floats.specs.Worth.{size, unit, above}
use Rattle.floats.specs.Steps.{Scaled}
use Rattle.floats.proofs.Whole.{unit-pos}

-- ---- the nearest to half a float
pub mul_neg : (b a : ℕ) → pos b *ℤ neg_ℤ (pos a) ≡ neg_ℤ (pos (b * a))
mul_neg b zero = rw mul-zero
mul_neg b (suc a) = refl

module _ (a d : ℕ) (h : 0 < d) where
  pub nearest-above : pos ((a / d + 1) / 2) ≡ nearest (pos a) (2 * d)
  nearest-above =
      let q = a / d in
      let r = (q + 1) / 2 in
      let l : 2 * r * d ≤ (q + 1) * d = mul-le-mul_right d (omega arith) in
      let g : q * d ≤ 2 * r * d = mul-le-mul_right d (omega arith) in
      nearest-only (pos a) (2 * d) (pos r) (omega arith)
      (record { low = omega (Zs, div-add-mod' a d); high = omega (Zs, div-add-mod' a d, mod-lt a h) })

  pub nearest-below : neg_ℤ (pos ((a + (d - 1)) / d / 2)) ≡ nearest (neg_ℤ (pos a)) (2 * d)
  nearest-below =
      let q = (a + (d - 1)) / d in
      let r = q / 2 in
      let m = div-add-mod' (a + (d - 1)) d in
      let n = mod-lt (a + (d - 1)) h in
      let A = negv (pos (2 * a)) in
      let B = negv (pos (2 * (2 * d) * r)) in
      let l : 2 * r * d ≤ q * d = mul-le-mul_right d (omega arith) in
      let g : q * d ≤ (2 * r + 1) * d = mul-le-mul_right d (omega arith) in
      let X = neg_ℤ (pos (2 * a)) in
      let Y = neg_ℤ (pos (2 * (2 * d) * r)) in
      nearest-only (neg_ℤ (pos a)) (2 * d) (neg_ℤ (pos r)) (omega arith)
      (record {
        low = rw (mul_neg (2 * (2 * d)) r, mul_neg 2 a)
            (omega (Zs, m, n, A, B, +v X (pos (2 * d))));
        high = rw (mul_neg (2 * (2 * d)) r, mul_neg 2 a)
            (omega (Zs, m, n, A, B, +v X (pos (2 * d)), +v Y (pos (2 * (2 * d)))));
      })

-- ---- of x × 2^(k + 1), halved: of x × 2^k
regroup : (X : ℤ) (a b c d : ℕ) → a * b ≡ c * d → (X *ℤ pos a) *ℤ pos b ≡ (X *ℤ pos c) *ℤ pos d
regroup X a b c d e =
    *-assoc X (pos a) (pos b) ∙ ap (λ (n : ℕ). X *ℤ pos n) e ∙ sym (*-assoc X (pos c) (pos d))

pub rounded : (x u : Float) (k : ℕ) → Scaled x (suc k) u
    → nearest (above u) (2 * unit u) ≡ nearest (above x *ℤ pos (2 ^ k)) (unit x)
rounded x u k s =
    let U = unit u in
    let p : 2 ^ suc k * U ≡ 2 ^ k * (2 * U) = rw (pow-suc 2 k) (mul_assoc (2 ^ k) 2 U) in
    nearest-same (above u) (above x *ℤ pos (2 ^ k)) (2 * U) (unit x) (omega (arith, unit-pos u)) (unit-pos x)
    (s.equal ∙ regroup (above x) (2 ^ suc k) U (2 ^ k) (2 * U) p)

-- where |x| is at most B, and B × 2^k is below 2^53, so is the product
pub small : (x u : Float) (k B : ℕ) → Scaled x k u → size x ≤ B * unit x → B * 2 ^ k < 2 ^ 53
    → size u < 2 ^ 53 * unit u
small x u k B s h l =
    let X = unit x in
    let U = unit u in
    let K = 2 ^ k in
    let a = mul-le-mul_right (K * U) h in
    let b = mul-lt-mul_of_pos_right l (mul-pos (unit-pos x) (unit-pos u)) in
    lt_of_mul-lt-mul_right X (go (size u) (size x) X U K s.sizes a b)
  where
    go : (t r X U K : ℕ) → t * X ≡ r * K * U → r * (K * U) ≤ B * X * (K * U)
        → B * K * (X * U) < 2 ^ 53 * (X * U) → t * X < 2 ^ 53 * U * X
    go t r X U K e a b = omega arith
