-- A filter of any order whose numbers are small: R gives 0 of each sum, and it is a delay of N samples.
-- Assumes nothing.
use mathlib.Core.Path.{◌≡◌, ap}
use mathlib.Core.List.{List, [], reverse}
use Prim.Native.Nat.{ℕ, ◌*◌, ◌≤◌, ◌<◌}
use native.Mathlib.Omega.{arith}
use lib.IntN.{ℤ, pos, nat_abs, +ℤ_idr}
use Rattle.integer.specs.Rounding.{M}
use Rattle.integer.specs.Cut.{R}
use Rattle.integer.proofs.View.{absv, Zs}
use Rattle.integer.proofs.Rounding.{clip-kept}
use Rattle.integer.proofs.Cut.{R-abs}
use Rattle.thiran.specs.Coefficients.{norm}
use Rattle.allpass.specs.Allpass.{dot, shift, final, inner, next, out}
use Rattle.allpass.specs.Bounds.{Within}
use Rattle.allpass.proofs.Bounds.{dot-within, shift-within, final-within, norm-reverse}

R-nothing : (A : List ℤ) {v : List ℤ} {B : ℕ} → norm A * B < 65536 → Within B v → R (dot A v) ≡ pos 0
R-nothing A {v} n h =
    let z : nat_abs (R (dot A v)) ≡ 0 = omega (arith, R-abs (dot A v), dot-within A h) in
    omega (Zs, absv (R (dot A v)))

module _ (A : List ℤ) {v : List ℤ} (f : ℤ) {B : ℕ} (n : norm A * B < 65536) (h : Within B v) where
  inner-still : inner A v f ≡ f
  unfolding inner
  inner-still = rw (R-nothing A n h) (+ℤ_idr f)

  pub next-still : next A v f ≡ shift f v
  unfolding next
  next-still = ap (λ (w : ℤ). shift w v) inner-still

  pub out-still : nat_abs f ≤ B → B ≤ M → out A v f ≡ final (pos 0) v
  unfolding out
  out-still k m =
      let still : Within B (next A v f) = rw next-still (shift-within f k h) in
      let turned : norm (reverse A) * B < 65536 = rw (norm-reverse A []) (omega arith) in
      let last : nat_abs (final (pos 0) v) ≤ M = omega (arith, final-within {B = B} (pos 0) (omega arith) h) in
      rw (R-nothing (reverse A) turned still, +ℤ_idr (final (pos 0) v)) (clip-kept (final (pos 0) v) last)
