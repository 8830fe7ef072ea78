-- A number that stands 2^31 higher in a word, read as a 64-bit number.
use mathlib.Core.Path.{◌≡◌}
use Prim.Native.Nat.{ℕ, ◌≤◌, ◌<◌, ◌^◌}
use native.Mathlib.Omega.{arith}
use lib.IntN.{ℤ, pos, nat_abs, ◌+ℤ◌}
use mir.Syntax.{w64}
use mir.Val.{SFits, to_z, of_z}
use mir.Facts.{to_z-of_z}
use Rattle.integer.proofs.View.{vfit, +v, -v, absv, onev, abs_fits, Zs}
use Rattle.integer.specs.Parts.{up}
use Rattle.signs.specs.Signs.{signed_of}

pub fits : (w : ℕ) → w < 2 ^ 32 → SFits w64 (signed_of w)
fits w h = vfit w64 (signed_of w) (omega (arith, -v (pos w) (pos 2147483648)))

pub read : (w : ℕ) {z : ℤ} → w < 2 ^ 32 → z ≡ signed_of w → to_z w64 (of_z w64 z) ≡ signed_of w
read w h e = rw e (to_z-of_z (fits w h))

-- x, 2^31 higher, as a number that is not below 0
pub above : (x : ℤ) → nat_abs x < 2147483648 → x +ℤ pos 2147483648 ≡ pos (up (x +ℤ pos 2147483648))
above x h = omega (Zs, absv x, onev x, +v x (pos 2147483648), onev (x +ℤ pos 2147483648))

pub under : (x : ℤ) → nat_abs x < 2147483648 → up (x +ℤ pos 2147483648) < 2 ^ 32
under x h = omega (Zs, absv x, onev x, +v x (pos 2147483648), onev (x +ℤ pos 2147483648))

pub back : (x : ℤ) → nat_abs x < 2147483648 → signed_of (up (x +ℤ pos 2147483648)) ≡ x
back x h =
    let s = up (x +ℤ pos 2147483648) in
    omega (Zs, absv x, onev x, +v x (pos 2147483648), onev (x +ℤ pos 2147483648), -v (pos s) (pos 2147483648))

-- a small number, as the machine holds it
pub shown : (z : ℤ) → nat_abs z ≤ 2 ^ 24 → to_z w64 (of_z w64 z) ≡ z
shown z h = to_z-of_z (abs_fits w64 z (omega (arith, h)))

pub small : (z : ℤ) → nat_abs z ≤ 2 ^ 24 → nat_abs (to_z w64 (of_z w64 z)) < 2147483648
small z h = rw (shown z h) (omega (arith, h))
