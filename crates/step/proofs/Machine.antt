-- What the machine reads back of whole numbers that it can hold, alone and as the terms of a sum.
-- Assumes nothing.
use mathlib.Core.Path.{◌≡◌}
use Prim.Native.Nat.{◌<◌, ◌^◌}
use lib.IntN.{ℤ, nat_abs, ◌+ℤ◌}
use mir.Syntax.{w64}
use mir.Val.{to_z, of_z}
use mir.Facts.{to_z-of_z}
use Rattle.integer.proofs.View.{abs_fits}

abbrev pub back : ℤ → ℤ
back z = to_z w64 (of_z w64 z)

pub kept : (z : ℤ) → nat_abs z < 2 ^ 63 → back z ≡ z
kept z h = to_z-of_z (abs_fits w64 z h)

pub terms : (a b : ℤ) → nat_abs a < 2 ^ 63 → nat_abs b < 2 ^ 63 → back a +ℤ back b ≡ a +ℤ b
terms a b h k = rw (kept a h, kept b k)
