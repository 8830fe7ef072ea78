-- `tube::scatter::reflection` meets its contract: what is rounded fits 64 bits.
use mathlib.Core.Path.{◌≡◌}
use Prim.Native.Nat.{ℕ, ◌<◌, ◌^◌}
use native.Mathlib.Omega.{arith}
use lib.IntN.{pos, nat_abs, ◌-ℤ◌, ◌*ℤ◌}
use mir.Syntax.{w64}
use mir.Val.{SFits, to_z, of_z}
use mir.Facts.{to_z-of_z}
use mir.ValLaws.{to_z_pos}
use Rattle.integer.proofs.View.{abs_fits, vfit, -v}
use Rattle.integer.proofs.Ring.{abs-*, abs--}
use Rattle.junction.specs.Junction.{reflection}
use Rattle.tube.proofs.scatter.reflection.Goals.{Start}
use Rattle.tube.proofs.scatter.reflection.Goals as goal

module _ (c : Start) where
  abbrev l : ℕ
  l = c.args.left

  abbrev r : ℕ
  r = c.args.right

  left_is : to_z w64 l ≡ pos l
  left_is = to_z_pos w64 l (omega (arith, c.requires.0.most))

  right_is : to_z w64 r ≡ pos r
  right_is = to_z_pos w64 r (omega (arith, c.requires.1.most))

  difference-fits : SFits w64 (pos l -ℤ pos r)
  difference-fits = vfit w64 (pos l -ℤ pos r) (omega (arith, -v (pos l) (pos r), c.requires.0.most, c.requires.1.most))

  difference-is : to_z w64 (of_z w64 (to_z w64 l -ℤ to_z w64 r)) ≡ pos l -ℤ pos r
  difference-is = rw (left_is, right_is) (to_z-of_z difference-fits)

  top_small : nat_abs (pos 32768 *ℤ (pos l -ℤ pos r)) < 2 ^ 34
  top_small =
      omega (arith, abs-* (pos 32768) (pos l -ℤ pos r), abs-- (pos l) (pos r), c.requires.0.most, c.requires.1.most)

  top-fits : SFits w64 (pos 32768 *ℤ (pos l -ℤ pos r))
  top-fits = abs_fits w64 (pos 32768 *ℤ (pos l -ℤ pos r)) (omega (arith, top_small))

pub returns : goal.returns
unfolding reflection
returns c =
    let s = c.before in
    rw (difference-is s, to_z-of_z (top-fits s)) at c.round_half_up.ensures
