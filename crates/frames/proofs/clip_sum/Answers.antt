-- `frames::clip_sum` meets its contract: a sum of two samples is small enough to add a third.
use mathlib.Core.Path.{ap, ◌∙◌}
use Prim.Native.Nat.{◌≤◌, ◌^◌}
use native.Mathlib.Omega.{arith}
use lib.IntN.{ℤ, nat_abs, ◌+ℤ◌}
use Rattle.integer.specs.Rounding.{clip}
use Rattle.integer.proofs.View.{near, absv, +v}
use Rattle.frames.proofs.clip_sum.Goals as goal

small : (c : goal.After-plus) → nat_abs c.plus.result.n ≤ 2 ^ 42
small c =
    let a = c.args.a.n in
    let b = c.args.b.n in
    rw c.plus.ensures
    (near (a +ℤ b) (omega (arith, +v a b, absv a, absv b, c.requires.0, c.requires.1)))

pub plus-requires-2 : goal.plus-requires-2
plus-requires-2 c = (small c, omega (arith, c.requires.2))

pub returns : goal.returns
returns c =
    c.clip.ensures
    ∙ ap clip (c.plus-2.ensures ∙ ap (λ (z : ℤ). z +ℤ c.args.c.n) c.plus.ensures)
