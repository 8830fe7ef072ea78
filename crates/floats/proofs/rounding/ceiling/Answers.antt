-- `floats::rounding::ceiling` meets its contract: one more than the whole part, where that is less.
use Rattle.std.proofs.Common.{◌≡◌, ℕ, ◌/◌, ◌^◌, ◌<◌, sym, ◌∙◌, arith}
use lib.Ieee.{Float}
use Rattle.floats.specs.Worth.{size, unit}
use Rattle.floats.specs.Steps.{Counted}
use Rattle.floats.proofs.Whole.{whole-under, as_float, fraction, ceiling_more, ceiling_same}
use Rattle.floats.proofs.rounding.ceiling.Goals as goal

under : (v : Float) (k : ℕ) → Counted v → k ≡ size v / unit v → k < 2 ^ 53
under v k h e = rw e (whole-under v h)

pub int_to_float-k : goal.int_to_float-k
int_to_float-k c = as_float _ (under _ _ c.requires c.whole-k.ensures)

pub overflow_add-result : goal.overflow_add-result
overflow_add-result c = omega (arith, under _ _ c.requires c.whole-k.ensures)

pub returns-then-k-v : goal.returns-then-k-v
returns-then-k-v c =
    let v = c.args.v in
    let k = c.whole-k.result in
    ceiling_more v k c.whole-k.ensures
    (sym (fraction v k (under _ _ c.requires c.whole-k.ensures) c.requires) ∙ c.if-k-v.true)

pub returns : goal.returns
returns c =
    let v = c.args.v in
    let k = c.whole-k.result in
    ceiling_same v k c.whole-k.ensures
    (sym (fraction v k (under _ _ c.requires c.whole-k.ensures) c.requires) ∙ c.if-k-v.false)
