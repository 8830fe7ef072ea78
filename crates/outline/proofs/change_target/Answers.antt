-- `outline::change_target` meets its contract: each field, or what is in force.
use mathlib.Core.Path.{ap, ◌∙◌}
use mathlib.Core.Bool.{cond}
use Prim.Native.Nat.{ℕ}
use lib.Dec.{eqb}
use Rattle.follow.specs.Follow.{value}
use Rattle.outline.specs.Struct.{outline_of}
use Rattle.outline.proofs.change_target.Goals as goal

pub returns : goal.returns
unfolding outline_of
returns c =
    let b = c.before.before in
    let a = b.before.before.before in
    let s = a.args in
    let r = s.r.now in
    record {
      length_is =
          b.chosen.ensures
          ∙ ap (λ (n : ℕ). cond (eqb n 0) s.c.span.length (value r 1)) a.bit.ensures;
      delay_is =
          c.chosen-2.ensures
          ∙ ap (λ (n : ℕ). cond (eqb n 0) s.c.span.delay (value r 2)) b.bit-2.ensures;
    }
