-- `allpass::kept` meets its contract: by the order, the numbers up to it.
-- Assumes nothing.
use mathlib.Core.Path.{◌≡◌}
use native.Mathlib.Omega.{arith}
use borrow.Author.Rules.{rules}
use mir.Syntax.{w64}
use mir.Val.{to_z, of_z}
use Rattle.allpass.specs.Stored.{stored}
use Rattle.allpass.proofs.kept.Goals as goal

pub returns-in-1 : goal.returns-in-1
unfolding stored
returns-in-1 c =
    let p : to_z w64 (of_z w64 c.args.v.v1) ≡ c.args.v.v1 = search rules in
    rw (c.in-1.is, p)

pub returns-in-2 : goal.returns-in-2
unfolding stored
returns-in-2 c =
    let p : to_z w64 (of_z w64 c.args.v.v1) ≡ c.args.v.v1 = search rules in
    let q : to_z w64 (of_z w64 c.args.v.v2) ≡ c.args.v.v2 = search rules in
    rw (c.in-2.is, p, q)

pub returns-in_default : goal.returns-in_default
unfolding stored
returns-in_default c =
    let e : c.args.order ≡ 3 = omega arith in
    rw e
