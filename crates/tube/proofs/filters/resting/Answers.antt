-- `tube::filters::resting` meets its contract: the one coefficient of the delay, and a state of 0.
use mathlib.Core.Path.{refl, ap}
use native.Mathlib.Omega.{arith}
use mir.Syntax.{w64}
use mir.Facts.{to_z-of_z}
use Rattle.integer.proofs.View.{abs_fits}
use Rattle.thiran.specs.Coefficients.{coefficients}
use Rattle.thiran.specs.Answers.{padded}
use Rattle.thiran.specs.declared.formula.Coefficients.{Coefficients}
use Rattle.thiran.proofs.Lists.{coefficient-small}
use Rattle.tube.proofs.Tuned.{one-coefficient}
use Rattle.tube.proofs.filters.resting.Goals as goal

pub returns : goal.returns
unfolding padded
returns c =
    let s = c.before.before in
    let d = s.args.d in
    let e = ap (λ (k : Coefficients). k.a1) c.set-c.ensures in
    let f = abs_fits w64 (padded (coefficients 1 d)).a1 (omega (arith, coefficient-small 1 d 0 s.requires)) in
    (rw (e, to_z-of_z f) (one-coefficient d), refl)
