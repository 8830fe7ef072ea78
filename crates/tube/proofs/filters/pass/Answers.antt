-- `tube::filters::pass` meets its contract: the filter of the voice, of order 1.
use mathlib.Core.Path.{ap, ◌∙◌}
use mathlib.Core.List.{[], ◌∷◌}
use native.Mathlib.Omega.{arith}
use mir.Syntax.{w64}
use mir.Facts.{to_z-of_z}
use Rattle.integer.proofs.View.{abs_fits}
use Rattle.allpass.specs.declared.State.{State}
use Rattle.allpass.specs.Allpass.{inner}
use Rattle.tube.proofs.Tuned.{fed, stored_one, inner-small}
use Rattle.tube.proofs.filters.pass.Goals as goal

pub allpass-t-requires : goal.allpass-t-requires
allpass-t-requires c = rw (c.state.ensures, c.coefficients.ensures) (fed c.requires)

pub returns : goal.returns
returns c =
    let t = c.before.before.before in
    let s = t.before.before.before in
    let f = s.args.f in
    let x = s.args.x.n in
    let e = rw (t.state.ensures, t.coefficients.ensures) at t.allpass-t.ensures in
    let v = ap (λ (k : State). k.v1) e.1 ∙ stored_one f.a1 f.v1 x in
    let i = inner-small x s.requires in
    let h = s.requires in (
      e.0,
      rw (
        to_z-of_z (abs_fits w64 f.a1 (omega (arith, h.small))),
        v,
        to_z-of_z (abs_fits w64 (inner (f.a1 ∷ []) (f.v1 ∷ []) x) (omega (arith, i))),
      ),
    )
