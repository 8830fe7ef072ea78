-- `allpass::sample::entering` meets its contract: by R of one product, or by the sum of two or three.
-- Assumes nothing.
use mathlib.Core.Path.{ap, ◌∙◌}
use native.Mathlib.Omega.{arith}
use lib.IntN.{ℤ, ◌-ℤ◌}
use Rattle.integer.specs.Cut.{R}
use Rattle.thiran.specs.Answers.{taps}
use Rattle.allpass.specs.Allpass.{inner}
use Rattle.allpass.proofs.Bounds.{dot-small}
use Rattle.allpass.proofs.sample.entering.Goals as goal

pub less-requires : goal.less-requires
less-requires c =
    let f = c.requires in (
      omega (arith, f.sample),
      rw c.weighed.ensures
          (dot-small (taps c.args.order c.args.c) f.taps_small f.state_within),
    )

pub returns : goal.returns
unfolding inner
returns c = c.less.ensures ∙ ap (λ (u : ℤ). c.args.f.n -ℤ R u) c.weighed.ensures
