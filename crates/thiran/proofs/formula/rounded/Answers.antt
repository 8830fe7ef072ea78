-- `thiran::formula::rounded` meets its contract: what is rounded fits 64 bits, by `Roundable`.
-- Assumes nothing.
use mathlib.Core.Path.{◌≡◌}
use native.Mathlib.Omega.{arith}
use borrow.Author.Rules.{rules}
use lib.IntN.{pos, ◌*ℤ◌}
use mir.Syntax.{w64}
use mir.Val.{SFits, to_z, of_z}
use mir.Facts.{to_z-of_z}
use Rattle.integer.proofs.View.{abs_fits}
use Rattle.integer.proofs.Ring.{abs-*}
use Rattle.thiran.specs.declared.formula.Ratio.{Ratio}
use Rattle.thiran.specs.Steps.{Roundable}
use Rattle.thiran.proofs.formula.rounded.Goals as goal

scaled_fits : (p : Ratio) → Roundable p → SFits w64 (pos 65536 *ℤ p.top)
scaled_fits p r = abs_fits w64 (pos 65536 *ℤ p.top) (omega (arith, abs-* (pos 65536) p.top))

pub overflow_mul-p : goal.overflow_mul-p
overflow_mul-p c =
    let p : (to_z w64 (of_z w64 c.args.p.top) ≡ c.args.p.top) = search rules in
    rw p (scaled_fits c.args.p c.requires)

pub round_half_up-requires : goal.round_half_up-requires
round_half_up-requires c =
    let p : (to_z w64 (of_z w64 c.args.p.top) ≡ c.args.p.top) = search rules in
    rw (p, to_z-of_z (scaled_fits c.args.p c.requires)) (omega (arith, abs-* (pos 65536) c.args.p.top))

pub returns : goal.returns
returns c =
    let p : (to_z w64 (of_z w64 c.args.p.top) ≡ c.args.p.top) = search rules in
    rw (p, to_z-of_z (scaled_fits c.args.p c.requires)) at c.round_half_up.ensures
