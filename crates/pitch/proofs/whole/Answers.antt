-- `pitch::whole` meets its contract: T - 2,048 less the order's least delay is T - 4,096·N - 1.
-- Assumes nothing.
use native.Mathlib.Omega.{arith}
use lib.IntN.{pos}
use Rattle.integer.proofs.View.{onev}
use Rattle.pitch.specs.Pitch.{split_l}
use Rattle.pitch.proofs.Theorems.{splitv}
use Rattle.pitch.proofs.whole.Goals as goal

-- ℕ's difference stops at 0, so this holds of an L below zero too
pub returns : goal.returns
returns c =
    let a = c.args in
    omega (arith, c.saturating_sub.ensures, splitv a.order (pos a.t) c.requires.0, onev (split_l a.order (pos a.t)))
