-- `load::limits::all_samples` meets its contract: one number more is looked at, at each turn.
-- Assumes nothing.
use mathlib.Core.Path.{ap, ◌∙◌}
use Prim.Native.Nat.{◌+◌, ◌*◌}
use lib.IntN.{nat_abs}
use Rattle.load.proofs.Line.{too_loud, one_more, word_read}
use Rattle.load.proofs.limits.all_samples.Goals.{then-magnitude-gt8388607, else-magnitude-gt8388607}
use Rattle.load.proofs.limits.all_samples.Goals as goal

pub loop-i-preserved : goal.loop-i-preserved
loop-i-preserved c =
    let l = c.loop-i in
    let s = c.args in
    let w = c.four in
    let e = c.magnitude.ensures ∙ ap nat_abs (word_read s.s.now (s.at + 4 * l.i) w.result w.ensures.0) in
    elim c.if-magnitude-gt8388607.branch [
      | then-magnitude-gt8388607 t ↦
          rw t.good-is (too_loud s.s.now s.at l.i c.magnitude.result e t.if-magnitude-gt8388607.true)
      | else-magnitude-gt8388607 t ↦
          rw t.good-is
          (one_more s.s.now s.at l.i c.magnitude.result l.good e t.if-magnitude-gt8388607.false l.invariant)
    ]
