-- `load::fill` meets its contract: one number more is laid at each turn.
-- Assumes nothing.
use mathlib.Core.Path.{◌∙◌}
use lib.ListN.{length-set}
use native.Mathlib.Omega.{arith}
use Prim.Native.Nat.{◌+◌, ◌*◌}
use Rattle.form.specs.Parts.{value}
use Rattle.load.proofs.Line.{next-laid, word_read}
use Rattle.load.proofs.fill.Goals as goal

pub loop-i-preserved : goal.loop-i-preserved
loop-i-preserved c =
    let w = c.four in
    let l = c.loop-i in
    let s = c.args in
    let test = c.loop-i-test.true in (
      rw c.write.ensures (length-set l.line l.i (value w.result) ∙ l.invariant.0),
      rw c.write.ensures
          (next-laid s.s.now s.at l.line l.i (value w.result) (omega (arith, test, l.invariant.0))
          (word_read s.s.now (s.at + 4 * l.i) w.result w.ensures.0) l.invariant.1),
    )
