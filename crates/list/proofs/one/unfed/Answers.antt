-- `list::one::unfed` meets its contract: all of the output, where its first stretch is as long.
-- Assumes nothing.
use native.Mathlib.Omega.{arith}
use Rattle.render.proofs.Unfed.{unfed_all}
use Rattle.list.proofs.one.unfed.Goals as goal

pub returns-else-n-output : goal.returns-else-n-output
returns-else-n-output c =
    rw c.after.ensures (unfed_all _ _ _ _ _ _ _ c.begin-p.ensures.went
    (omega (arith, c.if-n-output.false, c.begin-p.auto.buffer)))
