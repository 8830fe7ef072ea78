-- `console::lines::Coming::whole` meets its contract: each line leaves fewer bytes.
use Rattle.std.proofs.Common.{length, ◌≤◌}
use Rattle.console.proofs.lines.Coming.whole.Given as goal

abbrev pub invariant-loop-n : goal.invariant-loop-n
invariant-loop-n l = length l.rest ≤ length l.s

abbrev pub decreases-loop-n : goal.decreases-loop-n
decreases-loop-n l = length l.rest
