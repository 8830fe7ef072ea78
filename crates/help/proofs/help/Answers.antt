-- `help::help` meets its contract: as many calls are said as the loop has passed.
use Rattle.std.proofs.Common.{arith}
use Rattle.print.proofs.Printers.{each_none}
use Rattle.request.proofs.Calls.{call-number}
use Rattle.help.proofs.Laws.{rows_more}
use Rattle.help.proofs.help.Goals as goal

pub loop-kind-init : goal.loop-kind-init
loop-kind-init c = each_none _

pub loop-kind-preserved : goal.loop-kind-preserved
loop-kind-preserved c =
    let l = c.loop-kind in
    rows_more _ _ _ l.kind-index _ (call-number l.kind-index (omega arith)) l.invariant c.listed.ensures
