-- `help::help` meets its contract: as many calls are said as the loop has passed.
use Rattle.print.specs.Printer.{PrintsEach}
use Rattle.help.specs.Said.{Listed, up_to}
use Rattle.help.proofs.help.Given as goal

abbrev pub invariant-loop-kind : goal.invariant-loop-kind
invariant-loop-kind l = PrintsEach Listed (up_to l.kind-index) l.initial.out l.out
