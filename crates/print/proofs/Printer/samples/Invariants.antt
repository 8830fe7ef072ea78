-- `print::Printer::samples` meets its contract: as many are printed as the loop has passed.
use Rattle.std.proofs.Common.{take}
use Rattle.print.specs.Printed.{Signed}
use Rattle.print.specs.Printer.{PrintsEach}
use Rattle.print.proofs.Printer.samples.Given as goal

abbrev pub invariant-loop-x : goal.invariant-loop-x
invariant-loop-x l = PrintsEach Signed (take l.x-index l.samples) l.initial.self l.self
