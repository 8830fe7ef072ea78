-- `print::Printer::numbers` meets its contract: as many are printed as the loop has passed.
use Rattle.std.proofs.Common.{take}
use Rattle.print.specs.Printed.{Number}
use Rattle.print.specs.Printer.{PrintsEach}
use Rattle.print.proofs.Printer.numbers.Given as goal

abbrev pub invariant-loop-n : goal.invariant-loop-n
invariant-loop-n l = PrintsEach Number (take l.n-index l.numbers) l.initial.self l.self
