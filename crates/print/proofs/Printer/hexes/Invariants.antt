-- `print::Printer::hexes` meets its contract: as many are printed as the loop has passed.
use Rattle.std.proofs.Common.{take}
use Rattle.print.specs.Printed.{Hex}
use Rattle.print.specs.Printer.{PrintsEach}
use Rattle.print.proofs.Printer.hexes.Given as goal

abbrev pub invariant-loop-b : goal.invariant-loop-b
invariant-loop-b l = PrintsEach Hex (take l.b-index l.bytes) l.initial.self l.self
