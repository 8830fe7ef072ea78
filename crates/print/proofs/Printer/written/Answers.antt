-- `print::Printer::written` meets its contract: all of it went out, or standard output took no more.
use Rattle.print.specs.Printed.{all, less}
use Rattle.print.proofs.Printer.written.Goals as goal

pub returns-in_err-self : goal.returns-in_err-self
returns-in_err-self c = rw c.from_residual.ensures less

pub returns-in_default : goal.returns-in_default
returns-in_default c = less

pub returns-in-Ok : goal.returns-in-Ok
returns-in-Ok c = all

pub returns-in-Err : goal.returns-in-Err
returns-in-Err c = less
