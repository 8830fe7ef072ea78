-- `print::Printer::room` meets its contract: by whether 64 bytes are left.
use Rattle.std.proofs.Common.{◌<◌, refl, ap, arith}
use Rattle.print.specs.Printed.{left, made}
use Rattle.print.specs.Printer.{place}
use Rattle.print.proofs.Printer.room.Goals as goal
use Rattle.print.proofs.Printer.room.Goals.{in_default-via-in-Some+else-n-le4032, in_default-via-in_default}

pub returns-in-Some : goal.returns-in-Some
returns-in-Some c =
    let e = ap place c.in-Some.is in
    record { does = (refl, left (omega (arith, e))); within = omega (arith, e); out = refl }

pub returns-in_default : goal.returns-in_default
returns-in_default c =
    let f = c.flush.ensures in
    let little : 4032 < place c.args.self.now.held =
    elim c.in_default.branch [
      | in_default-via-in-Some+else-n-le4032 w ↦ omega (arith, ap place w.in-Some.is, w.if-n-le4032.false)
      | in_default-via-in_default w ↦ omega (arith, ap place w.in_default.is)
    ] in
    record { does = (f.does.0, made little f.does.1); within = f.within; out = f.out }
