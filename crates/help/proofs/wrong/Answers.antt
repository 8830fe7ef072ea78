-- `help::wrong` meets its contract: each part is printed after the one before.
use Rattle.std.proofs.Common.{ℕ, subst, ◌∙◌}
use Rattle.print.specs.Printed.{Number}
use Rattle.print.specs.Printer.{Prints}
use Rattle.help.specs.Said.{error}
use Rattle.help.proofs.wrong.Goals as goal

pub returns : goal.returns
returns c =
    let a = c.bytes.ensures in
    let n = subst (λ (m : ℕ). Prints (Number m) c.bytes.new.self c.number.new.self) c.number.ensures.1 c.number.ensures.2 in
    let s = c.said.ensures in
    record { does = error a.does n.does s.does; within = s.within; out = s.out ∙ n.out ∙ a.out }
