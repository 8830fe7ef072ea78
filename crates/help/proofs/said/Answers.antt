-- `help::said` meets its contract: the text, and then the row.
use Rattle.std.proofs.Common.{List, ℕ, subst, ◌∙◌}
use Rattle.print.specs.Printer.{place}
use Rattle.print.specs.Printed.{Printed, none, more}
use Rattle.help.proofs.said.Goals as goal

pub returns : goal.returns
returns c =
    let a = c.bytes.ensures in
    let b = c.bytes-2.ensures in
    let p = c.bytes.new.self in
    let q = c.bytes-2.new.self in
    let row = subst (λ (l : List ℕ). Printed l p.buffer (place p.held) q.buffer (place q.held)) c.row.ensures b.does in
    record { does = more a.does (more row none); within = b.within; out = b.out ∙ a.out }
