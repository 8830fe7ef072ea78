-- `line::read` meets its contract: `ring-read` at the place that `place` gives.
use Rattle.std.proofs.Common.{sym, ◌∙◌}
use Rattle.line.proofs.Ring.{ring-read}
use Rattle.line.proofs.read.Goals as goal

pub returns : goal.returns
returns c =
    let a = c.args in
    let r = c.requires in
    c.read.ensures ∙ sym (ring-read a.line.now a.at c.told-line a.k c.place.result r.0 r.1 r.2 c.place.ensures)
