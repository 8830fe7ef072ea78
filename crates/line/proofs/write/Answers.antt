-- `line::write` meets its contract: `ring_write`.
use Rattle.std.proofs.Common.{ap, ◌∙◌, arith}
use Rattle.line.specs.Ring.{ring}
use Rattle.line.proofs.Ring.{ring_write}
use Rattle.line.proofs.write.Goals as goal

pub returns : goal.returns
returns c =
    let a = c.args in
    let next = c.round.result in (
      omega (arith, c.round.ensures),
      ap (ring next) c.write.ensures ∙ ring_write a.line.now a.at c.told-line next a.s.n c.requires.0 c.round.ensures,
    )
