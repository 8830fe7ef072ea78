use Rattle.load.proofs.Found.{first}
use mathlib.Core.Path.{◌∙◌}
use Rattle.load.proofs.words.map_of.Goals as goal

-- src/words.rt:57:1
pub returns : goal.returns
returns c =
    let s = c.args.s.now in
    (c.part.ensures.0 ∙ first s, c.part.ensures.1)
