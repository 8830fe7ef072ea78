use Rattle.load.proofs.Found.{is-there, not_there}
use mathlib.Core.Path.{◌∙◌}
use Rattle.load.proofs.words.read.Goals as goal

-- src/words.rt:91:9
pub returns-then-there-eq1 : goal.returns-then-there-eq1
returns-then-there-eq1 c =
    let s = c.args in
    c.part.ensures.0 ∙ is-there s.s.now s.at s.there s.other c.if-there-eq1.true

-- src/words.rt:87:1
pub returns : goal.returns
returns c =
    let s = c.args in
    not_there s.s.now s.at s.there s.other c.if-there-eq1.false
