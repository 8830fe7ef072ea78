-- `voice::settle` meets its contract: by whether the change commits itself.
-- Assumes nothing.
use mathlib.Core.Path.{sym, ◌∙◌}
use Rattle.voice.proofs.settle.Goals as goal

pub returns-then-commits : goal.returns-then-commits
returns-then-commits c =
    let b = c.before in rw (sym b.commits.ensures ∙ b.if-commits.true) c.with.ensures

pub returns : goal.returns
returns c = let b = c.before.before in rw (sym b.commits.ensures ∙ b.if-commits.false) c.with-2.ensures
