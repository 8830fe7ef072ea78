-- `loops::input` meets its contract: by whether something comes in.
-- Assumes nothing.
use mathlib.Core.Path.{sym, ◌∙◌}
use Rattle.loops.proofs.Fed.{some_in}
use Rattle.loops.proofs.input.Goals as goal

pub returns-then-fed : goal.returns-then-fed
returns-then-fed c =
    let s = c.args in
    c.read.ensures ∙ sym (some_in s.fed s.buffer.now s.i c.if-fed.true)
