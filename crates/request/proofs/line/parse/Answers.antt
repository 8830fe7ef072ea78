-- `request::line::parse` meets its contract: what a line asks stands in it, and a line that asks nothing has no list.
use Rattle.request.proofs.Lines.{nothing, either}
use Rattle.request.proofs.line.parse.Goals as goal
use Rattle.request.proofs.line.parse.Goals.{in-String, in_default}

pub returns-then-is_empty : goal.returns-then-is_empty
returns-then-is_empty c = nothing _ _ c.plain.ensures

pub returns : goal.returns
returns c =
    either
    _
    _
    c.split_word.ensures.rest
    c.match-named.asked
    _
    _
    (elim c.match-named.branch [
      | in-String w ↦ rw w.asked-is w.on-asked.ensures
      | in_default w ↦ rw w.asked-is w.called-asked.ensures
    ])
    c.plain-2.ensures
    c.unwrap_or.ensures
