-- `help::error` meets its contract: the first word is the one whose kind is said.
use Rattle.help.proofs.Laws.{of_split}
use Rattle.help.proofs.error.Goals as goal

pub returns : goal.returns
returns c =
    let w = c.wrong.ensures in
    record { does = of_split c.split_word.ensures.split c.named.ensures w.does; within = w.within; out = w.out }
