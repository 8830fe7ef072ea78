-- `words::word` meets its contract: the blanks, and then the letters.
use Rattle.std.proofs.lemmas.List.{take_rest}
use Rattle.words.proofs.Places.{first_word}
use Rattle.words.proofs.word.Goals as goal

pub returns : goal.returns
returns c = first_word c.blanks-start.ensures (rw take_rest at c.letters.ensures)
