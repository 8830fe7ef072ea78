-- `store::words_of` meets its contract: the numbers are those of the voice's parts.
use Rattle.std.proofs.Common.{rules}
use Rattle.store.proofs.Heads.{quiet-state, quiet-waiting, words_are}
use Rattle.store.proofs.words_of.Goals as goal

pub words_of_state-requires : goal.words_of_state-requires
words_of_state-requires c = quiet-state c.args.h.filter c.requires.filter

pub words_of_change-requires : goal.words_of_change-requires
words_of_change-requires c = quiet-waiting c.args.h.advance c.args.h.waiting c.requires.waiting

pub returns : goal.returns
returns c =
    words_are c.args.h c.requires _ (search rules) (search rules) (search rules) c.word.ensures
    c.words_of_state.ensures c.words_of_change.ensures (search rules)
