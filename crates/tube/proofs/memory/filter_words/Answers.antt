-- `tube::memory::filter_words` meets its contract: the numbers of a filter are small.
use Rattle.signs.proofs.Signs.{small}
use Rattle.tube.proofs.Tuned.{a_small, b-small}
use Rattle.tube.proofs.memory.filter_words.Goals as goal

pub to_word-requires : goal.to_word-requires
to_word-requires c = small c.args.f.a.a1 (a_small c.requires).0

pub to_word-requires-3 : goal.to_word-requires-3
to_word-requires-3 c = small c.args.f.b.a1 (b-small c.requires).0
