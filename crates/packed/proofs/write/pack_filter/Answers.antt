-- `packed::write::pack_filter` meets its contract: the numbers of a tuned filter fit their words.
use Rattle.signs.proofs.Signs.{small}
use Rattle.packed.proofs.Filters.{a1-small, a2-small, a3-small, v2-small, v3-small}
use Rattle.packed.proofs.write.pack_filter.Goals as goal

pub to_word-requires : goal.to_word-requires
to_word-requires c = small c.args.f.coefficients.a1 (a1-small c.args.f c.requires)

pub to_word-requires-2 : goal.to_word-requires-2
to_word-requires-2 c = small c.args.f.coefficients.a2 (a2-small c.args.f c.requires)

pub to_word-requires-3 : goal.to_word-requires-3
to_word-requires-3 c = small c.args.f.coefficients.a3 (a3-small c.args.f c.requires)

pub to_word-requires-5 : goal.to_word-requires-5
to_word-requires-5 c = small c.args.f.state.v2 (v2-small c.args.f c.requires)

pub to_word-requires-6 : goal.to_word-requires-6
to_word-requires-6 c = small c.args.f.state.v3 (v3-small c.args.f c.requires)
