-- `request::next::split_word` meets its contract: what stands behind the word goes on to the end of the text.
use Rattle.std.proofs.Common.{refl}
use Rattle.std.proofs.lemmas.List.{take_rest}
use Rattle.request.specs.Rest.{at}
use Rattle.request.proofs.next.split_word.Goals as goal

pub returns-clause-split : goal.returns-clause-split
returns-clause-split c =
    let w = c.word-w in
    at w.result.start w.result.end w.ensures refl (take_rest c.args.s.now w.result.end)
