-- `request::next::ended` meets its contract: the first word is the empty one.
use Rattle.std.proofs.Common.{sym, ◌∙◌}
use Rattle.std.proofs.lemmas.Bool.{eqb-true}
use Rattle.request.proofs.Words.{no_word}
use Rattle.request.proofs.next.ended.Goals as goal

pub returns : goal.returns
returns c = λ h. no_word c.split_word.ensures.split (eqb-true _ _ (sym c.is_empty.ensures ∙ h))
