-- `request::next::next` meets its contract: it is the first word that is read.
use Rattle.std.proofs.Common.{sym, ◌∙◌}
use Rattle.request.specs.Rest.{word, other}
use Rattle.request.proofs.next.next.Goals as goal

pub returns-in_err-read-clause-spelt : goal.returns-in_err-read-clause-spelt
returns-in_err-read-clause-spelt g c =
    rw c.from_residual.ensures (other c.split_word.ensures.split (sym c.read.ensures ∙ c.in_err-read.was))

pub returns-clause-spelt : goal.returns-clause-spelt
returns-clause-spelt g c = word c.split_word.ensures.split (sym c.read.ensures ∙ c.in_ok-read.was)
