-- `outline::loss_refused` meets its contract: no call, or that of the loss.
use mathlib.Core.Path.{sym, ◌∙◌}
use borrow.Author.Tests.{ne_eqb}
use Rattle.follow.specs.Follow.{stands}
use Rattle.outline.specs.Outline.{number}
use Rattle.outline.proofs.Calls.{single}
use Rattle.outline.proofs.loss_refused.Goals as goal

pub returns : goal.returns
unfolding number
returns c =
    λ Na o.
    rw (ne_eqb (stands c.args.r.now 3) 0 (λ z. c.if-bit-eq0.false (c.bit.ensures ∙ z))) (c.within.ensures ∙ sym single)
