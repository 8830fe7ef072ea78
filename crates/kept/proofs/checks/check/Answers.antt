-- `kept::checks::check` meets its contract: the head by its words, the line by its loudest sample.
use mathlib.Core.Path.{sym, ◌∙◌}
use borrow.Author.Tests.{leb-true, le-leb}
use Rattle.integer.specs.Rounding.{M}
use Rattle.samples.specs.Samples.{loudest}
use Rattle.packed.specs.Words.{head_of}
use Rattle.kept.proofs.Limits.{line-is}
use Rattle.kept.proofs.checks.check.Goals as goal

pub returns-then-fits : goal.returns-then-fits
returns-then-fits c =
    let l = c.args.line.now in
    let i = line-is (head_of c.args.head.now).at l in (
      (λ e. record {
        fit = c.fits.ensures.0 c.if-fits.true;
        line = i.0 (leb-true (loudest l) M (sym c.all_samples.ensures ∙ e));
      }),
      (λ v. c.all_samples.ensures ∙ le-leb (loudest l) M (i.1 v.line)),
    )
