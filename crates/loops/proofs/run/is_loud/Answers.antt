-- `loops::run::is_loud` meets its contract: in order 1 it is clipped already.
-- Assumes nothing.
use mathlib.Core.Path.{sym, ap}
use mathlib.Core.Bool.{not}
use borrow.Author.Tests.{le-leb}
use lib.IntN.{nat_abs}
use Rattle.integer.specs.Rounding.{M}
use Rattle.loops.proofs.run.is_loud.Goals as goal

pub returns-then-order-eq1 : goal.returns-then-order-eq1
returns-then-order-eq1 c =
    let s = c.before in
    sym (ap not (le-leb (nat_abs s.args.y.n) M (s.requires c.if-order-eq1.true)))

pub returns : goal.returns
returns c = ap not c.is_sample.ensures
