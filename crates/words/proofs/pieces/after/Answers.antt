-- `words::pieces::after` meets its contract: what stands after the first such byte.
use Rattle.std.proofs.Common.{refl}
use Rattle.words.proofs.Cuts.{part-past}
use Rattle.words.proofs.pieces.after.Goals as goal

pub returns : goal.returns
returns c =
    let n = c.before-2 in
    rw c.unwrap_or.ensures
    (part-past c.args.b c.args.s.now n.result c.get.result _ n.ensures c.get.ensures.lookup refl)
