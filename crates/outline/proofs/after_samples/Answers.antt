-- `outline::after_samples` meets its contract: none waits, all of the advance passes, or some of it.
use native.Mathlib.Omega.{arith}
use Rattle.outline.specs.Struct.{outline_of}
use Rattle.outline.proofs.Many.{passed_none, passed-all, passed-some}
use Rattle.outline.proofs.after_samples.Goals as goal

pub returns-then-left-eq0 : goal.returns-then-left-eq0
unfolding outline_of
returns-then-left-eq0 c =
    let x = c.args.c in let n = c.args.n in
    passed_none n x.span.length x.span.delay x.next.length x.next.delay x.left (omega arith)

pub returns-then-left-n : goal.returns-then-left-n
unfolding outline_of
returns-then-left-n c =
    let x = c.args.c in let n = c.args.n in
    passed-all n x.span.length x.span.delay x.next.length x.next.delay x.left (omega arith) (omega arith)

pub returns : goal.returns
unfolding outline_of
returns c =
    let x = c.args.c in let n = c.args.n in
    passed-some n x.span.length x.span.delay x.next.length x.next.delay x.left (omega arith)
