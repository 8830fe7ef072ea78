-- `change::prepare` meets its contract: what it starts with is in force at once or waiting.
-- Assumes nothing.
use mathlib.Core.Path.{◌≡◌}
use Rattle.std.proofs.Common.{rules}
use Rattle.std.specs.Prelude.{Ok, Err}
use Rattle.change.proofs.prepare.Goals as goal

pub returns-in_err-e : goal.returns-in_err-e
returns-in_err-e c =
    let r = c.in_err-e.field-0.0 in
    let u : c.ready.result ≡ Err r = search rules in
    let i : c.from_residual.result ≡ Err r = search rules in
    rw i (rw u at c.ready.ensures c.args.kind)

pub returns : goal.returns
returns c =
    let u : c.ready.result ≡ Ok c.in_ok-e.e = search rules in
    rw c.settle.ensures (rw u at c.ready.ensures c.args.kind)
