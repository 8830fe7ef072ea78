-- `change::asked::commit` meets its contract: refused by 21 or 20, or what was asked for is in force.
-- Assumes nothing.
use mathlib.Core.Path.{◌≡◌}
use Rattle.std.proofs.Common.{rules}
use Rattle.std.specs.Prelude.{Ok, Err}
use Rattle.change.proofs.asked.commit.Goals as goal

pub returns-in_err-uncommitted : goal.returns-in_err-uncommitted
returns-in_err-uncommitted c =
    let r = c.in_err-uncommitted.field-0.0 in
    let u : c.uncommitted.result ≡ Err r = search rules in
    let i : c.from_residual.result ≡ Err r = search rules in
    rw i (rw u at c.uncommitted.ensures)

pub returns : goal.returns
returns c =
    let u : c.uncommitted.result ≡ Ok c.in_ok-uncommitted.field-0 = search rules in
    rw c.committed.ensures (rw u at c.uncommitted.ensures)
