-- `outline::act` meets its contract: the loss, then the change, then the pluck.
use Rattle.std.proofs.Common.{rules}
use Rattle.std.specs.Prelude.{Err}
use mathlib.Core.Path.{◌≡◌}
use Rattle.outline.specs.Struct.{outline_of}
use Rattle.outline.proofs.Parts.{stops-loss, stops-change, stops-pluck, reaches_pluck}
use Rattle.outline.proofs.act.Goals as goal

pub returns-in_err-loss_refused : goal.returns-in_err-loss_refused
returns-in_err-loss_refused c =
    let s = c.args in
    let k = c.in_err-loss_refused.field-0.0 in
    let i : c.from_residual.result ≡ Err k = search rules in
    let o = outline_of s.c in
    rw i (stops-loss s.order s.advance s.r.now o k (c.in_err-loss_refused.ensures s.advance o))

pub returns-in_err-next : goal.returns-in_err-next
returns-in_err-next c =
    let s = c.args in
    let k = c.in_err-next.field-0.0 in
    let i : c.from_residual-in_err-next.result ≡ Err k = search rules in
    let o = outline_of s.c in
    rw i (stops-change s.order s.advance s.r.now o (c.in_ok-loss_refused.ensures s.advance o) k c.in_err-next.ensures)

pub returns-in_err-pluck_refused : goal.returns-in_err-pluck_refused
returns-in_err-pluck_refused c =
    let s = c.args in
    let k = c.in_err-pluck_refused.field-0.0 in
    let i : c.from_residual-in_err-pluck_refused.result ≡ Err k = search rules in
    let o = outline_of s.c in
    rw i (stops-pluck s.order s.advance s.r.now o (c.in_ok-loss_refused.ensures s.advance o) c.in_ok-next.next
    c.in_ok-next.ensures k (c.in_err-pluck_refused.ensures s.advance))

pub returns : goal.returns
returns c =
    let s = c.args in
    let o = outline_of s.c in
    reaches_pluck s.order s.advance s.r.now o (c.in_ok-loss_refused.ensures s.advance o) c.in_ok-next.next
    c.in_ok-next.ensures (c.in_ok-pluck_refused.ensures s.advance)
