-- `events::handle_loss` meets its contract: the float's own number, or the loss call on the row.
use Rattle.std.proofs.Common.{rules, ◌≡◌, sym, ap}
use Rattle.std.specs.Prelude.{Err}
use Rattle.refusal.specs.Numbers.{number_of}
use Rattle.refusal.proofs.Numbers.{refused-above}
use Rattle.rule.specs.Calls as C
use Rattle.floats.specs.Loss.{loss}
use Rattle.events.specs.declared.Event.TheVariants.{Loss}
use Rattle.events.proofs.Handled.{refused, done}
use Rattle.events.proofs.handle_loss.Goals as goal

pub returns-in_err-g : goal.returns-in_err-g
returns-in_err-g c =
    let s = c.args in
    let r = c.in_err-g.field-0.0 in
    let i : c.from_residual.result ≡ Err r = search rules in
    let e : number_of r ≡ (loss s.x).refusal = search rules in
    rw i (refused s.string (Loss s.x) c.requires.1 (λ ls. sym e) (refused-above r))

pub returns : goal.returns
returns c =
    let s = c.args in
    let z : 0 ≡ (loss s.x).refusal = search rules in
    let g : c.in_ok-g.g ≡ (loss s.x).g = search rules in
    done s.string (Loss s.x) c.requires.1 (C.loss c.in_ok-g.g) (λ ls. sym z) (λ ls. ap C.loss (sym g))
    c.set_loss.ensures
