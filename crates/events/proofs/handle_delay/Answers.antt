-- `events::handle_delay` meets its contract: the float's own number, or the announced change on the row.
use Rattle.std.proofs.Common.{rules, ◌≡◌, ℕ, refl, sym, ap, ◌∙◌}
use Rattle.std.specs.Prelude.{Err}
use Rattle.refusal.specs.Numbers.{number_of}
use Rattle.refusal.proofs.Numbers.{refused-above}
use Rattle.rule.specs.Voice.{tuning}
use Rattle.rule.specs.Calls.{announce}
use Rattle.packed.specs.Words.{head_of}
use Rattle.floats.specs.Delay.{split}
use Rattle.events.specs.declared.Event.TheVariants.{Delay}
use Rattle.events.proofs.Handled.{refused, done}
use Rattle.events.proofs.handle_delay.Goals as goal

pub returns-in_err-parts : goal.returns-in_err-parts
unfolding head_of
returns-in_err-parts c =
    let s = c.args in
    let r = c.in_err-parts.field-0.0 in
    let i : c.from_residual.result ≡ Err r = search rules in
    let e : number_of r ≡ (split c.order_of-order.result s.x).refusal = search rules in
    rw i (refused s.string (Delay s.x) c.requires.1
    (λ ls. ap (λ (N : ℕ). (split N s.x).refusal) (sym c.order_of-order.ensures) ∙ sym e) (refused-above r))

pub returns : goal.returns
unfolding head_of
returns c =
    let s = c.args in
    let N = c.order_of-order.result in
    let p = c.in_ok-parts.parts in
    let z : 0 ≡ (split N s.x).refusal = search rules in
    let l : p.length ≡ (split N s.x).length = search rules in
    let d : p.delay ≡ (split N s.x).delay = search rules in
    done s.string (Delay s.x) c.requires.1 (announce (tuning N p.length p.delay))
    (λ ls. ap (λ (M : ℕ). (split M s.x).refusal) (sym c.order_of-order.ensures) ∙ sym z)
    (λ ls. ap (λ (M : ℕ). announce (tuning M (split M s.x).length (split M s.x).delay)) (sym c.order_of-order.ensures)
    ∙ rw (l, d) refl)
    c.announce.ensures
