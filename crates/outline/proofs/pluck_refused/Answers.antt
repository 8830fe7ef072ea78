-- `outline::pluck_refused` meets its contract: no call, or that of the pluck.
use Rattle.std.proofs.Common.{rules}
use Rattle.std.specs.Prelude.{Err}
use mathlib.Core.Path.{◌≡◌, sym, ap, ◌∙◌}
use mathlib.Core.List.{[], ◌∷◌}
use mathlib.Core.Bool.{cond}
use Prim.Native.Nat.{ℕ}
use lib.Dec.{eqb}
use borrow.Author.Tests.{ne_eqb}
use Rattle.refusal.specs.Limits.{refusal}
use Rattle.refusal.proofs.Numbers.{refused-above}
use Rattle.refusal.proofs.Passed.{stops, passes}
use Rattle.rule.specs.Tests.{strong, lasting}
use Rattle.follow.specs.Follow.{value, stands, count_of}
use Rattle.outline.specs.Outline.{number}
use Rattle.outline.proofs.Calls.{single}
use Rattle.outline.proofs.pluck_refused.Goals as goal

pub returns-in_err-within : goal.returns-in_err-within
unfolding number
returns-in_err-within c =
    let r = c.args.r.now in
    let k = c.in_err-within.field-0.0 in
    let i : c.from_residual.result ≡ Err k = search rules in
    let e = c.in_err-within.ensures in
    rw i (λ Na o.
    rw (ne_eqb (stands r 4) 0 (λ z. c.if-bit-eq0.false (c.bit.ensures ∙ z)))
    (e
    ∙ sym (stops (strong (value r 4) ∷ []) (lasting (count_of r) ∷ []) (λ z. refused-above k (e ∙ z)))
    ∙ sym single))

pub returns : goal.returns
unfolding number
returns c =
    let r = c.args.r.now in
    let count = c.chosen-count.ensures ∙ ap (λ (k : ℕ). cond (eqb k 0) 100 (value r 5)) c.bit-2.ensures in
    λ Na o.
    rw (ne_eqb (stands r 4) 0 (λ z. c.if-bit-eq0.false (c.bit.ensures ∙ z)))
    (c.within-2.ensures
    ∙ ap (λ (k : ℕ). refusal (lasting k ∷ [])) count
    ∙ sym (passes (strong (value r 4) ∷ []) (lasting (count_of r) ∷ []) tt (sym c.in_ok-within.ensures))
    ∙ sym single)
