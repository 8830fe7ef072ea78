-- `outline::change_refused` meets its contract: the tests of a tuning, and whether a change waits.
use mathlib.Core.Path.{sym, ap, ◌∙◌}
use mathlib.Core.List.{[], ◌∷◌}
use Prim.Native.Nat.{ℕ}
use Rattle.refusal.specs.Limits.{refusal}
use Rattle.refusal.specs.Orders.{order, delay}
use Rattle.refusal.proofs.Passed.{passes}
use Rattle.rule.specs.Tests.{long}
use Rattle.outline.specs.Outline.{waits}
use Rattle.outline.specs.Struct.{ahead_of, outline_of}
use Rattle.outline.proofs.change_refused.Goals as goal

pub returns : goal.returns
unfolding outline_of
returns c =
    let s = c.args in
    let x = s.c.next in
    let N = s.order in
    let w = waits (ahead_of x.length x.delay s.c.left) in
    c.within.ensures
    ∙ ap (λ (k : ℕ). refusal (record { number = 6; low = 0; value = k; high = 0 } ∷ [])) (c.waits.ensures x.length x.delay)
    ∙ sym (passes (order N ∷ long s.to.length ∷ delay N s.to.delay ∷ [])
    (record { number = 6; low = 0; value = w; high = 0 } ∷ []) tt (sym c.in_ok-untuned.ensures))
