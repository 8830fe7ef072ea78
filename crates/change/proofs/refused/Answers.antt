-- `change::refused` meets its contract: the tests of the tuning, and then whether a change waits.
-- Assumes nothing.
use mathlib.Core.Path.{◌≡◌, sym, ◌∙◌}
use mathlib.Core.List.{[], ◌∷◌}
use Rattle.std.proofs.Common.{rules}
use Rattle.std.specs.Prelude.{Err}
use Rattle.refusal.specs.Limits.{refusal}
use Rattle.refusal.specs.Numbers.{number_of, code_of}
use Rattle.refusal.specs.Orders.{order, delay}
use Rattle.refusal.proofs.Numbers.{refused-above}
use Rattle.refusal.proofs.Passed.{stops}
use Rattle.rule.specs.Calls.{change_limits}
use Rattle.rule.specs.Tests.{long, idle}
use Rattle.voice.specs.Struct.{tuning_of, waiting_of, voice_of}
use Rattle.change.proofs.Changes.{refused-by}
use Rattle.change.proofs.refused.Goals as goal

pub returns-in_err-untuned : goal.returns-in_err-untuned
returns-in_err-untuned c =
    let t = c.args.to in
    let r = c.in_err-untuned.field-0.0 in
    let first = order t.order ∷ long t.length ∷ delay t.order t.delay ∷ [] in
    let u : c.untuned.result ≡ Err r = search rules in
    let i : c.from_residual.result ≡ Err r = search rules in
    let e : number_of r ≡ refusal first = rw u at c.untuned.ensures in
    let s = stops first (idle (waiting_of c.args.h.waiting) ∷ []) (λ z. refused-above r (e ∙ z)) in
    refused-by c.args.h (tuning_of t) (rw i (e ∙ sym s))

pub returns : goal.returns
returns c =
    let e : code_of c.within.result ≡ refusal (change_limits (voice_of c.args.h) (tuning_of c.args.to)) =
    search rules in
    refused-by c.args.h (tuning_of c.args.to) e
