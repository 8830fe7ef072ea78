-- `change::ready` meets its contract: refused, or its eliminator is at rest, whatever the kind.
-- Assumes nothing.
use mathlib.Core.Path.{◌≡◌, refl}
use Rattle.std.proofs.Common.{rules}
use Rattle.std.specs.Prelude.{Ok, Err}
use Rattle.refusal.specs.Limits.{refusal}
use Rattle.refusal.specs.Numbers.{number_of}
use Rattle.refusal.proofs.Numbers.{refused-above}
use Rattle.rule.specs.Calls.{prepare, number, change_limits}
use Rattle.voice.specs.Struct.{kind_of, tuning_of, voice_of}
use Rattle.voice.proofs.Called.{called-refused}
use Rattle.change.proofs.Changes.{changes-prepared}
use Rattle.change.proofs.ready.Goals as goal

pub returns-in_err-refused : goal.returns-in_err-refused
unfolding number
returns-in_err-refused c =
    let a = c.args in
    let r = c.in_err-refused.field-0.0 in
    let i : c.from_residual.result ≡ Err r = search rules in
    let u : c.refused.result ≡ Err r = search rules in
    let e : number_of r ≡ refusal (change_limits (voice_of a.head) (tuning_of a.to)) =
    rw u at c.refused.ensures.number in
    λ k. rw i (called-refused a.head (prepare (kind_of k) (tuning_of a.to)) c.requires e (refused-above r))

pub returns : goal.returns
unfolding number
returns c =
    let a = c.args in
    let u : c.refused.result ≡ Ok c.in_ok-refused.field-0 = search rules in
    let e : 0 ≡ refusal (change_limits (voice_of a.head) (tuning_of a.to)) = rw u at c.refused.ensures.number in
    λ k. changes-prepared c.requires c.resting.ensures k e refl
