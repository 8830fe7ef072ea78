-- `change::asked::withdraw` meets its contract: refused by 21, or nothing waits.
-- Assumes nothing.
use mathlib.Core.Path.{◌≡◌, refl}
use mathlib.Core.List.{[], ◌∷◌}
use Rattle.std.proofs.Common.{rules}
use Rattle.std.specs.Prelude.{Err}
use Rattle.refusal.specs.Limits.{refusal}
use Rattle.refusal.specs.Numbers.{number_of}
use Rattle.rule.specs.Calls.{withdraw, number}
use Rattle.rule.specs.Tests.{asking}
use Rattle.voice.specs.Struct.{waiting_of}
use Rattle.voice.proofs.Called.{called-err}
use Rattle.change.proofs.Ending.{withdraws}
use Rattle.change.proofs.asked.withdraw.Goals as goal

pub returns-in_err-unasked : goal.returns-in_err-unasked
unfolding number
returns-in_err-unasked c =
    let h = c.args.head in
    let r = c.in_err-unasked.field-0.0 in
    let i : c.from_residual.result ≡ Err r = search rules in
    let e : number_of r ≡ refusal (asking (waiting_of h.waiting) ∷ []) = search rules in
    called-err h withdraw r c.requires i e

pub returns : goal.returns
unfolding number
returns c =
    let e : 0 ≡ refusal (asking (waiting_of c.args.head.waiting) ∷ []) = search rules in
    withdraws c.requires e refl
