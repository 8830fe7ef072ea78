-- `open::calls::loss` meets its contract: one test, and a head with another loss.
-- Assumes nothing.
use mathlib.Core.Path.{◌≡◌, refl, sym, ap, ◌∙◌}
use Rattle.std.proofs.Common.{rules}
use mathlib.Core.List.{[], ◌∷◌}
use Rattle.std.specs.Prelude.{Ok, Err}
use Rattle.refusal.specs.Limits.{refusal}
use Rattle.refusal.specs.Numbers.{number_of, code_of}
use Rattle.rule.specs.Calls.{loss, number, done}
use Rattle.rule.specs.Tests.{lossy}
use Rattle.refusal.proofs.Returned.{passed}
use Rattle.refusal.proofs.Passed.{first-kept}
use Rattle.voice.proofs.Called.{called-err, called, fit_as}
use Rattle.open.proofs.calls.loss.Goals as goal

pub returns-in_err-within : goal.returns-in_err-within
unfolding number
returns-in_err-within c =
    let r = c.in_err-within.field-0.0 in
    let i : c.from_residual.result ≡ Err r = search rules in
    let e : number_of r ≡ refusal (lossy c.args.g ∷ []) = search rules in
    called-err c.args.head (loss c.args.g) r c.requires i e

pub returns : goal.returns
unfolding number done
returns c =
    let k = c.requires in
    let e : 0 ≡ refusal (lossy c.args.g ∷ []) = search rules in
    let small = (first-kept (passed (lossy c.args.g ∷ []) tt (sym e))).most in
    called c.args.head (loss c.args.g) _ refl e refl refl
    (fit_as k k.filter small k.waiting k.pluck) (λ q. refl)
