-- `packed::fits::filter_fits` meets its contract: each test holds of what the filter must be, and of nothing else.
use mathlib.Core.Path.{sym, ◌∙◌}
use Rattle.refusal.proofs.Numbers.{not-err-code}
use Rattle.packed.proofs.Tests.{tuning_is, same-coefficients, filter-is}
use Rattle.packed.proofs.fits.filter_fits.Goals as goal

pub returns : goal.returns
returns c =
    let f = c.args.f in
    let x = c.untuned in
    let u = sym (not-err-code x.result x.ensures (sym c.is_err.ensures.value ∙ c.if-is_err.false)) in
    let t = (tuning_is f.tuning.order f.tuning.length f.tuning.delay).0 u in
    let k = same-coefficients f.coefficients c.set.result (sym c.ne.ensures ∙ c.if-ne.false) in
    filter-is f t (k ∙ c.set.ensures) c.state_fits.ensures
