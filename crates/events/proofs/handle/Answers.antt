-- `events::handle` meets its contract: 24, or by which of the two the event is.
use Rattle.std.proofs.Common.{rules, ◌≡◌, [], ◌∷◌}
use Rattle.std.specs.Prelude.{Err}
use Rattle.refusal.specs.Limits.{refusal}
use Rattle.refusal.specs.Numbers.{number_of}
use Rattle.refusal.proofs.Numbers.{refused-above}
use Rattle.instrument.specs.Strings.{string_limit}
use Rattle.events.proofs.Handled.{above_tested}
use Rattle.events.proofs.handle.Goals as goal

pub returns-in_err-within : goal.returns-in_err-within
returns-in_err-within c =
    let s = c.args in
    let r = c.in_err-within.field-0.0 in
    let i : c.from_residual.result ≡ Err r = search rules in
    let e : number_of r ≡ refusal (string_limit s.string ∷ []) = search rules in
    rw i (above_tested s.string s.e e (refused-above r))
