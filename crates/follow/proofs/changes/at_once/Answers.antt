-- `follow::changes::at_once` meets its contract: an instant change to the tuning that the record names.
-- Assumes nothing.
use Rattle.std.proofs.Common.{rules}
use Rattle.std.specs.Prelude.{Err}
use mathlib.Core.Path.{◌≡◌, refl, ap}
use Rattle.rule.specs.Calls.{instant}
use Rattle.rule.specs.Voice.{Tuning}
use Rattle.voice.specs.Struct.{state_of}
use Rattle.follow.proofs.Following.{on_as}
use Rattle.follow.proofs.changes.at_once.Goals as goal

pub returns-in_err-c : goal.returns-in_err-c
returns-in_err-c c =
    let s = c.args in
    let i : c.from_residual.result ≡ Err c.in_err-c.field-0.0 = search rules in
    rw i (on_as c.in_err-c.ensures.on
    (ap (λ (t : Tuning). instant t) (c.target.ensures (state_of s.head s.line.now) refl)))

pub returns : goal.returns
returns c =
    let s = c.args in
    on_as c.in_ok-c.ensures.on
    (ap (λ (t : Tuning). instant t) (c.target.ensures (state_of s.head s.line.now) refl))
