-- `open::refusal_voice` meets its contract.
-- Assumes nothing.
use mathlib.Core.Path.{refl}
use Rattle.refusal.proofs.Returned.{passed}
use Rattle.open.specs.Opened.{nothing}
use Rattle.open.proofs.Resting.{opened-refused}
use native.Mathlib.Omega.{arith}
use Rattle.open.proofs.refusal_voice.Goals as goal

pub fresh-requires : goal.fresh-requires
fresh-requires c = passed _ tt refl

pub returns : goal.returns
returns c = record {
  state = rw (opened-refused nothing (λ z. omega (arith, z))) c.fresh.ensures.line_value;
  valid = c.fresh.ensures.valid;
}
