-- `floats::rounding::is_finite` meets its contract: 0 times a NaN or an infinity differs from itself.
use Rattle.floats.proofs.Outward.{nought}
use Rattle.floats.proofs.rounding.is_finite.Goals as goal

pub returns : goal.returns
returns c = nought c.args.x
