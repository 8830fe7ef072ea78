-- `floats::rounding::scale` meets its contract: an f64 has room for every f32 times 2^64.
use Rattle.std.proofs.Common.{not}
use lib.Ieee.{binary64, fits, is_nan}
use lib.Ieee.Fits.{and_i, fits_widens}
use Rattle.floats.proofs.Laws.{scaled_up}
use Rattle.floats.proofs.Tests.{no_nan}
use Rattle.floats.proofs.rounding.scale.Goals as goal

pub float_to_float-result : goal.float_to_float-result
float_to_float-result c =
    let x = c.args.x in
    and_i (fits binary64 x) (not (is_nan x)) (fits_widens x c.row_known-1.given) (no_nan x c.requires)

pub returns : goal.returns
returns c k h e = rw e (scaled_up c.args.x k c.row_known-1.given c.requires h)
