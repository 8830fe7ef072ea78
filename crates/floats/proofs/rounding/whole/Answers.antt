-- `floats::rounding::whole` meets its contract: the number is in the range that truncation asks for.
use Rattle.std.proofs.Common.{◌∙◌}
use Rattle.floats.proofs.Whole.{in_range, whole_is}
use Rattle.floats.proofs.rounding.whole.Goals as goal

pub truncating_f64_to_u64-requires : goal.truncating_f64_to_u64-requires
truncating_f64_to_u64-requires c =
    let r = in_range c.args.v c.requires in record { lower_bound = r.0; upper_bound = r.1 }

pub returns : goal.returns
returns c = c.truncating_f64_to_u64.ensures ∙ whole_is c.args.v c.requires
