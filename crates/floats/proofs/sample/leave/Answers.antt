-- `floats::sample::leave` meets its contract: n is an f32 exactly, and so is the product by 2^-23.
use Rattle.std.proofs.Common.{to_z-of_z}
use Rattle.floats.proofs.Outward.{leaves-is}
use Rattle.floats.proofs.sample.leave.Goals as goal

pub returns : goal.returns
returns c = let s = c.before in rw (to_z-of_z s.ranges.n) (leaves-is s.args.n s.requires)
