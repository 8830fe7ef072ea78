-- `riff::data::nearest` meets its contract: of numbers of 24 bits, −8,388,608 alone is no sample.
use Rattle.std.proofs.Common.{arith, w64, SFits, to_z-of_z}
use lib.IntN.{negsuc}
use Rattle.std.proofs.lemmas.Int.{int_max_is}
use Rattle.integer.proofs.View.{onev, Zs}
use Rattle.integer.proofs.Rounding.{clipv}
use Rattle.riff.proofs.data.nearest.Goals as goal

pub returns : goal.returns
returns c =
    let u = c.args.x.n in
    let f : SFits w64 u = record { sfits = omega arith } in
    let r : SFits w64 c.max.result = record { sfits = omega arith } in
    let e = rw (to_z-of_z f) at c.max.ensures.value in
    rw (to_z-of_z r, e) (omega (Zs, clipv u, onev u, c.requires.most, int_max_is u (negsuc 8388606)))
