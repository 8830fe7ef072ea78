-- `integer::clip` meets its contract: the larger of −M and the smaller of u and M.
use Rattle.std.proofs.Common.{pos, arith, w64, SFits, to_z-of_z}
use lib.IntN.{negsuc}
use Rattle.std.specs.Int.{int_min}
use Rattle.std.proofs.lemmas.Int.{int_max_is, int_min_is}
use Rattle.integer.proofs.View.{onev, Zs}
use Rattle.integer.proofs.Rounding.{clipv}
use Rattle.integer.proofs.clip.Goals as goal

pub returns : goal.returns
returns c =
    let u = c.args.u.n in
    let f : SFits w64 u = record { sfits = omega arith } in
    let r : SFits w64 c.clamp.result = record { sfits = omega arith } in
    let e = rw (to_z-of_z f) at c.clamp.ensures.value in
    rw (to_z-of_z r, e)
    (omega (Zs, clipv u, onev u, int_max_is (negsuc 8388606) (int_min u (pos 8388607)), int_min_is u (pos 8388607)))
