-- `mix::sums::clip` meets its contract: the output agrees with the clipped sums below i.
use Rattle.std.proofs.Common.{rules, pos, arith, w32, SFits, to_z-of_z, ◌≡◌, ◌∙◌}
use mathlib.Core.List.{map}
use lib.IntN.{negsuc}
use lib.ListN.{get_or, length-map}
use Rattle.std.specs.Int.{int_min}
use Rattle.std.proofs.lemmas.Int.{int_max_is, int_min_is}
use Rattle.integer.specs.Rounding.{clip}
use Rattle.integer.proofs.View.{onev, Zs}
use Rattle.integer.proofs.Rounding.{clipv}
use Rattle.samples.proofs.Taken.{one_more}
use Rattle.mix.proofs.Added.{clip-at}
use Rattle.mix.proofs.sums.clip.Goals as goal

pub loop-i-preserved : goal.loop-i-preserved
loop-i-preserved c =
    let l = c.loop-i in
    let xs = c.args.sums.now in
    let u = get_or xs l.i (pos 0) in
    let f : SFits w32 u = search rules in
    let r : SFits w32 c.clamp.result = record { sfits = omega arith } in
    let e = rw (to_z-of_z f) at c.clamp.ensures.value in
    let n = length-map xs clip in
    let k : c.clamp.result ≡ clip u
    = rw e (omega (Zs, clipv u, onev u, int_max_is (negsuc 8388606) (int_min u (pos 8388607)), int_min_is u (pos 8388607))) in
    one_more (map clip xs) l.output l.i l.invariant _ (omega (arith, n))
    (rw (to_z-of_z r) (k ∙ clip-at xs l.i (omega arith)))
