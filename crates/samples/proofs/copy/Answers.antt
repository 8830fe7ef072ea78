-- `samples::copy` meets its contract: the output agrees with the input below i.
use Rattle.std.proofs.Common.{rules, pos, refl, arith, w32, SFits, to_z-of_z}
use lib.ListN.{get_or}
use Rattle.samples.proofs.Taken.{one_more, all-taken}
use Rattle.samples.proofs.copy.Goals as goal

pub loop-i-init : goal.loop-i-init
loop-i-init c = record { within = omega arith; long = omega arith; same = refl }

pub loop-i-preserved : goal.loop-i-preserved
loop-i-preserved c =
    let l = c.loop-i in
    let xs = c.args.input.now in
    let f : SFits w32 (get_or xs l.i (pos 0)) = search rules in
    one_more xs l.output l.i l.invariant _ (omega arith) (to_z-of_z f)

pub returns : goal.returns
returns c =
    let l = c.loop-i in
    all-taken c.args.input.now l.output l.i l.invariant (omega arith)
