-- `store::part` meets its contract: one number after the other.
use mathlib.Core.Path.{refl}
use Prim.Native.Nat.{◌+◌}
use native.Mathlib.Omega.{arith}
use Rattle.store.proofs.Laid.{one-more, all-there, all-put, room-all}
use Rattle.store.proofs.part.Goals as goal

pub put-requires : goal.put-requires
put-requires c =
    omega (arith, room-all c.args.at c.args.on c.args.numbers.now c.args.out.now c.if-not-on.false c.requires, c.loop-n.invariant.place, c.loop-n.auto.out, c.loop-n-test.true)

pub loop-n-preserved : goal.loop-n-preserved
loop-n-preserved c =
    one-more c.put.new.out _ (c.loop-n.next + 4) c.loop-n.invariant c.loop-n-test.true
    (omega (arith, room-all c.args.at c.args.on c.args.numbers.now c.args.out.now c.if-not-on.false c.requires, c.loop-n.auto.out)) refl c.put.ensures refl

pub returns : goal.returns
returns c =
    let s = c.args in
    let l = c.loop-n in
    all-put s.out.now l.out s.at s.on s.numbers.now l.next c.if-not-on.false
    (all-there l.invariant c.loop-n-test.false)
    (omega (arith, l.invariant.place, c.loop-n-test.false, l.auto.n-index-end))
