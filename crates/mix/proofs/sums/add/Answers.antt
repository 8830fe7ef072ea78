-- `mix::sums::add` meets its contract: below i the sums have the samples added, from i on they are as they
-- were.
use Rattle.std.proofs.Common.{pos, ◌<◌, refl, ◌∙◌, arith}
use lib.ListN.{length, get_or}
use lib.Seq.{get_or-set_other}
use Rattle.samples.proofs.Samples.{loud}
use Rattle.samples.proofs.Taken.{one_more}
use Rattle.mix.specs.Sums.{plus}
use Rattle.mix.proofs.Added.{length-plus, plus-at, sum_fits, sum_read}
use Rattle.mix.proofs.sums.add.Goals as goal

pub loop-i-init : goal.loop-i-init
loop-i-init c =
    let n = length-plus c.args.sums.now c.args.samples.now in
    (record { within = omega arith; long = omega (arith, n); same = refl }, (λ j h. refl))

pub overflow_add-sum : goal.overflow_add-sum
overflow_add-sum c =
    let l = c.loop-i in
    let x = c.args.samples.now in
    sum_fits (get_or x l.i (pos 0)) (l.invariant.1 l.i (omega arith)) (omega (arith, loud c.args.sums.now l.i, c.requires.sums_bound))
    (omega (arith, loud x l.i, c.requires.samples_len.1))

pub loop-i-preserved : goal.loop-i-preserved
loop-i-preserved c =
    let l = c.loop-i in
    let u = c.args.sums.now in
    let x = c.args.samples.now in
    let n = length-plus u x in
    let i : l.i < length u = omega arith in
    let k : l.i < length x = omega (arith, c.requires.samples_len.0) in
    let e =
    sum_read (get_or x l.i (pos 0)) (l.invariant.1 l.i (omega arith)) (omega (arith, loud u l.i, c.requires.sums_bound))
    (omega (arith, loud x l.i, c.requires.samples_len.1))
    ∙ plus-at u x l.i i k in (
      one_more (plus u x) l.sums l.i l.invariant.0 _ (omega (arith, n)) e,
      (λ j h. get_or-set_other l.sums l.i j _ (pos 0) (λ d. omega arith) ∙ l.invariant.1 j (omega arith)),
    )
