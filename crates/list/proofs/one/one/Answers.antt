-- `list::one::one` meets its contract: a block on parts of what was lent, or a call that makes no step.
-- Assumes nothing.
use mathlib.Core.Path.{subst, ◌∙◌}
use Prim.Native.Nat.{◌≤◌}
use lib.ListN.{length, take}
use lib.Seq.{length-take-le}
use Rattle.rule.specs.Calls.{block}
use Rattle.voice.specs.Struct.{state_of}
use Rattle.list.specs.declared.words.Item.{Item}
use Rattle.list.specs.Items.{outputs_of}
use Rattle.list.proofs.Calling.{over-still, over-lent}
use Rattle.list.proofs.one.one.Goals as goal

pub returns-in-Block-clause-output_after : goal.returns-in-Block-clause-output_after
returns-in-Block-clause-output_after c =
    let a = c.args in
    let n = c.in-Block.inputs in
    let m = c.in-Block.outputs in
    let fits : m ≤ length a.output.now =
    subst (λ (i : Item). outputs_of i ≤ length a.output.now) c.in-Block.is c.requires.2 in
    let long = length-take-le m a.output.now fits in
    let r = c.play in
    rw c.in-Block.is (over-lent a.head.now a.line.now (block (take n a.input.now) m) m r.new.output a.output.now
    (r.auto.output ∙ long) (rw long at r.ensures.output_after))

pub returns-in-Call-clause-output_after : goal.returns-in-Call-clause-output_after
returns-in-Call-clause-output_after c =
    let a = c.args in
    rw c.in-Call.is (over-still (state_of a.head.now a.line.now) c.in-Call.call a.output.now)
