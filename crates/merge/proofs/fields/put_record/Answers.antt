-- `merge::fields::put_record` meets its contract: the bit map, and then field by field.
use mathlib.Core.Path.{◌∙◌}
use Prim.Native.Nat.{◌+◌}
use Rattle.merge.proofs.Putting.{begun, all-put, field_fits, goes_on, put_map}
use Rattle.merge.proofs.fields.put_record.Goals as goal

pub loop-k-init : goal.loop-k-init
loop-k-init c =
    let s = c.args in
    begun c.put.new.out (s.start + 1) s.q.now
    (put_map s.out.now s.start s.q.now c.put.new.out c.requires.1 c.requires.0 c.put.ensures).0

pub put_field-at-requires : goal.put_field-at-requires
put_field-at-requires c =
    let s = c.args in
    let l = c.loop-k in
    field_fits c.put.new.out (s.start + 1) s.q.now l.out l.at l.unit l.k l.invariant c.loop-k-test.true c.bit.ensures

pub loop-k-preserved : goal.loop-k-preserved
loop-k-preserved c =
    let s = c.args in
    let l = c.loop-k in
    goes_on c.put.new.out (s.start + 1) s.q.now l.out l.at l.unit l.k l.invariant c.loop-k-test.true c.bit.ensures
    c.put_field-at.ensures.0 c.put_field-at.ensures.1

pub returns : goal.returns
returns c =
    let s = c.args in
    let l = c.loop-k in
    all-put c.put.new.out (s.start + 1) s.q.now l.out l.at l.unit l.k l.invariant c.loop-k-test.false
    ∙ (put_map s.out.now s.start s.q.now c.put.new.out c.requires.1 c.requires.0 c.put.ensures).2
