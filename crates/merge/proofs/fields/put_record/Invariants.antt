-- `merge::fields::put_record` meets its contract: the bit map, and then field by field.
use Prim.Native.Nat.{◌-◌}
use Rattle.merge.proofs.Putting.{Putting}
use Rattle.merge.proofs.fields.put_record.Given as goal

abbrev pub invariant-loop-k : goal.invariant-loop-k
invariant-loop-k l = Putting l.initial.out l.initial.at l.q l.out l.at l.unit l.k

abbrev pub decreases-loop-k : goal.decreases-loop-k
decreases-loop-k l = 7 - l.k
