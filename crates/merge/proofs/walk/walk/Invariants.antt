-- `merge::walk::walk` meets its contract: turn by turn, until no record is left.
use Rattle.outline.specs.Struct.{outline_of}
use Rattle.merge.specs.Left.{bytes_left}
use Rattle.merge.specs.Walk.{all_of}
use Rattle.merge.proofs.Walking.{Walking}
use Rattle.merge.proofs.walk.walk.Given as goal

abbrev pub invariant-loop-p : goal.invariant-loop-p
invariant-loop-p l =
    Walking l.order l.advance (outline_of l.initial.c) l.first l.second (all_of l.order l.advance (outline_of l.initial.c) l.first l.second) l.initial.out l.writes l.p l.c
    l.done l.out

abbrev pub decreases-loop-p : goal.decreases-loop-p
decreases-loop-p l = bytes_left l.order l.advance l.first l.second l.p
