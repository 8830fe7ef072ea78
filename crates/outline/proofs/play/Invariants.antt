-- `outline::play` meets its contract: each turn reads a record and follows it.
use lib.ListN.{length}
use Rattle.outline.specs.Struct.{outline_of}
use Rattle.outline.proofs.Playing.{Playing}
use Rattle.outline.proofs.play.Given as goal

abbrev pub invariant-loop-t : goal.invariant-loop-t
invariant-loop-t l = Playing l.order l.advance l.records (outline_of l.initial.c) (outline_of l.c) l.t l.place

abbrev pub decreases-loop-t : goal.decreases-loop-t
decreases-loop-t l = length l.t
