-- `jivaszte::junctions::jivaszte_junction_move` meets its contract: the words are those of what `start_move` returns,
-- and as they were where it is refused.
-- Assumes nothing.
use Rattle.jivaszte.proofs.junctions.jivaszte_junction_move.Goals as goal

pub start_move-requires : goal.start_move-requires
start_move-requires c = rw c.unpack.ensures c.requires

pub pack-requires : goal.pack-requires
pack-requires c = (rw c.in-Ok.is at c.start_move.ensures).1

pub returns-in-Ok : goal.returns-in-Ok
returns-in-Ok c =
    let e = rw c.in-Ok.is at c.start_move.ensures in
    record {
      junction_after = rw (← c.unpack.ensures, c.pack.ensures) e.0;
      valid = rw c.pack.ensures e.1;
    }

pub returns-in-Err : goal.returns-in-Err
returns-in-Err c =
    let e = rw c.in-Err.is at c.start_move.ensures in
    record {
      junction_after = rw (c.number.ensures, ← c.unpack.ensures) e.0;
      valid = c.requires;
    }
