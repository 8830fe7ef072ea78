-- `jivaszte::junctions::jivaszte_junction_open` meets its contract: the words are those of what `open` returns.
-- Assumes nothing.
use Rattle.jivaszte.proofs.junctions.jivaszte_junction_open.Goals as goal

pub returns : goal.returns
returns c = record {
  junction_after = rw (c.pack.ensures, c.code.ensures) c.open-o.ensures.0;
  valid = rw c.pack.ensures c.open-o.ensures.1;
}
