-- `loops::while_idle` meets its contract: its loop's, where nothing waits.
-- Assumes nothing.
use Rattle.loops.proofs.while_idle.Goals as goal

pub by_order-requires : goal.by_order-requires
by_order-requires c =
    let w = c.requires.waiting_value in
    record { valid = c.requires.valid; waiting_value = (w.0, w.1); from_value = (c.place-from.ensures, w.2) }
