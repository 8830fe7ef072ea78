-- `follow::changes::chosen` meets its contract.
-- Assumes nothing.
use borrow.Author.Tests.{eq-eqb, ne_eqb}
use Rattle.follow.proofs.changes.chosen.Goals as goal

pub returns-then-bit-eq0 : goal.returns-then-bit-eq0
returns-then-bit-eq0 c = rw (eq-eqb c.args.bit 0 c.if-bit-eq0.true)

pub returns-else-bit-eq0 : goal.returns-else-bit-eq0
returns-else-bit-eq0 c = rw (ne_eqb c.args.bit 0 c.if-bit-eq0.false)
