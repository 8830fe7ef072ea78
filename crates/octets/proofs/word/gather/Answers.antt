-- `octets::word::gather` meets its contract: no byte is there, some are, or all eight.
use Rattle.octets.proofs.Gathers.{none-there}
use Rattle.octets.proofs.word.gather.Goals as goal

pub returns-then-s-start : goal.returns-then-s-start
returns-then-s-start c = let a = c.args in none-there 8 a.s.now a.start c.if-s-start.true
