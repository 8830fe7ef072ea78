-- `record::whole` meets its contract: 14, then 15.
use Rattle.std.proofs.Common.{arith}
use Rattle.record.proofs.Reading.{cut_short, bad_map, good_map}
use Rattle.record.proofs.whole.Goals as goal

pub returns-then-is_empty-clause-number : goal.returns-then-is_empty-clause-number
returns-then-is_empty-clause-number c = cut_short c.args.s.now (grind arith)

pub returns-then-s-bytes-clause-number : goal.returns-then-s-bytes-clause-number
returns-then-s-bytes-clause-number c = cut_short c.args.s.now (grind arith)

pub returns-then-is_ill_formed-clause-number : goal.returns-then-is_ill_formed-clause-number
returns-then-is_ill_formed-clause-number c = bad_map c.args.s.now (grind arith) (grind arith)

pub returns-clause-number : goal.returns-clause-number
returns-clause-number c = good_map c.args.s.now (grind arith) (grind arith)
