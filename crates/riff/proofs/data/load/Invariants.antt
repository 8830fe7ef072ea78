-- `riff::data::load` meets its contract: the samples below i are read.
use Rattle.std.proofs.Common.{length}
use Rattle.samples.proofs.Taken.{Taken}
use Rattle.riff.proofs.Samples.{all}
use Rattle.riff.proofs.data.load.Given as goal

abbrev pub invariant-loop-i : goal.invariant-loop-i
invariant-loop-i l = Taken (all l.file (length l.initial.samples)) l.samples l.i
