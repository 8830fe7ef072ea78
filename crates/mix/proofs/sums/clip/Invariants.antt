-- `mix::sums::clip` meets its contract: the output agrees with the clipped sums below i.
use mathlib.Core.List.{map}
use Rattle.integer.specs.Rounding.{clip}
use Rattle.samples.proofs.Taken.{Taken}
use Rattle.mix.proofs.sums.clip.Given as goal

abbrev pub invariant-loop-i : goal.invariant-loop-i
invariant-loop-i l = Taken (map clip l.sums) l.output l.i
