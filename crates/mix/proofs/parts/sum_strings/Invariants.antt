-- `mix::parts::sum_strings` meets its contract: once the first string begins the sums, each of the others
-- is added.
use Rattle.loops.specs.Fed.{fed_of}
use Rattle.instrument.specs.Strings.{Strings}
use Rattle.mix.proofs.Strings.{Firsts}
use Rattle.mix.proofs.parts.sum_strings.Given as goal

abbrev pub invariant-loop-k : goal.invariant-loop-k
invariant-loop-k l =
    (s : Strings) → Firsts s (fed_of l.fed 0 l.input) 1 l.initial.heads l.initial.lines l.initial.sums
    → Firsts s (fed_of l.fed 0 l.input) l.k l.heads l.lines l.sums
