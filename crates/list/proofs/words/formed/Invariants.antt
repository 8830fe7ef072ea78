-- The loop of `list::words::formed`: the words that are left are in form just where all are. The measure is how many
-- are left.
use mathlib.Core.Path.{◌≡◌}
use lib.ListN.{length}
use Rattle.list.specs.Words.{formed}
use Rattle.list.proofs.words.formed.Given as goal

abbrev pub invariant-loop-words : goal.invariant-loop-words
invariant-loop-words l =
    formed l.words l.inputs l.outputs l.numbers
    ≡ formed l.fn.words l.initial.inputs l.initial.outputs l.initial.numbers

abbrev pub decreases-loop-words : goal.decreases-loop-words
decreases-loop-words l = length l.words
