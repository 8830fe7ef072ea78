-- The loop of `list::run::run`: its invariant, with a voice that stays valid. The measure is how many words are left.
-- Assumes nothing.
use lib.ListN.{length}
use Rattle.voice.specs.Struct.{state_of}
use Rattle.voice.specs.Valid.{Valid}
use Rattle.list.proofs.Running.{Running}
use Rattle.list.proofs.run.run.Given as goal

abbrev pub invariant-loop-words : goal.invariant-loop-words
invariant-loop-words l =
    Running l.fn.words l.input l.initial.output l.initial.numbers (state_of l.initial.head l.initial.line)
    l.output l.numbers (state_of l.head l.line) l.words l.used l.written l.k
    × Valid l.head l.line

abbrev pub decreases-loop-words : goal.decreases-loop-words
decreases-loop-words l = length l.words
