-- `words::pieces::piece` meets its contract: one piece less is asked for of what is left.
use Rattle.std.proofs.Common.{◌≡◌, ◌-◌}
use Rattle.words.specs.Pieces.{piece}
use Rattle.words.proofs.pieces.piece.Given as goal

abbrev pub invariant-loop : goal.invariant-loop
invariant-loop l = piece l.b (l.k - l.counter) l.rest ≡ piece l.b l.k l.s
