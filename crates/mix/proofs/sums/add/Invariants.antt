-- `mix::sums::add` meets its contract: below i the sums have the samples added, from i on they are as they
-- were.
use mathlib.Core.Path.{◌≡◌}
use Prim.Native.Nat.{ℕ, ◌≤◌}
use lib.IntN.{pos}
use lib.ListN.{get_or}
use Rattle.samples.proofs.Taken.{Taken}
use Rattle.mix.specs.Sums.{plus}
use Rattle.mix.proofs.sums.add.Given as goal

abbrev pub invariant-loop-i : goal.invariant-loop-i
invariant-loop-i l =
    Taken (plus l.initial.sums l.samples) l.sums l.i
    × ((j : ℕ) → l.i ≤ j → get_or l.sums j (pos 0) ≡ get_or l.initial.sums j (pos 0))
