-- `allpass::response::last_loud` meets its contract. The loop's invariant: the state can be fed 0, and what was
-- found, with what is still to come, is what is found of all values.
use mathlib.Core.Path.{◌≡◌}
use Prim.Native.Nat.{◌-◌}
use lib.IntN.{pos}
use lib.ListN.{replicate}
use Rattle.thiran.specs.Answers.{taps}
use Rattle.allpass.specs.Allpass.{inners}
use Rattle.allpass.specs.Length.{response, last_above}
use Rattle.allpass.specs.Stored.{held, Fed}
use Rattle.allpass.proofs.Last.{found}
use Rattle.allpass.proofs.response.last_loud.Given as goal

abbrev pub invariant-loop-index : goal.invariant-loop-index
invariant-loop-index l =
    let A = taps l.order l.c in
    Fed l.order l.c l.v (pos 0)
    × (found l.threshold l.index l.last (inners A (held l.order l.v) (replicate (64 - l.index) (pos 0)))
    ≡ last_above l.threshold (response A l.order))
