-- `change::prepared` meets its contract. The loop's invariant: what is left of the window takes the filter
-- to where the whole of it takes f, and as many were counted as are not left.
use mathlib.Core.Path.{◌≡◌}
use Prim.Native.Nat.{◌+◌}
use Rattle.allpass.specs.Allpass.{run}
use Rattle.line.specs.Ring.{ring}
use Rattle.rule.specs.Voice.{A}
use Rattle.rule.specs.Calls.{window}
use Rattle.rule.specs.State.{back}
use Rattle.voice.specs.Struct.{tuning_of, filter_of}
use Rattle.voice.specs.Valid.{Tuned}
use Rattle.change.proofs.prepared.Given as goal

abbrev pub invariant-loop-left : goal.invariant-loop-left
invariant-loop-left l =
    let A' = A (tuning_of l.f.tuning) in
    let over = window (back (ring l.at l.line)) l.f.tuning.length in
    Tuned l.filter × (l.filter.tuning ≡ l.f.tuning) × (l.count + l.left ≡ l.advance)
    × (run A' (filter_of l.filter) (over l.left) ≡ run A' (filter_of l.f) (over l.advance))
