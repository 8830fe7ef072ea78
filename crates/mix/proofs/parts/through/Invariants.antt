-- `mix::parts::through` meets its contract: part after part, what is left makes what the whole makes.
use mathlib.Core.Path.{◌≡◌}
use Prim.Native.Nat.{◌-◌}
use lib.ListN.{length}
use Rattle.mix.proofs.Went.{Went}
use Rattle.mix.proofs.parts.through.Given as goal

abbrev pub invariant-loop-i : goal.invariant-loop-i
invariant-loop-i l =
    Went l.fed l.initial.heads l.initial.lines l.initial.buffer l.heads l.lines l.buffer l.i × (length l.room ≡ 64) × (length l.sums ≡ 64)

abbrev pub decreases-loop-i : goal.decreases-loop-i
decreases-loop-i l = length l.initial.buffer - l.i
