-- `loops::run::run` meets its contract: the invariant is what the loop leaves, with the products it carries on.
-- What waits, if anything, is in proofs/Leading.antt and proofs/Ahead.antt. Assumes nothing.
use mathlib.Core.Path.{◌≡◌}
use Rattle.allpass.specs.Products.{products_of}
use Rattle.loops.specs.Carried.{after_of}
use Rattle.loops.specs.Rendered.{Went}
use Rattle.loops.proofs.run.run.Given as goal

abbrev pub invariant-loop-i : goal.invariant-loop-i
invariant-loop-i l =
    Went l.fed l.initial.buffer l.h l.initial.line l.buffer
    (after_of l.h (record { ran = record { state = l.v; last = l.last; done = l.i }; next = l.u })) l.line l.i
    × (l.k ≡ products_of l.order l.h.filter.coefficients l.v)
