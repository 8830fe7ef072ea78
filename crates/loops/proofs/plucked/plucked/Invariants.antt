-- `loops::plucked::plucked` meets its contract: the invariant is what the loop leaves, with the products it
-- carries on. Assumes nothing.
use mathlib.Core.Path.{◌≡◌}
use Prim.Native.Nat.{◌+◌, ◌%◌}
use Rattle.allpass.specs.Products.{products_of}
use Rattle.loops.specs.Carried.{anew_of, left_of}
use Rattle.loops.specs.Rendered.{Went}
use Rattle.loops.proofs.plucked.plucked.Given as goal

abbrev pub invariant-loop-i : goal.invariant-loop-i
invariant-loop-i l =
    Went l.fed l.initial.buffer l.h l.initial.line l.buffer (left_of l.h (anew_of l.order l.h.filter l.v) l.last l.p ((l.h.at + l.i) % 2112)) l.line l.i
    × (l.k ≡ products_of l.order l.h.filter.coefficients l.v)
