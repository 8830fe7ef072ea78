-- `render::loud` meets its contract: by whether the loop of a pluck can render a sample.
-- Assumes nothing.
use mathlib.Core.Path.{◌≡◌, sym, subst}
use Prim.Native.Nat.{ℕ, ◌<◌}
use native.Mathlib.Omega.{arith}
use lib.ListN.{length, take}
use lib.Seq.{length-take-le}
use Rattle.line.specs.Ring.{Apart}
use Rattle.render.proofs.Joined.{fed-quiet, fed-first}
use Rattle.render.proofs.loud.Goals as goal

-- where it can
module _ (c : goal.After-while_plucked-arg-2-1) where
  first : length (take c.sung-k.result c.args.buffer.now) ≡ c.sung-k.result
  first = length-take-le c.sung-k.result c.args.buffer.now c.sung-k.ensures.0

  some : 0 < c.sung-k.result
  some = omega (arith, c.if-k-eq0.false)

pub slice_bounds-while_plucked-end-2 : goal.slice_bounds-while_plucked-end-2
slice_bounds-while_plucked-end-2 c = sym (first c)

pub while_plucked-requires : goal.while_plucked-requires
while_plucked-requires c =
    let r = c.sung-k in
    let s = c.requires in
    let a = c.args in
    let apart = subst (λ (n : ℕ). Apart a.h.at a.h.filter.tuning.length n) (sym (first c)) r.ensures.1 in
    record {
      valid = (s.0, fed-quiet a.fed r.result a.buffer.now s.1);
      waiting_value = (r.ensures.2 (some c), apart);
    }

pub returns : goal.returns
returns c =
    let b = c.before.before in
    let a = c.args in
    let o = c.while_plucked in
    let w = o.ensures.0 in
    record {
      went = (fed-first a.fed c.sung-k.result a.buffer.now o.new.buffer c.requires.1 w.0, w.1);
      done_nonzero = λ h. omega (arith, o.ensures.1, first b, some b);
    }
