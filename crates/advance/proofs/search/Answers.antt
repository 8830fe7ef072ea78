-- `advance::search` meets its contract. The loop's invariant: b is b(k), and no advance below k times the order is
-- enough.
use mathlib.Core.Path.{refl}
use Prim.Native.Nat.{◌+◌, ◌*◌, ◌/◌, ◌≤◌, ◌<◌}
use native.Mathlib.Omega.{arith}
use native.Mathlib.Nat.{mul-le-mul_right, le-div_iff_mul-le, div-lt_iff_lt-mul}
use borrow.Author.Tests.{le-leb}
use Rattle.allpass.specs.Bounds.{distance}
use Rattle.advance.proofs.First.{distance_next, figure-now, before-next, first-is, first_found}
use Rattle.advance.proofs.search.Goals as goal

pub loop-k-init : goal.loop-k-init
unfolding distance
loop-k-init c = record { small = omega arith; bound = refl; before = λ a h. absurd (omega arith) }

-- a round
module _ (c : goal.In-loop-k) where
  product : c.args.n * c.loop-k.b ≤ 65536 * c.loop-k.b
  product = mul-le-mul_right c.loop-k.b c.requires.0

pub overflow_mul-next : goal.overflow_mul-next
overflow_mul-next c = omega (arith, product c)

pub overflow_add-next : goal.overflow_add-next
overflow_add-next c = omega (arith, product c)

pub overflow_add-b : goal.overflow_add-b
overflow_add-b c = omega (arith, product c)

pub returns-then-b-next : goal.returns-then-b-next
returns-then-b-next c =
    let l = c.loop-k in
    let s = c.args in
    let most : l.k * s.order ≤ 64 = (le-div_iff_mul-le {k = s.order} {x = l.k} {y = 64} c.requires.1).0 c.loop-k-test.true in
    let f = first_found s.n s.order s.wanted l.k (omega arith) l.invariant.before
    (omega (arith, figure-now s.n l.k l.b l.invariant.bound)) most in
    rw (← f, le-leb (l.k * s.order) 64 most) refl

pub loop-k-preserved : goal.loop-k-preserved
loop-k-preserved c =
    let l = c.loop-k in
    let s = c.args in
    record {
      small = omega (arith, product c.before.before);
      bound = distance_next s.n l.k l.b l.invariant.bound;
      before =
          before-next s.n s.order s.wanted l.k l.invariant.before
          (omega (arith, figure-now s.n l.k l.b l.invariant.bound));
    }

-- past the last round
pub returns-else-b-next : goal.returns-else-b-next
returns-else-b-next c =
    let l = c.loop-k in
    let s = c.args in
    let over = before-next s.n s.order s.wanted l.k l.invariant.before
    (omega (arith, figure-now s.n l.k l.b l.invariant.bound)) in
    let last : 64 / s.order < l.k + 1 = omega arith in
    let far : 64 < (l.k + 1) * s.order = (div-lt_iff_lt-mul {k = s.order} {x = 64} {y = l.k + 1} c.requires.1).0 last in
    let e = first-is s.n s.order s.wanted 65 (omega arith) (λ i. absurd (omega arith)) (λ a h. over a (omega arith)) in
    rw (← e) refl
