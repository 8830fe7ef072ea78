-- `allpass::filter::weighed` meets its contract: the sum of each order is that of proofs/Sums.antt.
-- Assumes nothing.
use mathlib.Core.Path.{◌≡◌, subst}
use mathlib.Core.List.{[], ◌∷◌}
use Prim.Native.Nat.{ℕ, ◌*◌, ◌≤◌}
use native.Mathlib.Omega.{arith}
use Rattle.integer.specs.Rounding.{M}
use Rattle.thiran.specs.Coefficients.{norm}
use Rattle.thiran.specs.Answers.{taps}
use Rattle.thiran.specs.declared.formula.Coefficients.{Coefficients}
use Rattle.allpass.specs.Bounds.{Within}
use Rattle.allpass.specs.Stored.{held}
use Rattle.allpass.specs.declared.State.{State}
use Rattle.allpass.proofs.Bounds.{tail_within}
use Rattle.allpass.proofs.Sums.{times, z, fits, sum_fits, rest_2, sum_2}
use Rattle.allpass.proofs.Sums.{last_3, rest_3, sum_3}
use Rattle.allpass.proofs.filter.weighed.Goals as goal
use Rattle.allpass.proofs.filter.weighed.Lts as lts
use Rattle.allpass.proofs.filter.weighed.Reads as reads

-- what is required, at the number N that the order is
module _ (s : (lts.Start reads.Pre reads.Post)) (N : ℕ) (e : s.args.order ≡ N) where
  normed : norm (taps N s.args.c) ≤ 32768
  normed = subst (λ (m : ℕ). norm (taps m s.args.c) ≤ 32768) e s.requires.2

  bounded : Within (2 * M) (held N s.args.v)
  bounded = subst (λ (m : ℕ). Within (2 * M) (held m s.args.v)) e s.requires.3

-- ---- order 2
module _ (t : (lts.Then1 reads.Pre reads.Post)) where
  abbrev c_2 : Coefficients
  c_2 = t.args.c

  abbrev v-2 : State
  v-2 = t.args.v

  n-2 : norm (taps 2 c_2) ≤ 32768
  n-2 = normed t.before 2 t.if-order-eq2.true

  h-2 : Within (2 * M) (held 2 v-2)
  h-2 = bounded t.before 2 t.if-order-eq2.true

pub overflow_mul-result : goal.overflow_mul-result
overflow_mul-result c =
    let t = c.before.before.before.before.before in
    fits (c_2 t).a1 (v-2 t).v1 ((c_2 t).a2 ∷ []) ((v-2 t).v2 ∷ []) (n-2 t) (h-2 t)

pub overflow_mul-result-then-order-eq2 : goal.overflow_mul-result-then-order-eq2
overflow_mul-result-then-order-eq2 c =
    let t = c.before.before.before.before.before.before.before.before in
    let n = n-2 t in
    fits (c_2 t).a2 (v-2 t).v2 [] [] (omega arith) (tail_within (h-2 t))

pub overflow_add-result : goal.overflow_add-result
overflow_add-result c =
    let t = c.before.before.before.before.before.before.before.before in
    sum_fits (c_2 t).a1 (v-2 t).v1 ((c_2 t).a2 ∷ []) ((v-2 t).v2 ∷ []) (n-2 t) (h-2 t)
    (times (c_2 t).a2 (v-2 t).v2) (rest_2 (c_2 t) (v-2 t) (n-2 t) (h-2 t))

pub returns-then-order-eq2 : goal.returns-then-order-eq2
returns-then-order-eq2 c =
    let t = c.before.before.before.before.before.before.before.before in
    rw t.if-order-eq2.true (sum_2 (c_2 t) (v-2 t) (n-2 t) (h-2 t))

-- ---- order 3
module _ (t : (lts.Else1 reads.Pre reads.Post)) where
  abbrev c_3 : Coefficients
  c_3 = t.args.c

  abbrev v-3 : State
  v-3 = t.args.v

  three : t.args.order ≡ 3
  three = omega arith

  n-3 : norm (taps 3 c_3) ≤ 32768
  n-3 = normed t.before 3 three

  h-3 : Within (2 * M) (held 3 v-3)
  h-3 = bounded t.before 3 three

pub overflow_mul-result-2 : goal.overflow_mul-result-2
overflow_mul-result-2 c =
    let t = c.before.before.before.before.before in
    fits (c_3 t).a1 (v-3 t).v1 ((c_3 t).a2 ∷ (c_3 t).a3 ∷ []) ((v-3 t).v2 ∷ (v-3 t).v3 ∷ []) (n-3 t) (h-3 t)

pub overflow_mul-result-3 : goal.overflow_mul-result-3
overflow_mul-result-3 c =
    let t = c.before.before.before.before.before.before.before.before.before in
    let n = n-3 t in
    fits (c_3 t).a2 (v-3 t).v2 ((c_3 t).a3 ∷ []) ((v-3 t).v3 ∷ []) (omega arith) (tail_within (h-3 t))

abbrev else-3 : goal.After-struct_told-7-1 → (lts.Else1 reads.Pre reads.Post)
else-3 c =
    let b = c.before.before.before.before.before.before in
    b.before.before.before.before.before.before

pub overflow_mul-result-4 : goal.overflow_mul-result-4
overflow_mul-result-4 c =
    let t = else-3 c in
    let n = n-3 t in
    fits (c_3 t).a3 (v-3 t).v3 [] [] (omega arith) (tail_within (tail_within (h-3 t)))

pub overflow_add-result-2 : goal.overflow_add-result-2
overflow_add-result-2 c =
    let t = else-3 c in
    let n = n-3 t in
    sum_fits (c_3 t).a2 (v-3 t).v2 ((c_3 t).a3 ∷ []) ((v-3 t).v3 ∷ []) (omega arith) (tail_within (h-3 t))
    (times (c_3 t).a3 (v-3 t).v3) (last_3 (c_3 t) (v-3 t) (n-3 t) (h-3 t))

pub overflow_add-result-3 : goal.overflow_add-result-3
overflow_add-result-3 c =
    let t = else-3 c in
    sum_fits (c_3 t).a1 (v-3 t).v1 ((c_3 t).a2 ∷ (c_3 t).a3 ∷ []) ((v-3 t).v2 ∷ (v-3 t).v3 ∷ []) (n-3 t) (h-3 t)
    (z (c_3 t) (v-3 t) (n-3 t) (h-3 t)) (rest_3 (c_3 t) (v-3 t) (n-3 t) (h-3 t))

pub returns : goal.returns
returns c =
    let t = else-3 c in
    rw (three t) (sum_3 (c_3 t) (v-3 t) (n-3 t) (h-3 t))
