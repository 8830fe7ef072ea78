-- One sample of a filter of any order: its state stays within 2M, and two states come no further apart.
-- Assumes nothing.
use mathlib.Core.Path.{◌≡◌, refl, ap}
use mathlib.Core.List.{List, [], ◌∷◌, ◌++◌, reverse, reverse_aux}
use Prim.Native.Nat.{◌^◌, ℕ, zero, suc, ◌+◌, ◌*◌, ◌≤◌}
use native.Mathlib.Omega.{arith}
use native.Mathlib.Nat.{le_trans, mul-le-mul_left, mul-le-mul_right}
use lib.IntN.{ℤ, pos, nat_abs, ◌+ℤ◌, ◌-ℤ◌, ◌*ℤ◌, +ℤ_idr, *ℤ-zero}
use lib.ListN.{length}
use Rattle.integer.specs.Rounding.{M}
use Rattle.integer.specs.Cut.{cut, R}
use Rattle.integer.proofs.Ring.{abs-*, abs-+, abs--, add-near, sub-near, mul-near}
use Rattle.integer.proofs.Rounding.{clip_abs, clip-near}
use Rattle.integer.proofs.Cut.{R-abs, R-near}
use Rattle.thiran.specs.Coefficients.{norm}
use Rattle.allpass.specs.Allpass.{dot, rest, shift, final, inner, next, out}
use Rattle.allpass.specs.Bounds.{Within, none, more, Close, share}

-- ---- lists of numbers within B
pub head-within : {B : ℕ} {v : List ℤ} (x : ℤ) → Within B (x ∷ v) → nat_abs x ≤ B
head-within x (more p h) = p

pub tail_within : {B : ℕ} {x : ℤ} {v : List ℤ} → Within B (x ∷ v) → Within B v
tail_within (more p h) = h

pub append-within : {B : ℕ} {v u : List ℤ} → Within B v → Within B u → Within B (v ++ u)
append-within none k = k
append-within (more p h) k = more p (append-within h k)

pub front_within : {B : ℕ} (v u : List ℤ) → Within B (v ++ u) → Within B v
front_within [] u h = none
front_within (x ∷ v) u (more p h) = more p (front_within v u h)

pub back-within : {B : ℕ} (v u : List ℤ) → Within B (v ++ u) → Within B u
back-within [] u h = h
back-within (x ∷ v) u (more p h) = back-within v u h

pub shift-within : {B : ℕ} {v : List ℤ} (w : ℤ) → nat_abs w ≤ B → Within B v → Within B (shift w v)
shift-within w k none = none
shift-within w k (more {x} p h) = more k (shift-within x p h)

pub final-within : {B : ℕ} {v : List ℤ} (x : ℤ) → nat_abs x ≤ B → Within B v → nat_abs (final x v) ≤ B
final-within x k none = k
final-within x k (more {x = y} p h) = final-within y p h

pub dot-within : (A : List ℤ) {v : List ℤ} {B : ℕ} → Within B v → nat_abs (dot A v) ≤ norm A * B
dot-within [] h = omega arith
dot-within (a ∷ A) none = omega arith
dot-within (a ∷ A) (more {x} {v} p h) =
    omega (arith, abs-+ (a *ℤ x) (dot A v), abs-* a x, mul-le-mul_left (nat_abs a) p, dot-within A h)

-- the sum of a filter's products
pub dot-small : (A : List ℤ) {v : List ℤ} → norm A ≤ 32768 → Within (2 * M) v → nat_abs (dot A v) ≤ 2 ^ 42
dot-small A n h = omega (arith, dot-within A h, mul-le-mul_right (2 * M) n)

pub norm-reverse : (A B : List ℤ) → norm (reverse_aux A B) ≡ norm A + norm B
norm-reverse [] B = omega arith
norm-reverse (a ∷ A) B = omega (arith, norm-reverse A (a ∷ B))

pub out_within : (A v : List ℤ) (f : ℤ) → nat_abs (out A v f) ≤ M
unfolding out
out_within A v f = clip_abs (final (pos 0) v +ℤ R (dot (reverse A) (next A v f)))

-- ---- how many numbers a state has
pub length_shift : (w : ℤ) (v : List ℤ) → length (shift w v) ≡ length v
length_shift w [] = refl
length_shift w (x ∷ v) = ap suc (length_shift x v)

pub length-next : (A v : List ℤ) (f : ℤ) → length (next A v f) ≡ length v
unfolding next
length-next A v f = length_shift (inner A v f) v

-- ---- a filter at rest
pub rest-within : (N : ℕ) {B : ℕ} → Within B (rest N)
rest-within zero = none
rest-within (suc N) = more {x = pos 0} (omega arith) (rest-within N)

pub dot-rest : (A : List ℤ) (N : ℕ) → dot A (rest N) ≡ pos 0
dot-rest [] N = refl
dot-rest (a ∷ A) zero = refl
dot-rest (a ∷ A) (suc N) = rw (dot-rest A N, *ℤ-zero a)

pub shift_rest : (N : ℕ) → shift (pos 0) (rest N) ≡ rest N
shift_rest zero = refl
shift_rest (suc N) = ap (λ (v : List ℤ). pos 0 ∷ v) (shift_rest N)

pub final-rest : (N : ℕ) → final (pos 0) (rest N) ≡ pos 0
final-rest zero = refl
final-rest (suc N) = final-rest N

pub R-zero : R (pos 0) ≡ pos 0
unfolding R cut
R-zero = refl

-- its w is what it takes, and with 0 it stays at rest
pub inner-rest : (A : List ℤ) (N : ℕ) (f : ℤ) → inner A (rest N) f ≡ f
unfolding inner
inner-rest A N f = rw (dot-rest A N, R-zero) (+ℤ_idr f)

pub next-rest : (A : List ℤ) (N : ℕ) → next A (rest N) (pos 0) ≡ rest N
unfolding next
next-rest A N = rw (inner-rest A N (pos 0)) (shift_rest N)

-- ---- lists that are close to each other
dot_close : (A : List ℤ) {v u : List ℤ} {D : ℕ} → Close D v u → nat_abs (dot A v -ℤ dot A u) ≤ norm A * D
dot_close [] h = omega arith
dot_close (a ∷ A) none = omega arith
dot_close (a ∷ A) (more {x} {y} {v} {u} p h) =
    omega (arith, add-near (a *ℤ x) (a *ℤ y) (dot A v) (dot A u) (mul-near a x y p) (dot_close A h))

shift_close : {D : ℕ} {v u : List ℤ} (x y : ℤ) → nat_abs (x -ℤ y) ≤ D → Close D v u
    → Close D (shift x v) (shift y u)
shift_close x y k none = none
shift_close x y k (more {x = x'} {y = y'} p h) = more k (shift_close x' y' p h)

final_close : {D : ℕ} {v u : List ℤ} (x y : ℤ) → nat_abs (x -ℤ y) ≤ D → Close D v u
    → nat_abs (final x v -ℤ final y u) ≤ D
final_close x y k none = k
final_close x y k (more {x = x'} {y = y'} p h) = final_close x' y' p h

-- ---- R of a sum of products
R-within : (A : List ℤ) → norm A ≤ 32768 → {v : List ℤ} → Within (2 * M) v → nat_abs (R (dot A v)) ≤ M
R-within A n {v} h = omega (arith, R-abs (dot A v), dot-within A h, mul-le-mul_right (2 * M) n)

pub R-close : (A : List ℤ) {v u : List ℤ} {D : ℕ} → Close D v u
    → nat_abs (R (dot A v) -ℤ R (dot A u)) ≤ share (norm A) D
R-close A {v} {u} {D} h = R-near (dot A v) (dot A u) (norm A * D) (dot_close A h)

-- ---- one sample: within 2M
module _ (A : List ℤ) (n : norm A ≤ 32768) (f : ℤ) where
  pub inner-within : {v : List ℤ} → Within (2 * M) v → nat_abs f ≤ M → nat_abs (inner A v f) ≤ 2 * M
  unfolding inner
  inner-within {v} h k = omega (arith, abs-- f (R (dot A v)), R-within A n h)

  pub next-within : {v : List ℤ} → Within (2 * M) v → nat_abs f ≤ M → Within (2 * M) (next A v f)
  unfolding next
  next-within {v} h k = shift-within (inner A v f) (inner-within h k) h

-- ---- and no further apart
pub share-less : {n : ℕ} (D : ℕ) → n ≤ 65536 → share n D ≤ D
share-less D n = omega (arith, mul-le-mul_right D n)

module _ (A : List ℤ) (f : ℤ) {v u : List ℤ} {D : ℕ} (h : Close D v u) where
  pub inner_close : nat_abs (inner A v f -ℤ inner A u f) ≤ share (norm A) D
  unfolding inner
  inner_close = sub-near f (R (dot A v)) (R (dot A u)) (R-close A h)

  pub next_close : norm A ≤ 65536 → Close D (next A v f) (next A u f)
  unfolding next
  next_close n = shift_close (inner A v f) (inner A u f) (le_trans inner_close (share-less D n)) h

  pub out_close : norm A ≤ 65536 → nat_abs (out A v f -ℤ out A u f) ≤ D + share (norm A) D
  unfolding out
  out_close n =
      let r = R (dot (reverse A) (next A v f)) in
      let s = R (dot (reverse A) (next A u f)) in
      let e : norm (reverse A) ≡ norm A = omega (arith, norm-reverse A []) in
      clip-near (final (pos 0) v +ℤ r) (final (pos 0) u +ℤ s) (D + share (norm A) D)
      (add-near (final (pos 0) v) (final (pos 0) u) r s
      (final_close (pos 0) (pos 0) (omega arith) h)
      (rw e at (R-close (reverse A) (next_close n))))
