-- A filter's states over many samples: within 2M, and under the same inputs two of them come together.
-- Assumes nothing.
use mathlib.Core.Path.{◌≡◌, refl, sym, ap, subst, ◌∙◌}
use mathlib.Core.List.{List, [], ◌∷◌, ◌++◌}
use Prim.Native.Nat.{ℕ, zero, suc, ◌+◌, ◌*◌, ◌-◌, ◌/◌, ◌^◌, ◌≤◌}
use native.Mathlib.Omega.{arith}
use native.Mathlib.Nat.{le_trans, mul-le-mul_right, sub-zero, div-add-mod'}
use lib.IntN.{ℤ, pos, nat_abs, ◌-ℤ◌}
use lib.ListN.{length, take, drop, take-append-drop, length-take, length-drop, length-replicate}
use Rattle.integer.specs.Rounding.{M}
use Rattle.integer.proofs.View.{absv, near, -v}
use Rattle.thiran.specs.Coefficients.{norm}
use Rattle.allpass.specs.Allpass.{rest, shift, inner, next, out, run}
use Rattle.allpass.specs.Bounds.{Within, none, more, Close, half}
use Rattle.allpass.specs.Bounds.{share, Upward, shares, distance, own_figure, Contracts, Bounded}
use Rattle.allpass.proofs.Bounds.{length-next, inner-within, next-within}
use Rattle.allpass.proofs.Bounds.{share-less, inner_close, next_close, out_close}

-- ---- the first j places are at most D apart, and the others at most E
data Mixed (D E : ℕ) : ℕ → List ℤ → List ℤ → Type 0 where
  end : {j : ℕ} → Mixed D E j [] []
  old : {x y : ℤ} {v u : List ℤ} → nat_abs (x -ℤ y) ≤ E → Mixed D E 0 v u → Mixed D E 0 (x ∷ v) (y ∷ u)
  new : {x y : ℤ} {v u : List ℤ} {j : ℕ} → nat_abs (x -ℤ y) ≤ D → Mixed D E j v u
      → Mixed D E (suc j) (x ∷ v) (y ∷ u)

module _ {D E : ℕ} where
  all_old : {v u : List ℤ} → Close E v u → Mixed D E 0 v u
  all_old none = end
  all_old (more p h) = old p (all_old h)

  all_new : {j : ℕ} {v u : List ℤ} → length v ≤ j → Mixed D E j v u → Close D v u
  all_new n end = none
  all_new n (old p h) = absurd (omega arith)
  all_new n (new p h) = more p (all_new (omega arith) h)

  either : {j : ℕ} {v u : List ℤ} → D ≤ E → Mixed D E j v u → Close E v u
  either n end = none
  either n (old p h) = more p (either n h)
  either n (new p h) = more (le_trans p n) (either n h)

  shift_old : {v u : List ℤ} (x y : ℤ) → nat_abs (x -ℤ y) ≤ E → Mixed D E 0 v u
      → Mixed D E 0 (shift x v) (shift y u)
  shift_old x y k end = end
  shift_old x y k (old {x = x'} {y = y'} p h) = old k (shift_old x' y' p h)

  shift-new : {j : ℕ} {v u : List ℤ} (x y : ℤ) → nat_abs (x -ℤ y) ≤ D → Mixed D E j v u
      → Mixed D E (suc j) (shift x v) (shift y u)
  shift-new x y k end = end
  shift-new x y k (old {x = x'} {y = y'} p h) = new k (shift_old x' y' p h)
  shift-new x y k (new {x = x'} {y = y'} p h) = new k (shift-new x' y' p h)

-- ---- runs
pub length_run : (A v fs : List ℤ) → length (run A v fs) ≡ length v
length_run A v [] = refl
length_run A v (f ∷ fs) = length_run A (next A v f) fs ∙ length-next A v f

pub run-append : (A v p q : List ℤ) → run A v (p ++ q) ≡ run A (run A v p) q
run-append A v [] q = refl
run-append A v (f ∷ p) q = run-append A (next A v f) p q

pub half_pow : (m : ℕ) → half (2 ^ m) ≡ 2 ^ (m - 1)
half_pow zero = refl
half_pow (suc m) = let e : half (2 ^ suc m) ≡ 2 ^ m = omega arith in e ∙ ap (λ (i : ℕ). 2 ^ i) (omega arith)

pub run-within : (A : List ℤ) → norm A ≤ 32768 → (fs : List ℤ) {v : List ℤ} → Within (2 * M) v → Within M fs
    → Within (2 * M) (run A v fs)
run-within A n [] h k = h
run-within A n (f ∷ fs) h (more p k) = run-within A n fs (next-within A n f h p) k

module _ (A : List ℤ) (n : norm A ≤ 65536) where
  -- any number of samples keeps two states as close as they were
  pub run_keeps : (fs : List ℤ) {v u : List ℤ} {D : ℕ} → Close D v u → Close D (run A v fs) (run A u fs)
  run_keeps [] h = h
  run_keeps (f ∷ fs) h = run_keeps fs (next_close A f h n)

  run-mixed : (fs : List ℤ) {v u : List ℤ} {E j : ℕ} (k : ℕ) → length fs + j ≡ k
      → Mixed (share (norm A) E) E j v u → Mixed (share (norm A) E) E k (run A v fs) (run A u fs)
  unfolding next
  run-mixed [] {v} {u} {E} k e h = subst (λ (i : ℕ). Mixed (share (norm A) E) E i v u) (omega arith) h
  run-mixed (f ∷ fs) {v} {u} {E} k e h =
      let w = inner_close A f (either (share-less E n) h) in
      run-mixed fs k (omega arith) (shift-new (inner A v f) (inner A u f) w h)

  -- as many as the order leave the share of it
  pub run-share : (fs : List ℤ) {v u : List ℤ} {D : ℕ} → length v ≤ length fs → Close D v u
      → Close (share (norm A) D) (run A v fs) (run A u fs)
  run-share fs {v} l h =
      all_new (omega (arith, length_run A v fs)) (run-mixed fs (length fs) (omega arith) (all_old h))

  -- and k times as many, k shares
  pub run-many : (k : ℕ) (fs : List ℤ) {v u : List ℤ} {D : ℕ} → length v * k ≤ length fs → Close D v u
      → Close (shares (norm A) D k) (run A v fs) (run A u fs)
  run-many zero fs l h = run_keeps fs h
  run-many (suc k) fs {v} {u} {D} l h =
      let i = length v * k in
      let p = take i fs in
      let q = drop i fs in
      let before = run-many k p (omega (arith, length-take i fs)) h in
      let then = run-share q (omega (arith, length_run A v p, length-drop i fs)) before in
      subst (λ (l : List ℤ). Close (shares (norm A) D (suc k)) (run A v l) (run A u l)) (take-append-drop i fs)
      (rw (run-append A v p q, run-append A u p q) then)

-- ---- from rest, and from a state within 2M
from_rest_lem : {u : List ℤ} (N : ℕ) → N ≡ length u → Within (2 * M) u → Close (2 * M) (rest N) u
from_rest_lem zero e none = none
from_rest_lem zero e (more p h) = absurd (omega arith)
from_rest_lem (suc N) e none = absurd (omega arith)
from_rest_lem (suc N) e (more {x} p h) =
    let q : nat_abs (pos 0 -ℤ x) ≤ 2 * M = near (pos 0 -ℤ x) (omega (arith, -v (pos 0) x, absv x)) in
    more q (from_rest_lem N (omega arith) h)

run-near : (A : List ℤ) → norm A ≤ 65536 → (N : ℕ) (u fs : List ℤ) (f : ℤ) → length u ≡ N → Within (2 * M) u
    → nat_abs (out A (run A (rest N) fs) f -ℤ out A (run A u fs) f) ≤ own_figure (norm A) (length fs / N)
unfolding own_figure distance
run-near A n N u fs f e h =
    let k = length fs / N in
    let room : length (rest N) * k ≤ length fs
    = rw (length-replicate N (pos 0)) (omega (arith, div-add-mod' (length fs) N)) in
    out_close A f (run-many A n k fs room (from_rest_lem N (sym e) h)) n

pub contracts : (A : List ℤ) → norm A ≤ 65536 → Contracts A
contracts A n = record { state = run-many A n; output = λ f h. out_close A f h n; figure = run-near A n }

pub upward : (n D : ℕ) → Upward n D
upward n D = record { above = omega arith; least = λ x h. omega arith }

-- ---- the share of at most 32,768 is at most half, upward
pub share-half : {n : ℕ} (D : ℕ) → n ≤ 32768 → share n D ≤ half D
share-half D h = omega (arith, mul-le-mul_right D h)

pub shares-pow : {n : ℕ} (D m k : ℕ) → n ≤ 32768 → D ≤ 2 ^ m → shares n D k ≤ 2 ^ (m - k)
shares-pow D m zero h l = rw sub-zero l
shares-pow {n} D m (suc k) h l =
    let e : half (2 ^ (m - k)) ≡ 2 ^ (m - suc k)
    = half_pow (m - k) ∙ ap (λ (i : ℕ). 2 ^ i) (omega arith) in
    omega (arith, share-half (shares n D k) h, shares-pow D m k h l)

pub wider : {D E : ℕ} {v u : List ℤ} → D ≤ E → Close D v u → Close E v u
wider l none = none
wider l (more p h) = more (le_trans p l) (wider l h)

pub bounded : (A : List ℤ) → norm A ≤ 32768 → Bounded A
bounded A n =
    let c = contracts A (omega arith) in
    record {
      within = λ f h k. inner-within A n f h k;
      halved = λ fs {v} {u} {D} l h. wider (share-half D n) (run-share A (omega arith) fs l h);
      output = λ f {D} h. omega (arith, c.output f h, share-half D n);
      converged = λ k fs v u l h. wider (shares-pow (2 ^ 24) 24 k n (omega arith)) (c.state k fs l h);
    }
