-- What goes round in a voice, as one list: the line as far as L, the filter state and the last output.
-- While the filter is a delay, a step puts s(n) in front of it and drops the last. Assumes nothing.
use mathlib.Core.Path.{◌≡◌, refl, ap, ◌∙◌}
use mathlib.Core.List.{List, [], ◌∷◌, ◌++◌}
use Prim.Native.Nat.{ℕ, zero, suc, ◌+◌, ◌-◌, ◌≤◌, ◌<◌}
use native.Mathlib.Omega.{arith}
use native.Mathlib.Nat.{le_trans}
use lib.IntN.{ℤ, pos, nat_abs}
use lib.ListN.{length, take, get_or, length-append, length-take}
use lib.Seq.{take-take}
use Rattle.allpass.specs.Allpass.{shift, final}
use Rattle.allpass.specs.Bounds.{Within, none, more}

-- ---- the first j numbers are within D, the others within E
pub data Graded (D E : ℕ) : ℕ → List ℤ → Type 0 where
  end : {j : ℕ} → Graded D E j []
  old : {x : ℤ} {v : List ℤ} → nat_abs x ≤ E → Graded D E 0 v → Graded D E 0 (x ∷ v)
  new : {x : ℤ} {v : List ℤ} {j : ℕ} → nat_abs x ≤ D → Graded D E j v → Graded D E (suc j) (x ∷ v)

module _ {D E : ℕ} where
  pub all_old : {v : List ℤ} → Within E v → Graded D E 0 v
  all_old none = end
  all_old (more p h) = old p (all_old h)

  pub all_new : {j : ℕ} {v : List ℤ} → length v ≤ j → Graded D E j v → Within D v
  all_new n end = none
  all_new n (old p h) = absurd (omega arith)
  all_new n (new p h) = more p (all_new (omega arith) h)

  pub either : {j : ℕ} {v : List ℤ} → D ≤ E → Graded D E j v → Within E v
  either n end = none
  either n (old p h) = more p (either n h)
  either n (new p h) = more (le_trans p n) (either n h)

  shift_old : {v : List ℤ} (x : ℤ) → nat_abs x ≤ E → Graded D E 0 v → Graded D E 0 (shift x v)
  shift_old x k end = end
  shift_old x k (old {x = y} p h) = old k (shift_old y p h)

  pub shift-new : {j : ℕ} {v : List ℤ} (x : ℤ) → nat_abs x ≤ D → Graded D E j v → Graded D E (suc j) (shift x v)
  shift-new x k end = end
  shift-new x k (old {x = y} p h) = new k (shift_old y p h)
  shift-new x k (new {x = y} p h) = new k (shift-new y p h)

-- ---- the list: L numbers of the line l, newest first, then the state q and the last output y
abbrev pub loop : ℕ → List ℤ → List ℤ → ℤ → List ℤ
loop L l q y = take L l ++ (q ++ (y ∷ []))

pub loop_same : (L : ℕ) (l : List ℤ) {q p : List ℤ} {y z : ℤ} → q ≡ p → y ≡ z → loop L l q y ≡ loop L l p z
loop_same L l e i = cc

front_shift : (s : ℤ) (n : ℕ) (l k : List ℤ) → n < length l
    → shift s (take (suc n) l ++ k) ≡ take (suc n) (s ∷ l) ++ shift (get_or l n (pos 0)) k
front_shift s n [] k h = absurd (omega arith)
front_shift s zero (x ∷ l) k h = refl
front_shift s (suc n) (x ∷ l) k h = ap (λ (v : List ℤ). s ∷ v) (front_shift x n l k (omega arith))

shift-end : (f : ℤ) (q : List ℤ) (y : ℤ) → shift f (q ++ (y ∷ [])) ≡ shift f q ++ (final f q ∷ [])
shift-end f [] y = refl
shift-end f (x ∷ q) y = ap (λ (v : List ℤ). f ∷ v) (shift-end x q y)

final_any : (f g : ℤ) (q : List ℤ) → 1 ≤ length q → final f q ≡ final g q
final_any f g [] h = absurd (omega arith)
final_any f g (x ∷ q) h = refl

-- s in front and the last dropped: the state takes s(n − L), and its last number is the next last output
pub loop_shift : (s : ℤ) (L : ℕ) (l q : List ℤ) (y : ℤ) → 1 ≤ L → L ≤ length l → L ≤ 2112 → 1 ≤ length q
    → shift s (loop L l q y) ≡ loop L (s ∷ take 2111 l) (shift (get_or l (L - 1) (pos 0)) q) (final (pos 0) q)
loop_shift s zero l q y a b c d = absurd (omega arith)
loop_shift s (suc n) l q y a b c d =
    let f = get_or l n (pos 0) in
    let e : suc n - 1 ≡ n = omega arith in
    front_shift s n l (q ++ (y ∷ [])) (omega arith)
    ∙ rw (e, take-take n 2111 l (omega arith), shift-end f q y, final_any f (pos 0) q d)

pub length_loop : (L : ℕ) (l q : List ℤ) (y : ℤ) → L ≤ length l → length (loop L l q y) ≡ L + length q + 1
length_loop L l q y h =
    omega (arith, length-append (take L l) (q ++ (y ∷ [])), length-append q (y ∷ []), length-take L l)
