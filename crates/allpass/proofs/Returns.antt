-- What `effective_length` returns, from the tests of order and delay and from the filter's lines.
-- Assumes nothing.
use mathlib.Core.Path.{◌≡◌, refl, sym, ap, subst, ◌∙◌}
use mathlib.Core.Bool.{Bool, true, false, cond}
use mathlib.Core.List.{List, [], ◌∷◌}
use Prim.Native.Nat.{ℕ, zero, suc, ◌-◌, ◌≤◌, ◌<◌}
use native.Mathlib.Omega.{arith}
use native.Mathlib.Decide.{ℕ_discrete}
use borrow.Author.Tests.{eq-eqb, ne_eqb, ltb-true, ltb-false}
use lib.Dec.{ltb, eqb}
use lib.IntN.{ℤ, pos, nat_abs, ◌+ℤ◌, ◌-ℤ◌, ◌*ℤ◌, +ℤ_idr, +ℤ_assoc, zero-*ℤ}
use lib.ListN.{length, take, get_or, replicate}
use Rattle.integer.specs.Cut.{R}
use Rattle.refusal.specs.Limits.{refusal}
use Rattle.refusal.specs.Orders.{orders}
use Rattle.refusal.specs.Ranges.{InRange, OrderDelay}
use Rattle.refusal.proofs.Ranges.{ranges, order-delay}
use Rattle.thiran.specs.Coefficients.{coefficients}
use Rattle.thiran.specs.Answers.{limits, design}
use Rattle.thiran.specs.Answers.{Design}
use Rattle.thiran.proofs.Lists.{length-coefficients}
use Rattle.thiran.proofs.Refusals.{takes_0, design-taken}
use Rattle.allpass.specs.Allpass.{dot, rest, shift, inner, next, inners}
use Rattle.allpass.specs.Length.{response, last_above, effective_length}
use Rattle.allpass.specs.Returns.{Last, fades, values, Returns}
use Rattle.allpass.specs.Stored.{stored}
use Rattle.allpass.specs.Length.{Measured}
use Rattle.allpass.proofs.Bounds.{inner-rest}
use Rattle.allpass.proofs.Stored.{held-rest}

-- ---- by the number
module _ (N d t : ℕ) where
  abbrev n : ℕ
  n = refusal (limits N d)

  taken : n ≡ 0
      → effective_length N d t ≡ record { refusal = 0; length = last_above t (response (coefficients N d) N) }
  unfolding effective_length
  taken e = rw (eq-eqb n 0 e)

  turned : (n ≡ 0 → ⊥) → effective_length N d t ≡ record { refusal = n; length = 0 }
  unfolding effective_length
  turned f = rw (ne_eqb n 0 f)

  number_is : n ≡ (effective_length N d t).refusal
  number_is = go (ℕ_discrete n 0)
    where
      go : Dec (n ≡ 0) → n ≡ (effective_length N d t).refusal
      go (yes e) = e ∙ sym (ap (λ (r : Measured). r.refusal) (taken e))
      go (no f) = sym (ap (λ (r : Measured). r.refusal) (turned f))

  refused : ((effective_length N d t).refusal ≡ 0 → ⊥) → (effective_length N d t).length ≡ 0
  refused f = ap (λ (r : Measured). r.length) (turned (λ z. f (sym number_is ∙ z)))

-- ---- the last that exceeds
module _ (t : ℕ) where
  -- none from index n on exceeds
  abbrev Quiet : List ℤ → ℕ → Type 0
  Quiet ws n = (i : ℕ) → n ≤ i → nat_abs (get_or ws i (pos 0)) ≤ t

  quiet-more : (w : ℤ) (ws : List ℤ) (n : ℕ) → Quiet ws n → Quiet (w ∷ ws) (suc n)
  quiet-more w ws n h zero p = absurd (omega arith)
  quiet-more w ws n h (suc i) p = h i (omega arith)

  quiet_all : (w : ℤ) (ws : List ℤ) → nat_abs w ≤ t → Quiet ws 0 → Quiet (w ∷ ws) 0
  quiet_all w ws k h zero p = k
  quiet_all w ws k h (suc i) p = h i (omega arith)

  -- the value at the answer less one exceeds, and none after it does
  abbrev Ends : List ℤ → ℕ → Type 0
  Ends ws n = (0 < n → t < nat_abs (get_or ws (n - 1) (pos 0))) × Quiet ws n

  ends : (ws : List ℤ) → Ends ws (last_above t ws)
  unfolding last_above
  ends [] = (λ h. absurd (omega arith), λ i p. omega arith)
  ends (w ∷ ws) = go (last_above t ws) (ltb t (nat_abs w)) refl (ends ws)
    where
      go : (x : ℕ) (b : Bool) → ltb t (nat_abs w) ≡ b → Ends ws x
          → Ends (w ∷ ws) (cond (eqb x 0) (cond b 1 0) (suc x))
      go zero true e h = (λ z. ltb-true t (nat_abs w) e, quiet-more w ws 0 h.1)
      go zero false e h =
          (λ z. absurd (omega arith), quiet_all w ws (ltb-false t (nat_abs w) e) h.1)
      go (suc x) b e h =
          let i : suc x - 1 ≡ x = omega arith in
          let j : suc x ≡ suc (suc x) - 1 = omega arith in
          let loud : t < nat_abs (get_or ws x (pos 0)) = rw i at (h.0 (omega arith)) in
          rw (ne_eqb (suc x) 0 (λ z. omega arith)) (
            (λ z. subst (λ (n : ℕ). t < nat_abs (get_or (w ∷ ws) n (pos 0))) j loud),
            quiet-more w ws (suc x) h.1,
          )

  lasts : (ws : List ℤ) (n : ℕ) → Ends ws n → Last t ws n
  lasts ws n (e, q) = record {
    exceeds = e;
    after = q;
    none = (λ z i. q i (omega arith), λ f. go (ℕ_discrete n 0) f);
  }
    where
      go : Dec (n ≡ 0) → ((i : ℕ) → nat_abs (get_or ws i (pos 0)) ≤ t) → n ≡ 0
      go (yes z) f = z
      go (no z) f = absurd (omega (arith, e (omega arith), f (n - 1)))

-- ---- the values: of coefficients A, which are 0 past their order, and as many of the numbers v1, v2, v3
abbrev at : List ℤ → ℕ → ℤ
at A i = get_or A i (pos 0)

dot-is : (A : List ℤ) (v1 v2 v3 : ℤ) → length A ≤ orders
    → dot A (take (length A) (v1 ∷ v2 ∷ v3 ∷ [])) ≡ at A 0 *ℤ v1 +ℤ at A 1 *ℤ v2 +ℤ at A 2 *ℤ v3
dot-is [] v1 v2 v3 h = rw (zero-*ℤ v1, zero-*ℤ v2, zero-*ℤ v3)
dot-is (x ∷ []) v1 v2 v3 h = rw (zero-*ℤ v2, zero-*ℤ v3) (sym (+ℤ_idr (x *ℤ v1 +ℤ pos 0)))
dot-is (x ∷ y ∷ []) v1 v2 v3 h = rw (zero-*ℤ v3) (simp (+ℤ_idr))
dot-is (x ∷ y ∷ z ∷ []) v1 v2 v3 h = simp (+ℤ_idr, +ℤ_assoc)
dot-is (x ∷ y ∷ z ∷ u ∷ A) v1 v2 v3 h = absurd (omega arith)

shift_is : (N : ℕ) (w v1 v2 v3 : ℤ) → N ≤ orders
    → shift w (take N (v1 ∷ v2 ∷ v3 ∷ [])) ≡ take N (w ∷ v1 ∷ v2 ∷ [])
shift_is zero w v1 v2 v3 h = refl
shift_is (suc zero) w v1 v2 v3 h = refl
shift_is (suc (suc zero)) w v1 v2 v3 h = refl
shift_is (suc (suc (suc zero))) w v1 v2 v3 h = refl
shift_is (suc (suc (suc (suc N)))) w v1 v2 v3 h = absurd (omega arith)

module _ (A : List ℤ) (h : length A ≤ orders) where
  fades_are : (v1 v2 v3 : ℤ) (n : ℕ)
      → inners A (take (length A) (v1 ∷ v2 ∷ v3 ∷ [])) (replicate n (pos 0))
      ≡ fades (at A 0) (at A 1) (at A 2) v1 v2 v3 n
  unfolding inner next fades
  fades_are v1 v2 v3 zero = refl
  fades_are v1 v2 v3 (suc n) =
      let w = pos 0 -ℤ R (at A 0 *ℤ v1 +ℤ at A 1 *ℤ v2 +ℤ at A 2 *ℤ v3) in
      rw (dot-is A v1 v2 v3 h, shift_is (length A) w v1 v2 v3 h)
      (ap (λ (ws : List ℤ). w ∷ ws) (fades_are w v1 v2 n))

  -- the first value, and n more
  first_are : (n : ℕ)
      → inners A (rest (length A)) (pos 1000000 ∷ replicate n (pos 0))
      ≡ pos 1000000 ∷ fades (at A 0) (at A 1) (at A 2) (pos 1000000) (pos 0) (pos 0) n
  unfolding next stored
  first_are n =
      let f = pos 1000000 in
      rw (
        inner-rest A (length A) f,
        ← held-rest (length A) h,
        shift_is (length A) f (pos 0) (pos 0) (pos 0) h,
        fades_are f (pos 0) (pos 0) n,
      )

  values_are : response A (length A) ≡ values (at A 0) (at A 1) (at A 2)
  unfolding response values
  values_are = first_are 63

fades-many : (a1 a2 a3 v1 v2 v3 : ℤ) (n : ℕ) → length (fades a1 a2 a3 v1 v2 v3 n) ≡ n
unfolding fades
fades-many a1 a2 a3 v1 v2 v3 zero = refl
fades-many a1 a2 a3 v1 v2 v3 (suc n) =
    ap suc (fades-many a1 a2 a3 (pos 0 -ℤ R (a1 *ℤ v1 +ℤ a2 *ℤ v2 +ℤ a3 *ℤ v3)) v1 v2 n)

many : (a1 a2 a3 : ℤ) → length (values a1 a2 a3) ≡ 64
unfolding values
many a1 a2 a3 = ap suc (fades-many a1 a2 a3 (pos 1000000) (pos 0) (pos 0) 63)

-- ---- what the routine returns
last : (N d t : ℕ) → InRange N d
    → Last t (values (design N d).a1 (design N d).a2 (design N d).a3) (effective_length N d t).length
last N d t i =
    let k = (ranges.takes N d).1 i in
    let A = coefficients N d in
    let ws = response A N in
    let e : length A ≡ N = length-coefficients N d in
    let v : ws ≡ values (at A 0) (at A 1) (at A 2) =
    ap (response A) (sym e) ∙ values_are A (omega (arith, k.most)) in
    let j = v ∙ ap (λ (r : Design). values r.a1 r.a2 r.a3) (sym (design-taken N d k)) in
    subst (λ (l : List ℤ). Last t l (effective_length N d t).length) j
    (subst (λ (n : ℕ). Last t ws n)
    (sym (ap (λ (r : Measured). r.length) (taken N d t (takes_0 N d k))))
    (lasts t ws (last_above t ws) (ends t ws)))

pub returns : Returns
returns = record {
  number = λ N d t. subst (λ (n : ℕ). OrderDelay N d n) (number_is N d t) (order-delay N d);
  refused = refused;
  many = many;
  last = last;
}
