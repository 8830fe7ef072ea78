-- What `coefficients` returns, from the tests of order and delay and from the theorems about the fractions.
-- Assumes nothing.
use mathlib.Core.Path.{◌≡◌, refl, sym, ap, subst, ◌∙◌}
use Prim.Native.Nat.{ℕ, ◌≤◌, ◌<◌}
use native.Mathlib.Omega.{arith}
use native.Mathlib.Decide.{ℕ_discrete}
use lib.Dec.{lit≤}
use lib.IntN.{ℤ, pos, nat_abs, ◌*ℤ◌}
use Rattle.integer.specs.Rounding.{Nearest}
use Rattle.integer.proofs.View.{Zs, absv, onev}
use Rattle.integer.proofs.Ring.{*-assoc}
use Rattle.integer.proofs.Rounding.{nearest-is, nearest-same}
use Rattle.refusal.specs.Limits.{refusal}
use Rattle.refusal.specs.Orders.{Takes}
use Rattle.refusal.specs.Ranges.{order_1, order_2, order_3, OrderDelay}
use Rattle.refusal.proofs.Ranges.{ranges, order-delay}
use Rattle.thiran.specs.Formula.{a, Same, fraction}
use Rattle.thiran.specs.Coefficients.{coefficient, coefficients}
use Rattle.thiran.specs.Answers.{limits, design}
use Rattle.thiran.specs.Returns.{Returns}
use Rattle.thiran.specs.Answers.{Design}
use Rattle.thiran.proofs.Refusals.{takes, design-refused, design-taken}
use Rattle.thiran.proofs.Theorems as T

module _ (N d : ℕ) where
  pub number_is : refusal (limits N d) ≡ (design N d).refusal
  number_is = go (ℕ_discrete (refusal (limits N d)) 0)
    where
      go : Dec (refusal (limits N d) ≡ 0) → refusal (limits N d) ≡ (design N d).refusal
      go (yes e) = e ∙ sym (ap (λ (r : Design). r.refusal) (design-taken N d (takes N d e)))
      go (no f) = sym (ap (λ (r : Design). r.refusal) (design-refused N d f))

  refused : ((design N d).refusal ≡ 0 → ⊥)
      → ((design N d).a1 ≡ pos 0) × ((design N d).a2 ≡ pos 0) × ((design N d).a3 ≡ pos 0)
  refused f =
      let e = design-refused N d (λ z. f (sym number_is ∙ z)) in
      (ap (λ (r : Design). r.a1) e, ap (λ (r : Design). r.a2) e, ap (λ (r : Design). r.a3) e)

-- a coefficient is nearest to 65,536 times any fraction that equals the formula's
module _ (N d k : ℕ) (t : Takes N d) (h : 1 ≤ k) where
  abbrev bottom : ℤ
  bottom = (a N d k).bottom

  bottom-is : pos (nat_abs bottom) ≡ bottom
  bottom-is = omega (Zs, absv bottom, onev bottom, (T.theorem N d t).above k h)

  nearest_by : (p : ℤ) (q : ℕ) → 0 < q → Same (a N d k) (fraction p (pos q))
      → Nearest (pos 65536 *ℤ p) q (coefficient N d k)
  unfolding coefficient
  nearest_by p q g s =
      let n = pos 65536 in
      let top = (a N d k).top in
      let cross : n *ℤ top *ℤ pos q ≡ n *ℤ p *ℤ pos (nat_abs bottom) =
      *-assoc n top (pos q) ∙ ap (λ (z : ℤ). n *ℤ z) s.cross ∙ sym (*-assoc n p bottom)
      ∙ ap (λ (z : ℤ). n *ℤ p *ℤ z) (sym bottom-is) in
      let above : 0 < nat_abs bottom = omega (Zs, absv bottom, (T.theorem N d t).above k h) in
      subst (λ (A : ℤ). Nearest (n *ℤ p) q A)
      (sym (nearest-same (n *ℤ top) (n *ℤ p) (nat_abs bottom) q above g cross))
      (nearest-is (n *ℤ p) q g)

pub returns : Returns
unfolding coefficients
returns = record {
  number = λ N d. subst (λ (n : ℕ). OrderDelay N d n) (number_is N d) (order-delay N d);
  refused = refused;
  order_1 = λ d b.
      let t = (ranges.takes 1 d).1 (order_1 b) in
      rw (design-taken 1 d t) (record {
        a1 = nearest_by 1 d 1 t (lit≤ tt) _ _ (omega arith) (T.order_1 d).a1;
        a2 = refl;
        a3 = refl;
      });
  order_2 = λ d b.
      let t = (ranges.takes 2 d).1 (order_2 b) in
      rw (design-taken 2 d t) (record {
        a1 = nearest_by 2 d 1 t (lit≤ tt) _ _ (omega arith) (T.order_2 d).a1;
        a2 = nearest_by 2 d 2 t (lit≤ tt) _ _ (omega arith) (T.order_2 d).a2;
        a3 = refl;
      });
  order_3 = λ d b.
      let t = (ranges.takes 3 d).1 (order_3 b) in
      rw (design-taken 3 d t) (record {
        a1 = nearest_by 3 d 1 t (lit≤ tt) _ _ (omega arith) (T.order_3 d).a1;
        a2 = nearest_by 3 d 2 t (lit≤ tt) _ _ (omega arith) (T.order_3 d).a2;
        a3 = nearest_by 3 d 3 t (lit≤ tt) _ _ (omega arith) (T.order_3 d).a3;
      });
}
