-- What each test of the words says of the number, the filter and the change that they are.
use mathlib.Core.Path.{◌≡◌, refl}
use mathlib.Core.Bool.{Bool, true, false, not, cond, ◌&&◌, true≢false}
use Rattle.std.specs.Ordering.{int_eq}
use Rattle.std.proofs.lemmas.Bool.Decides.{Decides-int_eq, Decides-and}
use mathlib.Core.List.{[], ◌∷◌}
use mathlib.Core.Logic.{◌↔◌}
use Prim.Native.Nat.{ℕ, ◌≤◌, ◌<◌}
use native.Mathlib.Omega.{arith}
use borrow.Author.Tests.{leb-true, leb-false}
use lib.Dec.{leb}
use lib.IntN.{ℤ, pos, nat_abs}
use Rattle.integer.proofs.View.{absv, Zs}
use Rattle.refusal.specs.Limits.{refusal}
use Rattle.refusal.specs.Orders.{Takes, order, delay}
use Rattle.refusal.specs.Returned.{AllKept, none, more}
use Rattle.refusal.proofs.Ranges.{ranges}
use Rattle.refusal.proofs.Returned.{returned}
use Rattle.thiran.specs.Answers.{padded}
use Rattle.thiran.specs.Coefficients.{coefficients}
use Rattle.thiran.specs.declared.formula.Coefficients.{Coefficients}
use Rattle.rule.specs.Tests.{long}
use Rattle.voice.specs.declared.Filter.{Filter}
use Rattle.voice.specs.Valid.{Tuned}
use Rattle.packed.specs.Tests.{StateIn}
use Rattle.packed.proofs.Limits.{tuned, limited}

-- ---- a number of a state: 0 past the order
past_is : (N k : ℕ) (v : ℤ) → (nat_abs v ≤ cond (leb k N) 16777214 0)
    ↔ ((nat_abs v ≤ 16777214) × (N < k → v ≡ pos 0))
past_is N k v = go (leb k N) refl
  where
    go : (b : Bool) → leb k N ≡ b
        → (nat_abs v ≤ cond b 16777214 0) ↔ ((nat_abs v ≤ 16777214) × (N < k → v ≡ pos 0))
    go true e = ((λ h. (h, λ l. absurd (omega (arith, leb-true k N e)))), (λ p. p.0))
    go false e = (
      (λ h. (omega arith, λ l. omega (Zs, absv v))),
      (λ p. rw (p.1 (leb-false k N e)) (omega arith)),
    )

-- ---- a filter
so : (b : Bool) → not b ≡ false → b ≡ true
so true e = refl
so false e = absurd (true≢false e)

made : (a b c x y z : ℤ) → a ≡ x → b ≡ y → c ≡ z
    → ◌≡◌ {A = Coefficients} (record { a1 = a; a2 = b; a3 = c }) (record { a1 = x; a2 = y; a3 = z })
made a b c x y z p q r = rw (p, q, r)

pub same-coefficients : (c k : Coefficients)
    → not (int_eq c.a1 k.a1 && (int_eq c.a2 k.a2 && int_eq c.a3 k.a3)) ≡ false → c ≡ k
same-coefficients c k e =
    let d = Decides-and (int_eq c.a2 k.a2) (int_eq c.a3 k.a3) (Decides-int_eq c.a2 k.a2) (Decides-int_eq c.a3 k.a3) in
    let h = (Decides-and (int_eq c.a1 k.a1) (int_eq c.a2 k.a2 && int_eq c.a3 k.a3) (Decides-int_eq c.a1 k.a1) d).0
    (so (int_eq c.a1 k.a1 && (int_eq c.a2 k.a2 && int_eq c.a3 k.a3)) e) in
    made c.a1 c.a2 c.a3 k.a1 k.a2 k.a3 h.0 h.1.0 h.1.1

pub tuning_is : (N L d : ℕ) → (refusal (order N ∷ long L ∷ delay N d ∷ []) ≡ 0)
    ↔ (Takes N d × (1 ≤ L) × (L ≤ 2048))
tuning_is N L d = (
  (λ e. go ((returned (order N ∷ long L ∷ delay N d ∷ []) tt).accepted.0 e)),
  (λ p. (returned (order N ∷ long L ∷ delay N d ∷ []) tt).accepted.1 (
      more (record { least = p.0.least; most = p.0.most }) (
      more (record { least = p.1; most = p.2 }) (
      more (record { least = p.0.low; most = p.0.high }) none)))),
)
  where
    go : AllKept (order N ∷ long L ∷ delay N d ∷ []) → Takes N d × (1 ≤ L) × (L ≤ 2048)
    go (more n (more l (more d none))) =
        (record { least = n.least; most = n.most; low = d.least; high = d.most }, l.least, l.most)

module _ (f : Filter) where
  abbrev N : ℕ
  N = f.tuning.order

  pub filter-is : {z : Bool} → Takes N f.tuning.delay × (1 ≤ f.tuning.length) × (f.tuning.length ≤ 2048)
      → f.coefficients ≡ padded (coefficients N f.tuning.delay) → ((z ≡ true) ↔ StateIn N f.state)
      → (z ≡ true) ↔ Tuned f
  filter-is t k p =
      let second = past_is N 2 f.state.v2 in
      let third = past_is N 3 f.state.v3 in (
        (λ e.
            let s = p.0 e in
            tuned f (record {
              delay = (ranges.takes N f.tuning.delay).0 t.0;
              length = record { least = t.1; most = t.2 };
              coefficients_are = k;
              v1 = s.v1;
              v2 = (second.0 s.v2).0;
              v3 = (third.0 s.v3).0;
              second = (second.0 s.v2).1;
              third = (third.0 s.v3).1;
            })),
        (λ w.
            let l = limited f w in
            p.1 (record { v1 = l.v1; v2 = second.1 (l.v2, l.second); v3 = third.1 (l.v3, l.third) })),
      )
