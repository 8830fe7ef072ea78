-- Laws of specs/Products.antt: products that are equal one by one, and at each order the sums that w and the
-- output take and the products of the next state. Assumes nothing.
use mathlib.Core.Path.{◌≡◌, refl}
use mathlib.Core.List.{reverse}
use Prim.Native.Nat.{ℕ, zero, suc, ◌≤◌}
use native.Mathlib.Omega.{arith}
use lib.IntN.{ℤ, ◌+ℤ◌, ◌*ℤ◌, +ℤ_idr}
use Rattle.integer.specs.Cut.{R}
use Rattle.refusal.specs.Orders.{orders}
use Rattle.thiran.specs.Answers.{taps}
use Rattle.thiran.specs.declared.formula.Coefficients.{Coefficients}
use Rattle.allpass.specs.Allpass.{dot, shift}
use Rattle.allpass.specs.Stored.{stored, held}
use Rattle.allpass.specs.Products.{scaled_of, last_of, cut_of, renewed_of, products_of}
use Rattle.allpass.specs.declared.State.{State}
use Rattle.allpass.specs.declared.multiples.Multiples.{Multiples}
use Rattle.allpass.specs.declared.products.Products.{Products}

-- ---- products that are equal one by one are equal
abbrev pub of-six : ℤ → ℤ → ℤ → ℤ → ℤ → ℤ → Products
of-six q a b n d t = record { cut = q; newest = a; older = b; next = n; third = d; turned = t }

pub alike : {q a b n d t q' a' b' n' d' t' : ℤ}
    → q ≡ q' → a ≡ a' → b ≡ b' → n ≡ n' → d ≡ d' → t ≡ t'
    → of-six q a b n d t ≡ of-six q' a' b' n' d' t'
alike eq ea eb en ed et = rw (eq, ea, eb, en, ed, et)

-- ---- what is told of the products of each order
module _ (c : Coefficients) (v : State) where
  -- "A1·v1 + A2·v2": what w takes
  pub first-sum : (N : ℕ) → N ≡ 1 → (products_of N c v).cut ≡ R (dot (taps N c) (held N v))
  unfolding products_of
  first-sum N e = rw (e, +ℤ_idr (c.a1 *ℤ v.v1)) refl

  pub first-dot : (N : ℕ) → N ≡ 1 → R (c.a1 *ℤ v.v1) ≡ R (dot (taps N c) (held N v))
  first-dot N e = rw (e, +ℤ_idr (c.a1 *ℤ v.v1)) refl

  -- what an output of order 1 takes is R(A1·w) too
  pub first-cut : (N : ℕ) (x : Multiples) → N ≡ 1 → cut_of N x ≡ R (last_of N x +ℤ (products_of N c v).turned)
  unfolding products_of
  first-cut N x e = rw (e, +ℤ_idr x.x1) refl

  pub older_sum : (N : ℕ) → 2 ≤ N → N ≤ orders
      → (products_of N c v).newest +ℤ (products_of N c v).older ≡ dot (taps N c) (held N v)
  unfolding products_of
  older_sum zero l m = absurd (omega arith)
  older_sum (suc zero) l m = absurd (omega arith)
  older_sum (suc (suc zero)) l m = refl
  older_sum (suc (suc (suc zero))) l m = rw (+ℤ_idr (c.a3 *ℤ v.v3)) refl
  older_sum (suc (suc (suc (suc N)))) l m = absurd (omega arith)

  -- "A2·w + A1·v1": what the output takes
  pub turned_sum : (w : ℤ) (N : ℕ) → 1 ≤ N → N ≤ orders
      → last_of N (scaled_of N c w) +ℤ (products_of N c v).turned ≡ dot (reverse (taps N c)) (shift w (held N v))
  unfolding products_of
  turned_sum w zero l m = absurd (omega arith)
  turned_sum w (suc zero) l m = refl
  turned_sum w (suc (suc zero)) l m = rw (+ℤ_idr (c.a1 *ℤ v.v1))
  turned_sum w (suc (suc (suc zero))) l m = rw (+ℤ_idr (c.a1 *ℤ v.v2))
  turned_sum w (suc (suc (suc (suc N)))) l m = absurd (omega arith)

  -- the products of the next state
  pub renewed : (w : ℤ) (N : ℕ) → 1 ≤ N → N ≤ orders
      → renewed_of N (products_of N c v) (scaled_of N c w) ≡ products_of N c (stored (shift w (held N v)))
  unfolding products_of stored
  renewed w zero l m = absurd (omega arith)
  renewed w (suc zero) l m = refl
  renewed w (suc (suc zero)) l m = refl
  renewed w (suc (suc (suc zero))) l m = refl
  renewed w (suc (suc (suc (suc N)))) l m = absurd (omega arith)
