-- The orders and delays of specs/Orders.antt are the documents' own numbers; what the tests of both give.
-- Assumes nothing.
use mathlib.Core.Path.{refl}
use mathlib.Core.List.{[], ◌∷◌}
use Prim.Native.Nat.{ℕ, zero, suc}
use native.Mathlib.Omega.{arith}
use Rattle.refusal.specs.Limits.{Between, refusal}
use Rattle.refusal.specs.Orders.{lowest, highest, order, delay}
use Rattle.refusal.specs.Ranges.{InRange, order_1, order_2, order_3, Ranges, OrderDelay}
use Rattle.refusal.proofs.Tests.{refused, accepted}

pub in_range : (N d : ℕ) → Between 1 N 3 → Between (lowest N) d (highest N) → InRange N d
in_range zero d o b = absurd (omega (arith, o.least))
in_range (suc zero) d o b = order_1 (record { least = b.least; most = b.most })
in_range (suc (suc zero)) d o b = order_2 (record { least = b.least; most = b.most })
in_range (suc (suc (suc zero))) d o b = order_3 (record { least = b.least; most = b.most })
in_range (suc (suc (suc (suc N)))) d o b = absurd (omega (arith, o.most))

pub ordered : {N d : ℕ} → InRange N d → Between 1 N 3
ordered (order_1 b) = record { least = omega arith; most = omega arith }
ordered (order_2 b) = record { least = omega arith; most = omega arith }
ordered (order_3 b) = record { least = omega arith; most = omega arith }

pub delayed : {N d : ℕ} → InRange N d → Between (lowest N) d (highest N)
delayed (order_1 b) = record { least = b.least; most = b.most }
delayed (order_2 b) = record { least = b.least; most = b.most }
delayed (order_3 b) = record { least = b.least; most = b.most }

pub ranges : Ranges
ranges = record {
  orders_are = refl;
  order_1 = (refl, refl);
  order_2 = (refl, refl);
  order_3 = (refl, refl);
  takes = λ N d. (
    λ t.
        in_range N d (record { least = t.least; most = t.most })
        (record { least = t.low; most = t.high }),
    λ i.
        let o = ordered i in
        let b = delayed i in
        record { least = o.least; most = o.most; low = b.least; high = b.most },
  );
}

pub order-delay : (N d : ℕ) → OrderDelay N d (refusal (order N ∷ delay N d ∷ []))
order-delay N d =
    let o = order N in
    let p = delay N d in
    let three = refused (o ∷ []) p [] tt in
    let zero = accepted o (p ∷ []) tt in
    record {
      order = refused [] o (p ∷ []) tt;
      delay = (
        λ e. let k = three.0 e in (k.0, λ i. k.1 (delayed i)),
        λ k. three.1 (k.0, λ b. k.1 (in_range N d k.0 b)),
      );
      accepted = (
        λ e. let k = zero.0 e in in_range N d k.0 k.1,
        λ i. zero.1 (ordered i, delayed i),
      );
    }
