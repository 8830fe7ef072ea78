-- The orders and the delays that they take, in the documents' own numbers; and what a routine returns that
-- tests both. Statements alone: proofs/Ranges.antt has them of specs/Orders.antt. Assumes nothing.
use Rattle.std.specs.Prelude.{◌≡◌, ◌↔◌, ℕ}
use Rattle.refusal.specs.Limits.{Between}
use Rattle.refusal.specs.Orders.{orders, lowest, highest, Takes}

-- "Order 1 takes d from 2,049 to 6,144, order 2 from 6,145 to 10,240"; "Order 3 takes d from
-- 10,241 to 14,336" (L5)
pub data InRange : ℕ → ℕ → Type 0 where
  order_1 : {d : ℕ} → Between 2049 d 6144 → InRange 1 d
  order_2 : {d : ℕ} → Between 6145 d 10240 → InRange 2 d
  order_3 : {d : ℕ} → Between 10241 d 14336 → InRange 3 d

pub record Ranges : Type 0 where
  -- "an order outside 1 to 3" is refused (document 02, L5)
  pub orders_are : orders ≡ 3
  pub order_1 : (lowest 1 ≡ 2049) × (highest 1 ≡ 6144)
  pub order_2 : (lowest 2 ≡ 6145) × (highest 2 ≡ 10240)
  pub order_3 : (lowest 3 ≡ 10241) × (highest 3 ≡ 14336)
  pub takes : (N d : ℕ) → Takes N d ↔ InRange N d

-- the number n of a routine that tests "1 order", then "3 d"
pub record OrderDelay (N d n : ℕ) : Type 0 where
  pub order : (n ≡ 1) ↔ (Between 1 N 3 → ⊥)
  pub delay : (n ≡ 3) ↔ (Between 1 N 3 × (InRange N d → ⊥))
  pub accepted : (n ≡ 0) ↔ InRange N d
