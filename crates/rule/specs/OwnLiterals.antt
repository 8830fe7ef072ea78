-- The tuning's own figure in literals, for every opening and list, beside those of specs/Literals.antt: over all
-- delays of an order, over a part of them, and of single tunings. Statements alone: proofs/OwnLiterals.antt proves them.
use Rattle.std.specs.Prelude.{◌≡◌, List, ℕ, ◌+◌, ◌≤◌, ◌<◌, pos, nat_abs, ◌-ℤ◌, get_or}
use Rattle.rule.specs.Calls.{Call, Opening}
use Rattle.rule.specs.History.{steps, fresh, after, new}
use Rattle.rule.specs.State.{puts}
use Rattle.rule.specs.State as S
use Rattle.rule.specs.Demands.{Rules}
use Rattle.rule.specs.Literals.{Differs}

-- as `Differs`, of the delays from low to high
abbrev pub DiffersIn : Opening → List Call → ℕ → ℕ → ℕ → ℕ → ℕ → ℕ → Type 0
DiffersIn o cs N low high Na j B =
    (pre post : List Call) (c : Call) (m : ℕ) (k : Rules m (fresh o) cs pre c post)
    → m < steps (after o cs) → k.t.N ≡ N → low ≤ k.t.d → k.t.d ≤ high → k.a ≡ Na → k.e + j ≤ m
    → nat_abs (get_or (puts (S.fresh o) cs) m (pos 0) -ℤ new k.t (after o cs).s m) ≤ B

pub record OwnLiterals (o : Opening) (cs : List Call) : Type 0 where
  -- every delay: 2 from Na 16 in order 1 (24 in `Literals`), from 42 in order 2 (48), from 69 in order 3 (72),
  -- where the greatest advance gives 6 (12), and 2 from 5 samples after the change on (8)
  pub order_1_na_16 : Differs o cs 1 16 0 2
  pub order_2_na_42 : Differs o cs 2 42 0 2
  pub order_3_after_69 : Differs o cs 3 69 0 2
  pub order_3_na_64 : Differs o cs 3 64 0 6
  pub order_3_na_64_after_5 : Differs o cs 3 64 5 2
  -- 3,949 of the 4,096 delays of order 3: 2 at the greatest advance
  pub order_3_most_na_64 : DiffersIn o cs 3 10388 14336 64 0 2
  -- C4, E4 and A4 in order 3, at 44,100 samples a second
  pub c4 : DiffersIn o cs 3 12540 12540 18 0 2
  pub e4 : DiffersIn o cs 3 13465 13465 39 0 2
  pub a4 : DiffersIn o cs 3 11171 11171 39 0 2
  -- where D is the order all coefficients are 0, and as many samples as the order leave no difference
  pub whole_1 : DiffersIn o cs 1 4096 4096 1 0 0
  pub whole_2 : DiffersIn o cs 2 8192 8192 2 0 0
  pub whole_3 : DiffersIn o cs 3 12288 12288 3 0 0
