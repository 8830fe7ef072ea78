-- The click figure in literals, by itself, and for every opening and list: beside `Click`, so that no bound that is
-- met by everything can pass for it. Statements alone: proofs/Cover.antt and Literals.antt prove them.
use Rattle.std.specs.Prelude.{◌≡◌, List, [], ◌∷◌, map, ℕ, ◌+◌, ◌/◌, ◌≤◌, ◌<◌, pos, nat_abs, ◌-ℤ◌, get_or}
use Rattle.rule.specs.Calls.{Call, Opening}
use Rattle.rule.specs.History.{steps, fresh, after, new}
use Rattle.rule.specs.State.{puts}
use Rattle.rule.specs.State as S
use Rattle.rule.specs.Click.{figure}
use Rattle.rule.specs.Demands.{Rules}

-- "3 × 2^(23 − k), where .. k is at most 23, and .. 2 where k is larger": its ends
pub record FigureEnds : Type 0 where
  pub k_0 : figure 0 ≡ 25165824
  pub k_1 : figure 1 ≡ 12582912
  pub k_22 : figure 22 ≡ 6
  pub k_23 : figure 23 ≡ 3
  pub k_24 : figure 24 ≡ 2
  pub k_25 : figure 25 ≡ 2

-- the figure right after a change took effect, by the advance, in order N: docs/CLICK.md has these as a table
abbrev pub advances : ℕ → List ℕ
advances N = map (λ Na. figure (Na / N)) (0 ∷ 8 ∷ 16 ∷ 24 ∷ 32 ∷ 48 ∷ 64 ∷ [])

pub record FigureAdvances : Type 0 where
  pub order_1 : advances 1 ≡ 25165824 ∷ 98304 ∷ 384 ∷ 2 ∷ 2 ∷ 2 ∷ 2 ∷ []
  pub order_2 : advances 2 ≡ 25165824 ∷ 1572864 ∷ 98304 ∷ 6144 ∷ 384 ∷ 2 ∷ 2 ∷ []
  pub order_3 : advances 3 ≡ 25165824 ∷ 6291456 ∷ 786432 ∷ 98304 ∷ 24576 ∷ 384 ∷ 12 ∷ []

-- a change in order N whose eliminator took Na samples: each sample that comes j or more samples after it took effect, while
-- it is in force, differs from the new filter's by at most B
abbrev pub Differs : Opening → List Call → ℕ → ℕ → ℕ → ℕ → Type 0
Differs o cs N Na j B =
    (pre post : List Call) (c : Call) (m : ℕ) (k : Rules m (fresh o) cs pre c post)
    → m < steps (after o cs) → k.t.N ≡ N → k.a ≡ Na → k.e + j ≤ m
    → nat_abs (get_or (puts (S.fresh o) cs) m (pos 0) -ℤ new k.t (after o cs).s m) ≤ B

pub record Literals (o : Opening) (cs : List Call) : Type 0 where
  -- Na 64, the most there is: at most 2 in orders 1 and 2; in order 3, where k is 21, at most 12, and 2 from
  -- 8 samples after the change on
  pub order_1_na_64 : Differs o cs 1 64 0 2
  pub order_2_na_64 : Differs o cs 2 64 0 2
  pub order_3_na_64 : Differs o cs 3 64 0 12
  pub order_3_na_64_after_8 : Differs o cs 3 64 8 2
  -- L3: a commit so many samples after its ask, past 64 too
  pub order_1_after_100 : Differs o cs 1 100 0 2
  pub order_2_after_47 : Differs o cs 2 47 0 3
  pub order_3_after_72 : Differs o cs 3 72 0 2
  -- order 1
  pub order_1_na_24 : Differs o cs 1 24 0 2
  pub order_1_na_23 : Differs o cs 1 23 0 3
  pub order_1_na_22 : Differs o cs 1 22 0 6
  pub order_1_na_1 : Differs o cs 1 1 0 12582912
  -- order 2
  pub order_2_na_48 : Differs o cs 2 48 0 2
  pub order_2_na_46 : Differs o cs 2 46 0 3
  -- order 2 with no advance: from 46 samples after the change on
  pub order_2_na_0_after_46 : Differs o cs 2 0 46 3
  -- order 3 with no advance: from 69 and from 72 samples after the change on
  pub order_3_na_0_after_69 : Differs o cs 3 0 69 3
  pub order_3_na_0_after_72 : Differs o cs 3 0 72 2
