-- What the tests of a state of an order, and of the numbers of a head, say. Definitions alone.
use Rattle.std.specs.Prelude.{cond, ℕ, ◌≤◌, ◌<◌, leb, nat_abs}
use Rattle.allpass.specs.declared.State.{State}
use Rattle.voice.specs.declared.Head.{Head}

-- the largest magnitude of the k-th number of a state: 0 past the order
abbrev pub most_of : ℕ → ℕ → ℕ
most_of N k = cond (leb k N) 16777214 0

pub record StateIn (N : ℕ) (v : State) : Type 0 where
  pub v1 : nat_abs v.v1 ≤ 16777214
  pub v2 : nat_abs v.v2 ≤ most_of N 2
  pub v3 : nat_abs v.v3 ≤ most_of N 3

-- the numbers of a head beside those of its filters and its pluck
pub record NumbersIn (h : Head) : Type 0 where
  pub loss : h.loss ≤ 65535
  pub advance : h.advance ≤ 64
  pub last : nat_abs h.last.n ≤ 8388607
  pub at : h.at < 2112
