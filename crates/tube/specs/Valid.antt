-- The invariant of a junction, which opening gives and each call hands on, refused or not: all that a call
-- requires. Definitions alone.
use Rattle.std.specs.Prelude.{◌≡◌, [], ◌∷◌, ℕ, ◌*◌, ◌-◌, ◌≤◌, ◌<◌, ℤ, nat_abs, Option, Some, None}
use Rattle.integer.specs.Rounding.{M}
use Rattle.refusal.specs.Limits.{Between}
use Rattle.thiran.specs.Coefficients.{coefficients}
use Rattle.tube.specs.declared.filters.Filter.{Filter}
use Rattle.tube.specs.declared.filters.Filters.{Filters}
use Rattle.tube.specs.declared.filters.Pair.{Pair}
use Rattle.tube.specs.declared.Move.{Move}
use Rattle.tube.specs.declared.Junction.{Junction}

-- a filter of the delay d: its coefficient, and its state within 2M
pub record Tuned (d : ℕ) (f : Filter) : Type 0 where
  pub coefficient : f.a1 ∷ [] ≡ coefficients 1 d
  pub within : nat_abs f.v1 ≤ 2 * M

-- the filters of d: of d over a, of 8,192 − d over b
pub record Tunes (d : ℕ) (f : Filters) : Type 0 where
  pub delay : Between 2049 d 6143
  pub a : Tuned d f.a
  pub b : Tuned (8192 - d) f.b

pub record Samples (x : Pair) : Type 0 where
  pub a : nat_abs x.a.n ≤ M
  pub b : nat_abs x.b.n ≤ M

-- a move that waits has taken fewer inputs than the advance
pub record Early (advance d taken : ℕ) (f : Filters) : Type 0 where
  pub filters : Tunes d f
  pub early : taken < advance

abbrev pub Waits : ℕ → Option Move → Type 0
Waits advance None = Unit {0}
Waits advance (Some m) = Early advance m.d m.taken m.filters

pub record Valid (j : Junction) : Type 0 where
  pub r : nat_abs j.r.n ≤ 32767
  pub filters : Tunes j.d j.filters
  pub advance : j.advance ≤ 64
  pub last : Samples j.last
  pub waiting : Waits j.advance j.waiting

-- ---- of parts of a call
-- a junction at rest can be made of these
pub record Opens (r : ℤ) (d advance : ℕ) : Type 0 where
  pub small : nat_abs r ≤ 32767
  pub delay : Between 2049 d 6143
  pub advance_small : advance ≤ 64

-- a move whose eliminators have taken no more inputs than the advance
pub record Due (advance d taken : ℕ) (f : Filters) : Type 0 where
  pub filters : Tunes d f
  pub counted : taken ≤ advance

abbrev pub Counts : ℕ → Option Move → Type 0
Counts advance None = Unit {0}
Counts advance (Some m) = Due advance m.d m.taken m.filters

-- a filter that can take x
pub record Feeds (f : Filter) (x : ℤ) : Type 0 where
  pub small : nat_abs f.a1 ≤ 32768
  pub within : nat_abs f.v1 ≤ 2 * M
  pub sample : nat_abs x ≤ M

abbrev pub FeedsBoth : Filters → Pair → Type 0
FeedsBoth f x = Feeds f.a x.a.n × Feeds f.b x.b.n
