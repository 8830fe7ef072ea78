-- The invariant of a head from outside: the limits of a voice's parts, in ≤, as document 02 has them for a
-- stored voice (L10). proofs/Limits.antt proves that they are `Fit`.
use Rattle.std.specs.Prelude.{◌≡◌, ◌↔◌, ℕ, ◌≤◌, ◌<◌, pos, nat_abs}
use Rattle.refusal.specs.Limits.{Between}
use Rattle.refusal.specs.Ranges.{InRange}
use Rattle.thiran.specs.Answers.{padded}
use Rattle.thiran.specs.Coefficients.{coefficients}
use Rattle.voice.specs.declared.Filter.{Filter}
use Rattle.voice.specs.declared.Kind.TheVariants.{Announced, Asked}
use Rattle.voice.specs.declared.Waiting.{Waiting}
use Rattle.voice.specs.declared.Waiting.TheVariants.{Idle, Prepared}
use Rattle.voice.specs.declared.Pluck.{Pluck}
use Rattle.voice.specs.declared.Head.{Head}
use Rattle.voice.specs.Valid.{Fit}

-- "Tuning is order, L, d; a state is v1, v2, v3, zero past the order"; "Each number of either state lies
-- within −2M to 2M"; the coefficients are those of the order and d
pub record FilterLimits (f : Filter) : Type 0 where
  pub delay : InRange f.tuning.order f.tuning.delay
  pub length : Between 1 f.tuning.length 2048
  pub coefficients_are : f.coefficients ≡ padded (coefficients f.tuning.order f.tuning.delay)
  pub v1 : nat_abs f.state.v1 ≤ 16777214
  pub v2 : nat_abs f.state.v2 ≤ 16777214
  pub v3 : nat_abs f.state.v3 ≤ 16777214
  pub second : f.tuning.order < 2 → f.state.v2 ≡ pos 0
  pub third : f.tuning.order < 3 → f.state.v3 ≡ pos 0

-- "samples taken (counted to Na, below it in kind 1)"
abbrev pub WaitingLimits : ℕ → Waiting → Type 0
WaitingLimits Na Idle = Unit {0}
WaitingLimits Na (Prepared Announced e taken) = FilterLimits e × (taken < Na)
WaitingLimits Na (Prepared Asked e taken) = FilterLimits e × (taken ≤ Na)

-- "a pluck is amplitude, steps left, noise state"; "no steps left, is all zeros"
pub record PluckLimits (p : Pluck) : Type 0 where
  pub amplitude : p.amplitude ≤ 255
  pub left : p.left ≤ 2048
  pub noise : p.noise ≤ 4294967295
  pub none_left : p.left ≡ 0 → (p.amplitude ≡ 0) × (p.noise ≡ 0)

-- a head, with the place in the line, which the stored form does not have
pub record Limits (h : Head) : Type 0 where
  pub filter : FilterLimits h.filter
  pub loss : h.loss ≤ 65535
  pub advance : h.advance ≤ 64
  pub last : nat_abs h.last.n ≤ 8388607
  pub waiting : WaitingLimits h.advance h.waiting
  pub pluck : PluckLimits h.pluck
  pub at : h.at < 2112

abbrev pub Bounds : Type 0
Bounds = (h : Head) → Limits h ↔ Fit h
