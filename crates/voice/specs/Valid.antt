-- The invariant of a voice, which Open gives and each call hands on, refused or not: all that a call requires.
-- Definitions alone. Assumes nothing.
use Rattle.std.specs.Prelude.{◌≡◌, List, ℕ, ◌*◌, ◌≤◌, ◌<◌, ◌^◌, ℤ, nat_abs}
use Rattle.integer.specs.Rounding.{M}
use Rattle.refusal.specs.Orders.{longest, most_loss, most_advance, Takes}
use Rattle.thiran.specs.Coefficients.{coefficients}
use Rattle.thiran.specs.Answers.{padded}
use Rattle.allpass.specs.Bounds.{Within}
use Rattle.allpass.specs.Stored.{stored}
use Rattle.line.specs.Ring.{ring}
use Rattle.rule.specs.Voice.{announced}
use Rattle.voice.specs.declared.Filter.{Filter}
use Rattle.voice.specs.declared.Waiting.{Waiting}
use Rattle.voice.specs.declared.Kind.{Kind}
use Rattle.voice.specs.declared.Waiting.TheVariants.{Idle, Prepared}
use Rattle.voice.specs.declared.Pluck.{Pluck}
use Rattle.voice.specs.declared.Head.{Head}
use Rattle.voice.specs.Struct.{kind_of, filter_of}

-- a filter: its tuning within the limits, its coefficients those of its tuning, its state within 2M and
-- 0 past the order
pub record Tuned (f : Filter) : Type 0 where
  pub takes : Takes f.tuning.order f.tuning.delay
  pub short : 1 ≤ f.tuning.length
  pub long : f.tuning.length ≤ longest
  pub coefficients_are : f.coefficients ≡ padded (coefficients f.tuning.order f.tuning.delay)
  pub past : f.state ≡ stored (filter_of f)
  pub within : Within (2 * M) (filter_of f)

-- a waiting change: its filter, of any order, has taken no more samples than the advance as they are counted,
-- and fewer where it was announced
pub record Preparing (advance : ℕ) (kind : Kind) (e : Filter) (taken : ℕ) : Type 0 where
  pub tuned : Tuned e
  pub counted : taken ≤ advance
  pub early : kind_of kind ≡ announced → taken < advance

abbrev pub Waiting-valid : ℕ → Waiting → Type 0
Waiting-valid advance Idle = Unit {0}
Waiting-valid advance (Prepared k e n) = Preparing advance k e n

-- a pluck, all 0 where no step is left
pub record Plucked (p : Pluck) : Type 0 where
  pub amplitude : p.amplitude ≤ 255
  pub left : p.left ≤ 2048
  pub noise : p.noise < 2 ^ 32
  pub none_left : p.left ≡ 0 → (p.amplitude ≡ 0) × (p.noise ≡ 0)

-- a head
pub record Fit (h : Head) : Type 0 where
  pub filter : Tuned h.filter
  pub loss : h.loss ≤ most_loss
  pub advance : h.advance ≤ most_advance
  pub last : nat_abs h.last.n ≤ M
  pub waiting : Waiting-valid h.advance h.waiting
  pub pluck : Plucked h.pluck
  pub at : h.at < 2112

-- a head and its line
pub record Valid (h : Head) (l : List ℤ) : Type 0 where
  pub fit : Fit h
  pub line : Within M (ring h.at l)
