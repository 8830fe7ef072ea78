-- What the parts of one sample make of the numbers read from the line, in the terms of the sample rule.
-- `q` reads the samples written so far: `q k` is s(n − k). Definitions alone. Assumes nothing.
use Rattle.std.specs.Prelude.{◌≡◌, List, ◌∷◌, ℕ, ◌≤◌, ◌<◌, ◌^◌, ℤ, pos, nat_abs, ◌+ℤ◌, ◌*ℤ◌, take}
use Rattle.integer.specs.Rounding.{M, clip}
use Rattle.integer.specs.Cut.{Q}
use Rattle.allpass.specs.Allpass.{next, out, run}
use Rattle.line.specs.Ring.{ring}
use Rattle.rule.specs.Voice.{A, noise, spent, fed_too, settled}
use Rattle.rule.specs.State as Rule
use Rattle.rule.specs.State.{back}
use Rattle.voice.specs.declared.Filter.{Filter}
use Rattle.voice.specs.declared.Waiting.{Waiting}
use Rattle.voice.specs.declared.Waiting.TheVariants.{Idle, Prepared}
use Rattle.voice.specs.declared.Pluck.{Pluck}
use Rattle.voice.specs.declared.Head.{Head}
use Rattle.step.specs.declared.filter.Heard.{Heard}
use Rattle.step.specs.declared.sound.Sounded.{Sounded}
use Rattle.step.specs.declared.feedback.Circulated.{Circulated}
use Rattle.step.specs.declared.Stepped.{Stepped}
use Rattle.voice.specs.Struct.{tuning_of, filter_of, waiting_of, pluck_of, voice_of, state_of}
use Rattle.voice.specs.Valid.{Tuned, Plucked, Fit, Valid}

-- a filter that took x
pub record Moved (f : Filter) (x : ℤ) (r : Filter) : Type 0 where
  pub tuning : r.tuning ≡ f.tuning
  pub state : filter_of r ≡ next (A (tuning_of f.tuning)) (filter_of f) x
  pub tuned : Tuned r

-- a filter that took the samples xs
pub record Ran (f : Filter) (xs : List ℤ) (r : Filter) : Type 0 where
  pub tuning : r.tuning ≡ f.tuning
  pub state : filter_of r ≡ run (A (tuning_of f.tuning)) (filter_of f) xs
  pub tuned : Tuned r

-- a filter that took x and gave an output
pub record Hears (f : Filter) (x : ℤ) (r : Heard) : Type 0 where
  pub y : r.y.n ≡ out (A (tuning_of f.tuning)) (filter_of f) x
  pub small : nat_abs r.y.n ≤ M
  pub moved : Moved f x r.filter

-- a pluck that gave its noise sample
pub record PluckSounds (p : Pluck) (r : Sounded) : Type 0 where
  pub value : r.noise.n ≡ noise (pluck_of p)
  pub small : nat_abs r.noise.n ≤ 2 ^ 23
  pub rest : pluck_of r.rest ≡ spent (pluck_of p)
  pub plucked : Plucked r.rest

-- g is what the eliminator reads, where a change waits
abbrev pub Reads : Waiting → (ℕ → ℤ) → ℤ → Type 0
Reads Idle q g = Unit {0}
Reads (Prepared k e n) q g = q e.tuning.length ≡ g

-- the length that the eliminator reads at; L where nothing waits
abbrev pub previewed : Waiting → ℕ → ℕ
previewed Idle L = L
previewed (Prepared k e n) L = e.tuning.length

-- a head whose filter took its sample, and the change w that waits, which took g
pub record Settles (h : Head) (w : Waiting) (g : ℤ) (r : Head) : Type 0 where
  pub voice : (q : ℕ → ℤ) → Reads w q g
      → voice_of r ≡ settled (voice_of h) (fed_too h.advance (waiting_of w) q)
  pub fit : Fit r
  pub place : r.at ≡ h.at

-- the loop on the line l, which it leaves as k: the filter f takes s(n − L), and s(n) is the newest sample
pub record Circulates (f : Filter) (G : ℕ) (last : ℤ) (at : ℕ) (l : List ℤ) (x noise : ℤ)
    (r : Circulated) (k : List ℤ) : Type 0 where
  pub hears : Hears f (back (ring at l) f.tuning.length) (record { y = r.y; filter = r.filter })
  pub place : r.at < 2112
  pub line : ring r.at k
      ≡ clip ((x +ℤ noise) +ℤ Q (pos G *ℤ (r.y.n +ℤ last))) ∷ take 2111 (ring at l)

-- a whole sample with input x on the line l, which it leaves as k
pub record Steps (h : Head) (l : List ℤ) (x : ℤ) (r : Stepped) (k : List ℤ) : Type 0 where
  pub y : r.y.n ≡ Rule.sounds (state_of h l)
  pub small : nat_abs r.y.n ≤ M
  pub state : state_of r.head k ≡ Rule.step (state_of h l) x
  pub valid : Valid r.head k
