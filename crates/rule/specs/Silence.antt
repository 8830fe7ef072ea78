-- Silence, which document 02's L7 is after and does not ask to be shown: a voice that is quiet enough and gets
-- nothing more puts out zeros alone. Statements alone: proofs/Silence.antt proves `Silence`. Assumes nothing.
use Rattle.std.specs.Prelude.{◌≡◌, List, [], ◌∷◌, ◌++◌, ℕ, ◌+◌, ◌*◌, ◌≤◌, ◌<◌, pos, nat_abs, length, get_or, replicate}
use Rattle.std.proofs.Math.Option.{none}
use Rattle.integer.specs.Rounding.{M}
use Rattle.thiran.specs.Coefficients.{norm}
use Rattle.allpass.specs.Bounds.{Within}
use Rattle.rule.specs.Voice.{Tuning, A}
use Rattle.rule.specs.Calls.{Call, block, Opening}
use Rattle.rule.specs.State.{State, fresh, from, puts}

-- the line, the filter state and the last output are within B; no change waits, and no pluck is sounding
pub record Quiet (B : ℕ) (v : State) : Type 0 where
  pub line : Within B v.line
  pub state : Within B v.voice.state
  pub last : nat_abs v.voice.last ≤ B
  pub idle : v.voice.waiting ≡ none
  pub over : v.voice.pluck.left ≡ 0

-- blocks of zeros, accepted or not: b samples of input, and n lent for the output
pub data Zeros : List Call → Type 0 where
  end : Zeros []
  before : (b n : ℕ) {zs : List Call} → Zeros zs → Zeros (block (replicate b (pos 0)) n ∷ zs)

-- the list zs of calls, made after cs, puts out 0 from its sample k on
abbrev pub SilentFrom : ℕ → Opening → List Call → List Call → Type 0
SilentFrom k o cs zs =
    (m : ℕ) → length (puts (fresh o) cs) + k ≤ m → get_or (puts (fresh o) (cs ++ zs)) m (pos 0) ≡ pos 0

-- the tuning that a list of calls leaves in force
abbrev pub tuned : Opening → List Call → Tuning
tuned o cs = (from (fresh o) cs).voice.tuning

-- how many samples a voice within B takes: B times round the line, the filter and the loop's two outputs
abbrev pub fading : ℕ → Tuning → ℕ
fading B t = B * (t.L + t.N + 1)

pub record Silence (o : Opening) (cs zs : List Call) : Type 0 where
  -- every B such that B (|A1| + .. + |AN|) is below 65,536
  pub falls : (B : ℕ) → B ≤ M → norm (A (tuned o cs)) * B < 65536
      → Quiet B (from (fresh o) cs) → Zeros zs → SilentFrom (fading B (tuned o cs)) o cs zs
  -- which 2 is in every order, at every delay
  pub within_2 : Quiet 2 (from (fresh o) cs) → Zeros zs → SilentFrom (fading 2 (tuned o cs)) o cs zs
