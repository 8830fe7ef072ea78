-- What holds of every voice that calls reach: document 01's limits of its parts. Statements alone:
-- proofs/Opened, Voices and States show that Open gives it, and steps and calls keep it. Assumes nothing.
use Rattle.std.specs.Prelude.{◌≡◌, List, ℕ, ◌*◌, ◌≤◌, ◌<◌, ℤ, nat_abs, length}
use Rattle.std.proofs.Math.Option.{some}
use Rattle.integer.specs.Rounding.{M}
use Rattle.refusal.specs.Orders.{longest, most_loss, most_advance, Takes}
use Rattle.allpass.specs.Bounds.{Within}
use Rattle.rule.specs.Voice.{Tuning, announced, Waiting, Pluck, Voice, silent}
use Rattle.rule.specs.State.{State}

-- "A voice has N, a length L (1 to 2,048), d"
pub record Tunable (t : Tuning) : Type 0 where
  pub takes : Takes t.N t.d
  pub short : 1 ≤ t.L
  pub long : t.L ≤ longest

-- a state of a filter of order N; "|w| never passes 2M"
pub record Filled (N : ℕ) (v : List ℤ) : Type 0 where
  pub many : length v ≡ N
  pub within : Within (2 * M) v

-- what waits in a voice of advance Na: samples are counted up to Na, and with that many taken an announced
-- change would be in force
pub record Coming (Na : ℕ) (w : Waiting) : Type 0 where
  pub fit : Tunable w.tuning
  pub counted : w.taken ≤ Na
  pub early : w.kind ≡ announced → w.taken < Na
  pub state : Filled w.tuning.N w.state

-- "the rest of a pluck": all 0 where no step is left
pub record Plucked (p : Pluck) : Type 0 where
  pub amplitude : p.amplitude ≤ 255
  pub left : p.left ≤ 2048
  pub over : p.left ≡ 0 → p ≡ silent

pub record Valid (v : Voice) : Type 0 where
  pub fit : Tunable v.tuning
  pub loss : v.G ≤ most_loss
  pub advance : v.Na ≤ most_advance
  pub state : Filled v.tuning.N v.state
  pub last : nat_abs v.last ≤ M
  pub waiting : (w : Waiting) → v.waiting ≡ some w → Coming v.Na w
  pub pluck : Plucked v.pluck

-- all that the reader r reads are samples
abbrev pub Samples : (ℕ → ℤ) → Type 0
Samples r = (k : ℕ) → nat_abs (r k) ≤ M

-- with the line
pub record Whole (v : State) : Type 0 where
  pub voice : Valid v.voice
  pub many : length v.line ≡ 2112
  pub within : Within M v.line
