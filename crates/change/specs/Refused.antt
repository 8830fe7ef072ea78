-- What a change is refused by, in the sample rule's terms.
-- Definitions alone. Assumes nothing.
use Rattle.std.specs.Prelude.{◌≡◌, ℕ, ◌≤◌}
use Rattle.refusal.specs.Limits.{refusal}
use Rattle.refusal.specs.Orders.{Takes}
use Rattle.rule.specs.Voice.{tuning}
use Rattle.rule.specs.Calls.{change_limits}
use Rattle.voice.specs.declared.Head.{Head}
use Rattle.voice.specs.Struct.{voice_of}

-- r is what a change is refused by; the tuning of one that is not is within its limits
pub record RefusedBy (h : Head) (N L d r : ℕ) : Type 0 where
  pub number : r ≡ refusal (change_limits (voice_of h) (tuning N L d))
  pub within : r ≡ 0 → Takes N d × (1 ≤ L) × (L ≤ 2048)
