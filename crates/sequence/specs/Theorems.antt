-- Frames and events are calls on an instrument, so a string's share goes on over them, and the click figure
-- holds. Document 02, L13. Statements alone: proofs/Theorems.antt proves them.
use Rattle.std.specs.Prelude.{◌≡◌, List, [], ◌∷◌, ◌++◌, ℕ, Float}
use Rattle.rule.specs.Calls.{Call, block, Opening}
use Rattle.floats.specs.Sample.{enters}
use Rattle.instrument.specs.Strings.{silent, plays, Strings}
use Rattle.instrument.specs.Share.{Share}
use Rattle.instrument.specs.Mix.{Member}
use Rattle.events.specs.declared.Event.{Event}
use Rattle.events.specs.Events as E
use Rattle.events.specs.Events.{call_of}
use Rattle.host.specs.Frames.{frame_number, frame_out}
use Rattle.host.specs.Figures.{SideFigures}
use Rattle.sequence.specs.Sequence.{Host, frame, event, host_after, made}

pub record Sequences : Type 0 where
  -- a list leaves what its calls on the instrument leave
  pub states : (s : Strings) (hs : List Host) (j : ℕ) → host_after s hs j ≡ plays s (made s hs) j
  -- an accepted event joins its string's share as an announced change, or a loss
  pub events : (hs : List Host) (k : ℕ) (e : Event) (o : Opening) (cs : List Call)
      → E.number (host_after silent hs) k e ≡ 0 → Share k (made silent hs) o cs
      → Share k (made silent (hs ++ event k e ∷ [])) o (cs ++ call_of (host_after silent hs k) e ∷ [])
  -- an accepted frame joins every string's, as a block of its one sample
  pub frames : (hs : List Host) (x : Float) (k : ℕ) (o : Opening) (cs : List Call)
      → frame_number x ≡ 0 → Share k (made silent hs) o cs
      → Share k (made silent (hs ++ frame x ∷ [])) o (cs ++ block ((enters x).n ∷ []) 1 ∷ [])
  -- so the click figure holds of each side of a frame after any list
  pub figures : (hs : List Host) (x : Float) (K : (k : ℕ) → Member (made silent hs) ((enters x).n ∷ []) 1 0 k)
      → frame_number x ≡ 0
      → SideFigures (made silent hs) x K
      × (frame_out (host_after silent hs) x ≡ frame_out (plays silent (made silent hs)) x)
