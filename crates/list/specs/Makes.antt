-- What a call that is no block returns and leaves, with the count that an instant change has.
-- Definitions alone.
use Rattle.std.specs.Prelude.{◌≡◌, List, ℤ, Result}
use Rattle.refusal.specs.declared.Refusal.{Refusal}
use Rattle.line.specs.Ring.{ring}
use Rattle.rule.specs.Calls.{Call, count}
use Rattle.rule.specs.State.{back}
use Rattle.voice.specs.declared.Head.{Head}
use Rattle.voice.specs.Struct.{voice_of}
use Rattle.voice.specs.Called.{On}
use Rattle.change.specs.declared.Changed.{Changed}
use Rattle.change.specs.Instantly.{changed_of, count_of}

-- the call c on a head and the line l, which it leaves as it was
pub record Makes (h : Head) (l : List ℤ) (c : Call) (r : Result Changed Refusal) : Type 0 where
  pub made : On h l c (changed_of h r) l
  pub count : count_of r ≡ count (voice_of h) (back (ring h.at l)) c
