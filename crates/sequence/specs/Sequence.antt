-- A host's calls in a list: frames, events, and calls on an instrument; the strings after them, and the calls
-- on the instrument that they are. Document 02, L13. Definitions alone.
use Rattle.std.specs.Prelude.{cond, List, [], ◌∷◌, ◌++◌, ℕ, eqb, Float}
use Rattle.instrument.specs.Strings.{Play, on, calls, Strings, play}
use Rattle.events.specs.declared.Event.{Event}
use Rattle.events.specs.Events.{call_of, leaves}
use Rattle.events.specs.Events as E
use Rattle.host.specs.Frames.{frame_number, one_sample, frame_leaves}

pub data Host : Type 0 where
  frame : Float → Host
  event : ℕ → Event → Host
  other : Play → Host

-- the strings after a call, and after a list
abbrev pub host_leaves : Strings → Host → Strings
host_leaves s (frame x) = frame_leaves s x
host_leaves s (event k e) = leaves s k e
host_leaves s (other p) = play s p

abbrev pub host_after : Strings → List Host → Strings
host_after s [] = s
host_after s (h ∷ hs) = host_after (host_leaves s h) hs

-- the calls on the instrument: a frame is "a block of one sample for each of them", an event "an announced
-- change, order kept," or "the loss call of one string"; none where it is refused
abbrev pub made_by : Strings → Host → List Play
made_by s (frame x) = cond (eqb (frame_number x) 0) (one_sample x ∷ []) []
made_by s (event k e) = cond (eqb (E.number s k e) 0) (on k (calls (call_of (s k) e)) ∷ []) []
made_by s (other p) = p ∷ []

abbrev pub made : Strings → List Host → List Play
made s [] = []
made s (h ∷ hs) = made_by s h ++ made (host_leaves s h) hs
