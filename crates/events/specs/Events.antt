-- A host's event on one of six strings: document 02, L13. Definitions alone: specs/Theorems.antt says what an
-- accepted and a refused one leave.
use Rattle.std.specs.Prelude.{◌≡◌, cond, List, ℕ, ◌≤◌, eqb, ltb, ℤ}
use Rattle.rule.specs.Voice.{tuning}
use Rattle.rule.specs.Calls as C
use Rattle.rule.specs.Calls.{Call, announce}
use Rattle.rule.specs.State.{State}
use Rattle.instrument.specs.Strings.{Strings, on, calls, play}
use Rattle.instrument.specs.Strings as S
use Rattle.strings.specs.Rows.{strings_of, Voices}
use Rattle.floats.specs.Delay.{split}
use Rattle.floats.specs.Loss.{loss}
use Rattle.events.specs.declared.Event.{Event}
use Rattle.events.specs.declared.Event.TheVariants.{Delay, Loss}

-- "They act as an announced change, order kept, and the loss call of one string"
abbrev pub call_of : State → Event → Call
call_of v (Delay x) =
    let N = v.voice.tuning.N in
    announce (tuning N (split N x).length (split N x).delay)
call_of v (Loss x) = C.loss (loss x).g

-- "26 not a number or infinite; 27 .. a loss outside 0 to 1; a delay then meets 13": 0 where the float passes
abbrev pub float_number : State → Event → ℕ
float_number v (Delay x) = (split v.voice.tuning.N x).refusal
float_number v (Loss x) = (loss x).refusal

-- "Checks, after an event's 24": the float's, then those of the call, of which 6 can be met
unfoldable pub number : Strings → ℕ → Event → ℕ
number s k e =
    cond (ltb 5 k) 24
    (cond (eqb (float_number (s k) e) 0) (S.number s (on k (calls (call_of (s k) e)))) (float_number (s k) e))

-- "Nothing changes" where it is refused; else what the call leaves
unfoldable pub leaves : Strings → ℕ → Event → Strings
leaves s k e j =
    cond (ltb 5 k) (s j)
    (cond (eqb (float_number (s k) e) 0) (play s (on k (calls (call_of (s k) e))) j) (s j))

-- an event that returned n and left the words gs, on whatever lines
pub record Handled (hs : List (List ℕ)) (k : ℕ) (e : Event) (n : ℕ) (gs : List (List ℕ)) : Type 0 where
  pub number : (ls : List (List ℤ)) → n ≡ number (strings_of hs ls) k e
  pub states : (ls : List (List ℤ)) (j : ℕ) → j ≤ 5 → strings_of gs ls j ≡ leaves (strings_of hs ls) k e j
  pub voices : (ls : List (List ℤ)) → Voices hs ls → Voices gs ls
