-- L3: what a commit puts in force and by which number it is refused, from the calls between; that a withdrawn ask
-- leaves nothing behind; and that an announced change is an ask that commits itself. Statements alone:
-- proofs/Pedal, Withdrawn and Itself prove them.
use Rattle.std.specs.Prelude.{◌≡◌, ◌↔◌, List, [], ◌∷◌, ◌++◌, ℕ, ◌-◌, ◌/◌, ◌≤◌, ◌<◌, length}
use Rattle.rule.specs.Voice.{Tuning}
use Rattle.rule.specs.Calls.{Call, block, loss, pluck, prepare, announce, ask, instant, commit, withdraw}
use Rattle.rule.specs.Calls.{Opening, number}
use Rattle.rule.specs.History as H
use Rattle.rule.specs.History.{History, steps, after}
use Rattle.rule.specs.State as S
use Rattle.rule.specs.State.{State, puts}
use Rattle.rule.specs.Valid.{Whole}
use Rattle.rule.specs.Click.{figure, Change}
use Rattle.rule.specs.Demands.{Kept}

-- ---- the calls pre, an ask, and the calls mid, none of which ends it
module _ (o : Opening) (pre mid : List Call) (to : Tuning) where
  abbrev asked : History
  asked = after o pre

  abbrev now : History
  now = after o (pre ++ ask to ∷ mid)

  -- "the number of samples .. put out between asking and committing"
  abbrev pub between : ℕ
  between = steps now - steps asked

  pub record Pedal : Type 0 where
    -- "20 commit before Na samples were taken"
    pub early : (number now.voice commit ≡ 20) ↔ (between < now.voice.Na)
    pub accepted : (number now.voice commit ≡ 0) ↔ (now.voice.Na ≤ between)
    pub withdrawable : number now.voice withdraw ≡ 0
    -- the change that an accepted commit is: to what was asked for, by the samples put out between
    pub change : number now.voice commit ≡ 0
        → Change now commit to between (steps now)

  abbrev pub Pedals : Type 0
  Pedals = number asked.voice (ask to) ≡ 0 → Kept (H.call asked (ask to)) mid → Pedal

-- "so a late pedal only tightens it"
abbrev pub Tightens : Type 0
Tightens = (a b N : ℕ) → 0 < N → a ≤ b → figure (b / N) ≤ figure (a / N)

-- ---- "withdrawing drops it": no change and no ask is called between, and no commit there is accepted
abbrev pub Plain : State → Call → Type 0
Plain v (block xs n) = Unit {0}
Plain v (loss G) = Unit {0}
Plain v (pluck a n z) = Unit {0}
Plain v (prepare k to) = ⊥
Plain v (instant to) = ⊥
Plain v commit = number v.voice commit ≡ 0 → ⊥
Plain v withdraw = Unit {0}

-- of the calls cs, made from v on
abbrev pub AllPlain : State → List Call → Type 0
AllPlain v [] = Unit {0}
AllPlain v (c ∷ cs) = Plain v c × AllPlain (S.call v c) cs

-- an accepted ask and its withdrawal are taken out of a list: all outputs are equal, and so is the voice, line
-- and all. That the withdrawal is accepted need not be said: none before it is, or it was withdrawn already
pub record Withdrawn (o : Opening) (pre mid post : List Call) (to : Tuning) : Type 0 where
  pub outputs : puts (S.fresh o) (pre ++ ask to ∷ (mid ++ withdraw ∷ post))
      ≡ puts (S.fresh o) (pre ++ (mid ++ post))
  pub state : S.from (S.fresh o) (pre ++ ask to ∷ (mid ++ withdraw ∷ post))
      ≡ S.from (S.fresh o) (pre ++ (mid ++ post))

abbrev pub Withdraws : Opening → Type 0
Withdraws o =
    (pre mid post : List Call) (to : Tuning) → number (S.from (S.fresh o) pre).voice (ask to) ≡ 0
    → AllPlain (S.call (S.from (S.fresh o) pre) (ask to)) mid
    → Withdrawn o pre mid post to

-- ---- "An announced change acts as an ask that commits itself": no change and no ask is called between, and the
-- voice in which it was asked for accepts no commit and no withdrawal there
abbrev pub Still : State → Call → Type 0
Still v (block xs n) = Unit {0}
Still v (loss G) = Unit {0}
Still v (pluck a n z) = Unit {0}
Still v (prepare k to) = ⊥
Still v (instant to) = ⊥
Still v commit = number v.voice commit ≡ 0 → ⊥
Still v withdraw = number v.voice withdraw ≡ 0 → ⊥

abbrev pub AllStill : State → List Call → Type 0
AllStill v [] = Unit {0}
AllStill v (c ∷ cs) = Still v c × AllStill (S.call v c) cs

-- from any voice v within its limits: announced before mid, or asked for before mid and committed after it
module _ (v : State) (to : Tuning) (mid : List Call) where
  pub record Itself (post : List Call) : Type 0 where
    pub accepted : number (S.from (S.call v (ask to)) mid).voice commit ≡ 0
    pub outputs : puts v (announce to ∷ (mid ++ post)) ≡ puts v (ask to ∷ (mid ++ commit ∷ post))
    pub state : S.from v (announce to ∷ (mid ++ post)) ≡ S.from v (ask to ∷ (mid ++ commit ∷ post))

  -- the change is accepted, and mid puts out Na samples
  abbrev pub CommitsItself : Type 0
  CommitsItself =
      Whole v → number v.voice (announce to) ≡ 0 → AllStill (S.call v (ask to)) mid
      → length (puts v mid) ≡ v.voice.Na
      → (post : List Call) → Itself post
