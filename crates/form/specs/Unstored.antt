-- Bytes that pass the checks but that no voice stored: "Bytes that pass the checks but were stored by no voice reached
-- by calls from an Open .. have no such history, and until the next Open the figure is not claimed for what they load."
-- What is claimed of them, and an instance that shows why no more is. Document 02, L10.
-- Statements alone: proofs/Unstored.antt proves them.
use Rattle.std.specs.Prelude.{◌≡◌, List, [], ◌∷◌, ℕ, suc, min, ℤ, pos, ◌+ℤ◌, ◌*ℤ◌, take}
use Rattle.std.proofs.Math.Option.{none, some}
use Rattle.integer.specs.Rounding.{clip}
use Rattle.integer.specs.Cut.{cut}
use Rattle.octets.specs.Theorems.{Bytes}
use Rattle.allpass.specs.Allpass.{next, out}
use Rattle.rule.specs.Voice.{Tuning, tuning, announced, Waiting, A, noise, spent}
use Rattle.rule.specs.Calls.{Call, block, commit}
use Rattle.rule.specs.State.{State, back, step, sounds, from, puts, numbers}
use Rattle.rule.specs.History.{new}
use Rattle.rule.specs.Keeps.{InForce}
use Rattle.rule.specs.Valid.{Whole}
use Rattle.rule.specs.Refusals as Rule
use Rattle.rule.specs.Click.{Figure, figure}
use Rattle.form.specs.Loads.{loads}

-- ---- "One sample of the voice" (document 01), from the voice v, with the caller's input x
module _ (v : State) (x : ℤ) where
  -- the filter and the eliminator, when they have taken s(n − L) and s(n − L')
  abbrev filtered : List ℤ
  filtered = next (A v.voice.tuning) v.voice.state (back v.line v.voice.tuning.L)

  abbrev eliminated : Waiting → List ℤ
  eliminated w = next (A w.tuning) w.state (back v.line w.tuning.L)

  pub record Sample : Type 0 where
    -- "1. f = s(n − L). The filter gives the output y(n)"
    pub output : sounds v ≡ out (A v.voice.tuning) v.voice.state (back v.line v.voice.tuning.L)
    -- step 3, by L7: s(n) = clip(p(n) + G·(y(n) + y(n − 1))/131,072); "4. s(n) goes into the line"
    pub sample :
        (step v x).line
        ≡ clip ((x +ℤ noise v.voice.pluck) +ℤ cut (pos v.voice.G *ℤ (sounds v +ℤ v.voice.last)) 131072)
        ∷ take 2111 v.line
    pub kept : ((step v x).voice.G ≡ v.voice.G) × ((step v x).voice.Na ≡ v.voice.Na)
    pub last : (step v x).voice.last ≡ sounds v
    pub pluck : (step v x).voice.pluck ≡ spent v.voice.pluck
    pub idle : v.voice.waiting ≡ none → InForce (step v x).voice v.voice.tuning filtered none
    -- "2. If a change to L', d' waits, its eliminator takes s(n − L')"; L3: it "keeps running"
    pub waits : (w : Waiting) → v.voice.waiting ≡ some w → (w.kind ≡ announced → suc w.taken ≡ v.voice.Na → ⊥)
        → InForce (step v x).voice v.voice.tuning filtered
        (some (record {
          kind = w.kind;
          tuning = w.tuning;
          taken = min (suc w.taken) v.voice.Na;
          state = eliminated w;
        }))
    -- "4. .. If the eliminator has now taken Na samples, L', d' and its state replace the voice's"
    pub switches : (w : Waiting) → v.voice.waiting ≡ some w → w.kind ≡ announced → suc w.taken ≡ v.voice.Na
        → InForce (step v x).voice w.tuning (eliminated w) none

-- ---- what any bytes load, by a refusal too, and whatever calls follow
pub record Unstored : Type 0 where
  -- demand 1: the numbers of the calls, of this voice as of every other
  pub returns : Rule.Refuses
  -- the invariant
  pub whole : (s : List ℕ) → Bytes s → (cs : List Call) → Whole (from (loads s).state cs)
  -- the sample rule, from the loaded voice on
  pub samples : (s : List ℕ) → Bytes s → (cs : List Call) (x : ℤ) → Sample (from (loads s).state cs) x

-- ---- no figure: v1 = 2M over a line of zeros, the refusal voice in all else
abbrev pub loud_state : List ℕ
loud_state = 16 ∷ 254 ∷ 255 ∷ 255 ∷ 0 ∷ 0 ∷ 0 ∷ 0 ∷ 0 ∷ 0 ∷ 0 ∷ 0 ∷ 0 ∷ []

-- Na 24; an asked change to order 1, L 1, d 4,096 that has taken 24 samples and has v1 = 2M
abbrev pub loud_change : List ℕ
loud_change =
    36 ∷ 24 ∷ 0 ∷ 0 ∷ 0 ∷ 2 ∷ 0 ∷ 0 ∷ 0 ∷ 1 ∷ 0 ∷ 0 ∷ 0 ∷ 1 ∷ 0 ∷ 0 ∷ 0 ∷ 0 ∷ 16 ∷ 0 ∷ 0 ∷ 24 ∷ 0 ∷ 0 ∷ 0
    ∷ 254 ∷ 255 ∷ 255 ∷ 0 ∷ 0 ∷ 0 ∷ 0 ∷ 0 ∷ 0 ∷ 0 ∷ 0 ∷ 0 ∷ []

abbrev pub one : Tuning
one = tuning 1 1 4096

abbrev pub zero_in : List Call
zero_in = block (pos 0 ∷ []) 1 ∷ []

pub record NoFigure : Type 0 where
  -- both pass, and the next sample is M, where that of a filter from rest over zeros is 0
  pub state_passes : (loads loud_state).refusal ≡ 0
  pub state_sample : puts (loads loud_state).state zero_in ≡ pos 8388607 ∷ []
  pub change_passes : (loads loud_change).refusal ≡ 0
  pub change_numbers : numbers (loads loud_change).state (commit ∷ zero_in) ≡ 0 ∷ 0 ∷ []
  pub change_sample : puts (loads loud_change).state (commit ∷ zero_in) ≡ pos 8388607 ∷ []
  pub from_rest_lem : new one [] 0 ≡ pos 0
  -- so a change that took effect before step 0, with 24 samples taken, is not within its figure, which is 2
  pub claimed : figure 24 ≡ 2
  pub missed : Figure (puts (loads loud_change).state (commit ∷ zero_in)) [] one 24 0 0 → ⊥
