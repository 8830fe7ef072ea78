-- The kept voice at literal words: the calls of specs/Chain.antt as a host makes them on 27 words and a line, and how
-- long changes wait. Statements alone: proofs/Kept.antt has them from crate kept's theorems.
use Rattle.std.specs.Prelude.{◌≡◌, List, [], ◌∷◌, ◌++◌, ℕ, ◌<◌, ℤ, pos, negsuc, replicate}
use Rattle.rule.specs.Calls.{ask, commit, number}
use Rattle.rule.specs.History.{after}
use Rattle.rule.specs.State.{State, fresh, from, block_after, puts, numbers, counts}
use Rattle.rule.specs.Click.{Figure}
use Rattle.rule.specs.OwnFigure.{OwnFigure}
use Rattle.voice.specs.declared.Head.{Head}
use Rattle.voice.specs.declared.Kind.TheVariants.{Announced}
use Rattle.voice.specs.declared.Waiting.TheVariants.{Prepared}
use Rattle.voice.specs.Struct.{voice_of, state_of}
use Rattle.voice.specs.Valid.{Fit, Valid}
use Rattle.packed.specs.Words.{head_of}
use Rattle.kept.specs.Since.{Since}
use Rattle.kept.specs.Awaited.{awaited}
use Rattle.instances.specs.Chain.{o, t, cs, codes, runs, samples, line, filter}
use Rattle.instances.specs.Pedals as Pedals

-- ---- order 1, length 1 and Na 1, with the delay, A1 and v1, the loss, the last output and the place: a signed number
-- stands 2,147,483,648 higher, and the words 13 to 22 are of what waits, which is nothing
abbrev pub words : ℕ → ℕ → ℕ → ℕ → ℕ → ℕ → List ℕ
words d A v G y at =
    1 ∷ 1 ∷ d ∷ A ∷ 2147483648 ∷ 2147483648 ∷ v ∷ 2147483648 ∷ 2147483648 ∷ G ∷ 1 ∷ y ∷ 0 ∷ 9 ∷ 9 ∷ 9 ∷ 9 ∷ 9 ∷ 9
    ∷ 9 ∷ 9 ∷ 9 ∷ 9 ∷ 0 ∷ 0 ∷ 0 ∷ at ∷ []

-- what the calls leave: A1 21,831, v1 666,549, the last output −277,963
abbrev pub left : List ℕ
left = words 2049 2147505479 2148150197 60000 2147205685 4

pub record Hosting : Type 0 where
  pub since : Since o cs codes runs samples left line
  pub returned : codes ≡ numbers (fresh o) cs
  pub counted : runs ≡ counts (fresh o) cs
  pub heard : samples ≡ puts (fresh o) cs
  pub state : state_of (head_of left) line ≡ from (fresh o) cs
  pub valid : Valid (head_of left) line
  -- at step 3, before which the change took effect; its A1 is 21,831
  pub figure : Figure samples (after o cs).s t 1 3 3
  pub own_figure_lem : OwnFigure 21831 samples (after o cs).s t 1 3 3

-- ---- asked for with Na 3
abbrev pub start : State
start = from (fresh Pedals.o) (Pedals.pre ++ ask Pedals.t ∷ [])

abbrev pub later : List ℤ → State
later xs = block_after start xs

abbrev pub two : List ℤ
two = pos 5 ∷ negsuc 6 ∷ []

abbrev pub five : List ℤ
five = two ++ replicate 3 (pos 0)

-- announced with Na 3, one sample taken
abbrev pub announcing : Head
announcing = record {
  filter = filter 4096 (pos 0) (pos 0);
  loss = 60000;
  advance = 3;
  last = record { n = pos 7 };
  waiting = Prepared Announced (filter 2049 (pos 21831) (pos 666549)) 1;
  pluck = record { amplitude = 0; left = 0; noise = 0 };
  at = 5;
}

pub record Awaiting : Type 0 where
  pub at_first : awaited start.voice ≡ 3
  -- two samples later one is left, and five later none
  pub one : awaited (later two).voice ≡ 1
  pub none : awaited (later five).voice ≡ 0
  pub early : number (later two).voice commit ≡ 0 → ⊥
  pub accepted : number (later five).voice commit ≡ 0
  pub fit : Fit announcing
  pub announced : 0 < awaited (voice_of announcing)
  pub lacks : awaited (voice_of announcing) ≡ 2
