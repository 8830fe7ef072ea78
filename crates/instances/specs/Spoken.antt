-- Demand 3 speaks of every sample and of one change at a time, at a list with two changes before one step;
-- as many samples of a list by two voices; a late pedal.
-- Statements alone: proofs/Spoken.antt has them from crate rule's theorems.
use Rattle.std.specs.Prelude.{◌≡◌, List, [], ◌∷◌, ◌++◌, ℕ, ◌/◌, ◌≤◌, ℤ, pos, negsuc, length, get_or, replicate}
use Rattle.rule.specs.Voice.{Tuning, tuning}
use Rattle.rule.specs.Calls.{Opening, Call, block, ask, instant, commit, opened}
use Rattle.rule.specs.History.{fresh, after, new}
use Rattle.rule.specs.State as S
use Rattle.rule.specs.State.{State, from, puts, numbers}
use Rattle.rule.specs.Click.{figure, Figure}
use Rattle.rule.specs.Demands.{Rules}
use Rattle.instances.specs.Live as Live
use Rattle.instances.specs.Pedals as Pedals

-- ---- four samples, two instant changes, three samples:
-- "Where two have the same e, the one called later is in force"
abbrev pub o : Opening
o = record { N = 1; L = 1; d = 4500; G = 60000; Na = 2 }

abbrev pub earlier : Tuning
earlier = tuning 1 1 2500

abbrev pub later : Tuning
later = tuning 2 1 9159

abbrev pub four : List Call
four = block (pos 1000000 ∷ negsuc 499999 ∷ pos 300000 ∷ pos 0 ∷ []) 4 ∷ []

abbrev pub pre : List Call
pre = four ++ instant earlier ∷ []

abbrev pub three : List Call
three = block (replicate 3 (pos 0)) 3 ∷ []

abbrev pub cs : List Call
cs = pre ++ instant later ∷ three

abbrev pub y : List ℤ
y = puts (S.fresh o) cs

-- the line, as the list leaves it
abbrev pub s : List ℤ
s = (after o cs).s

pub record Speaking : Type 0 where
  -- step 3, before the changes: the sample is the opening filter's
  pub exactly : get_or y 3 (pos 0) ≡ new (opened o).tuning s 3
  pub opening : get_or y 3 (pos 0) ≡ negsuc 508548
  -- step 5, after them: the figure of the later one, whose second copy took two samples
  pub figured : Figure y s later 2 4 5
  pub voice : get_or y 5 (pos 0) ≡ pos 610010
  pub filter : new later s 5 ≡ pos 610456

-- the later change is in force at step 5, and no other: the earlier one is not
pub record Ruling : Type 0 where
  pub rules : Rules 5 (fresh o) cs pre (instant later) three
  pub only : (ds post : List Call) (c : Call) → Rules 5 (fresh o) cs ds c post → ds ≡ pre
  pub not_earlier : (post : List Call) → Rules 5 (fresh o) cs four (instant earlier) post → ⊥

-- ---- a voice that accepts the commit, and one that refuses it: both put out two samples, and refuse the last block
abbrev pub waiting : State
waiting = from (S.fresh Pedals.o) (Pedals.pre ++ ask Pedals.t ∷ Pedals.three)

abbrev pub calls : List Call
calls = commit ∷ block (pos 5 ∷ negsuc 6 ∷ []) 2 ∷ block (pos 0 ∷ []) 2 ∷ []

pub record Many : Type 0 where
  pub accepted : numbers waiting calls ≡ 0 ∷ 0 ∷ 9 ∷ []
  pub refused : numbers Live.stored calls ≡ 21 ∷ 0 ∷ 9 ∷ []
  pub two : length (puts waiting calls) ≡ 2
  pub as_many : length (puts Live.stored calls) ≡ 2

-- ---- "so a late pedal only tightens it": order 3, from 64 samples to 75, and order 2, where one more changes nothing
pub record Late : Type 0 where
  pub tighter : figure (75 / 3) ≤ figure (64 / 3)
  pub alike : figure (7 / 2) ≤ figure (6 / 2)
  pub after_64 : figure (64 / 3) ≡ 12
  pub after_75 : figure (75 / 3) ≡ 2
