-- What each call on a voice, refused or not, and each part of one returns and leaves, in the rule's terms.
-- Definitions alone. Assumes nothing.
use Rattle.std.specs.Prelude.{◌≡◌, cond, List, ℕ, eqb, ℤ, Result, Ok, Err}
use Rattle.refusal.specs.declared.Refusal.{Refusal}
use Rattle.refusal.specs.Numbers.{number_of}
use Rattle.allpass.specs.Allpass.{rest}
use Rattle.rule.specs.Calls.{Call, number}
use Rattle.rule.specs.State.{call, put}
use Rattle.voice.specs.declared.Filter.{Filter}
use Rattle.voice.specs.declared.Head.{Head}
use Rattle.voice.specs.Struct.{filter_of, voice_of, state_of}
use Rattle.voice.specs.Valid.{Tuned, Fit, Valid}

-- what a call returns by number and the head that it leaves
pub record Answer : Type 0 where
  pub refusal : ℕ
  pub head : Head

-- the same of a call that gives a head where it is accepted: a refused one leaves the head as it was
abbrev pub answered : Head → Result Head Refusal → Answer
answered h (Ok k) = record { refusal = 0; head = k }
answered h (Err r) = record { refusal = number_of r; head = h }

-- r is the filter of a tuning, at rest
pub record Rests (N L d : ℕ) (r : Filter) : Type 0 where
  pub tuning : r.tuning ≡ record { order = N; length = L; delay = d }
  pub state : filter_of r ≡ rest N
  pub tuned : Tuned r

-- a call that neither reads nor writes the line: on whatever line
pub record Called (h : Head) (c : Call) (r : Answer) : Type 0 where
  pub number : r.refusal ≡ number (voice_of h) c
  pub state : (l : List ℤ) → state_of r.head l ≡ call (state_of h l) c
  pub fit : Fit r.head
  pub place : r.head.at ≡ h.at

-- a call on the line l that leaves the line k
pub record On (h : Head) (l : List ℤ) (c : Call) (r : Answer) (k : List ℤ) : Type 0 where
  pub number : r.refusal ≡ number (voice_of h) c
  pub state : state_of r.head k ≡ call (state_of h l) c
  pub valid : Valid r.head k

-- a lent output afterwards: what the call put out, and untouched where it was refused
abbrev pub lent : Head → List ℤ → Call → List ℤ → List ℤ
lent h l c before = cond (eqb (number (voice_of h) c) 0) (put (state_of h l) c) before
