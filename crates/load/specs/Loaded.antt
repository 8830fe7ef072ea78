-- What `load` and `panel` return and leave: document 02, L10. Definitions alone.
use Rattle.std.specs.Prelude.{◌≡◌, List, ℕ, ℤ, Result, Ok, Err}
use Rattle.refusal.specs.declared.Refusal.{Refusal}
use Rattle.refusal.specs.Numbers.{number_of, code_of}
use Rattle.form.specs.Numbers.{state_of as state_of_numbers}
use Rattle.form.specs.Loads.{loads, panel}
use Rattle.voice.specs.Struct.{state_of, tuning_of, voice_of}
use Rattle.voice.specs.Valid.{Tuned, Fit, Valid}
use Rattle.rule.specs.Voice.{Tuning}
use Rattle.allpass.specs.declared.State.{State as Three}
use Rattle.voice.specs.declared.Filter.{Filter}
use Rattle.voice.specs.declared.Head.{Head}
use Rattle.voice.specs.Called.{Answer}
use Rattle.load.specs.declared.words.Words.{Words}
use Rattle.load.specs.declared.Loaded.{Loaded}
use Rattle.load.specs.declared.Shown.{Shown as Numbers}
use Rattle.load.specs.Words.{numbers_of}

-- a filter of a tuning in a state
pub record Makes (t : Tuning) (v : Three) (f : Filter) : Type 0 where
  pub tuning : tuning_of f.tuning ≡ t
  pub state : f.state ≡ v
  pub tuned : Tuned f

-- the head of the numbers w
pub record Builds (w : Words) (h : Head) : Type 0 where
  pub voice : (l : List ℤ) → voice_of h ≡ (state_of_numbers (numbers_of w l)).voice
  pub fit : Fit h
  pub place : h.at ≡ 0

abbrev pub loaded : Loaded → Answer
loaded r = record { refusal = code_of r.answer; head = r.head }

-- "Nothing is loaded: Open's refusal voice comes back" is in `loads`
pub record Loads (s : List ℕ) (r : Answer) (l : List ℤ) : Type 0 where
  pub number : r.refusal ≡ (loads s).refusal
  pub state : state_of r.head l ≡ (loads s).state
  pub valid : Valid r.head l

-- what the panel returns and shows: refused, the numbers of Open's refusal voice
pub record Shown : Type 0 where
  pub refusal : ℕ
  pub length : ℕ
  pub delay : ℕ
  pub loss : ℕ

abbrev pub shown : Result Numbers Refusal → Shown
shown (Ok n) = record { refusal = 0; length = n.length; delay = n.delay; loss = n.loss }
shown (Err r) = record { refusal = number_of r; length = 1; delay = 4096; loss = 0 }

pub record Shows (s : List ℕ) (r : Shown) : Type 0 where
  pub number : r.refusal ≡ (panel s).refusal
  pub L : r.length ≡ (panel s).L
  pub d : r.delay ≡ (panel s).d
  pub G : r.loss ≡ (panel s).G
