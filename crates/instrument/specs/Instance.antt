-- Strings of orders 1, 2 and 3, opened at different moments, one loaded from what another stored, and one
-- that was silent, retune at one moment: the mix right after is within 2 + 2 + 12 + 2 + 0 of the ideal mix.
-- Document 02, L11. A statement alone: proofs/Instance.antt has it from `MixFigure`.
use Rattle.std.specs.Prelude.{◌≡◌, List, [], ◌∷◌, ◌++◌, ℕ, ◌≤◌, ℤ, pos, negsuc, nat_abs, ◌+ℤ◌, ◌-ℤ◌, get_or, replicate}
use Rattle.integer.specs.Rounding.{clip}
use Rattle.rule.specs.Voice.{Tuning, tuning}
use Rattle.rule.specs.Calls.{Call, Opening, block, instant}
use Rattle.rule.specs.History.{after, new}
use Rattle.rule.specs.State.{fresh, from}
use Rattle.form.specs.Parts.{stored}
use Rattle.instrument.specs.Strings.{opens, calls, load, Play, on, mix, Strings, silent, number, plays}
use Rattle.instrument.specs.Strings.{out}
use Rattle.instrument.specs.Mix.{put_in}

abbrev pub with_order : ℕ → ℕ → ℕ → Opening
with_order N L d = record { N = N; L = L; d = d; G = 60000; Na = 64 }

abbrev pub o₁ : Opening
o₁ = with_order 1 2 4096

abbrev pub o₂ : Opening
o₂ = with_order 2 1 8192

abbrev pub o₃ : Opening
o₃ = with_order 3 2 12288

abbrev pub t₁ : Tuning
t₁ = tuning 1 3 4500

abbrev pub t₂ : Tuning
t₂ = tuning 2 2 8692

abbrev pub t₃ : Tuning
t₃ = tuning 3 1 13000

-- ---- the inputs of the mixes
abbrev pub x₁ : List ℤ
x₁ = pos 1000000 ∷ []

abbrev pub x₂ : List ℤ
x₂ = negsuc 1999999 ∷ pos 7 ∷ []

abbrev pub x₃ : List ℤ
x₃ = pos 500000 ∷ []

abbrev pub zs : List ℤ
zs = replicate 70 (pos 0)

abbrev pub xs : List ℤ
xs = pos 5 ∷ pos 0 ∷ []

abbrev pub ps : List Play
ps =
    on 0 (opens o₁)
    ∷ mix x₁ 1
    ∷ on 3 (load (stored (from (fresh o₁) (block x₁ 1 ∷ []))))
    ∷ on 1 (opens o₂)
    ∷ mix x₂ 2
    ∷ on 2 (opens o₃)
    ∷ mix x₃ 1
    ∷ on 4 (opens o₁)
    ∷ mix zs 70
    ∷ on 0 (calls (instant t₁))
    ∷ on 1 (calls (instant t₂))
    ∷ on 2 (calls (instant t₃))
    ∷ on 3 (calls (instant t₁))
    ∷ on 4 (calls (instant t₁))
    ∷ []

-- ---- the shares of strings 0 to 4 after ps; string 3 goes on from what string 0 stored
abbrev pub cs₀ : List Call
cs₀ = block x₁ 1 ∷ block x₂ 2 ∷ block x₃ 1 ∷ block zs 70 ∷ instant t₁ ∷ []

abbrev pub cs₁ : List Call
cs₁ = block x₂ 2 ∷ block x₃ 1 ∷ block zs 70 ∷ instant t₂ ∷ []

abbrev pub cs₂ : List Call
cs₂ = block x₃ 1 ∷ block zs 70 ∷ instant t₃ ∷ []

abbrev pub cs₄ : List Call
cs₄ = block zs 70 ∷ instant t₁ ∷ []

-- what is written to a string's line, up to the end of the mix
abbrev pub line : Opening → List Call → List ℤ
line o cs = (after o (cs ++ block xs 2 ∷ [])).s

abbrev pub strings : Strings
strings = plays silent ps

pub record Instance : Type 0 where
  -- string 3 goes on from what string 0 stored: it has string 0's opening and calls
  pub resumed : strings 3 ≡ from (fresh o₁) cs₀
  pub accepted : number strings (mix xs 2) ≡ 0
  -- sample 1 of the mix: strings 0 and 3 are at their step 75, string 1 at 74, string 2 at 72, string 4 at
  -- 71; string 5 has no change in force and gives its own sample
  pub near :
      nat_abs
      (get_or (out strings (mix xs 2)) 1 (pos 0)
      -ℤ clip
      (pos 0
      +ℤ new t₁ (line o₁ cs₀) 75
      +ℤ new t₂ (line o₂ cs₁) 74
      +ℤ new t₃ (line o₃ cs₂) 72
      +ℤ new t₁ (line o₁ cs₀) 75
      +ℤ new t₁ (line o₁ cs₄) 71
      +ℤ put_in strings xs 2 1 5))
      ≤ 18
