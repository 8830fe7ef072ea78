-- Demand 3 of `perform`: the click figure holds of the samples in the lent output afterwards, for every
-- opening and every list of calls in words. proofs/Clicks.antt proves it. Assumes nothing.
use Rattle.std.specs.Prelude.{◌≡◌, true, List, ℕ, ℤ, length}
use Rattle.rule.specs.Calls.{Opening}
use Rattle.rule.specs.Click.{ClickFigure}
use Rattle.rule.specs.OwnFigure.{OwnClickFigure}
use Rattle.list.specs.Words.{calls, formed}
use Rattle.list.specs.Performed.{output_after}

-- ws are the words, xs the input, before the lent output as it came, and places how many numbers have room
abbrev pub Clicks : Opening → List ℕ → List ℤ → ℕ → List ℤ → Type 0
Clicks o ws xs places before =
    formed ws (length xs) (length before) places ≡ true
    → ClickFigure o (calls ws xs) (output_after o ws xs places before)

-- and the figure with the tuning's own coefficients
abbrev pub OwnClicks : Opening → List ℕ → List ℤ → ℕ → List ℤ → Type 0
OwnClicks o ws xs places before =
    formed ws (length xs) (length before) places ≡ true
    → OwnClickFigure o (calls ws xs) (output_after o ws xs places before)
