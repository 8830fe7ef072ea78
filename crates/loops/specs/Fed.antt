-- What comes in at each sample of a buffer that is rendered in place: the numbers that it holds, or 0.
-- Definitions alone. Assumes nothing.
use Rattle.std.specs.Prelude.{Bool, true, false, List, [], ◌∷◌, ℕ, zero, suc, ℤ, pos, get_or}

-- b with 0 from place i on
abbrev pub cleared : ℕ → List ℤ → List ℤ
cleared i [] = []
cleared zero (x ∷ b) = pos 0 ∷ cleared zero b
cleared (suc i) (x ∷ b) = x ∷ cleared i b

-- the buffer b once i of its samples are rendered, with what is still to come in
abbrev pub fed_of : Bool → ℕ → List ℤ → List ℤ
fed_of true i b = b
fed_of false i b = cleared i b

-- what comes in at place i
abbrev pub input_of : Bool → List ℤ → ℕ → ℤ
input_of true b i = get_or b i (pos 0)
input_of false b i = pos 0
