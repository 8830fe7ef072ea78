-- What the mix has of an input once the first strings have rendered it: sums not yet clipped. Definitions
-- alone.
use Rattle.std.specs.Prelude.{List, [], ◌∷◌, ℕ, ℤ, ◌+ℤ◌}
use Rattle.rule.specs.State.{step, sounds}
use Rattle.instrument.specs.Strings.{Strings, total}

-- two outputs added, sample by sample
abbrev pub plus : List ℤ → List ℤ → List ℤ
plus [] b = []
plus (x ∷ a) [] = x ∷ a
plus (x ∷ a) (y ∷ b) = (x +ℤ y) ∷ plus a b

-- the sums of the first n strings
abbrev pub sums : ℕ → Strings → List ℤ → List ℤ
sums n s [] = []
sums n s (x ∷ xs) = total (λ k. sounds (s k)) n ∷ sums n (λ k. step (s k) x) xs
