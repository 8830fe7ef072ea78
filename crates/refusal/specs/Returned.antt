-- Demand 1 of a call with the tests ls: each number is returned if and only if its condition holds and no
-- earlier one does. proofs/Returned.antt has it of every list of different numbers above 0. Assumes nothing.
use Rattle.std.specs.Prelude.{◌≡◌, Bool, true, not, ◌&&◌, ◌↔◌, List, [], ◌∷◌, ◌++◌, ℕ, ◌≤◌, T, ltb, eqb}
use Rattle.refusal.specs.Limits.{Limit, refusal}

-- the value is within its limits
pub record Kept (l : Limit) : Type 0 where
  pub least : l.low ≤ l.value
  pub most : l.value ≤ l.high

-- each value of the list is
pub data AllKept : List Limit → Type 0 where
  none : AllKept []
  more : {l : Limit} {ls : List Limit} → Kept l → AllKept ls → AllKept (l ∷ ls)

-- the number of any test l of the list, and success
pub record Returned (ls : List Limit) : Type 0 where
  pub refused : (pre post : List Limit) (l : Limit) → ls ≡ pre ++ l ∷ post
      → (refusal ls ≡ l.number) ↔ (AllKept pre × (Kept l → ⊥))
  pub accepted : (refusal ls ≡ 0) ↔ AllKept ls

-- the numbers of a list are above 0 and differ from each other: a test that is computed
abbrev pub absent : ℕ → List Limit → Bool
absent n [] = true
absent n (l ∷ ls) = not (eqb n l.number) && absent n ls

abbrev pub numbered : List Limit → Bool
numbered [] = true
numbered (l ∷ ls) = ltb 0 l.number && (absent l.number ls && numbered ls)

-- r is what the tests ls and then l give, where n is what ls give
abbrev pub Tests : ℕ → Limit → ℕ → Type 0
Tests n l r = (ls : List Limit) → T (numbered ls) → n ≡ refusal ls → r ≡ refusal (ls ++ l ∷ [])
