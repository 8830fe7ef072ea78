-- What is left of a text behind some of its bytes, and behind its first word; and what its words spell.
-- Definitions alone.
use Rattle.std.specs.Prelude.{◌≡◌, List, [], ◌∷◌, ℕ, ◌-◌, ◌≤◌, length, take, drop, Option, Some, None}
use Rattle.words.specs.Words.{FirstWord}

-- t is what is left of s behind its first n bytes, for some n
abbrev pub Rest : List ℕ → List ℕ → Type 0
Rest s t = (n : ℕ) × (n ≤ length s) × (t ≡ drop n s)

-- w is the first word of s, from a up to e, and t is what stands behind it
pub data Split (s w t : List ℕ) : Type 0 where
  at : (a e : ℕ) → FirstWord s a e → w ≡ take (e - a) (drop a s) → t ≡ drop e s → Split s w t

-- no word is left
abbrev pub Ended : List ℕ → Type 0
Ended s = (t : List ℕ) × Split s [] t

-- the first word of s spells x, and t is what stands behind it
pub data Spelt {A : Type 0} (spells : List ℕ → Option A) (s : List ℕ) (x : A) (t : List ℕ) : Type 0 where
  word : {w : List ℕ} → Split s w t → spells w ≡ Some x → Spelt spells s x t

-- the first word of s spells nothing
pub data Misspelt {A : Type 0} (spells : List ℕ → Option A) (s : List ℕ) : Type 0 where
  other : {w t : List ℕ} → Split s w t → spells w ≡ None → Misspelt spells s

-- the words of s spell xs
pub data Spells {A : Type 0} (spells : List ℕ → Option A) : List ℕ → List A → Type 0 where
  none : {s : List ℕ} → Ended s → Spells spells s []
  more : {s t : List ℕ} {x : A} {xs : List A} → Spelt spells s x t → Spells spells t xs → Spells spells s (x ∷ xs)
