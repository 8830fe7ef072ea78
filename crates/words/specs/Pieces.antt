-- A text cut where a byte stands, as lines by a line feed, and a line without the carriage return that ends it.
-- What is claimed of the last, proofs/Cuts.antt proves, and of single lines from that.
use Rattle.std.specs.Prelude.{◌≡◌, if◌then◌else◌, List, [], ◌∷◌, ◌++◌, ℕ, zero, suc, ◌-◌, nat_eq, length, slice_index, take}
use Prim.Native.String.{String, len, char_at}
use Prim.Native.Char.{code}

-- the codes of n characters of a text, from place i on; of all of them
abbrev pub codes : ℕ → ℕ → String → List ℕ
codes zero i t = []
codes (suc n) i t = code (char_at t i) ∷ codes n (suc i) t

abbrev pub ascii : String → List ℕ
ascii t = codes (len t) 0 t

-- what stands before the first b, and what after it: all and nothing where there is no b
unfoldable pub cut : ℕ → List ℕ → List ℕ
cut b [] = []
cut b (x ∷ s) = if nat_eq x b then [] else x ∷ cut b s

unfoldable pub past : ℕ → List ℕ → List ℕ
past b [] = []
past b (x ∷ s) = if nat_eq x b then s else past b s

-- the pieces that b separates, from 0 on
unfoldable pub piece : ℕ → ℕ → List ℕ → List ℕ
piece b zero s = cut b s
piece b (suc k) s = piece b k (past b s)

-- a line without the carriage return that ends it, where one does
abbrev pub bare : List ℕ → List ℕ
bare s = if nat_eq (slice_index s (length s - 1)) 13 then take (length s - 1) s else s

-- whatever stands before it, a carriage return at the end goes, and no other byte does
pub record Bares : Type 0 where
  pub goes : (s : List ℕ) → bare (s ++ 13 ∷ []) ≡ s
  pub stays : (s : List ℕ) (b : ℕ) → (b ≡ 13 → ⊥) → bare (s ++ b ∷ []) ≡ s ++ b ∷ []
  pub empty : bare [] ≡ []

-- at lines: a carriage return at the end, one of two, one alone, one before the end, a line feed, nothing
pub record BareLines : Type 0 where
  pub last : bare (97 ∷ 98 ∷ 13 ∷ []) ≡ 97 ∷ 98 ∷ []
  pub one_of_two : bare (97 ∷ 13 ∷ 13 ∷ []) ≡ 97 ∷ 13 ∷ []
  pub alone : bare (13 ∷ []) ≡ []
  pub inside : bare (13 ∷ 97 ∷ []) ≡ 13 ∷ 97 ∷ []
  pub line_feed : bare (97 ∷ 13 ∷ 10 ∷ []) ≡ 97 ∷ 13 ∷ 10 ∷ []
  pub nothing : bare [] ≡ []
