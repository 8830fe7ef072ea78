-- What `gather` returns, byte by byte: of `gathered`, which its contract says it returns. Document 02, L8.
-- Statements alone: proofs/Gathers.antt proves `Gathers`. Assumes nothing.
use Rattle.std.specs.Prelude.{◌≡◌, ◌↔◌, List, [], ◌∷◌, ℕ, ◌+◌, ◌*◌, ◌/◌, ◌%◌, ◌^◌, ◌≤◌, ◌<◌, length, get_or}
use Rattle.octets.specs.Octets.{gathered, sixteen}
use Rattle.octets.specs.Theorems.{Bytes}

-- byte k of a number, the lowest first
abbrev pub byte : ℕ → ℕ → ℕ
byte n k = n / 2 ^ (8 * k) % 256

pub record Gathers : Type 0 where
  -- "the number that the bytes there make, eight at most, the first lowest, missing ones 0"
  pub returned : (s : List ℕ) → Bytes s → (start n : ℕ)
      → (n ≡ gathered s start) ↔ ((n < 2 ^ 64) × ((k : ℕ) → k < 8 → byte n k ≡ get_or s (start + k) 0))
  -- at the end of the slice and past it, wherever that is
  pub past : (s : List ℕ) (start : ℕ) → length s ≤ start → gathered s start ≡ 0
  -- "16 bits of such a word": the two bytes that stand there, "low byte first"
  pub cut : (s : List ℕ) → Bytes s → (start k : ℕ) → k ≤ 6
      → sixteen (gathered s start) k ≡ get_or s (start + k) 0 + 256 * get_or s (start + k + 1) 0
  -- nine bytes, from each end
  pub first_eight : gathered (1 ∷ 2 ∷ 3 ∷ 4 ∷ 5 ∷ 6 ∷ 7 ∷ 8 ∷ 9 ∷ []) 0 ≡ 0x0807060504030201
  pub last_two : gathered (1 ∷ 2 ∷ 3 ∷ 4 ∷ 5 ∷ 6 ∷ 7 ∷ 8 ∷ 9 ∷ []) 7 ≡ 0x0908
  pub none : gathered (1 ∷ 2 ∷ 3 ∷ 4 ∷ 5 ∷ 6 ∷ 7 ∷ 8 ∷ 9 ∷ []) 18446744073709551615 ≡ 0
