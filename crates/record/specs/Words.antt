-- "it shall gather up to eight at a time into one 64-bit word and cut fields from that": document 02, L8.
-- Definitions, and the law that these are the fields of Record.antt: proofs/Words.antt proves it. Assumes nothing.
use Rattle.std.specs.Prelude.{◌≡◌, cond, List, [], ◌∷◌, ℕ, ◌-◌, ◌≤◌, ◌<◌, ltb}
use Rattle.octets.specs.Octets.{gathered, sixteen}
use Rattle.octets.specs.Theorems.{Bytes}
use Rattle.record.specs.Record.{bit, before, map_of, present, field, read}

-- where the word begins that field k is cut from: wait, L, d and G take eight bytes at most behind the bit
-- map; amplitude, count and seed six, from the place of the amplitude on
abbrev pub from : ℕ → ℕ → ℕ
from map k = cond (ltb k 4) 1 (before map 4)

-- field k: 16 bits of that word, from the byte on that stands before it
unfoldable pub cut_field : List ℕ → ℕ → ℕ
cut_field s k =
    let map = map_of s in
    present (bit map k) (sixteen (gathered s (from map k)) (before map k - from map k))

abbrev pub cuts : List ℕ → List ℕ
cuts s =
    map_of s
    ∷ cut_field s 0
    ∷ cut_field s 1
    ∷ cut_field s 2
    ∷ cut_field s 3
    ∷ cut_field s 4
    ∷ cut_field s 5
    ∷ cut_field s 6
    ∷ []

-- the same from the bit map and the two words: field k is cut from a word w that begins at the place p
abbrev pub cut_from : ℕ → ℕ → ℕ → ℕ → ℕ
cut_from map w p k = present (bit map k) (sixteen w (before map k - p))

abbrev pub cuts_from : ℕ → ℕ → ℕ → List ℕ
cuts_from map w v =
    map
    ∷ cut_from map w 1 0
    ∷ cut_from map w 1 1
    ∷ cut_from map w 1 2
    ∷ cut_from map w 1 3
    ∷ cut_from map v (before map 4) 4
    ∷ cut_from map v (before map 4) 5
    ∷ cut_from map v (before map 4) 6
    ∷ []

-- "each field is shown to be 16 bits of such a word"
pub record FromWords (s : List ℕ) : Type 0 where
  pub within : (k : ℕ) → k < 7 → before (map_of s) k - from (map_of s) k ≤ 6
  pub same : (k : ℕ) → k < 7 → cut_field s k ≡ field s k
  pub all : cuts s ≡ read s

abbrev pub Words : Type 0
Words = (s : List ℕ) → Bytes s → FromWords s
