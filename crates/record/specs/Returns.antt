-- What `read_record` returns, in ≤, bits and bytes: of `fields` and `rest`, which its contract says it leaves
-- and hands back. Statements alone: proofs/Returns.antt proves `Returns`. Assumes nothing.
use Rattle.std.specs.Prelude.{◌≡◌, ◌↔◌, List, [], ◌∷◌, ℕ, ◌+◌, ◌*◌, ◌/◌, ◌%◌, ◌^◌, ◌≤◌, ◌<◌, length, get_or, drop}
use Rattle.record.specs.Record.{fields, rest}

-- bit k of the bit map m stands
abbrev pub Stands : ℕ → ℕ → Type 0
Stands m k = m / 2 ^ k % 2 ≡ 1

-- "15 bit 5 or 6 without 4, or bit 7 without 1 or 2"
pub data IllFormed (m : ℕ) : Type 0 where
  count : Stands m 5 → (Stands m 4 → ⊥) → IllFormed m
  seed : Stands m 6 → (Stands m 4 → ⊥) → IllFormed m
  instant : Stands m 7 → (Stands m 1 → ⊥) → (Stands m 2 → ⊥) → IllFormed m

-- "only the fields whose bit stands, .. each 16 bits": 2 bytes for each of the bits 0 to 6 that stand
abbrev pub field_bytes : ℕ → ℕ
field_bytes m = 2 * (m % 2 + m / 2 % 2 + m / 4 % 2 + m / 8 % 2 + m / 16 % 2 + m / 32 % 2 + m / 64 % 2)

-- v is the field of bit k: "low byte first" at the place at where the bit stands, and "0 where absent"
pub record Field (s : List ℕ) (m k at v : ℕ) : Type 0 where
  pub stands : Stands m k → v ≡ get_or s at 0 + 256 * get_or s (at + 1) 0
  pub absent : (Stands m k → ⊥) → v ≡ 0

-- reading the bytes m ∷ t leaves the numbers f and hands back the part r
module _ (m : ℕ) (t : List ℕ) where
  -- of a record that is accepted: "lowest bit first, .. bit 0 wait in samples; 1 L; 2 d; 3 G; 4 amplitude;
  -- 5 count; 6 seed", and "the part of the score after that record"
  pub record Accepted (f r : List ℕ) : Type 0 where
    pub many : length f ≡ 9
    pub map : get_or f 1 0 ≡ m
    pub wait : Field (m ∷ t) m 0 1 (get_or f 2 0)
    pub L : Field (m ∷ t) m 1 (1 + 2 * (m % 2)) (get_or f 3 0)
    pub d : Field (m ∷ t) m 2 (1 + 2 * (m % 2 + m / 2 % 2)) (get_or f 4 0)
    pub G : Field (m ∷ t) m 3 (1 + 2 * (m % 2 + m / 2 % 2 + m / 4 % 2)) (get_or f 5 0)
    pub amplitude : Field (m ∷ t) m 4 (1 + 2 * (m % 2 + m / 2 % 2 + m / 4 % 2 + m / 8 % 2)) (get_or f 6 0)
    pub count :
        Field (m ∷ t) m 5 (1 + 2 * (m % 2 + m / 2 % 2 + m / 4 % 2 + m / 8 % 2 + m / 16 % 2)) (get_or f 7 0)
    pub seed :
        Field (m ∷ t) m 6 (1 + 2 * (m % 2 + m / 2 % 2 + m / 4 % 2 + m / 8 % 2 + m / 16 % 2 + m / 32 % 2))
        (get_or f 8 0)
    pub tail : r ≡ drop (1 + field_bytes m) (m ∷ t)

  -- the number is the first of f: "14 the bytes end early", 15, 0
  pub record Reads (f r : List ℕ) : Type 0 where
    pub cut : (get_or f 0 0 ≡ 14) ↔ (length (m ∷ t) < 1 + field_bytes m)
    pub ill : (get_or f 0 0 ≡ 15) ↔ ((1 + field_bytes m ≤ length (m ∷ t)) × IllFormed m)
    pub whole : (get_or f 0 0 ≡ 0) ↔ ((1 + field_bytes m ≤ length (m ∷ t)) × (IllFormed m → ⊥))
    pub accepted : get_or f 0 0 ≡ 0 → Accepted f r
    -- "The part handed back is the whole one given, the bit map and the fields are 0"
    pub refused : (get_or f 0 0 ≡ 0 → ⊥)
        → (f ≡ get_or f 0 0 ∷ 0 ∷ 0 ∷ 0 ∷ 0 ∷ 0 ∷ 0 ∷ 0 ∷ 0 ∷ []) × (r ≡ m ∷ t)

pub record Returns : Type 0 where
  -- no byte at all
  pub empty : (fields [] ≡ 14 ∷ 0 ∷ 0 ∷ 0 ∷ 0 ∷ 0 ∷ 0 ∷ 0 ∷ 0 ∷ []) × (rest [] ≡ [])
  pub reads : (m : ℕ) (t : List ℕ) → Reads m t (fields (m ∷ t)) (rest (m ∷ t))
