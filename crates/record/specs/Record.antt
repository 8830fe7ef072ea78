-- A record in the bytes of a score, and what reading one returns, refused too: document 01, "Score".
-- Definitions alone. Assumes nothing.
use Rattle.std.specs.Prelude.{cond, List, [], ◌∷◌, ℕ, zero, suc, ◌+◌, ◌*◌, ◌/◌, ◌%◌, ◌^◌, eqb, length, get_or, drop, replicate}
use Rattle.refusal.specs.Limits.{Limit, refusal}

-- bit k of a bit map
abbrev pub bit : ℕ → ℕ → ℕ
bit map k = map / 2 ^ k % 2

-- "Each record is a bit map byte, then only the fields whose bit stands, lowest bit first, each 16 bits":
-- how many bytes of the record stand before field k; field 7 is none, so before it stands the whole record
abbrev pub before : ℕ → ℕ → ℕ
before map zero = 1
before map (suc k) = before map k + 2 * bit map k

abbrev pub bytes : ℕ → ℕ
bytes map = before map 7

-- "low byte first"
abbrev pub word : List ℕ → ℕ → ℕ
word s at = get_or s at 0 + 256 * get_or s (at + 1) 0

-- the bit map byte; 0 where no byte is left
abbrev pub map_of : List ℕ → ℕ
map_of s = get_or s 0 0

-- a field w where its bit b stands, "0 where absent"
abbrev pub present : ℕ → ℕ → ℕ
present zero w = 0
present (suc b) w = w

-- field k, for k from 0 to 6: wait, L, d, G, amplitude, count, seed
unfoldable pub field : List ℕ → ℕ → ℕ
field s k = present (bit (map_of s) k) (word s (before (map_of s) k))

-- of b bits, those that stand without any of the c that one of them needs
abbrev pub without : ℕ → ℕ → ℕ
without b zero = b
without b (suc c) = 0

-- "bit 5 or 6 without 4, or bit 7 without 1 or 2": how many bits stand so
abbrev pub ill_formed : ℕ → ℕ
ill_formed map = without (bit map 5 + bit map 6) (bit map 4) + without (bit map 7) (bit map 1 + bit map 2)

-- "14 the bytes end early"
abbrev pub whole : List ℕ → Limit
whole s = record { number = 14; low = bytes (map_of s); value = length s; high = length s }

-- "15 bit 5 or 6 without 4, or bit 7 without 1 or 2"
abbrev pub formed : ℕ → Limit
formed map = record { number = 15; low = 0; value = ill_formed map; high = 0 }

-- "Record: 14 .., 15 .."
abbrev pub record_limits : List ℕ → List Limit
record_limits s = whole s ∷ formed (map_of s) ∷ []

unfoldable pub record_number : List ℕ → ℕ
record_number s = refusal (record_limits s)

-- "with the bit map and the seven fields, 0 where absent"
abbrev pub read : List ℕ → List ℕ
read s =
    map_of s
    ∷ field s 0
    ∷ field s 1
    ∷ field s 2
    ∷ field s 3
    ∷ field s 4
    ∷ field s 5
    ∷ field s 6
    ∷ []

-- the number, the bit map and the seven fields; "the bit map and the fields are 0" where it is refused
unfoldable pub fields : List ℕ → List ℕ
fields s = record_number s ∷ cond (eqb (record_number s) 0) (read s) (replicate 8 0)

-- "the part of the score after that record", and "the whole one given" where it is refused
unfoldable pub rest : List ℕ → List ℕ
rest s = cond (eqb (record_number s) 0) (drop (bytes (map_of s)) s) s
