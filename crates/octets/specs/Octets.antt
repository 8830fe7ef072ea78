-- Numbers in bytes, low byte first, at any width: without a sign, and in two's complement.
-- Definitions alone: proofs/Laws.antt has their laws. Assumes nothing.
use Rattle.std.specs.Prelude.{cond, List, [], ◌∷◌, ◌++◌, ℕ, zero, suc, ◌+◌, ◌-◌, ◌*◌, ◌/◌, ◌%◌, ◌^◌, ltb, ℤ, pos, negsuc, length, take, drop}

-- the number that bytes make, "low byte first"
unfoldable pub number : List ℕ → ℕ
number [] = 0
number (b ∷ bs) = b + 256 * number bs

-- "from a slice and a start .. the number that the bytes there make, eight at most, the first lowest, missing ones 0"
abbrev pub gathered : List ℕ → ℕ → ℕ
gathered s start = number (take 8 (drop start s))

-- 16 bits of a word, from its byte k on
abbrev pub sixteen : ℕ → ℕ → ℕ
sixteen w k = w / 2 ^ (8 * k) % 65536

-- the lowest w bytes of n, "low byte first"
unfoldable pub bytes : ℕ → ℕ → List ℕ
bytes zero n = []
bytes (suc w) n = n % 256 ∷ bytes w (n / 256)

-- two's complement in w bytes: a number below zero stands for itself and 2^(8 w)
abbrev pub bits : ℕ → ℤ → ℕ
bits w (pos n) = n
bits w (negsuc n) = 2 ^ (8 * w) - suc n

-- the weight of the sign's bit in w bytes
abbrev pub half : ℕ → ℕ
half w = 2 ^ (8 * w - 1)

-- the number whose two's complement is n, where h is the weight of the sign's bit
abbrev pub signed : ℕ → ℕ → ℤ
signed h n = cond (ltb n h) (pos n) (negsuc (2 * h - suc n))

-- numbers one after the other, each in w bytes
unfoldable pub stored : ℕ → List ℤ → List ℕ
stored w [] = []
stored w (x ∷ xs) = bytes w (bits w x) ++ stored w xs

-- the first n of them in a list of bytes
unfoldable pub loaded : ℕ → ℕ → List ℕ → List ℤ
loaded w zero bs = []
loaded w (suc n) bs = signed (half w) (number (take w bs)) ∷ loaded w n (drop w bs)

-- d with p from the place at on, and else as it was
abbrev pub laid : List ℕ → ℕ → List ℕ → List ℕ
laid d at p = take at d ++ p ++ drop (at + length p) d
