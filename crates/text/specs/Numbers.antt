-- What a word spells: a number of 32 bits, a sample, a byte; None where it spells none.
-- Leading zeros are allowed, a `+` is not.
use Rattle.std.specs.Prelude.{Bool, true, false, ◌&&◌, if◌then◌else◌, List, [], ◌∷◌, ℕ, ◌+◌, ◌*◌, ◌-◌, ◌^◌, nat_eq, nat_lt, nat_le, ℤ, pos, neg_ℤ, Option, Some, None}

-- `0` to `9`
abbrev pub digit : ℕ → Bool
digit b = nat_le 48 b && nat_le b 57

-- every byte is a digit
abbrev pub digits : List ℕ → Bool
digits [] = true
digits (b ∷ s) = digit b && digits s

-- what the digits s spell after those that spell n
abbrev pub decimal : ℕ → List ℕ → ℕ
decimal n [] = n
decimal n (b ∷ s) = decimal (10 * n + (b - 48)) s

-- one digit at least, digits alone, and below 2^32
abbrev pub is_number : List ℕ → Bool
is_number [] = false
is_number (b ∷ s) = digits (b ∷ s) && nat_lt (decimal 0 (b ∷ s)) (2 ^ 32)

abbrev pub number_of : List ℕ → Option ℕ
number_of s = if is_number s then Some (decimal 0 s) else None

-- a number with `-` before it: down to −2^31
abbrev pub negated : Option ℕ → Option ℤ
negated None = None
negated (Some n) = if nat_le n (2 ^ 31) then Some (neg_ℤ (pos n)) else None

-- a number with no sign: below 2^31
abbrev pub kept : Option ℕ → Option ℤ
kept None = None
kept (Some n) = if nat_lt n (2 ^ 31) then Some (pos n) else None

abbrev pub sample_of : List ℕ → Option ℤ
sample_of [] = None
sample_of (b ∷ s) = if nat_eq b 45 then negated (number_of s) else kept (number_of (b ∷ s))

-- the value of a hexadecimal digit, `0` to `9`, `a` to `f` or `A` to `F`
abbrev pub hex_of : ℕ → Option ℕ
hex_of b =
    if digit b then Some (b - 48)
    else if nat_le 97 b && nat_le b 102 then Some (b - 87)
    else if nat_le 65 b && nat_le b 70 then Some (b - 55)
    else None

abbrev pub byte : Option ℕ → Option ℕ → Option ℕ
byte (Some a) (Some b) = Some (16 * a + b)
byte (Some a) None = None
byte None b = None

-- two digits
abbrev pub byte_of : List ℕ → Option ℕ
byte_of [] = None
byte_of (a ∷ []) = None
byte_of (a ∷ b ∷ []) = byte (hex_of a) (hex_of b)
byte_of (a ∷ b ∷ c ∷ s) = None
