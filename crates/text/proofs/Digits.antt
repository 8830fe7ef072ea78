-- The number that the digits of a word spell, and a word whose digits spell too much.
use Rattle.std.proofs.Common.{◌≡◌, ℕ, suc, ◌+◌, ◌*◌, ◌-◌, ◌^◌, ◌≤◌, ◌<◌, true, List, [], ◌∷◌, length, drop, get_or, drop-cons, Some, None, arith}
use Rattle.std.proofs.Math.ListN.{drop_of_length-le}
use Rattle.std.proofs.lemmas.Bool.Decides.{nat_tests}
use Rattle.text.specs.Numbers.{digits, decimal, number_of}

-- what is still to be read never makes the number smaller
grows : (s : List ℕ) (n : ℕ) → n ≤ decimal n s
grows [] n = omega arith
grows (b ∷ s) n = omega (arith, grows s (10 * n + (b - 48)))

-- one more byte, and the number is no smaller than this
pub decimal_least : (s : List ℕ) (i n : ℕ) → i < length s
    → 10 * n + (get_or s i 0 - 48) ≤ decimal n (drop i s)
decimal_least s i n inside = rw (drop-cons s i 0) (grows (drop (suc i) s) (10 * n + (get_or s i 0 - 48)))

read : (s : List ℕ) (n : ℕ) → 0 < length s → true ≡ digits s → n ≡ decimal 0 s → n < 2 ^ 32
    → Some n ≡ number_of s
read [] n some d e low = absurd (omega arith)
read (b ∷ s) n some d e low = grind (arith, nat_tests)

-- nothing is left to read from i on
pub number_of-read : (s : List ℕ) (i n : ℕ) → 0 < length s → length s ≤ i → digits (drop i s) ≡ digits s
    → decimal n (drop i s) ≡ decimal 0 s → n < 2 ^ 32 → Some n ≡ number_of s
number_of-read s i n some end d e low =
    read s n some (rw (drop_of_length-le s end) at d) (rw (drop_of_length-le s end) at e) low

pub number_of-large : (s : List ℕ) → 2 ^ 32 ≤ decimal 0 s → None ≡ number_of s
number_of-large [] high = absurd (omega arith)
number_of-large (b ∷ s) high = grind (arith, nat_tests)
