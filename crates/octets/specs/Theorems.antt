-- What is put into bytes comes back, and bytes that are read are those that putting them gives: at every width.
-- Statements alone: proofs/Theorems.antt proves them. Assumes nothing.
use Rattle.std.specs.Prelude.{◌≡◌, List, [], ◌∷◌, ◌++◌, ℕ, ◌*◌, ◌^◌, ◌≤◌, ◌<◌, ℤ, pos, neg_ℤ, ◌≤ℤ◌, ◌<ℤ◌, length, get_or, take}
use Rattle.octets.specs.Octets.{number, bytes, bits, half, signed, stored, loaded}

-- each number of the list is a byte
abbrev pub Bytes : List ℕ → Type 0
Bytes bs = (i : ℕ) → get_or bs i 0 < 256

-- z has a two's complement in w bytes
pub record Fits (w : ℕ) (z : ℤ) : Type 0 where
  pub least : neg_ℤ (pos (half w)) ≤ℤ z
  pub most : z <ℤ pos (half w)

pub data AllFit (w : ℕ) : List ℤ → Type 0 where
  none : AllFit w []
  more : {x : ℤ} {xs : List ℤ} → Fits w x → AllFit w xs → AllFit w (x ∷ xs)

-- in w bytes, one at least
pub record RoundTrip (w : ℕ) : Type 0 where
  pub number_back : (n : ℕ) → n < 2 ^ (8 * w) → number (bytes w n) ≡ n
  pub bytes_back : (bs : List ℕ) → Bytes bs → length bs ≡ w → bytes w (number bs) ≡ bs
  pub signed_back : (z : ℤ) → Fits w z → signed (half w) (bits w z) ≡ z
  pub bits_back : (n : ℕ) → n < 2 ^ (8 * w) → bits w (signed (half w) n) ≡ n
  pub signed_fits : (n : ℕ) → n < 2 ^ (8 * w) → Fits w (signed (half w) n)
  -- whatever bytes follow
  pub loaded_back : (xs : List ℤ) (rest : List ℕ) → AllFit w xs
      → loaded w (length xs) (stored w xs ++ rest) ≡ xs
  pub stored_back : (n : ℕ) (bs : List ℕ) → Bytes bs → w * n ≤ length bs
      → stored w (loaded w n bs) ≡ take (w * n) bs
  pub all_fit : (n : ℕ) (bs : List ℕ) → Bytes bs → AllFit w (loaded w n bs)

abbrev pub RoundTrips : Type 0
RoundTrips = (w : ℕ) → 1 ≤ w → RoundTrip w
