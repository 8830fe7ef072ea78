-- Lists of signed numbers in bytes, number by number.
-- Assumes nothing.
use mathlib.Core.Path.{◌≡◌, refl, ap, ◌∙◌}
use mathlib.Core.List.{List, [], ◌∷◌, ◌++◌}
use Prim.Native.Nat.{ℕ, zero, suc, ◌+◌, ◌*◌, ◌<◌, ◌≤◌}
use native.Mathlib.Nat.{mul-suc}
use native.Mathlib.Numerals.{add-one}
use native.Mathlib.Omega.{arith}
use lib.IntN.{ℤ, pos}
use lib.ListN.{length, get_or, take, drop, length-append, drop_of_length-le}
use lib.Seq.{drop-cons, drop-drop}
use Rattle.octets.specs.Octets.{number, bytes, bits, signed, half, stored, loaded}
use Rattle.octets.specs.Theorems.{Bytes}
use Rattle.octets.proofs.Laws.{bytes-length, bytes-bytes, append-bytes}

-- ---- stored
pub stored-step : (w : ℕ) (xs : List ℤ) (i : ℕ) → i < length xs
    → stored w (drop i xs) ≡ bytes w (bits w (get_or xs i (pos 0))) ++ stored w (drop (i + 1) xs)
unfolding stored
stored-step w xs i h = rw (drop-cons xs i (pos 0) h, add-one)

pub stored-end : (w : ℕ) (xs : List ℤ) (i : ℕ) → length xs ≤ i → stored w (drop i xs) ≡ []
unfolding stored
stored-end w xs i h = rw (drop_of_length-le xs {i = i} h)

pub stored-length : (w : ℕ) (xs : List ℤ) → length (stored w xs) ≡ w * length xs
unfolding stored
stored-length w [] = omega arith
stored-length w (x ∷ xs) =
    let b = bytes w (bits w x) in
    omega
    (arith, length-append b (stored w xs), bytes-length w (bits w x), stored-length w xs, mul-suc w (length xs))

pub stored_bytes : (w : ℕ) (xs : List ℤ) → Bytes (stored w xs)
unfolding stored
stored_bytes w [] i = omega arith
stored_bytes w (x ∷ xs) i =
    append-bytes (bytes w (bits w x)) (stored w xs) (bytes-bytes w (bits w x)) (stored_bytes w xs) i

-- ---- loaded
pub loaded-length : (w n : ℕ) (bs : List ℕ) → length (loaded w n bs) ≡ n
unfolding loaded
loaded-length w zero bs = refl
loaded-length w (suc n) bs = ap suc (loaded-length w n (drop w bs))

pub loaded_at : (w n : ℕ) (bs : List ℕ) (i : ℕ) → i < n
    → get_or (loaded w n bs) i (pos 0) ≡ signed (half w) (number (take w (drop (w * i) bs)))
unfolding loaded
loaded_at w zero bs i h = absurd (omega arith)
loaded_at w (suc n) bs zero h =
    let z : 0 ≡ w * 0 = omega arith in
    ap (λ (k : ℕ). signed (half w) (number (take w (drop k bs)))) z
loaded_at w (suc n) bs (suc i) h =
    let e : w + w * i ≡ w * suc i = omega (arith, mul-suc w i) in
    loaded_at w n (drop w bs) i (omega arith)
    ∙ ap (λ (l : List ℕ). signed (half w) (number (take w l)))
    (drop-drop (w * i) w bs ∙ ap (λ (k : ℕ). drop k bs) e)
