-- Numbers in bytes, one by one: what bytes make, and what is put over a list.
-- Assumes nothing.
use mathlib.Core.Path.{◌≡◌, refl, sym, ap, ◌∙◌}
use mathlib.Core.List.{List, [], ◌∷◌, ◌++◌, append_assoc, append-nil}
use Prim.Native.Nat.{ℕ, zero, suc, ◌+◌, ◌-◌, ◌*◌, ◌/◌, ◌%◌, ◌^◌, ◌≤◌, ◌<◌}
use native.Mathlib.Nat.{mul-suc, pow-succ', lt_of_lt_of_le}
use native.Mathlib.Numerals.{add-one}
use native.Mathlib.Decide.{dec_lt}
use native.Mathlib.Omega.{arith}
use lib.Pow.{pow-add, pow_mono, mod-pow-add}
use lib.ListN.{length, get_or, take, drop, set, length-append, length-take, length-drop, take-append-drop}
use lib.ListN.{drop_of_length-le, get_or-eq_default, replicate}
use lib.Seq.{drop-cons, drop-drop, drop_at, take_at, length-take-le, get_or-drop, get_or-take, set_split}
use Rattle.octets.specs.Octets.{number, bytes, half, laid}
use Rattle.octets.specs.Theorems.{Bytes}

-- ---- bytes of a list
pub taken-bytes : (n : ℕ) (xs : List ℕ) → Bytes xs → Bytes (take n xs)
taken-bytes n xs h i = go (dec_lt i n)
  where
    go : Dec (i < n) → get_or (take n xs) i 0 < 256
    go (yes g) = rw (get_or-take n xs i 0 g) (h i)
    go (no g) =
        rw (get_or-eq_default (take n xs) 0 {n = i} (omega (arith, length-take n xs))) (omega arith)

pub dropped-bytes : (n : ℕ) (xs : List ℕ) → Bytes xs → Bytes (drop n xs)
dropped-bytes n xs h i = rw (get_or-drop n xs i 0) (h (n + i))

-- ---- powers
-- 256 times what w bytes can hold
pub wider : (w : ℕ) → 2 ^ (8 * suc w) ≡ 2 ^ (8 * w) * 256
wider w = ap (λ (n : ℕ). 2 ^ n) (mul-suc 8 w) ∙ pow-add 2 (8 * w) 8

pub twice : (w : ℕ) → 1 ≤ w → 2 ^ (8 * w) ≡ 2 * half w
twice w h =
    let e : 8 * w ≡ suc (8 * w - 1) = omega arith in
    ap (λ (k : ℕ). 2 ^ k) e ∙ pow-succ' 2 (8 * w - 1)

-- ---- what bytes make
pub number-under : (xs : List ℕ) → Bytes xs → number xs < 2 ^ (8 * length xs)
unfolding number
number-under [] h = omega arith
number-under (b ∷ bs) h =
    rw (wider (length bs)) (omega (arith, h 0, number-under bs (λ (i : ℕ). h (suc i))))

pub taken-under : (w : ℕ) (bs : List ℕ) → Bytes bs → number (take w bs) < 2 ^ (8 * w)
taken-under w bs b =
    let r : 8 * length (take w bs) ≤ 8 * w = omega (arith, length-take w bs) in
    lt_of_lt_of_le (number-under (take w bs) (taken-bytes w bs b)) (pow_mono r)

-- from the last byte to the first
pub none_left : (xs : List ℕ) (k : ℕ) → length xs ≤ k → 0 ≡ number (drop k xs)
unfolding number
none_left xs k h = rw (drop_of_length-le xs {i = k} h)

pub one_more : (xs : List ℕ) (k n : ℕ) → 0 < k → k ≤ length xs → n ≡ number (drop k xs)
    → n * 256 + get_or xs (k - 1) 0 ≡ number (drop (k - 1) xs)
unfolding number
one_more xs k n h l e =
    let j : k - 1 < length xs = omega arith in
    let b : suc (k - 1) ≡ k = omega arith in
    let d : drop (k - 1) xs ≡ get_or xs (k - 1) 0 ∷ drop k xs
    = drop-cons xs (k - 1) 0 j ∙ ap (λ (i : ℕ). get_or xs (k - 1) 0 ∷ drop i xs) b in
    rw d (omega arith)

-- ---- the bytes of a number
pub bytes-step : (k n : ℕ) → 0 < k → bytes k n ≡ n % 256 ∷ bytes (k - 1) (n / 256)
unfolding bytes
bytes-step zero n h = absurd (omega arith)
bytes-step (suc k) n h = let e : suc k - 1 ≡ k = omega arith in rw e

pub bytes-length : (w n : ℕ) → length (bytes w n) ≡ w
unfolding bytes
bytes-length zero n = refl
bytes-length (suc w) n = ap suc (bytes-length w (n / 256))

pub bytes-bytes : (w n : ℕ) → Bytes (bytes w n)
unfolding bytes
bytes-bytes zero n i = omega arith
bytes-bytes (suc w) n zero = omega arith
bytes-bytes (suc w) n (suc i) = bytes-bytes w (n / 256) i

-- they make the number modulo 2^(8 w), and are those of every number that is the same modulo 2^(8 w)
pub number-bytes : (w n : ℕ) → number (bytes w n) ≡ n % 2 ^ (8 * w)
unfolding number bytes
number-bytes zero n = omega arith
number-bytes (suc w) n =
    let e : 8 * suc w ≡ 8 * w + 8 = mul-suc 8 w in
    rw (number-bytes w (n / 256), e, mod-pow-add n (8 * w) 8) (omega arith)

pub bytes_beyond : (w n k : ℕ) → bytes w (n + 2 ^ (8 * w) * k) ≡ bytes w n
unfolding bytes
bytes_beyond zero n k = refl
bytes_beyond (suc w) n k =
    let e : n + 2 ^ (8 * suc w) * k ≡ n + 2 ^ (8 * w) * k * 256 = rw (wider w) (omega arith) in
    let low : (n + 2 ^ (8 * w) * k * 256) % 256 ≡ n % 256 = omega arith in
    let high : (n + 2 ^ (8 * w) * k * 256) / 256 ≡ n / 256 + 2 ^ (8 * w) * k = omega arith in
    rw (e, low, high, bytes_beyond w (n / 256) k)

-- ---- laid over a list
pub laid_nil : (d : List ℕ) (at : ℕ) → laid d at [] ≡ d
laid_nil d at =
    let z : at + 0 ≡ at = omega arith in
    ap (λ (k : ℕ). take at d ++ [] ++ drop k d) z
    ∙ ap (λ (r : List ℕ). r ++ drop at d) (append-nil (take at d))
    ∙ take-append-drop at d

module _ (d : List ℕ) (at : ℕ) (p : List ℕ) (h : at + length p ≤ length d) where
  head-length : length (take at d ++ p) ≡ at + length p
  head-length =
      length-append (take at d) p ∙ ap (λ (k : ℕ). k + length p) (length-take-le at d (omega arith))

  pub laid-length : length (laid d at p) ≡ length d
  laid-length =
      length-append (take at d ++ p) (drop (at + length p) d)
      ∙ omega (arith, head-length, length-drop (at + length p) d)

  -- more behind it
  pub laid-append : (q : List ℕ) → laid (laid d at p) (at + length p) q ≡ laid d at (p ++ q)
  laid-append q =
      let e = at + length p in
      let t : take e (laid d at p) ≡ take at d ++ p = take_at (take at d ++ p) (drop e d) e head-length in
      let r : drop e (laid d at p) ≡ drop e d = drop_at (take at d ++ p) (drop e d) e head-length in
      let n : e + length q ≡ at + length (p ++ q) = omega (arith, length-append p q) in
      let s : drop (e + length q) (laid d at p) ≡ drop (at + length (p ++ q)) d
      = sym (drop-drop (length q) e (laid d at p))
      ∙ ap (λ (l : List ℕ). drop (length q) l) r
      ∙ drop-drop (length q) e d
      ∙ ap (λ (k : ℕ). drop k d) n in
      rw (t, s) (ap (λ (l : List ℕ). l ++ drop (at + length (p ++ q)) d) (append_assoc (take at d) p q))

  pub laid_next : (to : ℕ) (q : List ℕ) → to ≡ at + length p → laid (laid d at p) to q ≡ laid d at (p ++ q)
  laid_next to q e = ap (λ (k : ℕ). laid (laid d at p) k q) e ∙ laid-append q

pub set-laid : (d : List ℕ) (k b : ℕ) → k < length d → set d k b ≡ laid d k (b ∷ [])
set-laid d k b h = set_split d k b h ∙ rw add-one (sym (append_assoc (take k d) (b ∷ []) (drop (suc k) d)))

-- ---- lists that hold bytes alone
pub append-bytes : (p q : List ℕ) → Bytes p → Bytes q → Bytes (p ++ q)
append-bytes [] q g h i = h i
append-bytes (b ∷ p) q g h zero = g 0
append-bytes (b ∷ p) q g h (suc i) = append-bytes p q (λ (k : ℕ). g (suc k)) h i

pub zero-bytes : (n : ℕ) → Bytes (replicate n 0)
zero-bytes zero i = omega arith
zero-bytes (suc n) zero = omega arith
zero-bytes (suc n) (suc i) = zero-bytes n i
