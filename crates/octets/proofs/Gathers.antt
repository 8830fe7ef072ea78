-- specs/Gathers.antt: the bytes of what bytes make.
use mathlib.Core.Path.{◌≡◌, refl, sym, ap, ◌∙◌}
use mathlib.Core.List.{List, [], ◌∷◌}
use Prim.Native.Nat.{ℕ, zero, suc, ◌+◌, ◌*◌, ◌/◌, ◌%◌, ◌^◌, ◌≤◌, ◌<◌}
use native.Mathlib.Nat.{mul-suc, zero-div, div-div-eq-div-mul}
use native.Mathlib.Omega.{arith}
use lib.Pow.{pow-add}
use lib.ListN.{length, get_or, take, drop, drop_of_length-le}
use lib.Seq.{get_or-drop, get_or-take, take-nil}
use Rattle.octets.specs.Octets.{number, gathered, sixteen}
use Rattle.octets.specs.Theorems.{Bytes}
use Rattle.octets.specs.Gathers.{byte, Gathers}
use Rattle.octets.proofs.Laws.{wider, taken-bytes, dropped-bytes, taken-under}

pub none-there : (n : ℕ) (xs : List ℕ) (k : ℕ) → length xs ≤ k → 0 ≡ number (take n (drop k xs))
unfolding number
none-there n xs k h = rw (drop_of_length-le xs {i = k} h, take-nil n)

-- ---- one byte less
shorter : (n k : ℕ) → n / 2 ^ (8 * suc k) ≡ n / 256 / 2 ^ (8 * k)
shorter n k =
    let e : 8 * suc k ≡ 8 + 8 * k = omega (arith, mul-suc 8 k) in
    ap (λ (m : ℕ). n / 2 ^ m) e ∙ ap (λ (m : ℕ). n / m) (pow-add 2 8 (8 * k))
    ∙ sym (div-div-eq-div-mul n 256 (2 ^ (8 * k)))

behind : (b k : ℕ) (bs : List ℕ) → b < 256 → (b + 256 * number bs) / 2 ^ (8 * suc k) ≡ number bs / 2 ^ (8 * k)
behind b k bs h =
    let q : (b + 256 * number bs) / 256 ≡ number bs = omega arith in
    shorter (b + 256 * number bs) k ∙ ap (λ (n : ℕ). n / 2 ^ (8 * k)) q

-- ---- 8 and 16 bits of what bytes make
byte_at : (xs : List ℕ) (k : ℕ) → Bytes xs → byte (number xs) k ≡ get_or xs k 0
unfolding number
byte_at [] k h = rw (zero-div (2 ^ (8 * k)))
byte_at (b ∷ bs) zero h = omega (arith, h 0)
byte_at (b ∷ bs) (suc k) h = rw (behind b k bs (h 0)) (byte_at bs k (λ (i : ℕ). h (suc i)))

cut_at : (xs : List ℕ) (k : ℕ) → Bytes xs → sixteen (number xs) k ≡ get_or xs k 0 + 256 * get_or xs (k + 1) 0
unfolding number
cut_at [] k h = rw (zero-div (2 ^ (8 * k)))
cut_at (b ∷ []) zero h = omega (arith, h 0)
cut_at (b ∷ c ∷ bs) zero h = omega (arith, h 0, h 1)
cut_at (b ∷ bs) (suc k) h =
    let r : suc k + 1 ≡ suc (k + 1) = omega arith in
    rw (behind b k bs (h 0), r) (cut_at bs k (λ (i : ℕ). h (suc i)))

-- ---- numbers of w bytes with the same bytes
same : (w n m : ℕ) → n < 2 ^ (8 * w) → m < 2 ^ (8 * w) → ((k : ℕ) → k < w → byte n k ≡ byte m k) → n ≡ m
same zero n m h g e = omega arith
same (suc w) n m h g e =
    let p = wider w in
    let low : n / 1 % 256 ≡ m / 1 % 256 = e 0 (omega arith) in
    let high : n / 256 ≡ m / 256 = same w (n / 256) (m / 256) (omega arith) (omega arith) (λ k l.
    ap (λ (q : ℕ). q % 256) (sym (shorter n k)) ∙ e (suc k) (omega arith)
    ∙ ap (λ (q : ℕ). q % 256) (shorter m k)) in
    omega arith

-- ---- from a start
module _ (s : List ℕ) (b : Bytes s) (start : ℕ) where
  abbrev xs : List ℕ
  xs = take 8 (drop start s)

  there : Bytes xs
  there = taken-bytes 8 (drop start s) (dropped-bytes start s b)

  at : (i : ℕ) → i < 8 → get_or xs i 0 ≡ get_or s (start + i) 0
  at i h = get_or-take 8 (drop start s) i 0 h ∙ get_or-drop start s i 0

  under : gathered s start < 2 ^ 64
  under = taken-under 8 (drop start s) (dropped-bytes start s b)

  bytes_of : (k : ℕ) → k < 8 → byte (gathered s start) k ≡ get_or s (start + k) 0
  bytes_of k h = byte_at xs k there ∙ at k h

  pub cut : (k : ℕ) → k ≤ 6
      → sixteen (gathered s start) k ≡ get_or s (start + k) 0 + 256 * get_or s (start + k + 1) 0
  cut k h =
      let e : start + (k + 1) ≡ start + k + 1 = omega arith in
      let next = at (k + 1) (omega arith) ∙ ap (λ (i : ℕ). get_or s i 0) e in
      cut_at xs k there ∙ rw (at k (omega arith), next)

eight : gathered (1 ∷ 2 ∷ 3 ∷ 4 ∷ 5 ∷ 6 ∷ 7 ∷ 8 ∷ 9 ∷ []) 0 ≡ 0x0807060504030201
unfolding number
eight = refl

two : gathered (1 ∷ 2 ∷ 3 ∷ 4 ∷ 5 ∷ 6 ∷ 7 ∷ 8 ∷ 9 ∷ []) 7 ≡ 0x0908
unfolding number
two = refl

pub gathers : Gathers
gathers = record {
  returned = λ s b start n. (
    λ e. (rw e (under s b start), λ k h. rw e (bytes_of s b start k h)),
    λ h. same 8 n (gathered s start) h.0 (under s b start) (λ k l. h.1 k l ∙ sym (bytes_of s b start k l)),
  );
  past = λ s start h. sym (none-there 8 s start h);
  cut = cut;
  first_eight = eight;
  last_two = two;
  none = sym (none-there 8 (1 ∷ 2 ∷ 3 ∷ 4 ∷ 5 ∷ 6 ∷ 7 ∷ 8 ∷ 9 ∷ []) 18446744073709551615 (omega arith));
}
