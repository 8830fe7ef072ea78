-- Where each number stands in the bytes: specs/Refusals.antt's `Reads`, and the length that a bit map gives.

use mathlib.Core.Path.{◌≡◌, refl, sym, ap, ◌∙◌}
use mathlib.Core.Bool.{Bool, true, false, cond}
use mathlib.Core.List.{List, [], ◌∷◌, ◌++◌, map, reverse}
use Prim.Native.Nat.{ℕ, zero, suc, ◌+◌, ◌*◌, ◌/◌, ◌%◌, ◌^◌, ◌≤◌, ◌<◌}
use native.Mathlib.Nat.{div-div-eq-div-mul, pow-succ'}
use native.Mathlib.Omega.{arith}
use lib.Dec.{eqb}
use lib.IntN.{ℤ, pos, negsuc, nat_abs}
use lib.ListN.{length, take, drop, get_or, length-map, get_or-map}
use lib.Seq.{drop-drop, take_all}
use Rattle.octets.specs.Octets.{number}
use Rattle.allpass.specs.Bounds.{Within, none, more}
use Rattle.allpass.specs.Stored.{stored}
use Rattle.allpass.proofs.Bounds.{rest-within}
use Rattle.rule.specs.State.{silence}
use Rattle.form.specs.Numbers.{Numbers}
use Rattle.form.specs.Parts.{word, value, parts, numbers_in, refused_parts, flags, size, decoded, unpacked, map_of, held_in}
use Rattle.form.specs.Refusals.{sizes, ahead, form_size, found, found_z, Reads}
use Rattle.form.proofs.Packing.{bit-value, flags-length, decoded-length}
use Rattle.form.proofs.Limits.{turned_within}
use Rattle.form.proofs.Numbers.{refused-line}

-- ---- the bytes ahead of a part
abbrev lengths : List (List ℕ) → List ℕ
lengths [] = []
lengths (u ∷ us) = 4 * length u ∷ lengths us

part-size : (b : Bool) (bs : List Bool) (u : List ℕ) (us : List (List ℕ))
    → size (b ∷ bs) (u ∷ us) ≡ 4 * length u * cond b 1 0 + size bs us
unfolding size
part-size true bs u us = omega arith
part-size false bs u us = omega arith

size-nil : (bs : List Bool) → size bs [] ≡ 0
unfolding size
size-nil [] = refl
size-nil (b ∷ bs) = refl

size_none : (us : List (List ℕ)) → size [] us ≡ 0
unfolding size
size_none us = refl

size-ahead : (us : List (List ℕ)) (k m j : ℕ) → j ≤ k → size (take j (flags k m)) us ≡ ahead (lengths us) m j
unfolding flags
size-ahead [] k m j h = size-nil (take j (flags k m))
size-ahead (u ∷ us) k m zero h = size_none (u ∷ us)
size-ahead (u ∷ us) zero m (suc j) h = absurd (omega arith)
size-ahead (u ∷ us) (suc k) m (suc j) h =
    part-size (eqb (m % 2) 1) (take j (flags k (m / 2))) u us
    ∙ rw (bit-value m, size-ahead us k (m / 2) j (omega arith))

last-size : 4 * length (map word (reverse silence)) ≡ 8448
last-size = omega (arith, refused-line)

refused-sizes : lengths refused_parts ≡ sizes
unfolding refused_parts parts
refused-sizes =
    ap (λ (n : ℕ). 12 ∷ 4 ∷ 4 ∷ 4 ∷ 12 ∷ 32 ∷ 12 ∷ n ∷ []) last-size

pub map-size : (s : List ℕ) (j : ℕ) → j ≤ 8 → size (take j (map_of s)) refused_parts ≡ ahead sizes (get_or s 0 0) j
map-size s j h =
    size-ahead refused_parts 8 (get_or s 0 0) j h ∙ ap (λ (ns : List ℕ). ahead ns (get_or s 0 0) j) refused-sizes

pub form-size : (s : List ℕ) → suc (size (map_of s) refused_parts) ≡ form_size (get_or s 0 0)
form-size s =
    let e = map-size s 8 (omega arith) in
    let t : take 8 (map_of s) ≡ map_of s = take_all 8 (map_of s) (omega (arith, flags-length 8 (get_or s 0 0))) in
    omega (arith, e, ap (λ (bs : List Bool). size bs refused_parts) t)

-- ---- a bit
bit_at : (k m j : ℕ) → j < k → get_or (flags k m) j false ≡ eqb (m / 2 ^ j % 2) 1
unfolding flags
bit_at zero m j h = absurd (omega arith)
bit_at (suc k) m zero h = let e : m % 2 ≡ m / 1 % 2 = omega arith in ap (λ (n : ℕ). eqb n 1) e
bit_at (suc k) m (suc j) h =
    let e : m / 2 / 2 ^ j ≡ m / 2 ^ suc j
    = div-div-eq-div-mul m 2 (2 ^ j) ∙ ap (λ (n : ℕ). m / n) (sym (pow-succ' 2 j)) in
    bit_at k (m / 2) j (omega arith) ∙ ap (λ (n : ℕ). eqb (n % 2) 1) e

-- ---- a number of a part
decoded-at : (n : ℕ) (s : List ℕ) (k : ℕ) → k < n → get_or (decoded n s) k 0 ≡ number (take 4 (drop (4 * k) s))
unfolding decoded
decoded-at zero s k h = absurd (omega arith)
decoded-at (suc n) s zero h = refl
decoded-at (suc n) s (suc k) h =
    let e : 4 + 4 * k ≡ 4 * suc k = omega arith in
    decoded-at n (drop 4 s) k (omega arith)
    ∙ ap (λ (l : List ℕ). number (take 4 l)) (drop-drop (4 * k) 4 s ∙ ap (λ (i : ℕ). drop i s) e)

there : (bs : List Bool) (us : List (List ℕ)) (s : List ℕ) (j k : ℕ) → length bs ≡ length us
    → k < length (get_or us j [])
    → get_or (get_or (unpacked bs us s) j []) k 0
    ≡ cond (get_or bs j false) (number (take 4 (drop (size (take j bs) us + 4 * k) s))) (get_or (get_or us j []) k 0)
unfolding unpacked size
there [] [] s j k l h = absurd (omega arith)
there [] (u ∷ us) s j k l h = absurd (omega arith)
there (b ∷ bs) [] s j k l h = absurd (omega arith)
there (true ∷ bs) (u ∷ us) s zero k l h =
    let e : 4 * k ≡ 0 + 4 * k = omega arith in
    decoded-at (length u) s k h ∙ ap (λ (i : ℕ). number (take 4 (drop i s))) e
there (false ∷ bs) (u ∷ us) s zero k l h = refl
there (true ∷ bs) (u ∷ us) s (suc j) k l h =
    let n = 4 * length u in
    let e : n + (size (take j bs) us + 4 * k) ≡ n + size (take j bs) us + 4 * k = omega arith in
    there bs us (drop n s) j k (omega arith) h
    ∙ ap (λ (i : List ℕ). cond (get_or bs j false) (number (take 4 i)) (get_or (get_or us j []) k 0))
    (drop-drop (size (take j bs) us + 4 * k) n s ∙ ap (λ (i : ℕ). drop i s) e)
there (false ∷ bs) (u ∷ us) s (suc j) k l h = there bs us s j k (omega arith) h

refused_eight : length refused_parts ≡ 8
unfolding refused_parts parts
refused_eight = refl

pub found_at : (s : List ℕ) (j k : ℕ) → j < 8 → k < length (get_or refused_parts j [])
    → get_or (get_or (unpacked (map_of s) refused_parts (drop 1 s)) j []) k 0 ≡ found s j k (get_or (get_or refused_parts j []) k 0)
found_at s j k h l =
    let m = get_or s 0 0 in
    let n = size (take j (map_of s)) refused_parts in
    let e : 1 + (n + 4 * k) ≡ 1 + ahead sizes m j + 4 * k = omega (arith, map-size s j (omega arith)) in
    there (map_of s) refused_parts (drop 1 s) j k (flags-length 8 m ∙ sym refused_eight) l
    ∙ ap (λ (i : List ℕ). cond (get_or (map_of s) j false) (number (take 4 i)) (get_or (get_or refused_parts j []) k 0))
    (drop-drop (n + 4 * k) 1 s ∙ ap (λ (i : ℕ). drop i s) e)
    ∙ ap (λ (b : Bool). cond b (number (take 4 (drop (1 + ahead sizes m j + 4 * k) s))) (get_or (get_or refused_parts j []) k 0))
    (bit_at 8 m j h)

-- ---- all of them
zero_word : (x : ℤ) → nat_abs x ≤ 0 → word x ≡ 0
zero_word (pos n) h = omega arith
zero_word (negsuc n) h = absurd (omega arith)

zero-at : {xs : List ℤ} → Within 0 xs → (k : ℕ) → get_or (map word xs) k 0 ≡ 0
zero-at none k = refl
zero-at (more {x} h w) zero = zero_word x h
zero-at (more h w) (suc k) = zero-at w k

silent-at : (k : ℕ) → get_or (map word (reverse silence)) k 0 ≡ 0
unfolding silence
silent-at k = zero-at (turned_within (rest-within 2112)) k

as_long : (bs : List Bool) (us : List (List ℕ)) (s : List ℕ) (j : ℕ) → length bs ≡ length us
    → length (get_or (unpacked bs us s) j []) ≡ length (get_or us j [])
unfolding unpacked
as_long [] [] s j l = refl
as_long [] (u ∷ us) s j l = absurd (omega arith)
as_long (b ∷ bs) [] s j l = absurd (omega arith)
as_long (true ∷ bs) (u ∷ us) s zero l = decoded-length (length u) s
as_long (false ∷ bs) (u ∷ us) s zero l = refl
as_long (true ∷ bs) (u ∷ us) s (suc j) l = as_long bs us (drop (4 * length u) s) j (omega arith)
as_long (false ∷ bs) (u ∷ us) s (suc j) l = as_long bs us s j (omega arith)

module _ (s : List ℕ) where
  abbrev held : List (List ℕ)
  held = unpacked (map_of s) refused_parts (drop 1 s)

  many : length (map value (get_or held 7 [])) ≡ 2112
  unfolding refused_parts parts
  many =
      length-map (get_or held 7 []) value
      ∙ as_long (map_of s) refused_parts (drop 1 s) 7 (flags-length 8 (get_or s 0 0) ∙ sym refused_eight)
      ∙ refused-line

  sample : (k : ℕ) → k < 2112 → get_or (map value (get_or held 7 [])) k (pos 0) ≡ found_z s 7 k
  unfolding refused_parts parts
  sample k h =
      get_or-map value (get_or held 7 []) k 0
      ∙ ap value (found_at s 7 k (omega arith) (omega (arith, refused-line)))
      ∙ ap (λ (n : ℕ). value (found s 7 k n)) (silent-at k)

  pub reads : Reads s (held_in s)
  unfolding held_in numbers_in refused_parts parts stored
  reads = record {
    N = found_at s 0 0 (omega arith) (omega arith);
    L = found_at s 0 1 (omega arith) (omega arith);
    d = found_at s 0 2 (omega arith) (omega arith);
    G = found_at s 1 0 (omega arith) (omega arith);
    Na = found_at s 2 0 (omega arith) (omega arith);
    last = ap value (found_at s 3 0 (omega arith) (omega arith));
    v1 = ap value (found_at s 4 0 (omega arith) (omega arith));
    v2 = ap value (found_at s 4 1 (omega arith) (omega arith));
    v3 = ap value (found_at s 4 2 (omega arith) (omega arith));
    kind = found_at s 5 0 (omega arith) (omega arith);
    N' = found_at s 5 1 (omega arith) (omega arith);
    L' = found_at s 5 2 (omega arith) (omega arith);
    d' = found_at s 5 3 (omega arith) (omega arith);
    taken = found_at s 5 4 (omega arith) (omega arith);
    w1 = ap value (found_at s 5 5 (omega arith) (omega arith));
    w2 = ap value (found_at s 5 6 (omega arith) (omega arith));
    w3 = ap value (found_at s 5 7 (omega arith) (omega arith));
    amplitude = found_at s 6 0 (omega arith) (omega arith);
    left = found_at s 6 1 (omega arith) (omega arith);
    noise = found_at s 6 2 (omega arith) (omega arith);
    many = many;
    line = sample;
  }
