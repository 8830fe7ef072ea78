-- Parts in bytes behind a bit map, whatever the parts are: what is packed unpacks, and the other way round.

use mathlib.Core.Path.{◌≡◌, refl, sym, ap, ap₂, ◌∙◌}
use mathlib.Core.Bool.{Bool, true, false, not, cond, ◌&&◌}
use mathlib.Core.List.{List, [], ◌∷◌, ◌++◌, append_assoc, append-nil}
use Prim.Native.Nat.{ℕ, zero, suc, ◌+◌, ◌*◌, ◌/◌, ◌%◌, ◌^◌, ◌≤◌, ◌<◌}
use native.Mathlib.Nat.{mul-suc, pow-succ'}
use native.Mathlib.Omega.{arith}
use native.Mathlib.Decide.{dec_lt}
use lib.Dec.{eqb}
use lib.ListN.{length, get_or, take, drop, length-append, length-take, length-drop, take-append-drop}
use lib.Seq.{take_at, drop_at, take-add, length-take-le}
use borrow.Author.Tests.{eqb-true, eqb-false, eq-eqb, ne_eqb, not-false}
use Rattle.octets.specs.Octets.{number, bytes}
use Rattle.octets.specs.Theorems.{Bytes}
use Rattle.octets.proofs.Laws.{bytes-length, bytes-bytes, append-bytes, taken-bytes, dropped-bytes, taken-under}
use Rattle.octets.proofs.Theorems.{number_back, bytes_back}
use Rattle.form.specs.Parts.{encoded, decoded, map_byte, flags, packed, size, unpacked, same, chosen}

-- ---- numbers of 32 bits
pub data Words : List ℕ → Type 0 where
  none : Words []
  more : {n : ℕ} {ns : List ℕ} → n < 2 ^ 32 → Words ns → Words (n ∷ ns)

pub encoded-length : (ns : List ℕ) → length (encoded ns) ≡ 4 * length ns
unfolding encoded
encoded-length [] = refl
encoded-length (n ∷ ns) =
    omega (arith, length-append (bytes 4 n) (encoded ns), bytes-length 4 n, encoded-length ns)

pub encoded-bytes : (ns : List ℕ) → Bytes (encoded ns)
unfolding encoded
encoded-bytes [] i = omega arith
encoded-bytes (n ∷ ns) i = append-bytes (bytes 4 n) (encoded ns) (bytes-bytes 4 n) (encoded-bytes ns) i

pub decoded-length : (k : ℕ) (s : List ℕ) → length (decoded k s) ≡ k
unfolding decoded
decoded-length zero s = refl
decoded-length (suc k) s = ap suc (decoded-length k (drop 4 s))

pub decoded-words : (k : ℕ) (s : List ℕ) → Bytes s → Words (decoded k s)
unfolding decoded
decoded-words zero s b = none
decoded-words (suc k) s b = more (taken-under 4 s b) (decoded-words k (drop 4 s) (dropped-bytes 4 s b))

pub decoded-back : {ns : List ℕ} (rest : List ℕ) → Words ns → decoded (length ns) (encoded ns ++ rest) ≡ ns
unfolding encoded decoded
decoded-back rest none = refl
decoded-back rest (more {n} {ns} h w) =
    let b = bytes 4 n in
    let q = encoded ns ++ rest in
    let l = bytes-length 4 n in
    rw (append_assoc b (encoded ns) rest, take_at b q 4 l, drop_at b q 4 l, number_back 4 n h, decoded-back rest w)

pub encoded-back : (k : ℕ) (s : List ℕ) → Bytes s → 4 * k ≤ length s → encoded (decoded k s) ≡ take (4 * k) s
unfolding encoded decoded
encoded-back zero s b l = refl
encoded-back (suc k) s b l =
    let t = take 4 s in
    let e : 4 * suc k ≡ 4 + 4 * k = omega arith in
    let n : length t ≡ 4 = length-take-le 4 s (omega arith) in
    let i : bytes 4 (number t) ≡ t
    = ap (λ (j : ℕ). bytes j (number t)) (sym n) ∙ bytes_back t (taken-bytes 4 s b) in
    let r = encoded-back k (drop 4 s) (dropped-bytes 4 s b) (omega (arith, length-drop 4 s)) in
    rw (i, r, e, take-add 4 (4 * k) s)

-- ---- the bit map
low_bit : (b : Bool) (bs : List Bool) → eqb (map_byte (b ∷ bs) % 2) 1 ≡ b
unfolding map_byte
low_bit true bs = eq-eqb (map_byte (true ∷ bs) % 2) 1 (omega arith)
low_bit false bs = ne_eqb (map_byte (false ∷ bs) % 2) 1 (omega arith)

high_bits : (b : Bool) (bs : List Bool) → map_byte (b ∷ bs) / 2 ≡ map_byte bs
unfolding map_byte
high_bits true bs = omega arith
high_bits false bs = omega arith

pub flags-back : (bs : List Bool) → flags (length bs) (map_byte bs) ≡ bs
unfolding flags
flags-back [] = refl
flags-back (b ∷ bs) = rw (low_bit b bs, high_bits b bs, flags-back bs)

pub bit-value : (m : ℕ) → cond (eqb (m % 2) 1) 1 0 ≡ m % 2
bit-value m = go (eqb (m % 2) 1) refl
  where
    go : (b : Bool) → eqb (m % 2) 1 ≡ b → cond b 1 0 ≡ m % 2
    go true e = sym (eqb-true (m % 2) 1 e)
    go false e = let f = eqb-false (m % 2) 1 e in omega arith

pub map_back : (k m : ℕ) → m < 2 ^ k → map_byte (flags k m) ≡ m
unfolding flags map_byte
map_back zero m h = omega arith
map_back (suc k) m h =
    rw (map_back k (m / 2) (omega (arith, pow-succ' 2 k)), bit-value m) (omega arith)

pub flags-length : (k m : ℕ) → length (flags k m) ≡ k
unfolding flags
flags-length zero m = refl
flags-length (suc k) m = ap suc (flags-length k (m / 2))

pub map-under : (bs : List Bool) → map_byte bs < 2 ^ length bs
unfolding map_byte
map-under [] = omega arith
map-under (true ∷ bs) = omega (arith, map-under bs, pow-succ' 2 (length bs))
map-under (false ∷ bs) = omega (arith, map-under bs, pow-succ' 2 (length bs))

-- ---- parts that are as long as those of us, each number a word
pub data Shaped : List (List ℕ) → List (List ℕ) → Type 0 where
  none : Shaped [] []
  more : {p u : List ℕ} {ps us : List (List ℕ)} → length p ≡ length u → Words p → Shaped ps us
      → Shaped (p ∷ ps) (u ∷ us)

-- where the bit does not stand the part is that of us
pub data Absent : List Bool → List (List ℕ) → List (List ℕ) → Type 0 where
  none : Absent [] [] []
  here : {p u : List ℕ} {bs : List Bool} {ps us : List (List ℕ)} → Absent bs ps us
      → Absent (true ∷ bs) (p ∷ ps) (u ∷ us)
  gone : {u : List ℕ} {bs : List Bool} {ps us : List (List ℕ)} → Absent bs ps us
      → Absent (false ∷ bs) (u ∷ ps) (u ∷ us)

pub packed-length : (bs : List Bool) {ps us : List (List ℕ)} → Shaped ps us → length (packed bs ps) ≡ size bs us
unfolding packed size
packed-length [] h = refl
packed-length (b ∷ bs) none = refl
packed-length (true ∷ bs) (more {p} {u} {ps} {us} l w h) =
    omega (arith, length-append (encoded p) (packed bs ps), encoded-length p, packed-length bs h)
packed-length (false ∷ bs) (more l w h) = packed-length bs h

pub unpacked-back : {bs : List Bool} {ps us : List (List ℕ)} → Absent bs ps us → Shaped ps us
    → unpacked bs us (packed bs ps) ≡ ps
unfolding packed unpacked
unpacked-back none h = refl
unpacked-back (here {p} {u} {bs} {ps} a) (more l w h) =
    let d : length (encoded p) ≡ 4 * length u = omega (arith, encoded-length p) in
    let taken-up : decoded (length u) (encoded p ++ packed bs ps) ≡ p = rw (← l) (decoded-back (packed bs ps) w) in
    ap₂ ◌∷◌ taken-up (rw (drop_at (encoded p) (packed bs ps) (4 * length u) d) (unpacked-back a h))
unpacked-back (gone {u} a) (more l w h) = rw (unpacked-back a h)

-- ---- what storing leaves out
pub same-is : (p u : List ℕ) → same p u ≡ true → p ≡ u
same-is [] [] e = refl
same-is [] (b ∷ t) e = cc
same-is (a ∷ s) [] e = cc
same-is (a ∷ s) (b ∷ t) e = go (eqb a b) refl e (same-is s t)
  where
    go : (c : Bool) → eqb a b ≡ c → (c && same s t) ≡ true → (same s t ≡ true → s ≡ t) → a ∷ s ≡ b ∷ t
    go true i j f = ap₂ ◌∷◌ (eqb-true a b i) (f j)
    go false i j f = cc

pub is_same : (p : List ℕ) → same p p ≡ true
is_same [] = refl
is_same (a ∷ s) = rw (eq-eqb a a refl) (is_same s)

pub chosen-absent : {ps us : List (List ℕ)} → Shaped ps us → Absent (chosen ps us) ps us
unfolding chosen
chosen-absent none = none
chosen-absent (more {p} {u} {ps} {us} l w h) = go (same p u) refl (chosen-absent h)
  where
    go : (b : Bool) → same p u ≡ b → Absent (chosen ps us) ps us
        → Absent (not b ∷ chosen ps us) (p ∷ ps) (u ∷ us)
    go true e a = rw (same-is p u e) (gone a)
    go false e a = here a

pub absent-length : {bs : List Bool} {ps us : List (List ℕ)} → Absent bs ps us → length bs ≡ length us
absent-length none = refl
absent-length (here a) = ap suc (absent-length a)
absent-length (gone a) = ap suc (absent-length a)

-- ---- any bytes as long as the bit map says hold parts, of which they are the form
pub data Worded : List (List ℕ) → Type 0 where
  none : Worded []
  more : {p : List ℕ} {ps : List (List ℕ)} → Words p → Worded ps → Worded (p ∷ ps)

pub unpacked_shaped : (bs : List Bool) {us : List (List ℕ)} (s : List ℕ) → length bs ≡ length us → Worded us
    → Bytes s → Shaped (unpacked bs us s) us
unfolding unpacked
unpacked_shaped [] s l none b = none
unpacked_shaped [] s l (more w ws) b = absurd (omega arith)
unpacked_shaped (c ∷ bs) s l none b = absurd (omega arith)
unpacked_shaped (true ∷ bs) s l (more {p = u} w ws) b =
    more (decoded-length (length u) s) (decoded-words (length u) s b)
    (unpacked_shaped bs (drop (4 * length u) s) (omega arith) ws (dropped-bytes (4 * length u) s b))
unpacked_shaped (false ∷ bs) s l (more w ws) b = more refl w (unpacked_shaped bs s (omega arith) ws b)

pub unpacked-absent : (bs : List Bool) (us : List (List ℕ)) (s : List ℕ) → length bs ≡ length us
    → Absent bs (unpacked bs us s) us
unfolding unpacked
unpacked-absent [] [] s l = none
unpacked-absent [] (u ∷ us) s l = absurd (omega arith)
unpacked-absent (b ∷ bs) [] s l = absurd (omega arith)
unpacked-absent (true ∷ bs) (u ∷ us) s l = here (unpacked-absent bs us (drop (4 * length u) s) (omega arith))
unpacked-absent (false ∷ bs) (u ∷ us) s l = gone (unpacked-absent bs us s (omega arith))

nothing : (s : List ℕ) → length s ≡ 0 → [] ≡ s
nothing [] e = refl
nothing (a ∷ s) e = absurd (omega arith)

pub packed-back : (bs : List Bool) (us : List (List ℕ)) (s : List ℕ) → length bs ≡ length us → Bytes s
    → length s ≡ size bs us → packed bs (unpacked bs us s) ≡ s
unfolding packed unpacked size
packed-back [] us s l b e = nothing s e
packed-back (c ∷ bs) [] s l b e = nothing s e
packed-back (true ∷ bs) (u ∷ us) s l b e =
    let n = 4 * length u in
    rw (
      encoded-back (length u) s b (omega arith),
      packed-back bs us (drop n s) (omega arith) (dropped-bytes n s b) (omega (arith, length-drop n s)),
    ) (take-append-drop n s)
packed-back (false ∷ bs) (u ∷ us) s l b e = packed-back bs us s (omega arith) b e

-- ---- the form's bytes and length
pub packed-bytes : (bs : List Bool) (ps : List (List ℕ)) → Bytes (packed bs ps)
unfolding packed
packed-bytes [] ps i = omega arith
packed-bytes (b ∷ bs) [] i = omega arith
packed-bytes (true ∷ bs) (p ∷ ps) i =
    append-bytes (encoded p) (packed bs ps) (encoded-bytes p) (packed-bytes bs ps) i
packed-bytes (false ∷ bs) (p ∷ ps) i = packed-bytes bs ps i

pub form-bytes : (bs : List Bool) (ps : List (List ℕ)) → length bs ≡ 8 → Bytes (map_byte bs ∷ packed bs ps)
form-bytes bs ps e zero =
    let m : map_byte bs < 2 ^ 8 = rw e at (map-under bs) in
    omega arith
form-bytes bs ps e (suc i) = packed-bytes bs ps i

abbrev pub total : List (List ℕ) → ℕ
total [] = 0
total (u ∷ us) = 4 * length u + total us

pub size-most : (bs : List Bool) (us : List (List ℕ)) → size bs us ≤ total us
unfolding size
size-most [] us = omega arith
size-most (b ∷ bs) [] = omega arith
size-most (true ∷ bs) (u ∷ us) = omega (arith, size-most bs us)
size-most (false ∷ bs) (u ∷ us) = omega (arith, size-most bs us)

-- ---- nothing is stored where every part is that of us
pub chosen_self : (us : List (List ℕ)) → map_byte (chosen us us) ≡ 0
unfolding chosen map_byte
chosen_self [] = refl
chosen_self (u ∷ us) = rw (is_same u) (omega (arith, chosen_self us))

pub packed_self : (us : List (List ℕ)) → packed (chosen us us) us ≡ []
unfolding chosen packed
packed_self [] = refl
packed_self (u ∷ us) = rw (is_same u) (packed_self us)

-- ---- single numbers of parts
pub shaped_worded : {ps us : List (List ℕ)} → Shaped ps us → Worded ps
shaped_worded none = none
shaped_worded (more l w h) = more w (shaped_worded h)

pub shaped_length : {ps us : List (List ℕ)} → Shaped ps us → (j : ℕ) → length (get_or ps j []) ≡ length (get_or us j [])
shaped_length none j = refl
shaped_length (more l w h) zero = l
shaped_length (more l w h) (suc j) = shaped_length h j

word_at : {ns : List ℕ} → Words ns → (k : ℕ) → get_or ns k 0 < 2 ^ 32
word_at none k = omega arith
word_at (more h w) zero = h
word_at (more h w) (suc k) = word_at w k

pub shaped_at : {ps us : List (List ℕ)} → Shaped ps us → (j k : ℕ) → get_or (get_or ps j []) k 0 < 2 ^ 32
shaped_at none j k = omega arith
shaped_at (more l w h) zero k = word_at w k
shaped_at (more l w h) (suc j) k = shaped_at h j k

-- a bit map that leaves out no part that differs
pub absent-from : (bs : List Bool) {ps us : List (List ℕ)} → Shaped ps us → length bs ≡ length us
    → ((j : ℕ) → get_or bs j true ≡ false → get_or ps j [] ≡ get_or us j []) → Absent bs ps us
absent-from [] none l f = none
absent-from [] (more e w h) l f = absurd (omega arith)
absent-from (b ∷ bs) none l f = absurd (omega arith)
absent-from (true ∷ bs) (more e w h) l f =
    here (absent-from bs h (omega arith) (λ (j : ℕ). f (suc j)))
absent-from (false ∷ bs) (more e w h) l f =
    rw (f 0 refl) (gone (absent-from bs h (omega arith) (λ (j : ℕ). f (suc j))))
