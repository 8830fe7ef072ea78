-- specs/Theorems.antt: what is put into bytes comes back, and what is read goes back into the same bytes.
-- Assumes nothing.
use mathlib.Core.Path.{◌≡◌, refl, sym, ap, ◌∙◌}
use mathlib.Core.Bool.{Bool, true, false, cond}
use mathlib.Core.List.{List, [], ◌∷◌, ◌++◌, append_assoc}
use Prim.Native.Nat.{ℕ, zero, suc, ◌+◌, ◌-◌, ◌*◌, ◌/◌, ◌%◌, ◌^◌, ◌≤◌, ◌<◌}
use native.Mathlib.Nat.{mul-suc, mod-eq_of_lt}
use native.Mathlib.Omega.{arith}
use lib.Dec.{ltb}
use lib.Pow.{pow_pos}
use lib.IntN.{ℤ, pos, negsuc}
use lib.ListN.{length, take, drop, length-drop}
use lib.Seq.{take_at, drop_at, take-add, length-take-le}
use borrow.Author.Tests.{lt-ltb, le-ltb, ltb-true, ltb-false}
use Rattle.integer.proofs.View.{Zs, negv}
use Rattle.octets.specs.Octets.{number, bytes, bits, signed, half, stored, loaded}
use Rattle.octets.specs.Theorems.{Bytes, Fits, AllFit, none, more, RoundTrips}
use Rattle.octets.proofs.Laws.{taken-bytes, dropped-bytes, twice, number-bytes, bytes-length}
use Rattle.octets.proofs.Laws.{taken-under}

-- ---- a number without a sign
pub number_back : (w n : ℕ) → n < 2 ^ (8 * w) → number (bytes w n) ≡ n
number_back w n h = number-bytes w n ∙ mod-eq_of_lt h

pub bytes_back : (bs : List ℕ) → Bytes bs → bytes (length bs) (number bs) ≡ bs
unfolding number bytes
bytes_back [] h = refl
bytes_back (b ∷ bs) h =
    let low : (b + 256 * number bs) % 256 ≡ b = omega (arith, h 0) in
    let high : (b + 256 * number bs) / 256 ≡ number bs = omega (arith, h 0) in
    rw (low, high, bytes_back bs (λ (i : ℕ). h (suc i)))

-- ---- a number with a sign
pub half-above : (w : ℕ) → 0 < half w
half-above w = pow_pos (8 * w - 1)

module _ (w : ℕ) (h : 1 ≤ w) where
  pub signed_back : (z : ℤ) → Fits w z → signed (half w) (bits w z) ≡ z
  signed_back (pos n) f = rw (lt-ltb n (half w) (omega (Zs, f.most)))
  signed_back (negsuc n) f =
      let l : suc n ≤ half w = omega (Zs, f.least, negv (pos (half w))) in
      let e : bits w (negsuc n) ≡ 2 * half w - suc n = ap (λ (k : ℕ). k - suc n) (twice w h) in
      let i : 2 * half w - suc (2 * half w - suc n) ≡ n = omega arith in
      rw (e, le-ltb (2 * half w - suc n) (half w) (omega arith), i)

  pub bits_back : (n : ℕ) → n < 2 ^ (8 * w) → bits w (signed (half w) n) ≡ n
  bits_back n l = go (ltb n (half w)) refl
    where
      go : (b : Bool) → ltb n (half w) ≡ b → bits w (cond b (pos n) (negsuc (2 * half w - suc n))) ≡ n
      go true e = refl
      go false e = omega (arith, twice w h)

  pub signed_fits : (n : ℕ) → n < 2 ^ (8 * w) → Fits w (signed (half w) n)
  signed_fits n l = go (ltb n (half w)) refl
    where
      go : (b : Bool) → ltb n (half w) ≡ b → Fits w (cond b (pos n) (negsuc (2 * half w - suc n)))
      go true e = record {
        least = omega (Zs, negv (pos (half w)));
        most = omega (Zs, ltb-true n (half w) e);
      }
      go false e = record {
        least = omega (Zs, negv (pos (half w)), ltb-false n (half w) e, twice w h);
        most = omega (Zs, half-above w);
      }

  bits-under : (z : ℤ) → Fits w z → bits w z < 2 ^ (8 * w)
  bits-under (pos n) f = omega (Zs, f.most, twice w h)
  bits-under (negsuc n) f = omega (arith, twice w h, half-above w)

  -- ---- lists
  pub loaded_back : {xs : List ℤ} (rest : List ℕ) → AllFit w xs
      → loaded w (length xs) (stored w xs ++ rest) ≡ xs
  unfolding stored loaded
  loaded_back rest none = refl
  loaded_back rest (more {x} {xs} f fs) =
      let b = bytes w (bits w x) in
      let q = stored w xs ++ rest in
      let n = bytes-length w (bits w x) in
      rw (
        append_assoc b (stored w xs) rest,
        take_at b q w n,
        drop_at b q w n,
        number_back w (bits w x) (bits-under x f),
        signed_back x f,
        loaded_back rest fs,
      )

  pub stored_back : (n : ℕ) (bs : List ℕ) → Bytes bs → w * n ≤ length bs
      → stored w (loaded w n bs) ≡ take (w * n) bs
  unfolding stored loaded
  stored_back zero bs b l = let e : w * 0 ≡ 0 = omega arith in rw e
  stored_back (suc n) bs b l =
      let t = take w bs in
      let e : w * suc n ≡ w + w * n = omega (arith, mul-suc w n) in
      let s : length t ≡ w = length-take-le w bs (omega arith) in
      let i : bytes w (number t) ≡ t
      = ap (λ (k : ℕ). bytes k (number t)) (sym s) ∙ bytes_back t (taken-bytes w bs b) in
      let r = stored_back n (drop w bs) (dropped-bytes w bs b) (omega (arith, length-drop w bs)) in
      rw (bits_back (number t) (taken-under w bs b), i, r, e, take-add w (w * n) bs)

  pub all_fit : (n : ℕ) (bs : List ℕ) → Bytes bs → AllFit w (loaded w n bs)
  unfolding loaded
  all_fit zero bs b = none
  all_fit (suc n) bs b =
      more (signed_fits (number (take w bs)) (taken-under w bs b))
      (all_fit n (drop w bs) (dropped-bytes w bs b))

pub round_trips : RoundTrips
round_trips w h = record {
  number_back = number_back w;
  bytes_back = λ bs b e. ap (λ (k : ℕ). bytes k (number bs)) (sym e) ∙ bytes_back bs b;
  signed_back = signed_back w h;
  bits_back = bits_back w h;
  signed_fits = signed_fits w h;
  loaded_back = λ xs rest f. loaded_back w h rest f;
  stored_back = stored_back w h;
  all_fit = all_fit w h;
}
