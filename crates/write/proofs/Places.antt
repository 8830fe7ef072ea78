-- The place after a text that is put into a buffer: it stays within what the place before it and the buffer's
-- length are within, and it stays as it is past the end.
use mathlib.Core.Path.{◌≡◌, refl, ap, ◌∙◌}
use mathlib.Core.Bool.{Bool, true, false}
use mathlib.Core.List.{List}
use Prim.Native.Nat.{ℕ, zero, suc, ◌+◌, ◌-◌, ◌^◌, ◌≤◌, ◌<◌}
use native.Mathlib.Omega.{arith}
use native.Mathlib.Nat.{le_refl}
use native.Mathlib.Decide.{dec_lt}
use borrow.Author.Tests.{leb-false}
use lib.Dec.{leb, leb→le}
use lib.IntN.{ℤ, pos, negsuc}
use lib.ListN.{length}
use lib.Seq.{length-paste}
use mir.Facts.{Fits-nat_abs}
use mir.Syntax.{w64}
use mir.Val.{SFits}
use Rattle.io.specs.Digits.{IsDigitCount}
use Rattle.write.specs.Written.{Wrote, Spelled, Signed}

module _ {t before after : List ℕ} {at r : ℕ} (w : Wrote t before at after r) where
  by_cases : (b : Bool) → leb (at + length t) (length before) ≡ b
      → (length after ≡ length before) × ((m : ℕ) → at ≤ m → length before ≤ m → r ≤ m)
  by_cases true e =
      let f : at + length t ≤ length before = leb→le (at + length t) (length before) (rw e tt) in
      let p = w.fits f in (
        ap length p.1 ∙ length-paste before at t (length t) f (le_refl (length t)),
        λ m h k. omega (arith, p.0),
      )
  by_cases false e =
      let p = w.full (leb-false (at + length t) (length before) e) in
      (ap length p.1, λ m h k. omega (arith, p.0))

  pub wrote-long : length after ≡ length before
  wrote-long = (by_cases (leb (at + length t) (length before)) refl).0

  pub wrote-within : (m : ℕ) → at ≤ m → length before ≤ m → r ≤ m
  wrote-within = (by_cases (leb (at + length t) (length before)) refl).1

-- past the end nothing is put
pub wrote_past : (t before : List ℕ) (at : ℕ) → length before < at → Wrote t before at before at
wrote_past t before at past = record { fits = λ h. absurd (omega arith); full = λ h. (refl, refl) }

-- ---- numbers
pub spelled_within : {n at r : ℕ} {before after : List ℕ} (m : ℕ) → Spelled n before at after r
    → at ≤ m → length before ≤ m → r ≤ m
spelled_within m s h k = wrote-within s.wrote m h k

pub signed-within : (x : ℤ) {at r : ℕ} (before after : List ℕ) (m : ℕ) → Signed x before at after r
    → at ≤ m → length before ≤ m → r ≤ m
signed-within (pos n) before after m s h k = spelled_within m s h k
signed-within (negsuc n) before after m s h k =
    spelled_within m s.number (wrote-within s.sign m h k) (omega (arith, wrote-long s.sign))

-- how many digits a number has
record Digits (n most : ℕ) : Type 0 where
  places : ℕ
  fewest : IsDigitCount 10 1 n places
  few : places ≤ most

digits : (j n : ℕ) → n < 10 ^ (suc j) → Digits n (suc j)
digits zero n h = record { places = 1; fewest = (omega arith, h, λ g. absurd (omega arith)); few = omega arith }
digits (suc j) n h = go (dec_lt n (10 ^ (suc j))) (digits j n)
  where
    go : Dec (n < 10 ^ (suc j)) → (n < 10 ^ (suc j) → Digits n (suc j)) → Digits n (suc (suc j))
    go (yes g) shorter =
        let d = shorter g in
        record { places = d.places; fewest = d.fewest; few = omega (arith, d.few) }
    go (no g) shorter =
        let e : suc (suc j) - 1 ≡ suc j = omega arith in
        record {
          places = suc (suc j);
          fewest = (omega arith, h, λ k. rw e (omega (arith, g)));
          few = le_refl (suc (suc j));
        }

-- past the end none is put
pub spelled_past : (n : ℕ) (before : List ℕ) (at : ℕ) → n < 2 ^ 64 → length before < at
    → Spelled n before at before at
spelled_past n before at small past =
    let d = digits 19 n (omega (arith, small)) in
    record { places = d.places; fewest = d.fewest; most = d.few; wrote = wrote_past _ before at past }

pub signed_past : (x : ℤ) (before : List ℕ) (at : ℕ) → SFits w64 x → length before < at
    → Signed x before at before at
signed_past (pos n) before at f past = spelled_past n before at (Fits-nat_abs {w' = w64} tt f).fits past
signed_past (negsuc n) before at f past = record {
  between = before;
  start = at;
  sign = wrote_past _ before at past;
  number = spelled_past (suc n) before at (Fits-nat_abs {w' = w64} tt f).fits past;
}
