-- A refusal's number is above 0: so what is refused is told from what is not.
-- Assumes nothing.
use mathlib.Core.Path.{◌≡◌, sym, ◌∙◌}
use mathlib.Core.Bool.{true, false, true≢false}
use Prim.Native.Nat.{ℕ, ◌<◌}
use native.Mathlib.Omega.{arith}
use Rattle.std.specs.Prelude.{Result, Ok, Err, is_ok, is_err}
use Rattle.refusal.specs.declared.Refusal.{Refusal}
use Rattle.refusal.specs.declared.Refusal.TheVariants.{
  Order,
  Length,
  Delay,
  Loss,
  Advance,
  ChangeWaits,
  Amplitude,
  Count,
  BlockLengths,
  Sample,
  Rate,
  Note,
  NoteLength,
  CutShort,
  BitMap,
  OutputFull,
  RecordingRate,
  Room,
  FileForm,
  TooEarly,
  NothingAsked,
  StoredLength,
  StoredPart,
  NoString,
  Area,
  NotFinite,
  FloatRange,
  Headers,
  Alone,
  Merge,
  ListForm,
  NoAdvance,
}
use Rattle.refusal.specs.Numbers.{number_of, code_of}

pub above-0 : (r : Refusal) → 0 < number_of r
above-0 Order = omega arith
above-0 Length = omega arith
above-0 Delay = omega arith
above-0 Loss = omega arith
above-0 Advance = omega arith
above-0 ChangeWaits = omega arith
above-0 Amplitude = omega arith
above-0 Count = omega arith
above-0 BlockLengths = omega arith
above-0 Sample = omega arith
above-0 Rate = omega arith
above-0 Note = omega arith
above-0 NoteLength = omega arith
above-0 CutShort = omega arith
above-0 BitMap = omega arith
above-0 OutputFull = omega arith
above-0 RecordingRate = omega arith
above-0 Room = omega arith
above-0 FileForm = omega arith
above-0 TooEarly = omega arith
above-0 NothingAsked = omega arith
above-0 StoredLength = omega arith
above-0 StoredPart = omega arith
above-0 NoString = omega arith
above-0 Area = omega arith
above-0 NotFinite = omega arith
above-0 FloatRange = omega arith
above-0 Headers = omega arith
above-0 Alone = omega arith
above-0 Merge = omega arith
above-0 ListForm = omega arith
above-0 NoAdvance = omega arith

pub refused-above : (r : Refusal) → number_of r ≡ 0 → ⊥
refused-above r e = omega (arith, above-0 r)

-- ---- a Result, by whether it is Ok
pub ok-code : {A : Type 0} (x : Result A Refusal) {n : ℕ} → code_of x ≡ n → is_ok x ≡ true → 0 ≡ n
ok-code (Ok y) e i = e
ok-code (Err r) e i = absurd (true≢false (sym i))

pub err-code : {A : Type 0} (x : Result A Refusal) {n : ℕ} → code_of x ≡ n → is_ok x ≡ false → n ≡ 0 → ⊥
err-code (Ok y) e i z = true≢false i
err-code (Err r) e i z = refused-above r (e ∙ z)

-- the same by whether it is Err
pub not-err-code : {A : Type 0} (x : Result A Refusal) {n : ℕ} → code_of x ≡ n → is_err x ≡ false → 0 ≡ n
not-err-code (Ok y) e i = e
not-err-code (Err r) e i = absurd (true≢false i)

pub is_err-code : {A : Type 0} (x : Result A Refusal) {n : ℕ} → code_of x ≡ n → is_err x ≡ true → n ≡ 0 → ⊥
is_err-code (Ok y) e i z = true≢false (sym i)
is_err-code (Err r) e i z = refused-above r (e ∙ z)
