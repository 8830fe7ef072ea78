-- The number of each refusal, as documents 01 and 02 have it; 0 for success. 31 is `perform`'s own, words that are no
-- list, and 32 `least`'s, no advance that is enough. Definitions alone. Assumes nothing.
use Rattle.std.specs.Prelude.{ℕ, Result, Ok, Err}
use Rattle.refusal.specs.declared.Refusal.{Refusal}
use Rattle.refusal.specs.declared.Refusal.TheVariants.{
  Order,
  Length,
  Delay,
  Loss,
  Advance,
  ChangeWaits,
  Amplitude,
  Count,
  BlockLengths,
  Sample,
  Rate,
  Note,
  NoteLength,
  CutShort,
  BitMap,
  OutputFull,
  RecordingRate,
  Room,
  FileForm,
  TooEarly,
  NothingAsked,
  StoredLength,
  StoredPart,
  NoString,
  Area,
  NotFinite,
  FloatRange,
  Headers,
  Alone,
  Merge,
  ListForm,
  NoAdvance,
}

abbrev pub number_of : Refusal → ℕ
number_of Order = 1
number_of Length = 2
number_of Delay = 3
number_of Loss = 4
number_of Advance = 5
number_of ChangeWaits = 6
number_of Amplitude = 7
number_of Count = 8
number_of BlockLengths = 9
number_of Sample = 10
number_of Rate = 11
number_of Note = 12
number_of NoteLength = 13
number_of CutShort = 14
number_of BitMap = 15
number_of OutputFull = 16
number_of RecordingRate = 17
number_of Room = 18
number_of FileForm = 19
number_of TooEarly = 20
number_of NothingAsked = 21
number_of StoredLength = 22
number_of StoredPart = 23
number_of NoString = 24
number_of Area = 25
number_of NotFinite = 26
number_of FloatRange = 27
number_of Headers = 28
number_of Alone = 29
number_of Merge = 30
number_of ListForm = 31
number_of NoAdvance = 32

-- what a call returns by number
abbrev pub code_of : {A : Type 0} → Result A Refusal → ℕ
code_of (Ok x) = 0
code_of (Err r) = number_of r

-- what a call gives beside its number, a count or a length: 0 where it is refused
abbrev pub beside : Result ℕ Refusal → ℕ
beside (Ok n) = n
beside (Err r) = 0
