-- The number of each kind of line: its place among the table's rows, from 1 on; 0 for a line with no word.
-- Definitions alone.
use Rattle.std.specs.Prelude.{ℕ}
use Rattle.request.specs.declared.kinds.Kind.{Kind}
use Rattle.request.specs.declared.kinds.Kind.TheVariants.{
  Empty,
  Open,
  Loss,
  Pluck,
  Announce,
  Instant,
  Ask,
  Commit,
  Withdraw,
  Block,
  Coefficients,
  Length,
  Note,
  Draw,
  Record,
  Run,
  State,
  Line,
  WavWrite,
  WavRead,
  Gather,
  Least,
  Junction,
  Move,
  Tube,
  Store,
  Load,
  Panel,
  Merge,
  String,
  Mix,
  Help,
  Error,
  Long,
}

abbrev pub number_of : Kind → ℕ
number_of Empty = 0
number_of Open = 1
number_of Loss = 2
number_of Pluck = 3
number_of Announce = 4
number_of Instant = 5
number_of Ask = 6
number_of Commit = 7
number_of Withdraw = 8
number_of Block = 9
number_of Coefficients = 10
number_of Length = 11
number_of Note = 12
number_of Draw = 13
number_of Record = 14
number_of Run = 15
number_of State = 16
number_of Line = 17
number_of WavWrite = 18
number_of WavRead = 19
number_of Gather = 20
number_of Least = 21
number_of Junction = 22
number_of Move = 23
number_of Tube = 24
number_of Store = 25
number_of Load = 26
number_of Panel = 27
number_of Merge = 28
number_of String = 29
number_of Mix = 30
number_of Help = 31
number_of Error = 32
number_of Long = 33
