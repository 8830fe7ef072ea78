-- `text::read_number` meets its contract: the digits left, after the number n, spell the word's number.
use Rattle.std.proofs.Common.{◌≡◌, ◌<◌, ◌^◌, drop}
use Rattle.text.specs.Numbers.{digits, decimal}
use Rattle.text.proofs.read_number.Given as goal

abbrev pub invariant-loop-b : goal.invariant-loop-b
invariant-loop-b l = record {
  below : l.n < 2 ^ 32;
  digits : digits (drop l.b-index l.word) ≡ digits l.word;
  decimal : decimal l.n (drop l.b-index l.word) ≡ decimal 0 l.word;
}
